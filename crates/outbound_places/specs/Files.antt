-- Paths of outbound files, and for whom they are (FTS-5005).
use Rattle.std.specs.Prelude.{◌≡◌, ℕ, List, [], Option, Some, None}
use Rattle.bso_outbound.specs.declared.kind.Kind.{Kind}
use Rattle.bso_outbound.specs.Names.{outbound_name}
use Rattle.bso_outbound.specs.Paths.{as_compared}
use Rattle.outbound_places.specs.Places.{IsPlace, address_at}
use Rattle.outbound_places.specs.declared.files.OutboundFile.{OutboundFile}
use Rattle.outbound_places.specs.declared.place.Place.{Place}

-- A path is the name of a file for a node or point, as paths are compared.
pub record IsFor (base : List ℕ) (default : ℕ) (path : List ℕ) (p : Place) : Type 0 where
  pub within : IsPlace p
  pub kind : Kind
  pub named : as_compared base path ≡ as_compared base (outbound_name (address_at [] p) kind base default)

-- the file of that path; none where it is for nobody
abbrev pub FileIn : (base : List ℕ) (default : ℕ) (path : List ℕ) → Option OutboundFile → Type 0
FileIn base default path (Some file) = (file.path.list ≡ path) × IsFor base default path file.place
FileIn base default path None = (p : Place) → IsFor base default path p → ⊥
