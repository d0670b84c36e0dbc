-- What the calls of a source of lines do to its counts and, where it tells them, to its lines (own).
use Rattle.std.specs.Prelude.{◌≡◌, ◌⊎◌, ℕ, ◌<◌, false, List, [], ◌∷◌, ◌++◌, Option, Some, None, option_map, slice_get, slice_set}
use Rattle.ftn_addr.specs.Counts.{next_count}
use Rattle.binkp_link.specs.Lines.{LineState, LineBytes}
use Rattle.binkp_link.specs.declared.line_source.LineCounts.{LineCounts}
use Rattle.binkp_link.specs.declared.line_source.NextLine.{NextLine}
use Rattle.binkp_link.specs.declared.line_source.NextLine.TheVariants as N
use Rattle.binkp_link.specs.declared.line_source.Dialled.{Dialled}
use Rattle.binkp_link.specs.declared.line_source.Dialled.TheVariants as D

pub record Dialling : Type 0 where
  pub host : List ℕ
  pub port : ℕ

-- of the lines given, by place, what was to come on each then, and what it was when it was handed back, where it was;
-- the ports listened on and the hosts and ports dialled, in order
pub record LinesTold : Type 0 where
  pub coming : List (List ℕ)
  pub handed : List (Option LineState)
  pub ports : List ℕ
  pub dialled : List Dialling

pub record LinesState : Type 0 where
  pub counts : LineCounts
  pub told : Option LinesTold

-- a line on which no byte moved yet
abbrev pub UnusedBytes : Option LineBytes → Type 0
UnusedBytes None = Unit {0}
UnusedBytes (Some bytes) = (bytes.taken ≡ []) × (bytes.sent ≡ [])

pub record IsUnused (line : LineState) : Type 0 where
  pub calm : line.calm ≡ 0
  pub is_open : line.closed ≡ false
  pub bytes : UnusedBytes line.bytes

-- a line of these bytes was given, at the next place
abbrev pub gave : List ℕ → LinesTold → LinesTold
gave coming told = record told { coming = told.coming ++ coming ∷ []; handed = told.handed ++ None ∷ [] }

-- Whether a source tells its lines is changed by no call, and lines of one that does tell their bytes.
abbrev pub GaveTold : Option LineBytes → Option LinesTold → Option LinesTold → Type 0
GaveTold bytes None None = Unit {0}
GaveTold (Some bytes) (Some old) (Some new) = new ≡ gave bytes.coming old
GaveTold None (Some old) (Some new) = ⊥
GaveTold bytes None (Some new) = ⊥
GaveTold bytes (Some old) None = ⊥

-- an unused line was given
pub record Gave (line : LineState) (old new : LinesState) : Type 0 where
  pub unused : IsUnused line
  pub counts : new.counts ≡ record old.counts { given = next_count old.counts.given }
  pub told : GaveTold line.bytes old.told new.told

abbrev pub IsNext : {L : Type 0} → (L → LineState) → NextLine L → LinesState → LinesState → Type 0
IsNext state (N.Came line) old new = Gave (state line) old new
IsNext state N.Nothing old new = new ≡ record old { counts = record old.counts { nothings = next_count old.counts.nothings } }
IsNext state N.Stop old new = new ≡ record old { counts = record old.counts { stops = next_count old.counts.stops } }
IsNext state N.Failed old new = new ≡ record old { counts = record old.counts { faults = next_count old.counts.faults } }

-- a port was listened on
abbrev pub listening : ℕ → LinesState → LinesState
listening port lines = record lines { told = option_map (λ (told : LinesTold). record told { ports = told.ports ++ port ∷ [] }) lines.told }

-- a host and port was dialled
abbrev pub dialling : List ℕ → ℕ → LinesState → LinesState
dialling host port lines =
    record lines { told = option_map (λ (told : LinesTold). record told { dialled = told.dialled ++ record { host = host; port = port } ∷ [] }) lines.told }

abbrev pub missed : LinesState → LinesState
missed lines = record lines { counts = record lines.counts { misses = next_count lines.counts.misses } }

-- A dial that gave no line was one, unless no memory was left to note it.
abbrev pub IsDialled : {L : Type 0} → (L → LineState) → Dialled L → List ℕ → ℕ → LinesState → LinesState → Type 0
IsDialled state (D.Line line) host port old new = Gave (state line) (dialling host port old) new
IsDialled state D.Failed host port old new = (new ≡ missed (dialling host port old)) ⊎ (new ≡ missed old)

-- a line of that place is out: it was given, and it wasn't handed back
abbrev pub IsOutTold : ℕ → Option LinesTold → Type 0
IsOutTold place None = Unit {0}
IsOutTold place (Some told) = slice_get told.handed place ≡ Some None

pub record IsOut (place : ℕ) (lines : LinesState) : Type 0 where
  pub given : place < lines.counts.given
  pub told : IsOutTold place lines.told

-- the line of that place is handed back
abbrev pub handed_back : ℕ → LineState → LinesState → LinesState
handed_back place line lines =
    record lines { told = option_map (λ (told : LinesTold). record told { handed = slice_set told.handed place (Some line) }) lines.told }
