-- What becomes of the files of an outbound (own).
use Rattle.std.specs.Prelude.{◌≡◌, ◌⊎◌, ℕ, ◌<◌, List, [], ◌∷◌, ◌++◌, length, Option, Some, None}
use Rattle.ftn_addr.specs.declared.limits.TheConstants.{MAX_SIZE}
use Rattle.bso_outbound.specs.declared.kind.Kind.{Kind}
use Rattle.bso_outbound.specs.declared.kind.Kind.TheVariants as K
use Rattle.node_model.specs.Outside.{OutFile}
use Rattle.outbound_model.specs.declared.fate.Fate.{Fate}
use Rattle.outbound_model.specs.Outbound.{Outbound}
use Rattle.outbound_take.specs.declared.words.FileEnd.{FileEnd}
use Rattle.outbound_take.specs.declared.words.FileEnd.TheVariants as E
use Rattle.outbound_take.specs.Ours.{took}

-- the most bytes of a flow file, and of a packet or a request
abbrev pub limit_of : Kind → ℕ
limit_of (K.Flow flavour) = 1048576
limit_of kind = MAX_SIZE

-- Nothing more is to be taken in there: no file stands, or one over its limit, or one that an action cut.
abbrev pub HasDone : Kind → Option OutFile → Type 0
HasDone kind None = Unit {0}
HasDone kind (Some f) = (limit_of kind < length f.bytes) ⊎ (f.bytes ≡ [])

abbrev pub IsDone : List ℕ → Kind → Option Outbound → Type 0
IsDone path kind told = (s : Outbound) → told ≡ Some s → HasDone kind (s.outside path)

-- what was queued of it
abbrev pub end_took : FileEnd → List (Option Kind × List Fate)
end_took E.Stays = []
end_took (E.Took file) = took file ∷ []
end_took (E.Over number) = []

-- the takes that are over, with it
abbrev pub end_over : List ℕ → FileEnd → List ℕ
end_over over E.Stays = over
end_over over (E.Took file) = over
end_over over (E.Over number) = over ++ number ∷ []
