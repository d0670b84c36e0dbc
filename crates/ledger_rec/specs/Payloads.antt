-- The records of a ledger's payloads, one after another, and the state that they leave (own).
use Rattle.std.specs.Prelude.{ℕ, List, [], ◌∷◌, Option, Some, None, Result, Ok, Err}
use Rattle.ftn_addr.specs.Address.{Address}
use Rattle.ledger_rec.specs.Fold.{State, nothing_folded, fold_step}
use Rattle.ledger_rec.specs.Reading.{record_at}
use Rattle.ledger_rec.specs.Record.{RecordText}
use Rattle.ledger_rec.specs.declared.fault.RecFault.{RecFault}

-- An address in a record has its canonical text, so that it takes nothing from another: this one serves.
abbrev pub nowhere : Address
nowhere = record { zone = 0; net = 0; node = 0; point = 0; domain = 97 ∷ [] }

-- the record that a payload spells, if it spells one
abbrev pub record_in : List ℕ → Result RecordText RecFault
record_in payload = record_at nowhere payload

abbrev pub step_by : State → Result RecordText RecFault → Option State
step_by s (Ok r) = fold_step s r
step_by s (Err e) = None

abbrev pub stepped : Option State → List ℕ → Option State
stepped None payload = None
stepped (Some s) payload = step_by s (record_in payload)

-- the state after these payloads, where each spells a record that keeps the rules
abbrev pub fold_from : Option State → List (List ℕ) → Option State
fold_from s [] = s
fold_from s (p ∷ ps) = fold_from (stepped s p) ps

-- the state that a whole ledger leaves
abbrev pub fold_of : List (List ℕ) → Option State
fold_of payloads = fold_from (Some nothing_folded) payloads
