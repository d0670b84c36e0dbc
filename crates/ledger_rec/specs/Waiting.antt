-- The files that wait for an address: to be sent, by flavour and then by number, or for their action (own).
use Rattle.std.specs.Prelude.{◌≡◌, ◌&&◌, ◌==◌, ℕ, Bool, List, [], ◌∷◌, ◌++◌, map, Some}
use Rattle.std.specs.List.{list_any}
use Rattle.ftn_addr.specs.Address.{Address, same_address}
use Rattle.file_index.specs.Turns.{Turns, same_turn}
use Rattle.file_index.specs.declared.turns.Turn.{Turn}
use Rattle.file_index.specs.declared.turns.TurnIndex.{TurnIndex}
use Rattle.ledger_rec.specs.Acting.{acting_turn, has_action}
use Rattle.ledger_rec.specs.Fold.{acted_on, changed, settled}
use Rattle.ledger_rec.specs.Items.{Entry}
use Rattle.ledger_rec.specs.Order.{AreDifferent}
use Rattle.ledger_rec.specs.Record as R
use Rattle.ledger_rec.specs.Record.{RecordText}
use Rattle.ledger_rec.specs.declared.waiting.Need.{Need}
use Rattle.ledger_rec.specs.declared.waiting.Need.TheVariants.{Sending, Action}
use Rattle.ledger_rec.specs.declared.waiting.Wait.{Wait}
use Rattle.ledger_rec.specs.declared.waiting.Wait.TheVariants.{Begins, Ends, Stays}

-- a file comes at its flavour and number
abbrev pub turn_of : Entry → Turn
turn_of e = record { rank = e.flavour; number = e.number }

-- a live file waits for its address at its turn
abbrev pub waits_at : Address → Turn → Entry → Bool
waits_at to t e = e.live && (same_address to e.dest && same_turn t (turn_of e))

abbrev pub is_waiting : List Entry → Address → Turn → Bool
is_waiting queue to t = list_any (waits_at to t) queue

-- The same of either need.

abbrev pub has_need : Need → Entry → Bool
has_need Sending e = e.live
has_need Action e = has_action e

abbrev pub turn_for : Need → Entry → Turn
turn_for Sending e = turn_of e
turn_for Action e = acting_turn e.number

abbrev pub needs_at : Need → Address → Turn → Entry → Bool
needs_at need to t e = has_need need e && (same_address to e.dest && same_turn t (turn_for need e))

abbrev pub is_needed : Need → List Entry → Address → Turn → Bool
is_needed need queue to t = list_any (needs_at need to t) queue

-- the file with that number, while it waits
abbrev pub needs : Need → ℕ → Entry → Bool
needs need number e = e.number == number && has_need need e

-- once it waits no more
abbrev pub met : Need → Entry → Entry
met Sending e = settled e
met Action e = acted_on e

-- what a record changes of the files that wait
abbrev pub wait_of : RecordText → Need → Wait
wait_of (R.Queue r) need = Begins
wait_of (R.Done number session) Sending = Ends number
wait_of (R.Done number session) Action = Stays
wait_of (R.Received r) need = Stays
wait_of (R.Refused r) need = Stays
wait_of (R.Mark r) need = Stays
wait_of (R.Taken take) need = Stays
wait_of (R.Acted number) Sending = Stays
wait_of (R.Acted number) Action = Ends number
wait_of (R.Answered receipt) need = Stays

-- a queue that became this one
pub record HasBegun (need : Need) (index : TurnIndex) (queue : List Entry) : Type 0 where
  pub old : List Entry
  pub file : Entry
  pub is : queue ≡ old ++ file ∷ []
  pub turns : Turns index (is_needed need old)

pub record HasEnded (need : Need) (number : ℕ) (index : TurnIndex) (queue : List Entry) : Type 0 where
  pub old : List Entry
  pub is : changed (needs need number) (met need) old ≡ Some queue
  pub different : AreDifferent (map (λ (e : Entry). e.number) old)
  pub turns : Turns index (is_needed need old)

-- the index has the files that waited before that change
abbrev pub WasIndexed : Need → Wait → TurnIndex → List Entry → Type 0
WasIndexed need Begins index queue = HasBegun need index queue
WasIndexed need (Ends number) index queue = HasEnded need number index queue
WasIndexed need Stays index queue = Turns index (is_needed need queue)
