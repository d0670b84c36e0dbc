-- What contracts see of a `ListStore`, and what it tells of that (own).
use Rattle.std.specs.Prelude.{◌≡◌, ℕ, ◌+◌, ◌-◌, ◌^◌, min, List, [], Some, None, length, Result, Ok, Err, Contains}
use Rattle.ftn_addr.specs.Counts.{next_count}
use Rattle.node_model.specs.declared.store.StoreFault.{StoreFault}
use Rattle.node_model.specs.declared.store.StoreFault.TheVariants.{Disk, Read, Full, NoMemory}
use Rattle.node_model.specs.Items.{Entry, Receipt, Refusal}
use Rattle.node_model.specs.Durable.{Durable}
use Rattle.node_model.specs.Node.{Logged}
use Rattle.node_model.specs.Calls.{Counts}
use Rattle.node_model.specs.Outside.{Gift}
use Rattle.node_model.specs.Stocks.{Stock, StagedOf, sizes}
use Rattle.node_model.specs.Stores.{Stored, StoreState, StoreStand, shelf_of}
use Rattle.mem_store.specs.Comings.{Coming, marks_of}
use Rattle.mem_store.specs.Orders.{told_parts}
use Rattle.mem_store.specs.Outsiders.{Placed, outside_of}

-- what is queued, received and refused; the open parts, the staged files, the takes and the records, in order; the files of
-- other programs, what was given away, and the receipt last given or held; the places reserved, the greatest numbers drawn,
-- the seat and the counts; how many calls were made, and those that are to fail
pub record ListState : Type 0 where
  pub queue : List Entry
  pub inbox : List Receipt
  pub refused : List Refusal
  pub parts : List Coming
  pub staged : List (StagedOf (List ℕ))
  pub recorded : List ℕ
  pub log : List Logged
  pub outside : List Placed
  pub gifts : List Gift
  pub last_given : ℕ
  pub reserved : ℕ
  pub last_staged : ℕ
  pub drawn : ℕ
  pub seat : ℕ
  pub counts : Counts
  pub calls : ℕ
  pub fails : List ℕ

-- a store that was just made
abbrev pub nothing_listed : ListState
nothing_listed =
    record { queue = []; inbox = []; refused = []; parts = []; staged = []; recorded = []; log = []; outside = []; gifts = []; last_given = 0; reserved = 0; last_staged = 0; drawn = 0; seat = 0; counts = record { faults = 0; fulls = 0; broken = None }; calls = 0; fails = [] }

-- one more; a count at its end stays there
abbrev pub one_more : ℕ → ℕ
one_more n = min (n + 1) (2 ^ 64 - 1)

-- a call was made
abbrev pub called : ListState → ListState
called s = record s { calls = one_more s.calls }

-- a read failed in a call
abbrev pub failed_in_call : ListState → ListState
failed_in_call s =
    record s { calls = one_more s.calls; counts = record s.counts { faults = one_more s.counts.faults } }

-- the disk failed in a call
abbrev pub broken_in_call : ListState → ListState
broken_in_call s =
    record s { calls = one_more s.calls; counts = record s.counts { faults = one_more s.counts.faults; broken = Some (one_more s.counts.faults) } }

-- A call answers Disk exactly where its number is one of those that are to fail, and changes nothing but the counts then.
abbrev pub FailsAsSet : {X : Type 0} → Result X StoreFault → ListState → ListState → Type 0
FailsAsSet (Ok x) old new = ¬ Contains old.fails (one_more old.calls)
FailsAsSet (Err Disk) old new = Contains old.fails (one_more old.calls) × (new ≡ broken_in_call old)
FailsAsSet (Err Read) old new = ¬ Contains old.fails (one_more old.calls)
FailsAsSet (Err Full) old new = ¬ Contains old.fails (one_more old.calls)
FailsAsSet (Err NoMemory) old new = ¬ Contains old.fails (one_more old.calls)

-- So does reading a source, which answers Read.
abbrev pub ReadFailsAsSet : {X : Type 0} → Result X StoreFault → ListState → ListState → Type 0
ReadFailsAsSet (Ok x) old new = ¬ Contains old.fails (one_more old.calls)
ReadFailsAsSet (Err Read) old new = Contains old.fails (one_more old.calls) × (new ≡ failed_in_call old)
ReadFailsAsSet (Err Disk) old new = ⊥
ReadFailsAsSet (Err Full) old new = ⊥
ReadFailsAsSet (Err NoMemory) old new = ⊥

-- a call found no place
abbrev pub found_full : ListState → ListState
found_full s = record s { counts = record s.counts { fulls = next_count s.counts.fulls } }

abbrev pub durable_of : ListState → Durable
durable_of s = record { queue = s.queue; inbox = s.inbox; refused = s.refused; marks = marks_of s.parts }

abbrev pub stock_of : ListState → Stock
stock_of s = record { state = durable_of s; parts = told_parts s.drawn s.parts; staged = s.staged }

-- no take stands by a name of its own
abbrev pub stored_of : ListState → Stored
stored_of s =
    record { stock = stock_of s; recorded = s.recorded; takes = λ name. None; outside = outside_of s.outside; gifts = s.gifts; log = s.log }

abbrev pub state_of : ListState → StoreState
state_of s =
    record { content = Some (stored_of s); stock = sizes (stock_of s); recorded = s.recorded; records = length s.log; reserved = s.reserved; staged = s.last_staged; drawn = s.drawn; seat = s.seat; appended = length s.log; last_given = s.last_given; counts = s.counts }

-- The records and the gifts are the moments, since each durable change makes at least one. A stop now leaves what the store
-- keeps.
abbrev pub moment_of : ListState → ℕ
moment_of s = length s.log + length s.gifts

abbrev pub stand_of : ListState → StoreStand
stand_of s =
    record { state = state_of s; moment = moment_of s; images = λ k d. (k ≡ moment_of s) × (d ≡ Some (shelf_of (stored_of s))) }
