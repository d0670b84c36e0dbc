-- A store that was just opened is whole, and so is one of which a call on takes, on marks or on a batch was answered.
use Rattle.std.proofs.Common.{◌≤◌, arith, ◌≡◌, ℕ, List, Option, None, Some, Result, Ok, refl, sym, subst, ap, ◌∙◌}
use Rattle.disk_model.specs.Changes.{Every}
use Rattle.disk_model.specs.Moments.{AtRest, Now}
use Rattle.disk_model.specs.World.{World}
use Rattle.mem_disk.specs.Holding.{shown}
use Rattle.mem_disk.specs.MemoryDisk.{mem_files, mem_images, mem_moment}
use Rattle.mem_disk.specs.declared.disk.MemDisk.{MemDisk}
use Rattle.node_model.specs.declared.store.StoreFault.{StoreFault}
use Rattle.node_model.specs.SendRows.{Slot}
use Rattle.node_model.specs.Stocks.{NewEntry}
use Rattle.node_model.specs.Stores.{Queue_all, Slots, StoreKept}
use Rattle.node_model.specs.StoreStates.{StoreStand, StoreState}
use Rattle.node_store.specs.Finding.{IsNewMemory}
use Rattle.node_store.specs.Names.{take_number}
use Rattle.node_store.specs.Opening.{IsReady}
use Rattle.node_store.specs.Stored.{Holding, Memory}
use Rattle.node_store.specs.Takes.{IsNext}
use Rattle.node_store.specs.Taking.{Around, DrawsTake, Takes}

-- a disk at rest may be opened, since each world is ready for itself
pub rests_ready : (disk : MemDisk) → ((w : World) → IsReady w w) → AtRest mem_files mem_moment mem_images disk → Every (Now mem_moment mem_images disk) (IsReady (shown disk.held))
rests_ready disk itself rest = λ c now. subst (IsReady (shown disk.held)) (sym (rest c (shown disk.held) now refl)) (itself (shown disk.held))

pub new_whole : (m : Memory) → IsNewMemory m → m.broken ≡ None
new_whole m is = ap (λ (x : Memory). x.broken) is.3

pub answered_whole : {T : Type 0} (does : T → Around → Around) (answer : T) (old new : StoreStand) → Takes does (Ok answer) old new → old.state.counts.broken ≡ None → new.state.counts.broken ≡ None
answered_whole does answer old new takes whole = ap (λ (s : StoreState). s.counts.broken) takes.made ∙ whole

pub queued_whole : (taken : Option ℕ) (files : List NewEntry) (slots : List Slot) (old new : StoreStand) → StoreKept old (Queue_all taken None files) (Slots slots) new → old.state.counts.broken ≡ None → new.state.counts.broken ≡ None
queued_whole taken files slots old new kept whole = ap (λ (s : StoreState). s.counts.broken) kept.made.2 ∙ whole

drawn_next : (own : List ℕ) (take : ℕ) (old new : Holding MemDisk) → take_number own ≡ Some take → DrawsTake (Ok take) old new → IsNext own new.takes
drawn_next own take old new named draws =
    subst (IsNext own) (sym (ap (λ (h : Holding MemDisk). h.takes) draws.1)) (record { drawn = refl; named = named ∙ ap Some draws.0 })

-- the name of a number that was drawn is the next
pub is_next : (own : List ℕ) (take : ℕ) (result : Result ℕ StoreFault) (old new : Holding MemDisk) → take_number own ≡ Some take → DrawsTake result old new → result ≡ Ok take → IsNext own new.takes
is_next own take result old new named draws is =
    drawn_next own take old new named (subst (λ (r : Result ℕ StoreFault). DrawsTake r old new) is draws)

drawn_one : (take : ℕ) (old new : Holding MemDisk) → DrawsTake (Ok take) old new → 1 ≤ take
drawn_one take old new draws = omega (arith, draws.0)

-- a number that was drawn is at least 1
pub is_one : (take : ℕ) (result : Result ℕ StoreFault) (old new : Holding MemDisk) → DrawsTake result old new → result ≡ Ok take → 1 ≤ take
is_one take result old new draws is = drawn_one take old new (subst (λ (r : Result ℕ StoreFault). DrawsTake r old new) is draws)
