-- Each call of a store that a take-in makes is a row, made or refused, with what a stop leaves of it.
use Rattle.std.proofs.Common.{◌≡◌, ℕ, false, List, [], Option, Some, None, map, option_map, refl, sym, ◌∙◌, ap}
use Rattle.ftn_addr.specs.Address.{Address}
use Rattle.node_model.specs.declared.store.Staged.TheVariants.{Copied, Absent, Over}
use Rattle.node_model.specs.declared.store.StoreFault.TheVariants.{Disk, NoMemory}
use Rattle.node_model.specs.Items.{MarkOf}
use Rattle.node_model.specs.Calls.{Call, Answer, Queue_call, Act_call, Queued, Acted, Nothing, Refused, Full, No_memory, Logs, one}
use Rattle.node_model.specs.Calls as C
use Rattle.node_model.specs.Stocks.{NewEntry, part_in}
use Rattle.node_model.specs.Stores.{Shelf, Stored, StoreState, StoreStand, StoreAnswer, StoreCall, StoreDoes, StoreKept, StoreMade, StorePasses, Stage, Stage_copy, Queue_all, Read_part, Act_next, Staged_as, Copied_as, Came, Slots, Acted_on, Refuses, Before_it, Source_first, After_it, ActsFirst, BreaksStore, IsShelf, MayLose, PartsStay, TellsOn, shelf_of, source_stored}
use Rattle.hub_core.specs.Hubs.{HubState, Fitted}
use Rattle.hub_core.specs.HubCalls.{ShelfPasses}
use Rattle.hub_core.specs.Steps.{Broke, Leaves, Stays}
use Rattle.hub_core.proofs.Keeping.{leaves_as}
use Rattle.hub_core.proofs.Turning.{before_passes}
use Rattle.take_steps.specs.Steps.{IsMade, KeepsState, TakesIn}
use Rattle.outbound_desk.specs.TakenIn.{AreDrawn}
use Rattle.outbound_desk.proofs.OneRow.{IsIdle, IsPlain, OneRow, RowImages, RowMade, RowPasses, made_row, row_passes}
use Rattle.outbound_desk.proofs.QuietRows.{keeps_passes, still_change}
use Rattle.outbound_desk.proofs.QueuedFiles.{with_bytes}
use Rattle.outbound_desk.proofs.Refusals.{disk_row, memory_row}
use Rattle.outbound_desk.proofs.ActRows.{act_made, none_acted}
use Rattle.outbound_desk.proofs.QueueRows.{queue_made}
use Rattle.outbound_desk.proofs.StageRows.{stage_made, unchanged}

-- the node's call, with the bytes that the store keeps
abbrev pub call_of : Stored → StoreCall → Call
call_of a (Queue_all taken answered files) = Queue_call (map (with_bytes a.stock.staged) files) taken answered
call_of a (Act_next dest) = Act_call dest
call_of a call = Queue_call [] None None

abbrev pub answer_of : StoreAnswer → Answer
answer_of (Slots slots) = Queued slots
answer_of (Acted_on (Some number)) = Acted number
answer_of (Acted_on None) = Nothing
answer_of answer = Queued []

pub answer_made : (answer : StoreAnswer) → C.IsMade (answer_of answer)
answer_made (Slots slots) = tt
answer_made (Acted_on (Some number)) = tt
answer_made (Acted_on None) = tt
answer_made answer = tt

answer_plain : (answer : StoreAnswer) → IsPlain (answer_of answer)
answer_plain (Slots slots) = tt
answer_plain (Acted_on (Some number)) = tt
answer_plain (Acted_on None) = tt
answer_plain answer = tt

call_takes : (a : Stored) (call : StoreCall) → C.TakesIn (call_of a call)
call_takes a (Queue_all taken answered files) = tt
call_takes a (Act_next dest) = tt
call_takes a call = tt

module _ (h : HubState) (s : StoreState) (f : Fitted s h) (d : AreDrawn s) where
  stage_does : (bytes : List ℕ) (answer : StoreAnswer) (t : StoreState) → StoreDoes s (Stage bytes) answer t → RowMade h (Queue_call [] None None) (answer_of answer) s f.keeps t
  stage_does bytes (Staged_as number) t does = stage_made h f.keeps s t bytes number f.fits d does.0 does.1 does.2
  stage_does bytes answer t does = absurd does

  copy_does : (path : List ℕ) (answer : StoreAnswer) (t : StoreState) → StoreDoes s (Stage_copy path) answer t → RowMade h (Queue_call [] None None) (answer_of answer) s f.keeps t
  copy_does path (Copied_as (Copied number stat)) t does =
      stage_made h f.keeps s t does.2.0 number f.fits d does.0 does.1 does.2.2
  copy_does path (Copied_as Absent) t does = unchanged h f.keeps s t f.fits d does.2
  copy_does path (Copied_as Over) t does = unchanged h f.keeps s t f.fits d does.2
  copy_does path answer t does = absurd does

  queue_does : (taken answered : Option ℕ) (files : List NewEntry) (answer : StoreAnswer) (t : StoreState) → TakesIn (Queue_all taken answered files) s → StoreDoes s (Queue_all taken answered files) answer t → RowMade h (call_of f.keeps (Queue_all taken answered files)) (answer_of answer) s f.keeps t
  queue_does taken answered files (Slots slots) t takes does = queue_made h f.keeps s t taken answered files slots f.fits d takes does
  queue_does taken answered files answer t takes does = absurd does

  act_does : (dest : Address) (answer : StoreAnswer) (t : StoreState) → StoreDoes s (Act_next dest) answer t → RowMade h (Act_call dest) (answer_of answer) s f.keeps t
  act_does dest (Acted_on (Some number)) t does = act_made h f.keeps s t dest number f.fits d does
  act_does dest (Acted_on None) t does = none_acted h f.keeps s t dest f.fits d does
  act_does dest answer t does = absurd does

  read_does : (receipt at room : ℕ) (answer : StoreAnswer) (t : StoreState) → StoreDoes s (Read_part receipt at room) answer t → RowMade h (Queue_call [] None None) (answer_of answer) s f.keeps t
  read_does receipt at room (Came bytes) t does = unchanged h f.keeps s t f.fits d does.1
  read_does receipt at room answer t does = absurd does

  does_row : (call : StoreCall) (answer : StoreAnswer) (t : StoreState) → TakesIn call s → StoreDoes s call answer t → RowMade h (call_of f.keeps call) (answer_of answer) s f.keeps t
  does_row (Stage bytes) answer t takes does = stage_does bytes answer t does
  does_row (Stage_copy path) answer t takes does = copy_does path answer t does
  does_row (Queue_all taken answered files) answer t takes does = queue_does taken answered files answer t takes does
  does_row (Act_next dest) answer t takes does = act_does dest answer t does
  does_row (Read_part receipt at room) answer t takes does = read_does receipt at room answer t does
  does_row call answer t takes does = absurd takes

  -- A stop within the call.

  first_passes : (call : StoreCall) (x : Shelf) → TakesIn call s → ActsFirst s call x → ShelfPasses s.content s h s.seat (call_of f.keeps call) x
  first_passes (Act_next dest) x takes first = keeps_passes s.content s h s.seat (Act_call dest) x (go s.content first.3)
    where
      go : (c : Option Stored) → IsShelf (option_map (source_stored first.1.entry first.2) c) x → KeepsState c x
      go None is = is
      go (Some a) is = ap (λ (e : Shelf). e.state) is
  first_passes (Stage bytes) x takes first = absurd first
  first_passes (Stage_copy path) x takes first = absurd first
  first_passes (Queue_all taken answered files) x takes first = absurd first
  first_passes (Read_part receipt at room) x takes first = absurd first
  first_passes call x takes first = absurd takes

  pub call_passes : (call : StoreCall) (x : Shelf) → s.counts.broken ≡ None → TakesIn call s → StorePasses s call x → ShelfPasses s.content s h s.seat (call_of f.keeps call) x
  call_passes call x whole takes (Before_it is) = before_passes s.content s h s.seat (call_of f.keeps call) x is
  call_passes call x whole takes (Source_first first) = first_passes call x takes first
  call_passes call x whole takes (After_it answer t does is) =
      row_passes h (call_of f.keeps call) (answer_of answer) s f t x whole (does_row call answer t takes does) is

pub kept_leaves : (old : StoreStand) (call : StoreCall) (answer : StoreAnswer) (new : StoreStand) → StoreKept old call answer new → Leaves (StorePasses old.state call) old new
kept_leaves old call answer new kept = record { later = kept.later; before = kept.before; since = kept.since }

pub row_images : (h : HubState) (old : StoreStand) (o : IsIdle h old) (call : StoreCall) (answer : StoreAnswer) (new : StoreStand) → TakesIn call old.state → StoreKept old call answer new → RowImages h (call_of o.fitted.keeps call) old new
row_images h old o call answer new takes kept = record {
  leaves = leaves_as (StorePasses old.state call) (RowPasses h (call_of o.fitted.keeps call) old) old new (λ x p. call_passes h old.state o.fitted o.drawn call x o.whole takes p) (kept_leaves old call answer new kept);
  settled = kept.now;
}

-- Made.

made_does : (s : StoreState) (call : StoreCall) (answer : StoreAnswer) (t : StoreState) → IsMade answer → StoreMade s call answer t → StoreDoes s call answer t
made_does s call (Refuses fault) t is made = absurd is
made_does s call answer t is made = made

made_does_row : (h : HubState) (old : StoreStand) (o : IsIdle h old) (call : StoreCall) (answer : StoreAnswer) (new : StoreStand) → TakesIn call old.state → IsMade answer → StoreKept old call answer new → RowMade h (call_of o.fitted.keeps call) (answer_of answer) old.state o.fitted.keeps new.state
made_does_row h old o call answer new takes is kept =
    does_row h old.state o.fitted o.drawn call answer new.state takes (made_does old.state call answer new.state is kept.made)

pub made_call : (h : HubState) (old : StoreStand) (o : IsIdle h old) (call : StoreCall) (answer : StoreAnswer) (new : StoreStand) → TakesIn call old.state → IsMade answer → StoreKept old call answer new → OneRow h (call_of o.fitted.keeps call) (answer_of answer) old new
made_call h old o call answer new takes is kept =
    made_row h (call_of o.fitted.keeps call) (answer_of answer) old new o (call_takes o.fitted.keeps call) (answer_made answer) (answer_plain answer) (made_does_row h old o call answer new takes is kept) (row_images h old o call answer new takes kept)

pub made_counts : (h : HubState) (old : StoreStand) (o : IsIdle h old) (call : StoreCall) (answer : StoreAnswer) (new : StoreStand) → TakesIn call old.state → IsMade answer → StoreKept old call answer new → new.state.counts ≡ old.state.counts
made_counts h old o call answer new takes is kept = (made_does_row h old o call answer new takes is kept).counts

-- Refused for want of memory.

pub short_call : (h : HubState) (old : StoreStand) (o : IsIdle h old) (call : StoreCall) (new : StoreStand) → TakesIn call old.state → StoreKept old call (Refuses NoMemory) new → OneRow h (call_of o.fitted.keeps call) (Refused No_memory) old new
short_call h old o call new takes kept =
    let same : new.state ≡ old.state = kept.made.1 in
    let counts = ap (λ (u : StoreState). u.counts) same in
    let still = still_change old.state new.state (same ∙ (λ i. record old.state { counts = sym counts i })) in
    memory_row h (call_of o.fitted.keeps call) old new o (call_takes o.fitted.keeps call) still counts (row_images h old o call (Refuses NoMemory) new takes kept)

-- The disk failed.

breaks : (call : StoreCall) (s t : StoreState) → ((p : MarkOf ℕ) → MayLose call p ≡ false) → BreaksStore call s t → Broke (StorePasses s call) (λ p. false) s t
breaks call s t none b = record { rose = b.rose; counts = b.counts; content = go s.content t.content b.content; seat = b.seat }
  where
    go : (c e : Option Stored) → TellsOn (λ a z. StorePasses s call (shelf_of z) × Logs s.seat a.log z.log × PartsStay call s.stock a.stock z.stock) c e → TellsOn (λ a z. StorePasses s call (shelf_of z) × Logs s.seat a.log z.log × ((p : MarkOf ℕ) → Stays (λ x. false) s p → part_in p.number z.stock.parts ≡ part_in p.number a.stock.parts)) c e
    go None None on = tt
    go None (Some z) on = absurd on
    go (Some a) None on = absurd on
    go (Some a) (Some z) on = (on.0, on.1, λ p stays. on.2 p stays.0 (none p))

loses_none : (call : StoreCall) (s : StoreState) → TakesIn call s → (p : MarkOf ℕ) → MayLose call p ≡ false
loses_none (Stage bytes) s takes p = refl
loses_none (Stage_copy path) s takes p = refl
loses_none (Queue_all taken answered files) s takes p = refl
loses_none (Act_next dest) s takes p = refl
loses_none (Read_part receipt at room) s takes p = refl
loses_none call s takes p = absurd takes

pub broken_call : (h : HubState) (old : StoreStand) (o : IsIdle h old) (call : StoreCall) (new : StoreStand) → TakesIn call old.state → StoreKept old call (Refuses Disk) new → OneRow h (call_of o.fitted.keeps call) (Refused (C.Disk new.state.counts.faults)) old new
broken_call h old o call new takes kept =
    let broke = breaks call old.state new.state (loses_none call old.state takes) kept.made in
    disk_row (StorePasses old.state call) h (call_of o.fitted.keeps call) old new o (call_takes o.fitted.keeps call) broke (λ x p. call_passes h old.state o.fitted o.drawn call x o.whole takes p) (kept_leaves old call (Refuses Disk) new kept)
