-- One step of a take-in is a row of the seat whose turn it is.
use Rattle.std.proofs.Common.{◌≡◌, ℕ, [], Option, Some, None, refl, sym, ◌∙◌, ap, subst}
use Rattle.ftn_addr.specs.Counts.{next_count}
use Rattle.node_model.specs.Calls.{Answer, AllMade, Call, Counts, Event, Fault, Full, No_memory, Disk, Queue_call, Queued, Refused, one}
use Rattle.node_model.specs.Calls as C
use Rattle.node_model.specs.Stores.{StoreCall, StoreKept, StoreState, StoreStand, Refuses}
use Rattle.std.proofs.Common.{List}
use Rattle.hub_core.specs.Anew.{LooksAnew}
use Rattle.hub_core.specs.Hubs.{HubState, Fitted}
use Rattle.take_steps.specs.Steps.{Failed, Made, Broke, Broke_quietly, Had_no_memory, Had_no_number, Quiet, Refused as Refused_call, Stayed, Stepped, StoreStep, TakesIn, fault_of}
use Rattle.take_steps.specs.declared.wanting.Wanting.{Wanting}
use Rattle.take_steps.specs.declared.wanting.Wanting.TheVariants.{Places, Memory}
use Rattle.outbound_desk.specs.TakenIn.{AreDrawn, EndsSo, TakenIn}
use Rattle.outbound_desk.proofs.FullCalls.{full_call, full_quietly}
use Rattle.outbound_desk.proofs.OneRow.{IsIdle, OneRow, row_taken}
use Rattle.outbound_desk.proofs.QuietRows.{quiet_change, quiet_images, quiet_row}
use Rattle.outbound_desk.proofs.Refusals.{broken_quietly, memory_row}
use Rattle.outbound_desk.proofs.StoreCalls.{answer_made, answer_of, call_of, broken_call, made_call, made_counts, short_call}

-- How one row ends.

pub ends_broken : (es : List Event) (b : Option ℕ) (count : ℕ) (now : Option Wanting) → b ≡ Some count → C.EndsRefused es (Disk count) → EndsSo es b now
ends_broken es b count now broken ends = subst (λ (c : Option ℕ). EndsSo es c now) (sym broken) ends

whole_on : (old new : Counts) → new ≡ old → old.broken ≡ None → new.broken ≡ None
whole_on old new same whole = ap (λ (c : Counts). c.broken) same ∙ whole

whole_full : (old new : Counts) → new ≡ record old { fulls = next_count old.fulls } → old.broken ≡ None → new.broken ≡ None
whole_full old new counts whole = ap (λ (c : Counts). c.broken) counts ∙ whole

row_whole : (h : HubState) (call : Call) (answer : Answer) (old new : StoreStand) (now : Option Wanting) → OneRow h call answer old new → new.state.counts.broken ≡ None → EndsSo (one call answer) None now → TakenIn h old.state.seat old new now
row_whole h call answer old new now row whole ends =
    row_taken h call answer old new now row (subst (λ (c : Option ℕ). EndsSo (one call answer) c now) (sym whole) ends)

row_broke : (h : HubState) (call : Call) (old new : StoreStand) (now : Option Wanting) → OneRow h call (Refused (Disk new.state.counts.faults)) old new → new.state.counts ≡ record old.state.counts { faults = new.state.counts.faults; broken = Some new.state.counts.faults } → TakenIn h old.state.seat old new now
row_broke h call old new now row counts =
    row_taken h call (Refused (Disk new.state.counts.faults)) old new now row (ends_broken (one call (Refused (Disk new.state.counts.faults))) new.state.counts.broken new.state.counts.faults now (ap (λ (c : Counts). c.broken) counts) refl)

-- a quiet call in which the disk failed, whatever was wanted before it
pub failed_taken : (h : HubState) (old new : StoreStand) (now : Option Wanting) → IsIdle h old → Quiet old new → Failed old.state.counts new.state.counts → TakenIn h old.state.seat old new now
failed_taken h old new now o quiet failed =
    row_broke h (Queue_call [] None None) old new now (broken_quietly h old new o quiet failed) failed.is

refused_taken : (h : HubState) (old : StoreStand) (o : IsIdle h old) (new : StoreStand) (call : StoreCall) (want : Wanting) → TakesIn call old.state → StoreKept old call (Refuses (fault_of want)) new → TakenIn h old.state.seat old new (Some want)
refused_taken h old o new call Places takes kept =
    let full = full_call h old o call new takes kept in
    let whole = whole_full old.state.counts new.state.counts (ap (λ (u : StoreState). u.counts) kept.made.1) o.whole in
    row_whole h full.call (Refused Full) old new (Some Places) full.row whole refl
refused_taken h old o new call Memory takes kept =
    let whole = whole_on old.state.counts new.state.counts (ap (λ (u : StoreState). u.counts) kept.made.1) o.whole in
    row_whole h (call_of o.fitted.keeps call) (Refused No_memory) old new (Some Memory) (short_call h old o call new takes kept) whole refl

step_taken : (h : HubState) (old new : StoreStand) (o : IsIdle h old) (now : Option Wanting) → StoreStep old new now → TakenIn h old.state.seat old new now
step_taken h old new o now (Made call answer takes made kept) =
    let whole = whole_on old.state.counts new.state.counts (made_counts h old o call answer new takes made kept) o.whole in
    row_whole h (call_of o.fitted.keeps call) (answer_of answer) old new None (made_call h old o call answer new takes made kept) whole (answer_made answer, tt)
step_taken h old new o now (Broke call takes kept) =
    row_broke h (call_of o.fitted.keeps call) old new None (broken_call h old o call new takes kept) kept.made.counts
step_taken h old new o now (Refused_call call want takes kept) = refused_taken h old o new call want takes kept
step_taken h old new o now (Stayed quiet counts) =
    row_whole h (Queue_call [] None None) (Queued []) old new None (quiet_row h old new o quiet counts) (whole_on old.state.counts new.state.counts counts o.whole) (tt, tt)
step_taken h old new o now (Broke_quietly quiet failed) = failed_taken h old new None o quiet failed
step_taken h old new o now (Had_no_memory quiet counts) =
    let row = memory_row h (Queue_call [] None None) old new o tt (quiet_change old.state new.state quiet.told quiet.same) counts (quiet_images h (Queue_call [] None None) old new quiet) in
    row_whole h (Queue_call [] None None) (Refused No_memory) old new (Some Memory) row (whole_on old.state.counts new.state.counts counts o.whole) refl
step_taken h old new o now (Had_no_number quiet counts) =
    let full = full_quietly h old new o quiet counts in
    row_whole h full.call (Refused Full) old new (Some Places) full.row (whole_full old.state.counts new.state.counts counts o.whole) refl

-- One step, where nothing was wanted before it.
pub stepped_taken : (h : HubState) (seat : ℕ) (old new : StoreStand) (now : Option Wanting) → LooksAnew h → old.state.seat ≡ seat → Fitted old.state h → AreDrawn old.state → Stepped old None new now → TakenIn h seat old new now
stepped_taken h seat old new now anew turn f d step =
    let idle : IsIdle h old = record { anew = anew; whole = step.whole; fitted = f; drawn = d } in
    subst (λ (k : ℕ). TakenIn h k old new now) turn (step_taken h old new idle now step.step)
