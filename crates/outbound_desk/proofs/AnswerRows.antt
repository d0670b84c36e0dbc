-- The calls of an answer to a request, each as a row: those that stage, and the last one, which is made or refused.
use Rattle.std.proofs.Common.{◌≡◌, ℕ, [], List, Option, Some, None, Result, Ok, Err, true, refl, sym, ◌∙◌, ap, subst}
use Rattle.node_model.specs.declared.store.Staged.{Staged}
use Rattle.node_model.specs.declared.store.Staged.TheVariants.{Absent, Copied, Over}
use Rattle.node_model.specs.declared.store.StoreFault.{StoreFault}
use Rattle.node_model.specs.declared.store.StoreFault.TheVariants as F
use Rattle.node_model.specs.Calls.{Answer, Call, Counts, IsQueue, Queue_call, Queued, Refused, one}
use Rattle.node_model.specs.Calls as C
use Rattle.node_model.specs.SendRows.{Slot}
use Rattle.node_model.specs.Stocks.{NewEntry}
use Rattle.node_model.specs.StoreWords.{IsNewBatch}
use Rattle.node_model.specs.Stores.{Copied_as, Queue_all, Read_part, Refuses, Slots, Stage_copy, StoreDoes, StoreKept, StoreStand, StoreState, copy_answer, read_answer}
use Rattle.hub_core.specs.Anew.{LooksAnew}
use Rattle.hub_core.specs.Hubs.{Fitted, HubState}
use Rattle.hub_core.proofs.Keeping.{leaves_none}
use Rattle.node_store.specs.Asking.{Asks}
use Rattle.outbound_store.proofs.StepCalls.{asks_quiet}
use Rattle.outbound_store.specs.Calls.{want_in}
use Rattle.take_steps.specs.declared.wanting.Wanting.{Wanting}
use Rattle.take_steps.specs.declared.wanting.Wanting.TheVariants.{Memory, Places}
use Rattle.outbound_desk.specs.Answering.{Answered, Answers, Stages, StagesSo, Staging}
use Rattle.outbound_desk.specs.TakenIn.{AreDrawn, EndsSo}
use Rattle.outbound_desk.proofs.FullCalls.{copy_full, queue_full}
use Rattle.outbound_desk.proofs.OneRow.{IsIdle, OneRow, RowImages, RowPasses}
use Rattle.outbound_desk.proofs.QuietRows.{quiet_change, quiet_images, quiet_row, still_change}
use Rattle.outbound_desk.proofs.Refusals.{broken_quietly, memory_row}
use Rattle.outbound_desk.proofs.StagingRows.{FullBefore, answered_one, answered_then, staging_none, staging_one, staging_then}
use Rattle.outbound_desk.proofs.StoreCalls.{broken_call, call_of, made_call, made_counts, short_call}

whole_on : (old new : Counts) → new ≡ old → old.broken ≡ None → new.broken ≡ None
whole_on old new same whole = ap (λ (c : Counts). c.broken) same ∙ whole

-- a row that isn't refused for want of place has no such cause
not_full : (h : HubState) (b : StoreStand) (call : Call) (answer : Answer) → (answer ≡ Refused C.Full → ⊥) → FullBefore h b call answer
not_full h b call answer other = λ n m told more is. absurd (other is)

module _ (h : HubState) (b c : StoreStand) (o : IsIdle h b) where
  -- files were queued, and the request answered
  queue_answered : (receipt : ℕ) (files : List NewEntry) (slots : List Slot) → IsNewBatch None (Some receipt) files b.state → StoreKept b (Queue_all None (Some receipt) files) (Slots slots) c → Answered h b.state.seat b c None
  queue_answered receipt files slots batch kept =
      let call = Queue_all None (Some receipt) files in
      let whole = whole_on b.state.counts c.state.counts (made_counts h b o call (Slots slots) c batch tt kept) o.whole in
      answered_one h b c (call_of o.fitted.keeps call) (Queued slots) None tt (made_call h b o call (Slots slots) c batch tt kept) o.whole (not_full h b (call_of o.fitted.keeps call) (Queued slots) (λ is. cc))
      (subst (λ (x : Option ℕ). EndsSo (one (call_of o.fitted.keeps call) (Queued slots)) x None) (sym whole) (tt, tt))

  -- the disk failed
  broke_answered : (call : Call) → IsQueue call → OneRow h call (Refused (C.Disk c.state.counts.faults)) b c → c.state.counts ≡ record b.state.counts { faults = c.state.counts.faults; broken = Some c.state.counts.faults } → Answered h b.state.seat b c None
  broke_answered call queues row counts =
      let answer = Refused (C.Disk c.state.counts.faults) in
      answered_one h b c call answer None queues row o.whole (not_full h b call answer (λ is. cc))
      (subst (λ (x : Option ℕ). EndsSo (one call answer) x None) (sym (ap (λ (k : Counts). k.broken) counts)) refl)

  -- no memory was left
  short_answered : (call : Call) → IsQueue call → OneRow h call (Refused C.No_memory) b c → c.state.counts ≡ b.state.counts → Answered h b.state.seat b c (Some Memory)
  short_answered call queues row counts =
      answered_one h b c call (Refused C.No_memory) (Some Memory) queues row o.whole (not_full h b call (Refused C.No_memory) (λ is. cc))
      (subst (λ (x : Option ℕ). EndsSo (one call (Refused C.No_memory)) x (Some Memory)) (sym (whole_on b.state.counts c.state.counts counts o.whole)) refl)

  full_answered : (call : Call) → IsQueue call → OneRow h call (Refused C.Full) b c → FullBefore h b call (Refused C.Full) → c.state.counts.broken ≡ None → Answered h b.state.seat b c (Some Places)
  full_answered call queues row full whole =
      answered_one h b c call (Refused C.Full) (Some Places) queues row o.whole full
      (subst (λ (x : Option ℕ). EndsSo (one call (Refused C.Full)) x (Some Places)) (sym whole) refl)

  copy_refused : (path : List ℕ) (fault : StoreFault) → StoreKept b (Stage_copy path) (Refuses fault) c → Answered h b.state.seat b c (want_in {T = Staged} (Err fault))
  copy_refused path F.Disk kept = broke_answered (Queue_call [] None None) tt (broken_call h b o (Stage_copy path) c tt kept) kept.made.counts
  copy_refused path F.Read kept = absurd kept.made.0
  copy_refused path F.Full kept =
      let full = copy_full h b o path c kept in
      full_answered full.call full.queues full.row (λ n m told more is. full.anyway n m told more) (ap (λ (u : StoreState). u.counts.broken) kept.made.1 ∙ o.whole)
  copy_refused path F.NoMemory kept = short_answered (Queue_call [] None None) tt (short_call h b o (Stage_copy path) c tt kept) (ap (λ (u : StoreState). u.counts) kept.made.1)

  read_refused : (receipt at room : ℕ) (fault : StoreFault) → StoreKept b (Read_part receipt at room) (Refuses fault) c → Answered h b.state.seat b c (want_in {T = ℕ} (Err fault))
  read_refused receipt at room F.Disk kept = broke_answered (Queue_call [] None None) tt (broken_call h b o (Read_part receipt at room) c tt kept) kept.made.counts
  read_refused receipt at room F.Read kept = absurd kept.made.0
  read_refused receipt at room F.Full kept = absurd kept.made.0
  read_refused receipt at room F.NoMemory kept = absurd kept.made.0

  queue_refused : (receipt : ℕ) (files : List NewEntry) (fault : StoreFault) → IsNewBatch None (Some receipt) files b.state → StoreKept b (Queue_all None (Some receipt) files) (Refuses fault) c → Answered h b.state.seat b c (want_in {T = List Slot} (Err fault))
  queue_refused receipt files F.Disk batch kept =
      let call = Queue_all None (Some receipt) files in
      broke_answered (call_of o.fitted.keeps call) tt (broken_call h b o call c batch kept) kept.made.counts
  queue_refused receipt files F.Read batch kept = absurd kept.made.0
  queue_refused receipt files F.Full batch kept =
      let full = queue_full h b o None (Some receipt) files c batch kept in
      full_answered full.call full.queues full.row (λ n m told more is. full.anyway n m told more) (ap (λ (u : StoreState). u.counts.broken) kept.made.1 ∙ o.whole)
  queue_refused receipt files F.NoMemory batch kept =
      let call = Queue_all None (Some receipt) files in
      short_answered (call_of o.fitted.keeps call) tt (short_call h b o call c batch kept) (ap (λ (u : StoreState). u.counts) kept.made.1)

  asked_refused : {X : Type 0} (fault : StoreFault) → Asks {T = X} true (Err fault) b c → Answered h b.state.seat b c (want_in {T = X} (Err fault))
  asked_refused {X} F.Disk asks =
      let quiet = asks_quiet true (Err F.Disk) b c asks in
      broke_answered (Queue_call [] None None) tt (broken_quietly h b c o quiet (record { rose = asks.made.rose; is = ap (λ (s : StoreState). s.counts) asks.made.same })) (ap (λ (s : StoreState). s.counts) asks.made.same)
  asked_refused {X} F.Read asks = absurd asks.made
  asked_refused {X} F.Full asks = absurd asks.made
  asked_refused {X} F.NoMemory asks =
      let quiet = asks_quiet true (Err F.NoMemory) b c asks in
      let counts = ap (λ (s : StoreState). s.counts) asks.made.1 in
      short_answered (Queue_call [] None None) tt (memory_row h (Queue_call [] None None) b c o tt (quiet_change b.state c.state quiet.told quiet.same) counts (quiet_images h (Queue_call [] None None) b c quiet)) counts

-- At every hub that fits the store.

idle : (h : HubState) (w : StoreStand) → LooksAnew h → w.state.counts.broken ≡ None → Fitted w.state h → AreDrawn w.state → IsIdle h w
idle h w anew whole f d = record { anew = anew; whole = whole; fitted = f; drawn = d }

pub stages_none : (w : StoreStand) → Stages w w
stages_none w h anew f d settled = staging_none h w f d settled

pub stages_then : (a b c : StoreStand) → Stages a b → Stages b c → Stages a c
stages_then a b c first second h anew f d settled =
    let x = first h anew f d settled in
    staging_then h a.state.seat a b c x (subst (λ (k : ℕ). Staging h k b c) x.turn (second h anew x.fitted x.drawn x.settled))

pub answers_then : (a b c : StoreStand) (now : Option Wanting) → Stages a b → Answers b c now → Answers a c now
answers_then a b c now first second h anew f d settled =
    let x = first h anew f d settled in
    answered_then h a.state.seat a b c now x (subst (λ (k : ℕ). Answered h k b c now) x.turn (second h anew x.fitted x.drawn x.settled))

pub so_then : {X : Type 0} (r : Result X StoreFault) (a b c : StoreStand) → Stages a b → StagesSo r b c → StagesSo r a c
so_then (Ok x) a b c first second = (second.0, stages_then a b c first second.1)
so_then {X} (Err fault) a b c first second = answers_then a b c (want_in {T = X} (Err fault)) first second

-- no memory was left for what calls no store
pub memory_answers : (w : StoreStand) → w.state.counts.broken ≡ None → Answers w w (Some Memory)
memory_answers w whole h anew f d settled =
    let o = idle h w anew whole f d in
    let call = Queue_call [] None None in
    let images : RowImages h call w w = record { leaves = leaves_none (RowPasses h call w) w; settled = λ whole. settled } in
    short_answered h w w o call tt (memory_row h call w w o tt (still_change w.state w.state refl) refl images) refl

copy_counts : (staged : Staged) (path : List ℕ) (s t : StoreState) → StoreDoes s (Stage_copy path) (Copied_as staged) t → t.counts ≡ s.counts
copy_counts (Copied number stat) path s t does = ap (λ (u : StoreState). u.counts) does.2.2
copy_counts Absent path s t does = ap (λ (u : StoreState). u.counts) does.2
copy_counts Over path s t does = ap (λ (u : StoreState). u.counts) does.2

pub copy_so : (r : Result Staged StoreFault) (path : List ℕ) (a b : StoreStand) → a.state.counts.broken ≡ None → StoreKept a (Stage_copy path) (copy_answer r) b → StagesSo r a b
copy_so (Ok staged) path a b whole kept =
    (whole_on a.state.counts b.state.counts (copy_counts staged path a.state b.state kept.made) whole, λ h anew f d settled. let o = idle h a anew whole f d in staging_one h a b (made_call h a o (Stage_copy path) (Copied_as staged) b tt tt kept) (made_counts h a o (Stage_copy path) (Copied_as staged) b tt tt kept) whole)
copy_so (Err fault) path a b whole kept = λ h anew f d settled. copy_refused h a b (idle h a anew whole f d) path fault kept

pub read_so : (r : Result ℕ StoreFault) (buffer : List ℕ) (receipt at room : ℕ) (a b : StoreStand) → a.state.counts.broken ≡ None → StoreKept a (Read_part receipt at room) (read_answer buffer r) b → StagesSo r a b
read_so (Ok count) buffer receipt at room a b whole kept =
    let answer = read_answer buffer (Ok count) in
    (ap (λ (s : StoreState). s.counts.broken) kept.made.1 ∙ whole, λ h anew f d settled. let o = idle h a anew whole f d in staging_one h a b (made_call h a o (Read_part receipt at room) answer b tt tt kept) (made_counts h a o (Read_part receipt at room) answer b tt tt kept) whole)
read_so (Err fault) buffer receipt at room a b whole kept = λ h anew f d settled. read_refused h a b (idle h a anew whole f d) receipt at room fault kept

pub asked_so : {X : Type 0} (r : Result X StoreFault) (a b : StoreStand) → a.state.counts.broken ≡ None → Asks true r a b → StagesSo r a b
asked_so {X} (Ok x) a b whole asks =
    let counts = ap (λ (s : StoreState). s.counts) asks.made in
    (whole_on a.state.counts b.state.counts counts whole, λ h anew f d settled. staging_one h a b (quiet_row h a b (idle h a anew whole f d) (asks_quiet true (Ok x) a b asks) counts) counts whole)
asked_so {X} (Err fault) a b whole asks = λ h anew f d settled. asked_refused h a b (idle h a anew whole f d) fault asks

pub queue_answers : (receipt : ℕ) (files : List NewEntry) (slots : List Slot) (a b : StoreStand) → a.state.counts.broken ≡ None → IsNewBatch None (Some receipt) files a.state → StoreKept a (Queue_all None (Some receipt) files) (Slots slots) b → Answers a b None
queue_answers receipt files slots a b whole batch kept = λ h anew f d settled. queue_answered h a b (idle h a anew whole f d) receipt files slots batch kept

pub refused_answers : (X : Type 0) (receipt : ℕ) (files : List NewEntry) (fault : StoreFault) (a b : StoreStand) → a.state.counts.broken ≡ None → IsNewBatch None (Some receipt) files a.state → StoreKept a (Queue_all None (Some receipt) files) (Refuses fault) b → Answers a b (want_in {T = X} (Err fault))
refused_answers X receipt files fault a b whole batch kept = λ h anew f d settled. same_want fault (queue_refused h a b (idle h a anew whole f d) receipt files fault batch kept)
  where
    same_want : (fault : StoreFault) {h : HubState} → Answered h a.state.seat a b (want_in {T = List Slot} (Err fault)) → Answered h a.state.seat a b (want_in {T = X} (Err fault))
    same_want F.Disk x = x
    same_want F.Read x = x
    same_want F.Full x = x
    same_want F.NoMemory x = x
