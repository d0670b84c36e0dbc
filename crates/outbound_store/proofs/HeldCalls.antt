-- What the calls of the store on a disk say, in the words of a take-in.
use Rattle.std.proofs.Common.{◌≡◌, ◌≢◌, ◌⊎◌, inl, inr, ℕ, ◌+◌, ◌<◌, Bool, true, false, List, [], map, Option, Some, None, option_map, Result, Ok, Err, refl, sym, ◌∙◌, ap, subst, arith, le_refl}
use Rattle.std.specs.Prelude.{IfErr, IfOk, MatchResult, OnErr, OnOk, count_by}
use Rattle.ftn_addr.specs.Address.{Address}
use Rattle.ftn_addr.specs.Counts.{next_count}
use Rattle.disk_model.specs.World.{World}
use Rattle.disk_model.specs.declared.answers.Moved.{Moved}
use Rattle.disk_model.specs.declared.answers.Moved.TheVariants.{Done, Absent}
use Rattle.disk_model.specs.declared.answers.OutStat.{OutStat as DiskStat}
use Rattle.node_model.specs.declared.store.Staged.{Staged}
use Rattle.node_model.specs.declared.store.StoreFault.{StoreFault}
use Rattle.node_model.specs.declared.store.StoreFault.TheVariants.{Disk, Read, Full, NoMemory}
use Rattle.node_model.specs.Outside.{OutFile}
use Rattle.node_model.specs.SendRows.{Slot, waits_for_action}
use Rattle.node_model.specs.Stocks.{NewEntry}
use Rattle.node_model.specs.StoreStates.{IfTold, Shelf, Stored, StoreState, StoreStand}
use Rattle.node_model.specs.StoreWords.{IsNewBatch}
use Rattle.node_model.specs.Stores.{Act_next, Acted_on, IsShelf, OpensShelf, Queue_all, Refuses, Slots, Stage, Stage_copy, Staged_as, StoreKept, StoreTied, copy_answer, act_answer}
use Rattle.node_model.proofs.Lists.{none_some, some_inj}
use Rattle.node_store.specs.Asking as A
use Rattle.node_store.specs.Asking.{Asks, ListsOutside}
use Rattle.node_store.specs.Names.{take_number}
use Rattle.node_store.specs.Stored.{Holding, stand_of}
use Rattle.node_store.specs.Takes.{AreTakesOf, MovedSo, NotedSo, RemovedSo, Takes, with_drawn, with_noted}
use Rattle.node_store.specs.Taking as G
use Rattle.node_store.specs.Taking.{Around, DrawsTake, HasMoved, StagesOwn, TookSo, take_gone, taken_so}
use Rattle.node_store.specs.Worlds.{bytes_of}
use Rattle.node_store.specs.declared.takes.TakeName.{TakeName}
use Rattle.outbound_model.specs.Outbound.{Outbound}
use Rattle.outbound_model.specs.OwnNames.{number_of}
use Rattle.outbound_model.specs.Steps.{Drops}
use Rattle.outbound_places.specs.Outbound.{Lists}
use Rattle.outbound_take.specs.declared.outgoing.TakeLeft.{TakeLeft}
use Rattle.outbound_take.specs.Calls as C
use Rattle.outbound_take.specs.Calls.{AreNew, CopiesSo, Has, Holds, IsLike, QueuesFiles, StagesAt, StagesMore, StagesTake, TakesFile, Tied, FirstFor, IsAction, bodies_of, noted, with_take}
use Rattle.outbound_take.specs.Stand.{Kept, Left, Same, SettledBy, Settles, Tried, Works, mapped}
use Rattle.outbound_take.proofs.WorkLemmas.{same_works}
use Rattle.outbound_store.specs.Held.{drawn_as, left_in, left_of, seen_with}
use Rattle.outbound_store.specs.Seen.{content_of, memory_of}
use Rattle.outbound_store.proofs.ActKept.{ActReady, act_done, act_lost, act_none}
use Rattle.outbound_store.proofs.Acting.{fewer}
use Rattle.outbound_store.proofs.AskKept.{asks_kept, like_same, like_with}
use Rattle.outbound_store.proofs.Listing.{lists_outside}
use Rattle.outbound_store.proofs.NameFacts.{number_read}
use Rattle.outbound_store.proofs.QueueKept.{Queueing, queue_kept, queue_lost}
use Rattle.outbound_store.proofs.RefusedKept.{refused_kept}
use Rattle.outbound_store.proofs.SeenKept.{Changes, changes_same, keeps_same, kept_seen, out_in, out_of}
use Rattle.outbound_store.proofs.StageKept.{at_told, copies_so, copies_told, copy_kept, copy_whole, like_refused, stage_kept, stages_more, take_told, told_in, whole_refused}
use Rattle.outbound_store.proofs.Staging.{AreDrawn}
use Rattle.outbound_store.proofs.TakeFacts.{IsOne, holds_with, moved_left, new_batch, new_take, noted_left, noted_told, one_of, queueing, tied_told, without_left}
use Rattle.outbound_store.proofs.TakeKept.{drop_steps, file_steps, takes_actions, takes_kept, takes_whole}

-- Questions.

pub ask_kept : {T : Type 0} (memory : Bool) (r : Result T StoreFault) (settles : Type 0) (old new : StoreStand) (t u : Takes) → Asks memory r old new → Kept Same settles (seen_with old t) (seen_with new u)
ask_kept memory r settles old new t u asks = kept_seen Same settles old new _ _ _ _ (asks_kept memory r settles old new asks)

-- what is told of the store is so where the take-in is told
pub when_told : (o : Option Stored) (P : Outbound → Type 0) → IfTold o (λ a. P (out_of a)) → (s : Outbound) → out_in o ≡ Some s → P s
when_told o P h s tells =
    let t = told_in o s tells in
    subst P t.2 (at_told o t.0 (λ a. P (out_of a)) t.1 h)

pub look_some : (o : Option OutFile) (stat : DiskStat) → Some stat ≡ option_map A.stat_of o → Some (record { size = stat.size; time = stat.time }) ≡ option_map C.stat_of o
look_some None stat is = none_some (sym is)
look_some (Some f) stat is = ap (λ (x : DiskStat). Some (record { size = x.size; time = x.time })) (some_inj is)

pub look_none : (o : Option OutFile) → None ≡ option_map A.stat_of o → None ≡ option_map C.stat_of o
look_none None is = refl
look_none (Some f) is = none_some is

pub if_map : (o : Option Stored) (P Q : Stored → Type 0) → ((a : Stored) → P a → Q a) → IfTold o P → IfTold o Q
if_map None P Q f h = tt
if_map (Some a) P Q f h = f a h

pub names_told : (o : Option Stored) (folder : List ℕ) (names : List (List ℕ)) → IfTold o (λ a. ListsOutside folder a.outside names) → (s : Outbound) → out_in o ≡ Some s → Lists folder s.outside names
names_told o folder names h = when_told o (λ s. Lists folder s.outside names) (if_map o (λ a. ListsOutside folder a.outside names) (λ a. Lists folder a.outside names) (λ a l. lists_outside folder a.outside names l) h)

-- A number that is drawn.

module _ {D : Type 0} (tells : Bool) (content : D → World) (faults moment : D → ℕ) (images : D → ℕ → World → Type 0) where
  abbrev St : Holding D → StoreStand
  St s = stand_of tells content faults moment images s

  abbrev Opened : Holding D → Type 0
  Opened s = (d : Option Shelf) → (St s).images (St s).moment d → OpensShelf (IsShelf (St s).state.content) d

  nothing_made : (s : Holding D) (settles : Type 0) → Opened s → Changes Same settles (St s) (St s)
  nothing_made s settles now =
      changes_same settles (St s) (St s) (le_refl (St s).moment) (λ k d le image. image) (keeps_same (St s).state.content (St s).state.content refl) (λ k d after until image. let never : ⊥ = omega (arith, after, until) in absurd never) (λ h. now)

  pub still_kept : (s : Holding D) (settles : Type 0) (t u : Takes) → Opened s → Kept Same settles (seen_with (St s) t) (seen_with (St s) u)
  still_kept s settles t u now = kept_seen Same settles (St s) (St s) _ _ _ _ (nothing_made s settles now)

  pub draw_kept : (r : Result ℕ StoreFault) (settles : Type 0) (old new : Holding D) → Opened old → DrawsTake r old new → Kept Same settles (seen_with (St old) old.takes) (seen_with (St new) new.takes)
  draw_kept (Ok take) settles old new now draws = subst (λ (x : Holding D). Kept Same settles (seen_with (St old) old.takes) (seen_with (St x) x.takes)) (sym draws.1) (still_kept old settles old.takes (with_drawn old.takes) now)
  draw_kept (Err Disk) settles old new now draws = absurd draws
  draw_kept (Err Read) settles old new now draws = absurd draws
  draw_kept (Err Full) settles old new now draws = subst (λ (x : Holding D). Kept Same settles (seen_with (St old) old.takes) (seen_with (St x) x.takes)) (sym draws.1) (still_kept old settles old.takes old.takes now)
  draw_kept (Err NoMemory) settles old new now draws = subst (λ (x : Holding D). Kept Same settles (seen_with (St old) old.takes) (seen_with (St x) x.takes)) (sym draws) (still_kept old settles old.takes old.takes now)

  pub draw_holds : (r : Result ℕ StoreFault) (old new : Holding D) → old.memory.broken ≡ None → DrawsTake r old new
      → IfOk r (λ take. Holds (seen_with (St old) old.takes).memory.left (Some take) (seen_with (St old) old.takes).memory.undone (seen_with (St new) new.takes).memory)
  draw_holds (Ok take) old new whole draws =
      subst (λ (x : Holding D). Holds (seen_with (St old) old.takes).memory.left (Some take) (seen_with (St old) old.takes).memory.undone (seen_with (St x) x.takes).memory) (sym draws.1)
      (record { left = refl; drawn = ap (λ (n : ℕ). Some n) (sym draws.0); undone = refl; broken = whole })
  draw_holds (Err fault) old new whole draws = tt

  pub draw_like : (r : Result ℕ StoreFault) (old new : Holding D) → old.memory.broken ≡ None → DrawsTake r old new → OnErr r (Settles r → IsLike (seen_with (St old) old.takes).memory (seen_with (St new) new.takes).memory)
  draw_like (Ok take) old new whole draws = tt
  draw_like (Err Disk) old new whole draws = absurd draws
  draw_like (Err Read) old new whole draws = absurd draws
  draw_like (Err Full) old new whole draws = λ settled. subst (λ (x : Holding D). IsLike (seen_with (St old) old.takes).memory (seen_with (St x) x.takes).memory) (sym draws.1) (like_with (St old) (St (record old { memory = record old.memory { fulls = next_count old.memory.fulls } })) old.takes old.takes whole whole refl refl)
  draw_like (Err NoMemory) old new whole draws = λ settled. subst (λ (x : Holding D). IsLike (seen_with (St old) old.takes).memory (seen_with (St x) x.takes).memory) (sym draws) (like_same (St old) (St old) old.takes old.takes whole refl refl)

-- a fault that isn't the disk's
no_moment : {A : Type 0} (fault : StoreFault) → (fault ≡ Disk → ⊥) → (fault ≡ Disk) ⊎ A → A
no_moment fault other (inl failed) = absurd (other failed)
no_moment fault other (inr same) = same

-- Calls that want a whole store.

module _ (old : StoreStand) (t : Takes) (whole : old.state.counts.broken ≡ None) where
  has_here : (own : List ℕ) (recorded : Bool) → Has own recorded (seen_with old t).memory.left → Has own recorded (map left_of t.left)
  has_here own recorded has = subst (λ (b : Option ℕ). Has own recorded (left_in b t.left)) whole has

  module _ (are : AreTakesOf t old.state) where
    pub the_one : (own : List ℕ) (recorded : Bool) → Has own recorded (seen_with old t).memory.left → IsOne t old.state are own recorded
    the_one own recorded has = one_of t old.state are own recorded (has_here own recorded has)

    -- Taking a file.

    pub file_kept : (path own : List ℕ) (r : Result Moved StoreFault) (new : StoreStand) (u : Takes) → StoreTied old.state → number_of own ≡ t.last + 1 → IfOk r (λ moved. IfTold old.state.content (λ a. HasMoved moved (a.outside path))) → G.Takes (taken_so path own) r old new
        → Kept (Tried r (TakesFile path own)) (Settles r) (seen_with old t) (seen_with new u)
    file_kept path own r new u ties next moved takes =
        kept_seen (Tried r (TakesFile path own)) (Settles r) old new _ _ _ _ (takes_kept (taken_so path own) (TakesFile path own) old new whole r (file_steps path own r old.state (new_take t old.state are own next ties) moved) takes)

    -- Removing a take.

    pub drop_kept : (own : List ℕ) (r : Result (Unit {0}) StoreFault) (new : StoreStand) (u : Takes) → StoreTied old.state → Has own true (seen_with old t).memory.left → G.Takes (take_gone own) r old new
        → Kept (Tried r (λ _. Drops own)) (Settles r) (seen_with old t) (seen_with new u)
    drop_kept own r new u ties has takes =
        kept_seen (Tried r (λ _. Drops own)) (Settles r) old new _ _ _ _ (takes_kept (take_gone own) (λ _. Drops own) old new whole r (drop_steps own r old.state (noted_told t old.state are own true (the_one own true has) ties)) takes)

  left_now : (takes : List Left) → map left_of t.left ≡ takes → (seen_with old t).memory.left ≡ takes
  left_now takes is = ap (λ (b : Option ℕ). left_in b t.left) whole ∙ is

  pub file_done : (path own : List ℕ) (r : Result Moved StoreFault) (new : StoreStand) (u : Takes) → G.Takes (taken_so path own) r old new → MovedSo own r t u
      → IfOk r (λ moved. moved ≡ Done → Holds (with_take own (seen_with old t).memory.left) None (seen_with old t).memory.undone (seen_with new u).memory)
  file_done path own (Ok Done) new u takes moved = λ done. subst (λ (l : List Left). Holds (with_take own l) None (seen_with old t).memory.undone (seen_with new u).memory) (sym (left_now (map left_of t.left) refl))
      (holds_with new u (with_take own (map left_of t.left)) None (seen_with old t).memory.undone (takes_whole (taken_so path own) (Ok Done) old.state new.state takes.made tt whole) (ap (λ (x : Takes). map left_of x.left) moved ∙ moved_left own t) (ap (λ (x : Takes). drawn_as x.drawn x.last) moved) (takes_actions (taken_so path own) (Ok Done) old.state new.state takes.made tt))
  file_done path own (Ok Absent) new u takes moved = λ done. absurd (apart done)
    where
      apart : Absent ≡ Done → ⊥
      apart same = cc
  file_done path own (Err fault) new u takes moved = tt

  pub takes_like : {T : Type 0} (does : T → Around → Around) (r : Result T StoreFault) (new : StoreStand) (u : Takes) → G.Takes does r old new → Settles r → u ≡ t → IsLike (seen_with old t).memory (seen_with new u).memory
  takes_like does r new u takes settled same = like_with old new t u whole (takes_whole does r old.state new.state takes.made settled whole) (takes_actions does r old.state new.state takes.made settled) same

  pub file_absent : (path own : List ℕ) (r : Result Moved StoreFault) (new : StoreStand) (u : Takes) → G.Takes (taken_so path own) r old new → MovedSo own r t u → IfOk r (λ moved. moved ≡ Absent → IsLike (seen_with old t).memory (seen_with new u).memory)
  file_absent path own (Ok Done) new u takes moved = λ absent. absurd (apart absent)
    where
      apart : Done ≡ Absent → ⊥
      apart same = cc
  file_absent path own (Ok Absent) new u takes moved = λ absent. takes_like (taken_so path own) (Ok Absent) new u takes tt moved
  file_absent path own (Err fault) new u takes moved = tt

  pub file_like : (path own : List ℕ) (r : Result Moved StoreFault) (new : StoreStand) (u : Takes) → G.Takes (taken_so path own) r old new → MovedSo own r t u → OnErr r (Settles r → IsLike (seen_with old t).memory (seen_with new u).memory)
  file_like path own (Ok moved) new u takes is = tt
  file_like path own (Err fault) new u takes is = λ settled. takes_like (taken_so path own) (Err fault) new u takes settled is

  pub drop_holds : (own : List ℕ) (r : Result (Unit {0}) StoreFault) (new : StoreStand) (u : Takes) → G.Takes (take_gone own) r old new → RemovedSo own r t u
      → OnOk r (Holds (C.without_take own (seen_with old t).memory.left) (seen_with old t).memory.drawn (seen_with old t).memory.undone (seen_with new u).memory)
  drop_holds own (Ok done) new u takes removed = subst (λ (l : List Left). Holds (C.without_take own l) (seen_with old t).memory.drawn (seen_with old t).memory.undone (seen_with new u).memory) (sym (left_now (map left_of t.left) refl))
      (holds_with new u (C.without_take own (map left_of t.left)) (seen_with old t).memory.drawn (seen_with old t).memory.undone (takes_whole (take_gone own) (Ok done) old.state new.state takes.made tt whole) (ap (λ (x : Takes). map left_of x.left) removed ∙ without_left own t.left) (ap (λ (x : Takes). drawn_as x.drawn x.last) removed) (takes_actions (take_gone own) (Ok done) old.state new.state takes.made tt))
  drop_holds own (Err fault) new u takes removed = tt

  pub drop_like : (own : List ℕ) (r : Result (Unit {0}) StoreFault) (new : StoreStand) (u : Takes) → G.Takes (take_gone own) r old new → RemovedSo own r t u → OnErr r (Settles r → IsLike (seen_with old t).memory (seen_with new u).memory)
  drop_like own (Ok done) new u takes removed = tt
  drop_like own (Err fault) new u takes removed = λ settled. takes_like (take_gone own) (Err fault) new u takes settled removed

  -- Staging.

  seen_left : (new : StoreStand) (u : Takes) → new.state.counts.broken ≡ None → u ≡ t → left_in new.state.counts.broken u.left ≡ left_in old.state.counts.broken t.left
  seen_left new u still same = λ i. left_in ((still ∙ sym whole) i) (same i).left

  pub copy_seen : (path : List ℕ) (r : Result Staged StoreFault) (new : StoreStand) (u : Takes) → StoreKept old (Stage_copy path) (copy_answer r) new → Kept Same (Settles r) (seen_with old t) (seen_with new u)
  copy_seen path r new u kept =
      kept_seen Same (Settles r) old new _ _ _ _ (copy_kept path (copy_answer r) (Settles r) old new kept (copy_whole path r old.state new.state kept.made whole))

  pub copy_memory : (path : List ℕ) (r : Result Staged StoreFault) (new : StoreStand) (u : Takes) → AreDrawn old.state → StoreKept old (Stage_copy path) (copy_answer r) new → u ≡ t → IfOk r (λ staged. CopiesSo staged (seen_with old t).memory (seen_with new u).memory)
  copy_memory path (Ok staged) new u drawn kept same =
      copies_so path staged old new _ _ _ _ drawn kept.made whole (seen_left new u (copy_whole path (Ok staged) old.state new.state kept.made whole tt) same) (ap (λ (x : Takes). drawn_as x.drawn x.last) same)
  copy_memory path (Err fault) new u drawn kept same = tt

  pub copy_like : (path : List ℕ) (r : Result Staged StoreFault) (new : StoreStand) (u : Takes) → StoreKept old (Stage_copy path) (copy_answer r) new → u ≡ t → OnErr r (Settles r → IsLike (seen_with old t).memory (seen_with new u).memory)
  copy_like path (Ok staged) new u kept same = tt
  copy_like path (Err fault) new u kept same = λ settled. like_refused (Stage_copy path) fault old new _ _ _ _ (λ h. h) kept.made settled whole (seen_left new u (whole_refused (Stage_copy path) fault old.state new.state (λ h. h) kept.made settled whole) same) (ap (λ (x : Takes). drawn_as x.drawn x.last) same)

  pub copy_told : (path : List ℕ) (r : Result Staged StoreFault) (new : StoreStand) → AreDrawn old.state → StoreTied old.state → StoreKept old (Stage_copy path) (copy_answer r) new
      → IfOk r (λ staged. (s : Outbound) → out_in old.state.content ≡ Some s → StagesAt path staged s (option_map content_of old.state.content) (option_map content_of new.state.content))
  copy_told path (Ok staged) new drawn ties kept = λ s tells. copies_told path staged s old new tells drawn ties kept.made
  copy_told path (Err fault) new drawn ties kept = tt

  own_whole : (own : List ℕ) (r : Result (ℕ × ℕ) StoreFault) (new : StoreStand) → StagesOwn own r old new → Settles r → new.state.counts.broken ≡ None
  own_whole own (Ok staged) new stages settled = let kept = stages.3 in ap (λ (s : StoreState). s.counts.broken) kept.made.2 ∙ whole
  own_whole own (Err fault) new stages settled = let kept = stages.2 in whole_refused (Stage stages.0) fault old.state new.state (λ h. h) kept.made settled whole

  pub own_seen : (own : List ℕ) (r : Result (ℕ × ℕ) StoreFault) (new : StoreStand) (u : Takes) → StagesOwn own r old new → Kept Same (Settles r) (seen_with old t) (seen_with new u)
  own_seen own (Ok staged) new u stages = kept_seen Same (Unit {0}) old new _ _ _ _ (stage_kept stages.0 (Staged_as staged.0) (Unit {0}) old new stages.3 (own_whole own (Ok staged) new stages))
  own_seen own (Err fault) new u stages = kept_seen Same (SettledBy fault) old new _ _ _ _ (stage_kept stages.0 (Refuses fault) (SettledBy fault) old new stages.2 (own_whole own (Err fault) new stages))

  pub own_memory : (own : List ℕ) (r : Result (ℕ × ℕ) StoreFault) (new : StoreStand) (u : Takes) → AreDrawn old.state → StagesOwn own r old new → u ≡ t → IfOk r (λ staged. StagesMore staged.0 staged.1 (seen_with old t).memory (seen_with new u).memory)
  own_memory own (Ok staged) new u drawn stages same =
      let kept = stages.3 in
      stages_more stages.0 staged.0 staged.1 old new _ _ _ _ drawn kept.made.0 stages.1 kept.made.2 whole (seen_left new u (own_whole own (Ok staged) new stages tt) same) (ap (λ (x : Takes). drawn_as x.drawn x.last) same)
  own_memory own (Err fault) new u drawn stages same = tt

  pub own_like : (own : List ℕ) (r : Result (ℕ × ℕ) StoreFault) (new : StoreStand) (u : Takes) → StagesOwn own r old new → u ≡ t → OnErr r (Settles r → IsLike (seen_with old t).memory (seen_with new u).memory)
  own_like own (Ok staged) new u stages same = tt
  own_like own (Err fault) new u stages same = λ settled. let kept = stages.2 in like_refused (Stage stages.0) fault old new _ _ _ _ (λ h. h) kept.made settled whole (seen_left new u (own_whole own (Err fault) new stages settled) same) (ap (λ (x : Takes). drawn_as x.drawn x.last) same)

  pub own_told : (own : List ℕ) (r : Result (ℕ × ℕ) StoreFault) (new : StoreStand) → AreDrawn old.state → StoreTied old.state → StagesOwn own r old new
      → IfOk r (λ staged. (s : Outbound) → out_in old.state.content ≡ Some s → StagesTake own staged.0 staged.1 s (option_map content_of old.state.content) (option_map content_of new.state.content))
  own_told own (Ok staged) new drawn ties stages = λ s tells. let kept = stages.3 in take_told own stages.0 staged.0 staged.1 s old new tells drawn ties stages.1 stages.2 kept.made
  own_told own (Err fault) new drawn ties stages = tt

  -- Queueing.

  module _ (are : AreTakesOf t old.state) (ties : StoreTied old.state) (own : List ℕ) (files : List NewEntry) (has : Has own false (seen_with old t).memory.left) (fresh : AreNew files (seen_with old t).memory) where
    abbrev Queued : List Slot → Outbound → Outbound → Type 0
    Queued slots s u = QueuesFiles (bodies_of (option_map content_of old.state.content)) own files slots s u

    one : IsOne t old.state are own false
    one = the_one are own false has

    ready : Queueing own one.take files old.state
    ready = queueing t old.state are own files _ _ one fresh ties

    named : (take : Option ℕ) → take ≡ take_number own → take ≡ Some one.take
    named take is = is ∙ one.named

    pub batch : (take : Option ℕ) → take ≡ take_number own → IsNewBatch take None files old.state
    batch take is = subst (λ (o : Option ℕ). IsNewBatch o None files old.state) (sym (named take is)) (new_batch t old.state are own files _ _ one fresh)

    slots_whole : (take : Option ℕ) (slots : List Slot) (new : StoreStand) → StoreKept old (Queue_all take None files) (Slots slots) new → new.state.counts.broken ≡ None
    slots_whole take slots new kept = ap (λ (s : StoreState). s.counts.broken) kept.made.2 ∙ whole

    queue_seen : (take : Option ℕ) → take ≡ take_number own → (slots : List Slot) (new : StoreStand) (u : Takes) → StoreKept old (Queue_all take None files) (Slots slots) new
        → Kept (Tried (Ok slots) (QueuesFiles (bodies_of (option_map content_of old.state.content)) own files)) (Unit {0}) (seen_with old t) (seen_with new u)
    queue_seen take is slots new u kept =
        let same = subst (λ (o : Option ℕ). StoreKept old (Queue_all o None files) (Slots slots) new) (named take is) kept in
        kept_seen (Tried (Ok slots) (QueuesFiles (bodies_of (option_map content_of old.state.content)) own files)) (Unit {0}) old new _ _ _ _ (queue_kept own one.take files slots (Unit {0}) old new ready same (λ h. slots_whole take slots new kept))

    queue_noted : (take : Option ℕ) → take ≡ take_number own → (slots : List Slot) (new : StoreStand) (u : Takes) → StoreKept old (Queue_all take None files) (Slots slots) new → u ≡ with_noted take t
        → ((seen_with new u).memory.left ≡ map (noted (number_of own)) (seen_with old t).memory.left) × (new.state.counts.broken ≡ None)
    queue_noted take is slots new u kept same = (
      ap (λ (b : Option ℕ). left_in b u.left) (slots_whole take slots new kept)
          ∙ (ap (λ (x : Takes). map left_of x.left) (same ∙ ap (λ (o : Option ℕ). with_noted o t) (named take is))
          ∙ (noted_left t old.state are own one.take (number_read own one.take one.named).0 ∙ ap (map (noted (number_of own))) (sym (left_now (map left_of t.left) refl)))),
      slots_whole take slots new kept,
    )

    queue_refused : (take : Option ℕ) → take ≡ take_number own → (fault : StoreFault) (new : StoreStand) (u : Takes) → StoreKept old (Queue_all take None files) (Refuses fault) new → (fault ≡ Disk) ⊎ (new.moment ≡ old.moment)
        → Kept (Tried {T = List Slot} (Err fault) (QueuesFiles (bodies_of (option_map content_of old.state.content)) own files)) (SettledBy fault) (seen_with old t) (seen_with new u)
    queue_refused take is Disk new u kept same =
        let same = subst (λ (o : Option ℕ). StoreKept old (Queue_all o None files) (Refuses Disk) new) (named take is) kept in
        kept_seen (Tried {T = List Slot} (Err Disk) (QueuesFiles (bodies_of (option_map content_of old.state.content)) own files)) ⊥ old new _ _ _ _ (queue_lost own one.take files old new ready same)
    queue_refused take is Read new u kept same = absurd kept.made.0
    queue_refused take is Full new u kept same = kept_seen Same (Unit {0}) old new _ _ _ _ (refused_kept (Queue_all take None files) Full old new (λ h. h) kept whole tt (no_moment Full (λ e. cc) same))
    queue_refused take is NoMemory new u kept same = kept_seen Same (Unit {0}) old new _ _ _ _ (refused_kept (Queue_all take None files) NoMemory old new (λ h. h) kept whole tt (no_moment NoMemory (λ e. cc) same))

    -- by what the call answers
    module _ {V : Type 0} (slots : V → List Slot) (take : Option ℕ) (is : take ≡ take_number own) (new : StoreStand) (u : Takes) where
      abbrev QueuedSo : Result V StoreFault → Type 0
      QueuedSo r = MatchResult r (λ v. StoreKept old (Queue_all take None files) (Slots (slots v)) new) (λ fault. StoreKept old (Queue_all take None files) (Refuses fault) new)

      pub queued_kept : (r : Result V StoreFault) → QueuedSo r → IfErr r (λ fault. (fault ≡ Disk) ⊎ (new.moment ≡ old.moment))
          → Kept (Tried (mapped r slots) (QueuesFiles (bodies_of (option_map content_of old.state.content)) own files)) (Settles r) (seen_with old t) (seen_with new u)
      queued_kept (Ok v) kept same = queue_seen take is (slots v) new u kept
      queued_kept (Err fault) kept same = queue_refused take is fault new u kept same

      pub queued_noted : (r : Result V StoreFault) → QueuedSo r → NotedSo take r t u → OnOk r ((seen_with new u).memory.left ≡ map (noted (number_of own)) (seen_with old t).memory.left)
      queued_noted (Ok v) kept same = (queue_noted take is (slots v) new u kept same).0
      queued_noted (Err fault) kept same = tt

      pub queued_whole : (r : Result V StoreFault) → QueuedSo r → Settles r → new.state.counts.broken ≡ None
      queued_whole (Ok v) kept settled = slots_whole take (slots v) new kept
      queued_whole (Err fault) kept settled = whole_refused (Queue_all take None files) fault old.state new.state (λ h. h) kept.made settled whole

  -- Acting.

  module _ (dest : Address) (ready : ActReady old.state) where
    act_whole : (number : Option ℕ) (new : StoreStand) → StoreKept old (Act_next dest) (Acted_on number) new → new.state.counts.broken ≡ None
    act_whole None new kept = ap (λ (s : StoreState). s.counts.broken) kept.made.1 ∙ whole
    act_whole (Some number) new kept = ap (λ (s : StoreState). s.counts.broken) kept.made.after ∙ whole

    act_seen : (number : Option ℕ) (new : StoreStand) (u : Takes) → StoreKept old (Act_next dest) (Acted_on number) new → Works IsAction (Unit {0}) [] (seen_with old t) (seen_with new u)
    act_seen None new u kept = same_works IsAction (Unit {0}) _ _ (kept_seen Same (Unit {0}) old new _ _ _ _ (act_none dest old new [] [] None None ready (Unit {0}) kept (λ h. act_whole None new kept)))
    act_seen (Some number) new u kept = act_done dest old new _ _ _ _ ready (Unit {0}) number kept (λ h. act_whole (Some number) new kept)

    act_refused : (fault : StoreFault) (new : StoreStand) (u : Takes) → StoreKept old (Act_next dest) (Refuses fault) new → (fault ≡ Disk) ⊎ (new.moment ≡ old.moment) → Works IsAction (SettledBy fault) [] (seen_with old t) (seen_with new u)
    act_refused Disk new u kept same = act_lost dest old new _ _ _ _ ready kept
    act_refused Read new u kept same = absurd kept.made.0
    act_refused Full new u kept same = same_works IsAction (Unit {0}) _ _ (kept_seen Same (Unit {0}) old new _ _ _ _ (refused_kept (Act_next dest) Full old new (λ h. h) kept whole tt (no_moment Full (λ e. cc) same)))
    act_refused NoMemory new u kept same = same_works IsAction (Unit {0}) _ _ (kept_seen Same (Unit {0}) old new _ _ _ _ (refused_kept (Act_next dest) NoMemory old new (λ h. h) kept whole tt (no_moment NoMemory (λ e. cc) same)))

    act_fewer : (number : Option ℕ) (new : StoreStand) → StoreKept old (Act_next dest) (Acted_on number) new → number ≢ None → count_by waits_for_action new.state.stock.state.queue < count_by waits_for_action old.state.stock.state.queue
    act_fewer None new kept some = absurd (some refl)
    act_fewer (Some number) new kept some =
        let next = kept.made.next in
        subst (λ (n : ℕ). n < count_by waits_for_action old.state.stock.state.queue) (sym (ap (λ (s : StoreState). count_by waits_for_action s.stock.state.queue) kept.made.after)) (fewer next.entry.number old.state.stock.state.queue next.entry next.there refl next.waits)

    -- by what the call answers

    abbrev ActsSo : Result (Option ℕ) StoreFault → StoreStand → Type 0
    ActsSo r new = StoreKept old (Act_next dest) (act_answer r) new

    pub acts_works : (r : Result (Option ℕ) StoreFault) (new : StoreStand) (u : Takes) → ActsSo r new → IfErr r (λ fault. (fault ≡ Disk) ⊎ (new.moment ≡ old.moment)) → Works IsAction (Settles r) [] (seen_with old t) (seen_with new u)
    acts_works (Ok number) new u kept same = act_seen number new u kept
    acts_works (Err fault) new u kept same = act_refused fault new u kept same

    pub acts_whole : (r : Result (Option ℕ) StoreFault) (new : StoreStand) → ActsSo r new → Settles r → new.state.counts.broken ≡ None
    acts_whole (Ok number) new kept settled = act_whole number new kept
    acts_whole (Err fault) new kept settled = whole_refused (Act_next dest) fault old.state new.state (λ h. h) kept.made settled whole

    pub acts_left : (r : Result (Option ℕ) StoreFault) (new : StoreStand) (u : Takes) → ActsSo r new → u ≡ t → Settles r → (seen_with new u).memory.left ≡ (seen_with old t).memory.left
    acts_left r new u kept same settled = seen_left new u (acts_whole r new kept settled) same

    pub acts_fewer : (r : Result (Option ℕ) StoreFault) (new : StoreStand) (u : Takes) → ActsSo r new → IfOk r (λ acted. acted ≢ None → (seen_with new u).memory.undone < (seen_with old t).memory.undone)
    acts_fewer (Ok number) new u kept = act_fewer number new kept
    acts_fewer (Err fault) new u kept = tt

  -- Takes as they stand.

  pub tied_seen : AreTakesOf t old.state → StoreTied old.state → Tied (seen_with old t).memory (out_in old.state.content)
  tied_seen are ties = subst (λ (l : List Left). Tied (memory_of old.state l (drawn_as t.drawn t.last)) (out_in old.state.content)) (sym (left_now (map left_of t.left) refl)) (tied_told t old.state are ties)

  pub first_seen : (dest : Address) (from : ℕ) (found : Option TakeLeft) (takes : List TakeName) → takes ≡ t.left → FirstFor dest from found (map left_of takes) → FirstFor dest from found (seen_with old t).memory.left
  first_seen dest from found takes is first = subst (FirstFor dest from found) (sym (left_now (map left_of t.left) refl)) (subst (λ (l : List TakeName). FirstFor dest from found (map left_of l)) is first)

  pub take_bytes : (are : AreTakesOf t old.state) (own : List ℕ) → Has own false (seen_with old t).memory.left → (bytes : List ℕ) → IfTold old.state.content (λ a. bytes ≡ bytes_of (a.takes own)) → (s : Outbound) → out_in old.state.content ≡ Some s → s.takes own ≡ Some bytes
  take_bytes are own has bytes read s tells =
      let told = told_in old.state.content s tells in
      let stands = at_told old.state.content told.0 (λ a. (b : List ℕ) × (a.takes own ≡ Some b)) told.1 (the_one are own false has).stands in
      let here = at_told old.state.content told.0 (λ a. bytes ≡ bytes_of (a.takes own)) told.1 read in
      ap (λ (x : Outbound). x.takes own) (sym told.2) ∙ (stands.1 ∙ ap (λ (b : List ℕ). Some b) (sym (here ∙ ap bytes_of stands.1)))

pub none_left : (dest : Address) (from : ℕ) (b : Option ℕ) (n : ℕ) (takes : List TakeName) → b ≡ Some n → FirstFor dest from None (left_in b takes)
none_left dest from b n takes is = subst (λ (o : Option ℕ). FirstFor dest from None (left_in o takes)) (sym is) tt

pub look_told_some : (o : Option Stored) (path : List ℕ) (stat : DiskStat) → IfTold o (λ a. Some stat ≡ option_map A.stat_of (a.outside path)) → (s : Outbound) → out_in o ≡ Some s → Some (record { size = stat.size; time = stat.time }) ≡ option_map C.stat_of (s.outside path)
look_told_some o path stat h =
    when_told o (λ s. Some (record { size = stat.size; time = stat.time }) ≡ option_map C.stat_of (s.outside path)) (if_map o (λ a. Some stat ≡ option_map A.stat_of (a.outside path)) (λ a. Some (record { size = stat.size; time = stat.time }) ≡ option_map C.stat_of (a.outside path)) (λ a is. look_some (a.outside path) stat is) h)

pub look_told_none : (o : Option Stored) (path : List ℕ) → IfTold o (λ a. None ≡ option_map A.stat_of (a.outside path)) → (s : Outbound) → out_in o ≡ Some s → None ≡ option_map C.stat_of (s.outside path)
look_told_none o path h =
    when_told o (λ s. None ≡ option_map C.stat_of (s.outside path)) (if_map o (λ a. None ≡ option_map A.stat_of (a.outside path)) (λ a. None ≡ option_map C.stat_of (a.outside path)) (λ a is. look_none (a.outside path) is) h)
