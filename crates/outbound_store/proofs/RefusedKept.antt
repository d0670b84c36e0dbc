-- Refusals: what a store keeps stays, and where the disk failed it is broken.
use Rattle.std.proofs.Common.{◌≡◌, ◌≢◌, ◌⊎◌, inl, inr, ℕ, Bool, List, Option, Some, None, Result, Ok, Err, refl, sym, ◌∙◌, ap, arith}
use Rattle.std.specs.Prelude.{IfErr, MatchResult}
use Rattle.ftn_addr.specs.Address.{Address}
use Rattle.node_model.specs.Calls.{Counts}
use Rattle.node_model.specs.declared.store.Staged.{Staged}
use Rattle.node_model.specs.declared.store.StoreFault.{StoreFault}
use Rattle.node_model.specs.declared.store.StoreFault.TheVariants.{Disk, Read, Full, NoMemory}
use Rattle.node_model.specs.StoreStates.{StoreState, StoreStand}
use Rattle.node_model.specs.Stores.{Act_next, IsSourceRead, Refuses, Stage, Stage_copy, StoreAnswer, StoreCall, StoreKept, StoreMade, act_answer, copy_answer}
use Rattle.node_model.proofs.Lists.{none_some}
use Rattle.node_store.specs.Asking.{AskedSo, Asks}
use Rattle.node_store.specs.Stored.{Holding}
use Rattle.node_store.specs.Takes.{Takes}
use Rattle.node_store.specs.Taking as G
use Rattle.node_store.specs.Taking.{Around, DrawsTake, StagesOwn, TookSo}
use Rattle.outbound_take.specs.Stand.{Breaks, Same, SettledBy, TakeStand}
use Rattle.outbound_store.specs.Held.{seen_with}
use Rattle.outbound_store.proofs.SeenKept.{Changes, changes_same, keeps_same}
use Rattle.outbound_store.proofs.StageKept.{whole_refused}

-- where the disk is the same its moment is the same
pub unmoved : {T D : Type 0} (moment : D → ℕ) (r : Result T StoreFault) (a b : D) → IfErr r (λ fault. (fault ≡ Disk) ⊎ (b ≡ a)) → IfErr r (λ fault. (fault ≡ Disk) ⊎ (moment b ≡ moment a))
unmoved moment (Ok x) a b same = tt
unmoved moment (Err fault) a b (inl failed) = inl failed
unmoved moment (Err fault) a b (inr same) = inr (ap moment same)

-- What a refused call keeps that wasn't refused for a failing disk.
refused_same : (call : StoreCall) (fault : StoreFault) (old new : StoreState) → (IsSourceRead call → ⊥) → StoreMade old call (Refuses fault) new → SettledBy fault → new.content ≡ old.content
refused_same call Disk old new unread made settled = absurd settled
refused_same call Read old new unread made settled = absurd (unread made.0)
refused_same call Full old new unread made settled = ap (λ (s : StoreState). s.content) made.1
refused_same call NoMemory old new unread made settled = ap (λ (s : StoreState). s.content) made.1

pub refused_kept : (call : StoreCall) (fault : StoreFault) (old new : StoreStand) → (IsSourceRead call → ⊥) → StoreKept old call (Refuses fault) new → old.state.counts.broken ≡ None → SettledBy fault → new.moment ≡ old.moment → Changes Same (SettledBy fault) old new
refused_kept call fault old new unread kept whole settled same =
    changes_same (SettledBy fault) old new kept.later kept.before (keeps_same old.state.content new.state.content (refused_same call fault old.state new.state unread kept.made settled))
    (λ k d after until image. let never : ⊥ = omega (arith, after, until, same) in absurd never)
    (λ h. kept.now (whole_refused call fault old.state new.state unread kept.made h whole))

-- Where the disk failed the store is broken, and no call answers Read.

broken_with : (c d : Counts) (n : ℕ) → d ≡ record c { faults = d.faults; broken = Some n } → d.broken ≢ None
broken_with c d n is = λ none. none_some (sym none ∙ ap (λ (x : Counts). x.broken) is)

pub call_breaks : (call : StoreCall) (fault : StoreFault) (old : StoreState) (new : StoreStand) (u : Takes) → (IsSourceRead call → ⊥) → StoreMade old call (Refuses fault) new.state → Breaks {T = Unit {0}} (Err fault) (seen_with new u)
call_breaks call Disk old new u unread made = broken_with old.counts new.state.counts new.state.counts.faults made.counts
call_breaks call Read old new u unread made = absurd (unread made.0)
call_breaks call Full old new u unread made = tt
call_breaks call NoMemory old new u unread made = tt

-- by what a call answers
pub calls_break : {T : Type 0} (call : StoreCall) (r : Result T StoreFault) (answer : T → StoreAnswer) (old new : StoreStand) (u : Takes) → (IsSourceRead call → ⊥)
    → MatchResult r (λ x. StoreKept old call (answer x) new) (λ fault. StoreKept old call (Refuses fault) new) → Breaks r (seen_with new u)
calls_break call (Ok x) answer old new u unread kept = tt
calls_break call (Err fault) answer old new u unread kept = call_breaks call fault old.state new u unread kept.made

pub copy_breaks : (path : List ℕ) (r : Result Staged StoreFault) (old new : StoreStand) (u : Takes) → StoreKept old (Stage_copy path) (copy_answer r) new → Breaks r (seen_with new u)
copy_breaks path (Ok staged) old new u kept = tt
copy_breaks path (Err fault) old new u kept = call_breaks (Stage_copy path) fault old.state new u (λ h. h) kept.made

pub act_breaks : (dest : Address) (r : Result (Option ℕ) StoreFault) (old new : StoreStand) (u : Takes) → StoreKept old (Act_next dest) (act_answer r) new → Breaks r (seen_with new u)
act_breaks dest (Ok number) old new u kept = tt
act_breaks dest (Err fault) old new u kept = call_breaks (Act_next dest) fault old.state new u (λ h. h) kept.made

pub own_breaks : (own : List ℕ) (r : Result (ℕ × ℕ) StoreFault) (old new : StoreStand) (u : Takes) → StagesOwn own r old new → Breaks r (seen_with new u)
own_breaks own (Ok staged) old new u stages = tt
own_breaks own (Err fault) old new u stages = let kept = stages.2 in call_breaks (Stage stages.0) fault old.state new u (λ h. h) kept.made

pub ask_breaks : {T : Type 0} (memory : Bool) (fault : StoreFault) (old new : StoreStand) (u : Takes) → Asks {T = T} memory (Err fault) old new → Breaks {T = Unit {0}} (Err fault) (seen_with new u)
ask_breaks {T} memory fault old new u asks = go fault asks.made
  where
    go : (fault : StoreFault) → AskedSo {T = T} memory (Err fault) old.state new.state → Breaks {T = Unit {0}} (Err fault) (seen_with new u)
    go Disk made = broken_with old.state.counts new.state.counts new.state.counts.faults (ap (λ (s : StoreState). s.counts) made.same)
    go Read made = absurd made
    go Full made = tt
    go NoMemory made = tt

pub asks_break : {T : Type 0} (memory : Bool) (r : Result T StoreFault) (old new : StoreStand) (u : Takes) → Asks memory r old new → Breaks r (seen_with new u)
asks_break memory (Ok x) old new u asks = tt
asks_break memory (Err fault) old new u asks = ask_breaks memory fault old new u asks

take_breaks : {T : Type 0} (does : T → Around → Around) (r : Result T StoreFault) (old : StoreState) (new : StoreStand) (u : Takes) → TookSo does r old new.state → Breaks r (seen_with new u)
take_breaks does (Ok x) old new u made = tt
take_breaks does (Err Disk) old new u made = broken_with old.counts new.state.counts new.state.counts.faults (ap (λ (s : StoreState). s.counts) made.same)
take_breaks does (Err Read) old new u made = absurd made
take_breaks does (Err Full) old new u made = absurd made
take_breaks does (Err NoMemory) old new u made = absurd made

pub takes_break : {T : Type 0} (does : T → Around → Around) (r : Result T StoreFault) (old new : StoreStand) (u : Takes) → G.Takes does r old new → Breaks r (seen_with new u)
takes_break does r old new u takes = take_breaks does r old.state new u takes.made

-- only a failing disk refuses them
pub takes_fault : {T : Type 0} (does : T → Around → Around) (r : Result T StoreFault) (old new : StoreState) → TookSo does r old new → IfErr r (λ fault. fault ≡ Disk)
takes_fault does (Ok x) old new made = tt
takes_fault does (Err Disk) old new made = refl
takes_fault does (Err Read) old new made = absurd made
takes_fault does (Err Full) old new made = absurd made
takes_fault does (Err NoMemory) old new made = absurd made

pub draw_breaks : {D : Type 0} (r : Result ℕ StoreFault) (old new : Holding D) (s : TakeStand) → DrawsTake r old new → Breaks r s
draw_breaks (Ok take) old new s draws = tt
draw_breaks (Err Disk) old new s draws = absurd draws
draw_breaks (Err Read) old new s draws = absurd draws
draw_breaks (Err Full) old new s draws = tt
draw_breaks (Err NoMemory) old new s draws = tt
