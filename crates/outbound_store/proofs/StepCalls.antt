-- Each call of the store on a disk is one step of a take-in.
use Rattle.std.proofs.Common.{◌≡◌, ◌⊎◌, inl, inr, ℕ, Bool, false, List, Option, Some, None, option_map, Result, Ok, Err, refl, sym, ◌∙◌, ap, subst, arith, le_refl}
use Rattle.std.specs.Prelude.{MatchResult}
use Rattle.ftn_addr.specs.Address.{Address}
use Rattle.ftn_addr.specs.Counts.{next_count}
use Rattle.ftn_addr.proofs.MomentsGrow.{moments_grew-refl}
use Rattle.disk_model.specs.World.{World}
use Rattle.node_model.specs.Calls.{Counts}
use Rattle.node_model.specs.declared.store.Staged.{Staged}
use Rattle.node_model.specs.declared.store.StoreFault.{StoreFault}
use Rattle.node_model.specs.declared.store.StoreFault.TheVariants.{Disk, Read, Full, NoMemory}
use Rattle.node_model.specs.Stocks.{NewEntry, Stock}
use Rattle.node_model.specs.StoreStates.{Shelf, Stored, StoreState, StoreStand}
use Rattle.node_model.specs.StoreWords.{IsNewBatch}
use Rattle.node_model.specs.Stores.{Act_next, Acted_on, Copied_as, IsShelf, IsSourceRead, OpensShelf, Queue_all, Refuses, Stage, Stage_copy, Staged_as, StoreAnswer, StoreCall, StoreKept, TellsOn, act_answer, copy_answer}
use Rattle.node_store.specs.Asking.{AskedSo, Asks}
use Rattle.node_store.specs.Stored.{Holding, stand_of}
use Rattle.node_store.specs.Taking as G
use Rattle.node_store.specs.Taking.{Around, DrawsTake, MadeOf, StagesOwn, TookSo, around, made_so, stored_around, with_around}
use Rattle.take_steps.specs.Steps.{Failed, IsMade, KeepsState, Made, Broke, Refused, Stayed, Broke_quietly, Had_no_memory, Had_no_number, Quiet, SameNode, StepFrom, StoreStep, TakesIn}
use Rattle.take_steps.specs.declared.wanting.Wanting.{Wanting}
use Rattle.take_steps.specs.declared.wanting.Wanting.TheVariants.{Places, Memory}
use Rattle.outbound_store.specs.Calls.{CallOf, NowIsTold, want_in}
use Rattle.outbound_store.specs.GoesOn.{GoesOn}
use Rattle.outbound_store.proofs.AskKept.{asked_content}
use Rattle.outbound_store.proofs.GoesOnCalls.{act_goes_on, asks_go_on, copy_goes_on, draws_go_on, own_goes_on, queued_goes_on, takes_go_on}
use Rattle.outbound_store.proofs.GoesOnLemmas.{goes_on_none}

-- What stays in a quiet call.

-- a state that has other content and other counts
same_but : (old new : StoreState) (content : Option Stored) (counts : Counts) → new ≡ record old { content = content; counts = counts } → new ≡ record old { content = new.content; counts = new.counts }
same_but old new content counts is = subst (λ (x : StoreState). x ≡ record old { content = x.content; counts = x.counts }) (sym is) refl

same_node : (o n : Option Stored) → n ≡ o → TellsOn SameNode o n
same_node o n same = subst (TellsOn SameNode o) (sym same) (go o)
  where
    go : (o : Option Stored) → TellsOn SameNode o o
    go None = tt
    go (Some a) = record { stock = refl; log = refl }

-- takes and files of other programs changed
node_around : (f : Around → Around) (o n : Option Stored) → n ≡ option_map (λ (a : Stored). stored_around (f (around a)) a) o → TellsOn SameNode o n
node_around f o n is = subst (TellsOn SameNode o) (sym is) (go o)
  where
    go : (o : Option Stored) → TellsOn SameNode o (option_map (λ (a : Stored). stored_around (f (around a)) a) o)
    go None = tt
    go (Some a) = record { stock = refl; log = refl }

shelf_keeps : (o n : Option Stored) (x : Shelf) → TellsOn SameNode o n → IsShelf n x → KeepsState o x
shelf_keeps None None x same is = absurd is
shelf_keeps None (Some b) x same is = absurd same
shelf_keeps (Some a) None x same is = absurd is
shelf_keeps (Some a) (Some b) x same is = ap (λ (s : Shelf). s.state) is ∙ ap (λ (s : Stock). s.state) same.stock

opens_weaker : (P Q : Shelf → Type 0) → ((x : Shelf) → P x → Q x) → (d : Option Shelf) → OpensShelf P d → OpensShelf Q d
opens_weaker P Q leads None shut = absurd shut
opens_weaker P Q leads (Some x) opens = leads x opens

abbrev SameCounts : Counts → Counts → Type 0
SameCounts a b = (b ≡ a) ⊎ Failed a b

quiet_from : (old new : StoreStand) (want : Option Wanting) → Quiet old new → SameCounts old.state.counts new.state.counts → StepFrom want old new want
quiet_from old new None quiet (inl same) = Stayed quiet same
quiet_from old new None quiet (inr failed) = Broke_quietly quiet failed
quiet_from old new (Some want) quiet counts = (refl, quiet, counts)

-- What is called, of a store that isn't broken.

-- whatever was wanted before, it is wanted after it
quiet_call : (want : Option Wanting) (old new : StoreStand) → old.state.counts.broken ≡ None → GoesOn old new → Quiet old new → SameCounts old.state.counts new.state.counts → CallOf old want new want
quiet_call want old new whole goes quiet counts = record { goes_on = goes; stepped = record { whole = whole; step = quiet_from old new want quiet counts } }

-- No moment passed, and the content stayed.
unmoved_quiet : (old : StoreStand) (state : StoreState) (counts : Counts) → NowIsTold old → state ≡ record old.state { counts = counts } → Quiet old (record old { state = state })
unmoved_quiet old state counts now is = record {
  told = same_node old.state.content state.content content;
  same = same_but old.state state old.state.content counts is;
  moments = moments_grew-refl old.moment old.images;
  since = λ k d after until image. let never : ⊥ = omega (arith, after, until) in absurd never;
  now = λ whole d image. subst (λ (o : Option Stored). OpensShelf (IsShelf o) d) (sym content) (now d image);
}
  where
    content : state.content ≡ old.state.content
    content = ap (λ (s : StoreState). s.content) is

-- nothing is done
pub call_none : (want : Option Wanting) (s : StoreStand) → s.state.counts.broken ≡ None → NowIsTold s → CallOf s want s want
call_none want s whole now = quiet_call want s s whole (goes_on_none s) (unmoved_quiet s s.state s.state.counts now refl) (inl refl)

-- nothing was wanted before
call_of : (was now want : Option Wanting) (old new : StoreStand) → was ≡ None → now ≡ want → old.state.counts.broken ≡ None → GoesOn old new → StoreStep old new want → CallOf old was new now
call_of was now want old new none is whole goes step = record {
  goes_on = goes;
  stepped = record { whole = whole; step = subst (λ (w : Option Wanting). StepFrom w old new now) (sym none) (subst (λ (w : Option Wanting). StoreStep old new w) (sym is) step) };
}

-- Questions.

asked_but : {T : Type 0} (memory : Bool) (r : Result T StoreFault) (a b : StoreState) → AskedSo memory r a b → b ≡ record a { content = b.content; counts = b.counts }
asked_but memory (Ok x) a b made = same_but a b a.content a.counts made
asked_but memory (Err Disk) a b made = same_but a b a.content _ made.same
asked_but memory (Err Read) a b made = absurd made
asked_but memory (Err Full) a b made = absurd made
asked_but memory (Err NoMemory) a b made = same_but a b a.content a.counts made.1

pub asks_quiet : {T : Type 0} (memory : Bool) (r : Result T StoreFault) (old new : StoreStand) → Asks memory r old new → Quiet old new
asks_quiet memory r old new asks = record {
  told = same_node old.state.content new.state.content content;
  same = asked_but memory r old.state new.state asks.made;
  moments = asks.grew;
  since = λ k d after until image. opens_weaker (IsShelf old.state.content) (KeepsState old.state.content) (λ x is. shelf_keeps old.state.content old.state.content x (same_node old.state.content old.state.content refl) is) d (asks.since k d (omega (arith, after)) until image);
  now = λ whole d image. subst (λ (o : Option Stored). OpensShelf (IsShelf o) d) (sym content) (asks.since new.moment d asks.grew.later (le_refl new.moment) image);
}
  where
    content : new.state.content ≡ old.state.content
    content = asked_content memory r old.state new.state asks.made

asks_step : {T : Type 0} (memory : Bool) (r : Result T StoreFault) (old new : StoreStand) → Asks memory r old new → StoreStep old new (want_in r)
asks_step memory (Ok x) old new asks = Stayed (asks_quiet memory (Ok x) old new asks) (ap (λ (s : StoreState). s.counts) asks.made)
asks_step memory (Err Disk) old new asks = let made = asks.made in Broke_quietly (asks_quiet memory (Err Disk) old new asks) (record { rose = made.rose; is = ap (λ (s : StoreState). s.counts) made.same })
asks_step memory (Err Read) old new asks = absurd asks.made
asks_step memory (Err Full) old new asks = absurd asks.made
asks_step memory (Err NoMemory) old new asks = let made = asks.made in Had_no_memory (asks_quiet memory (Err NoMemory) old new asks) (ap (λ (s : StoreState). s.counts) made.1)

-- where it takes no memory
looked_counts : {T : Type 0} (r : Result T StoreFault) (a b : StoreState) → AskedSo false r a b → SameCounts a.counts b.counts
looked_counts (Ok x) a b made = inl (ap (λ (s : StoreState). s.counts) made)
looked_counts (Err Disk) a b made = inr (record { rose = made.rose; is = ap (λ (s : StoreState). s.counts) made.same })
looked_counts (Err Read) a b made = absurd made
looked_counts (Err Full) a b made = absurd made
looked_counts (Err NoMemory) a b made = inl (ap (λ (s : StoreState). s.counts) made.1)

pub look_call : {T : Type 0} (want : Option Wanting) (r : Result T StoreFault) (old new : StoreStand) → old.state.counts.broken ≡ None → Asks false r old new → CallOf old want new want
look_call want r old new whole asks = quiet_call want old new whole (asks_go_on false r old new asks) (asks_quiet false r old new asks) (looked_counts r old.state new.state asks.made)

-- Takes, and marks.

took_but : {T : Type 0} (does : T → Around → Around) (r : Result T StoreFault) (a b : StoreState) → TookSo does r a b → b ≡ record a { content = b.content; counts = b.counts }
took_but does (Ok x) a b made = same_but a b _ a.counts made
took_but does (Err Disk) a b made = same_but a b _ _ made.same
took_but does (Err Read) a b made = absurd made
took_but does (Err Full) a b made = absurd made
took_but does (Err NoMemory) a b made = absurd made

took_node : {T : Type 0} (does : T → Around → Around) (r : Result T StoreFault) (a b : StoreState) → TookSo does r a b → TellsOn SameNode a.content b.content
took_node does (Ok x) a b made = node_around (does x) a.content b.content (ap (λ (s : StoreState). s.content) made)
took_node does (Err Disk) a b made = node_around (made_so does made.made) a.content b.content (ap (λ (s : StoreState). s.content) made.same)
took_node does (Err Read) a b made = absurd made
took_node does (Err Full) a b made = absurd made
took_node does (Err NoMemory) a b made = absurd made

took_counts : {T : Type 0} (does : T → Around → Around) (r : Result T StoreFault) (a b : StoreState) → TookSo does r a b → SameCounts a.counts b.counts
took_counts does (Ok x) a b made = inl (ap (λ (s : StoreState). s.counts) made)
took_counts does (Err Disk) a b made = inr (record { rose = made.rose; is = ap (λ (s : StoreState). s.counts) made.same })
took_counts does (Err Read) a b made = absurd made
took_counts does (Err Full) a b made = absurd made
took_counts does (Err NoMemory) a b made = absurd made

takes_quiet : {T : Type 0} (does : T → Around → Around) (r : Result T StoreFault) (old new : StoreStand) → G.Takes does r old new → Quiet old new
takes_quiet {T} does r old new takes = record {
  told = took_node does r old.state new.state takes.made;
  same = took_but does r old.state new.state takes.made;
  moments = takes.grew;
  since = λ k d after until image. opens_weaker (λ x. (made : Option T) × MadeOf r made × IsShelf (with_around (made_so does made) old.state).content x) (KeepsState old.state.content) passed d (takes.since k d (omega (arith, after)) until image);
  now = takes.now;
}
  where
    passed : (x : Shelf) → ((made : Option T) × MadeOf r made × IsShelf (with_around (made_so does made) old.state).content x) → KeepsState old.state.content x
    passed x (made, of_it, shelf) = shelf_keeps old.state.content (with_around (made_so does made) old.state).content x (node_around (made_so does made) old.state.content (with_around (made_so does made) old.state).content refl) shelf

pub takes_call : {T : Type 0} (want : Option Wanting) (does : T → Around → Around) (r : Result T StoreFault) (old new : StoreStand) → old.state.counts.broken ≡ None → G.Takes does r old new → CallOf old want new want
takes_call want does r old new whole takes = quiet_call want old new whole (takes_go_on does r old new takes) (takes_quiet does r old new takes) (took_counts does r old.state new.state takes.made)

-- Numbers that are drawn.

module _ {D : Type 0} (tells : Bool) (content : D → World) (faults moment : D → ℕ) (images : D → ℕ → World → Type 0) where
  abbrev St : Holding D → StoreStand
  St s = stand_of tells content faults moment images s

  draws_step : (r : Result ℕ StoreFault) (old new : Holding D) → NowIsTold (St old) → DrawsTake r old new → StoreStep (St old) (St new) (want_in r)
  draws_step (Ok take) old new now draws = subst (λ (x : Holding D). StoreStep (St old) (St x) None) (sym draws.1) (Stayed (unmoved_quiet (St old) (St old).state (St old).state.counts now refl) refl)
  draws_step (Err Disk) old new now draws = absurd draws
  draws_step (Err Read) old new now draws = absurd draws
  draws_step (Err Full) old new now draws = subst (λ (x : Holding D). StoreStep (St old) (St x) (Some Places)) (sym draws.1) (Had_no_number (unmoved_quiet (St old) _ (record (St old).state.counts { fulls = next_count (St old).state.counts.fulls }) now refl) refl)
  draws_step (Err NoMemory) old new now draws = subst (λ (x : Holding D). StoreStep (St old) (St x) (Some Memory)) (sym draws) (Had_no_memory (unmoved_quiet (St old) (St old).state (St old).state.counts now refl) refl)

  pub draws_call : (was now : Option Wanting) (r : Result ℕ StoreFault) (old new : Holding D) → was ≡ None → now ≡ want_in r → old.memory.broken ≡ None → NowIsTold (St old) → DrawsTake r old new → CallOf (St old) was (St new) now
  draws_call was now r old new none is whole told draws = call_of was now (want_in r) (St old) (St new) none is whole (draws_go_on tells content faults moment images r old new draws) (draws_step r old new told draws)

-- Calls of the store.

refused_step : (T : Type 0) (call : StoreCall) (fault : StoreFault) (old new : StoreStand) → TakesIn call old.state → (IsSourceRead call → ⊥) → StoreKept old call (Refuses fault) new → StoreStep old new (want_in {T = T} (Err fault))
refused_step T call Disk old new takes unread kept = Broke call takes kept
refused_step T call Read old new takes unread kept = absurd (unread kept.made.0)
refused_step T call Full old new takes unread kept = Refused call Places takes kept
refused_step T call NoMemory old new takes unread kept = Refused call Memory takes kept

copy_step : (path : List ℕ) (r : Result Staged StoreFault) (old new : StoreStand) → StoreKept old (Stage_copy path) (copy_answer r) new → StoreStep old new (want_in r)
copy_step path (Ok staged) old new kept = Made (Stage_copy path) (Copied_as staged) tt tt kept
copy_step path (Err fault) old new kept = refused_step Staged (Stage_copy path) fault old new tt (λ h. h) kept

own_step : (own : List ℕ) (r : Result (ℕ × ℕ) StoreFault) (old new : StoreStand) → StagesOwn own r old new → StoreStep old new (want_in r)
own_step own (Ok staged) old new stages = Made (Stage stages.0) (Staged_as staged.0) tt tt stages.3
own_step own (Err fault) old new stages = refused_step (ℕ × ℕ) (Stage stages.0) fault old new tt (λ h. h) stages.2

queued_step : {T : Type 0} (take : Option ℕ) (files : List NewEntry) (r : Result T StoreFault) (answer : T → StoreAnswer) (old new : StoreStand) → IsNewBatch take None files old.state → ((x : T) → IsMade (answer x))
    → MatchResult r (λ x. StoreKept old (Queue_all take None files) (answer x) new) (λ fault. StoreKept old (Queue_all take None files) (Refuses fault) new) → StoreStep old new (want_in r)
queued_step take files (Ok x) answer old new batch made kept = Made (Queue_all take None files) (answer x) batch (made x) kept
queued_step {T} take files (Err fault) answer old new batch made kept = refused_step T (Queue_all take None files) fault old new batch (λ h. h) kept

act_step : (dest : Address) (r : Result (Option ℕ) StoreFault) (old new : StoreStand) → StoreKept old (Act_next dest) (act_answer r) new → StoreStep old new (want_in r)
act_step dest (Ok number) old new kept = Made (Act_next dest) (Acted_on number) tt tt kept
act_step dest (Err fault) old new kept = refused_step (Option ℕ) (Act_next dest) fault old new tt (λ h. h) kept

-- Where nothing was wanted before, and then what the answer tells.

module _ (was now : Option Wanting) (old new : StoreStand) (none : was ≡ None) (whole : old.state.counts.broken ≡ None) where
  pub asks_call : {T : Type 0} (memory : Bool) (r : Result T StoreFault) → now ≡ want_in r → Asks memory r old new → CallOf old was new now
  asks_call memory r is asks = call_of was now (want_in r) old new none is whole (asks_go_on memory r old new asks) (asks_step memory r old new asks)

  pub copy_call : (path : List ℕ) (r : Result Staged StoreFault) → now ≡ want_in r → StoreKept old (Stage_copy path) (copy_answer r) new → CallOf old was new now
  copy_call path r is kept = call_of was now (want_in r) old new none is whole (copy_goes_on path (copy_answer r) old new kept) (copy_step path r old new kept)

  pub own_call : (own : List ℕ) (r : Result (ℕ × ℕ) StoreFault) → now ≡ want_in r → StagesOwn own r old new → CallOf old was new now
  own_call own r is stages = call_of was now (want_in r) old new none is whole (own_goes_on own r old new stages) (own_step own r old new stages)

  pub queued_call : {T : Type 0} (take : Option ℕ) (files : List NewEntry) (r : Result T StoreFault) (answer : T → StoreAnswer) → now ≡ want_in r → IsNewBatch take None files old.state → ((x : T) → IsMade (answer x))
      → MatchResult r (λ x. StoreKept old (Queue_all take None files) (answer x) new) (λ fault. StoreKept old (Queue_all take None files) (Refuses fault) new) → CallOf old was new now
  queued_call take files r answer is batch made kept = call_of was now (want_in r) old new none is whole (queued_goes_on take files r answer old new kept) (queued_step take files r answer old new batch made kept)

  pub act_call : (dest : Address) (r : Result (Option ℕ) StoreFault) → now ≡ want_in r → StoreKept old (Act_next dest) (act_answer r) new → CallOf old was new now
  act_call dest r is kept = call_of was now (want_in r) old new none is whole (act_goes_on dest (act_answer r) old new kept) (act_step dest r old new kept)
