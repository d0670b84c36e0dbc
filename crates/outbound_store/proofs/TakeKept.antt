-- Calls that change the takes that stand and the files of other programs.
use Rattle.std.proofs.Common.{◌≡◌, ◌≢◌, ◌⊎◌, inl, inr, ℕ, Bool, true, false, List, Option, Some, None, option_map, Result, Ok, Err, IsSome, refl, sym, ◌∙◌, ap, subst, arith}
use Rattle.std.specs.Prelude.{IfOk, count_by, is_none, if◌then◌else◌}
use Rattle.std.specs.Str.{bytes_eq}
use Rattle.std.proofs.lemmas.Bool.{cases_Bool}
use Rattle.std.proofs.lemmas.Slice.Eq.{bytes_eq-Decides}
use Rattle.disk_model.specs.declared.answers.Marking.{Marking}
use Rattle.disk_model.specs.declared.answers.Marking.TheVariants.{Made as MarkMade, Exists as MarkExists}
use Rattle.disk_model.specs.declared.answers.Moved.{Moved}
use Rattle.disk_model.specs.declared.answers.Moved.TheVariants.{Done, Absent}
use Rattle.node_model.specs.declared.store.StoreFault.{StoreFault}
use Rattle.node_model.specs.declared.store.StoreFault.TheVariants.{Disk, Read, Full, NoMemory}
use Rattle.node_model.specs.Outside.{OutFile, put_at}
use Rattle.node_model.specs.SendRows.{waits_for_action}
use Rattle.node_model.specs.StoreStates.{IfTold, Shelf, Stored, StoreState, StoreStand}
use Rattle.node_model.specs.Stores.{IsShelf, TellsOn}
use Rattle.node_model.proofs.Lists.{none_some, off}
use Rattle.node_store.specs.OutboundMarks.{HasMarked, has_text, mark_gone, mark_made, marked_so}
use Rattle.node_store.specs.Taking.{Around, HasMoved, MadeOf, Takes, TookSo, around, made_so, put_take, stored_around, take_gone, taken_so, with_around}
use Rattle.outbound_model.specs.Outbound.{Outbound, Puts, is_recorded, outbound_of}
use Rattle.outbound_model.specs.OwnNames.{number_of}
use Rattle.outbound_model.specs.Steps.{Drops, Marks, Moves, Unmarks}
use Rattle.outbound_model.proofs.Putting.{puts}
use Rattle.outbound_take.specs.Calls.{MarksAt, TakesFile, UnmarksAt}
use Rattle.outbound_take.specs.Stand.{Settles, Tried}
use Rattle.outbound_store.proofs.SeenKept.{Changes, StepAt, if_weaker, out_of, told_opens}

-- what such a change makes of the outbound
abbrev pub turned : (Around → Around) → Stored → Outbound
turned f a = record { queue = a.stock.state.queue; recorded = a.recorded; takes = (f (around a)).takes; outside = (f (around a)).outside }

around_shelf : (f : Around → Around) (o : Option Stored) (x : Shelf) → IsShelf (option_map (λ (a : Stored). stored_around (f (around a)) a) o) x → IfTold o (λ a. outbound_of x ≡ turned f a)
around_shelf f None x is = tt
around_shelf f (Some a) x is = ap outbound_of is

if_both : (o : Option Stored) (P Q R : Stored → Type 0) → ((a : Stored) → P a → Q a → R a) → IfTold o P → IfTold o Q → IfTold o R
if_both None P Q R f p q = tt
if_both (Some a) P Q R f p q = f a p q

tells_after : (P : Stored → Stored → Type 0) (f : Around → Around) (o n : Option Stored) → n ≡ option_map (λ (a : Stored). stored_around (f (around a)) a) o → IfTold o (λ a. P a (stored_around (f (around a)) a)) → TellsOn P o n
tells_after P f o n is h = subst (TellsOn P o) (sym is) (go o h)
  where
    go : (o : Option Stored) → IfTold o (λ a. P a (stored_around (f (around a)) a)) → TellsOn P o (option_map (λ (a : Stored). stored_around (f (around a)) a) o)
    go None h = tt
    go (Some a) h = h

-- What each answer does is such a step, or nothing; and what was answered was done.
pub record Stepping {T : Type 0} (does : T → Around → Around) (step : T → Outbound → Outbound → Type 0) (r : Result T StoreFault) (old : StoreState) : Type 0 where
  pub may : (x : T) → IfTold old.content (λ a. StepAt (step x) (out_of a) (turned (does x) a))
  pub done : IfOk r (λ x. IfTold old.content (λ a. step x (out_of a) (turned (does x) a)))

module _ {T : Type 0} (does : T → Around → Around) (step : T → Outbound → Outbound → Type 0) (old new : StoreStand) (whole : old.state.counts.broken ≡ None) where
  answered : (x : T) → Stepping does step (Ok x) old.state → Takes does (Ok x) old new → Changes (step x) (Unit {0}) old new
  answered x steps takes = record {
    later = takes.grew.later;
    before = takes.grew.before;
    tells = tells_after (λ a b. StepAt (step x) (out_of a) (out_of b)) (does x) old.state.content new.state.content content (if_weaker old.state.content (λ a. step x (out_of a) (turned (does x) a)) (λ a. StepAt (step x) (out_of a) (turned (does x) a)) (λ a h. inr h) steps.done);
    since = λ k d after until image. told_opens old.state.content (λ shelf. (made : Option T) × MadeOf (Ok x) made × IsShelf (with_around (made_so does made) old.state).content shelf) (λ a y. StepAt (step x) (out_of a) (outbound_of y)) passed d (takes.since k d (omega (arith, after)) until image);
    ends = λ h. tells_after (λ a b. step x (out_of a) (out_of b)) (does x) old.state.content new.state.content content steps.done;
    now = λ h. takes.now (ap (λ (s : StoreState). s.counts.broken) takes.made ∙ whole);
  }
    where
      content : new.state.content ≡ option_map (λ (a : Stored). stored_around (does x (around a)) a) old.state.content
      content = ap (λ (s : StoreState). s.content) takes.made

      passed : (y : Shelf) → ((made : Option T) × MadeOf (Ok x) made × IsShelf (with_around (made_so does made) old.state).content y) → IfTold old.state.content (λ a. StepAt (step x) (out_of a) (outbound_of y))
      passed y (None, of_it, shelf) = if_weaker old.state.content (λ a. outbound_of y ≡ out_of a) (λ a. StepAt (step x) (out_of a) (outbound_of y)) (λ a e. inl e) (around_shelf (λ a. a) old.state.content y shelf)
      passed y (Some z, of_it, shelf) =
          if_both old.state.content (λ a. outbound_of y ≡ turned (does z) a) (λ a. step x (out_of a) (turned (does x) a)) (λ a. StepAt (step x) (out_of a) (outbound_of y))
          (λ a e h. inr (subst (step x (out_of a)) (sym (e ∙ ap (λ (w : T). turned (does w) a) of_it)) h)) (around_shelf (does z) old.state.content y shelf) steps.done

  failed : Stepping does step (Err Disk) old.state → Takes {T = T} does (Err Disk) old new → Changes (Tried {T = T} (Err Disk) step) ⊥ old new
  failed steps takes = record {
    later = takes.grew.later;
    before = takes.grew.before;
    tells = made takes.made.made (ap (λ (s : StoreState). s.content) takes.made.same);
    since = λ k d after until image. told_opens old.state.content (λ shelf. (made : Option T) × MadeOf {T = T} (Err Disk) made × IsShelf (with_around (made_so does made) old.state).content shelf) (λ a y. StepAt (Tried {T = T} (Err Disk) step) (out_of a) (outbound_of y)) passed d (takes.since k d (omega (arith, after)) until image);
    ends = λ h. absurd h;
    now = λ h. absurd h;
  }
    where
      wider : (x : T) (s t : Outbound) → StepAt (step x) s t → StepAt (Tried {T = T} (Err Disk) step) s t
      wider x s t (inl same) = inl same
      wider x s t (inr h) = inr (inr (x, h))

      made : (m : Option T) → new.state.content ≡ (with_around (made_so does m) old.state).content → TellsOn (λ a b. StepAt (Tried {T = T} (Err Disk) step) (out_of a) (out_of b)) old.state.content new.state.content
      made None is = tells_after (λ a b. StepAt (Tried {T = T} (Err Disk) step) (out_of a) (out_of b)) (λ a. a) old.state.content new.state.content is (each old.state.content)
        where
          each : (o : Option Stored) → IfTold o (λ a. StepAt (Tried {T = T} (Err Disk) step) (out_of a) (turned (λ b. b) a))
          each None = tt
          each (Some a) = inl refl
      made (Some x) is =
          tells_after (λ a b. StepAt (Tried {T = T} (Err Disk) step) (out_of a) (out_of b)) (does x) old.state.content new.state.content is
          (if_weaker old.state.content (λ a. StepAt (step x) (out_of a) (turned (does x) a)) (λ a. StepAt (Tried {T = T} (Err Disk) step) (out_of a) (turned (does x) a)) (λ a h. wider x (out_of a) (turned (does x) a) h) (steps.may x))

      passed : (y : Shelf) → ((made : Option T) × MadeOf {T = T} (Err Disk) made × IsShelf (with_around (made_so does made) old.state).content y) → IfTold old.state.content (λ a. StepAt (Tried {T = T} (Err Disk) step) (out_of a) (outbound_of y))
      passed y (None, of_it, shelf) = if_weaker old.state.content (λ a. outbound_of y ≡ out_of a) (λ a. StepAt (Tried {T = T} (Err Disk) step) (out_of a) (outbound_of y)) (λ a e. inl e) (around_shelf (λ a. a) old.state.content y shelf)
      passed y (Some z, of_it, shelf) =
          if_both old.state.content (λ a. outbound_of y ≡ turned (does z) a) (λ a. StepAt (step z) (out_of a) (turned (does z) a)) (λ a. StepAt (Tried {T = T} (Err Disk) step) (out_of a) (outbound_of y))
          (λ a e h. subst (StepAt (Tried {T = T} (Err Disk) step) (out_of a)) (sym e) (wider z (out_of a) (turned (does z) a) h)) (around_shelf (does z) old.state.content y shelf) (steps.may z)

  pub takes_kept : (r : Result T StoreFault) → Stepping does step r old.state → Takes does r old new → Changes (Tried r step) (Settles r) old new
  takes_kept (Ok x) steps takes = answered x steps takes
  takes_kept (Err Disk) steps takes = failed steps takes
  takes_kept (Err Read) steps takes = absurd takes.made
  takes_kept (Err Full) steps takes = absurd takes.made
  takes_kept (Err NoMemory) steps takes = absurd takes.made

-- What is in memory.

pub takes_whole : {T : Type 0} (does : T → Around → Around) (r : Result T StoreFault) (old new : StoreState) → TookSo does r old new → Settles r → old.counts.broken ≡ None → new.counts.broken ≡ None
takes_whole does (Ok x) old new made settled whole = ap (λ (s : StoreState). s.counts.broken) made ∙ whole
takes_whole does (Err Disk) old new made settled whole = absurd settled
takes_whole does (Err Read) old new made settled whole = absurd made
takes_whole does (Err Full) old new made settled whole = absurd made
takes_whole does (Err NoMemory) old new made settled whole = absurd made

pub takes_actions : {T : Type 0} (does : T → Around → Around) (r : Result T StoreFault) (old new : StoreState) → TookSo does r old new → Settles r → count_by waits_for_action new.stock.state.queue ≡ count_by waits_for_action old.stock.state.queue
takes_actions does (Ok x) old new made settled = ap (λ (s : StoreState). count_by waits_for_action s.stock.state.queue) made
takes_actions does (Err Disk) old new made settled = absurd settled
takes_actions does (Err Read) old new made settled = absurd made
takes_actions does (Err Full) old new made settled = absurd made
takes_actions does (Err NoMemory) old new made settled = absurd made

-- Taking a file.

-- a take of that number is new, where this is kept
pub record IsNewTake (own : List ℕ) (a : Stored) : Type 0 where
  pub unrecorded : is_recorded (number_of own) (out_of a) ≡ false
  pub apart : (name : List ℕ) → number_of name ≡ number_of own → a.takes name ≡ None

a_file : (o : Option OutFile) → (o ≡ None) ⊎ ((f : OutFile) × (o ≡ Some f))
a_file None = inl refl
a_file (Some f) = inr (f, refl)

-- putting what stands there changes nothing
put_same : {X : Type 0} (name : List ℕ) (file : Option X) (old : List ℕ → Option X) → old name ≡ file → (λ at. if bytes_eq at name then file else old at) ≡ old
put_same {X} name file old is = λ i at. go at (bytes_eq at name) refl i
  where
    go : (at : List ℕ) (b : Bool) → bytes_eq at name ≡ b → (if b then file else old at) ≡ old at
    go at true same = sym (ap old ((bytes_eq-Decides at name).0 same) ∙ is)
    go at false other = refl

moves : (path own : List ℕ) (a : Stored) (f : OutFile) → IsNewTake own a → a.outside path ≡ Some f → Moves path own f.bytes (out_of a) (turned (taken_so path own Done) a)
moves path own a f fresh there = record {
  file = f;
  was = there;
  bytes_are = refl;
  unrecorded = fresh.unrecorded;
  apart = fresh.apart;
  gone = puts path None a.outside;
  here = subst (λ (o : Option OutFile). Puts own (Some f.bytes) a.takes (put_take own (option_map (λ (g : OutFile). g.bytes) o) a.takes)) (sym there) (puts own (Some f.bytes) a.takes);
  queue = refl;
  recorded = refl;
}

-- a file that isn't there is no take
unmoved : (path own : List ℕ) (a : Stored) → IsNewTake own a → a.outside path ≡ None → turned (taken_so path own Done) a ≡ out_of a
unmoved path own a fresh none = λ i. record {
  queue = a.stock.state.queue;
  recorded = a.recorded;
  takes = takes i;
  outside = put_same path None a.outside none i;
}
  where
    takes : put_take own (option_map (λ (f : OutFile). f.bytes) (a.outside path)) a.takes ≡ a.takes
    takes = ap (λ (o : Option OutFile). put_take own (option_map (λ (f : OutFile). f.bytes) o) a.takes) none ∙ put_same own None a.takes (fresh.apart own refl)

pub file_steps : (path own : List ℕ) (r : Result Moved StoreFault) (old : StoreState) → IfTold old.content (IsNewTake own) → IfOk r (λ moved. IfTold old.content (λ a. HasMoved moved (a.outside path))) → Stepping (taken_so path own) (TakesFile path own) r old
file_steps path own r old fresh told = record { may = may; done = done r told }
  where
    one : (a : Stored) → IsNewTake own a → StepAt (TakesFile path own Done) (out_of a) (turned (taken_so path own Done) a)
    one a new = elim (a_file (a.outside path)) [
      | inl none ↦ inl (unmoved path own a new none)
      | inr found ↦ inr (found.0.bytes, moves path own a found.0 new found.1)
    ]

    may : (x : Moved) → IfTold old.content (λ a. StepAt (TakesFile path own x) (out_of a) (turned (taken_so path own x) a))
    may Done = if_weaker old.content (IsNewTake own) (λ a. StepAt (TakesFile path own Done) (out_of a) (turned (taken_so path own Done) a)) one fresh
    may Absent = if_weaker old.content (IsNewTake own) (λ a. StepAt (TakesFile path own Absent) (out_of a) (turned (taken_so path own Absent) a)) (λ a new. inl refl) fresh

    some : (a : Stored) → IsNewTake own a → IsSome (a.outside path) → TakesFile path own Done (out_of a) (turned (taken_so path own Done) a)
    some a new is = elim (a_file (a.outside path)) [
      | inl none ↦ off (sym (subst IsSome none is))
      | inr found ↦ (found.0.bytes, moves path own a found.0 new found.1)
    ]

    done : (r : Result Moved StoreFault) → IfOk r (λ moved. IfTold old.content (λ a. HasMoved moved (a.outside path))) → IfOk r (λ x. IfTold old.content (λ a. TakesFile path own x (out_of a) (turned (taken_so path own x) a)))
    done (Ok Done) told = if_both old.content (IsNewTake own) (λ a. IsSome (a.outside path)) (λ a. TakesFile path own Done (out_of a) (turned (taken_so path own Done) a)) some fresh told
    done (Ok Absent) told = if_weaker old.content (λ a. a.outside path ≡ None) (λ a. TakesFile path own Absent (out_of a) (turned (taken_so path own Absent) a)) (λ a none. (none, refl)) told
    done (Err fault) told = tt

-- Removing a take.

pub drop_steps : (own : List ℕ) (r : Result (Unit {0}) StoreFault) (old : StoreState) → IfTold old.content (λ a. is_recorded (number_of own) (out_of a) ≡ true) → Stepping (take_gone own) (λ _. Drops own) r old
drop_steps own r old was = record { may = λ x. if_weaker old.content (λ a. is_recorded (number_of own) (out_of a) ≡ true) (λ a. StepAt (Drops own) (out_of a) (turned (take_gone own tt) a)) (λ a h. inr (one a h)) was; done = done r }
  where
    one : (a : Stored) → is_recorded (number_of own) (out_of a) ≡ true → Drops own (out_of a) (turned (take_gone own tt) a)
    one a h = record { was = h; gone = puts own None a.takes; queue = refl; recorded = refl; outside = refl }

    done : (r : Result (Unit {0}) StoreFault) → IfOk r (λ x. IfTold old.content (λ a. Drops own (out_of a) (turned (take_gone own x) a)))
    done (Ok x) = if_weaker old.content (λ a. is_recorded (number_of own) (out_of a) ≡ true) (λ a. Drops own (out_of a) (turned (take_gone own x) a)) one was
    done (Err fault) = tt

-- Marks.

each_told : (o : Option Stored) (P : Stored → Type 0) → ((a : Stored) → P a) → IfTold o P
each_told None P f = tt
each_told (Some a) P f = f a

marks : (path text : List ℕ) (time : ℕ) (a : Stored) → a.outside path ≡ None → MarksAt path text MarkMade (out_of a) (turned (marked_so path text time MarkMade) a)
marks path text time a free = subst (λ (b : Around). Marks path text (out_of a) (record { queue = a.stock.state.queue; recorded = a.recorded; takes = b.takes; outside = b.outside })) (sym made)
    (record { time = time; free = free; here = puts path (Some (record { bytes = text; time = time })) a.outside; queue = refl; recorded = refl; takes = refl })
  where
    made : mark_made path text time (around a) ≡ record { takes = a.takes; outside = put_at path (Some (record { bytes = text; time = time })) a.outside }
    made = ap (λ (o : Option OutFile). if is_none o then record { takes = a.takes; outside = put_at path (Some (record { bytes = text; time = time })) a.outside } else around a) free

unmarked : (path text : List ℕ) (time : ℕ) (a : Stored) (f : OutFile) → a.outside path ≡ Some f → turned (marked_so path text time MarkMade) a ≡ out_of a
unmarked path text time a f there =
    ap (λ (o : Option OutFile). let b = (if is_none o then record { takes = a.takes; outside = put_at path (Some (record { bytes = text; time = time })) a.outside } else around a) in record { queue = a.stock.state.queue; recorded = a.recorded; takes = b.takes; outside = b.outside }) there

pub mark_steps : (path text : List ℕ) (time : ℕ) (r : Result Marking StoreFault) (old : StoreState) → IfOk r (λ marking. IfTold old.content (λ a. HasMarked marking (a.outside path))) → Stepping (marked_so path text time) (MarksAt path text) r old
mark_steps path text time r old told = record { may = may; done = done r told }
  where
    may : (x : Marking) → IfTold old.content (λ a. StepAt (MarksAt path text x) (out_of a) (turned (marked_so path text time x) a))
    may MarkMade = each_told old.content (λ a. StepAt (MarksAt path text MarkMade) (out_of a) (turned (marked_so path text time MarkMade) a)) (λ a. elim (a_file (a.outside path)) [
      | inl free ↦ inr (marks path text time a free)
      | inr found ↦ inl (unmarked path text time a found.0 found.1)
    ])
    may MarkExists = each_told old.content (λ a. StepAt (MarksAt path text MarkExists) (out_of a) (turned (marked_so path text time MarkExists) a)) (λ a. inl refl)

    some : (a : Stored) → IsSome (a.outside path) → MarksAt path text MarkExists (out_of a) (turned (marked_so path text time MarkExists) a)
    some a is = elim (a_file (a.outside path)) [
      | inl none ↦ off (sym (subst IsSome none is))
      | inr found ↦ (found, refl)
    ]

    done : (r : Result Marking StoreFault) → IfOk r (λ marking. IfTold old.content (λ a. HasMarked marking (a.outside path))) → IfOk r (λ x. IfTold old.content (λ a. MarksAt path text x (out_of a) (turned (marked_so path text time x) a)))
    done (Ok MarkMade) told = if_weaker old.content (λ a. a.outside path ≡ None) (λ a. MarksAt path text MarkMade (out_of a) (turned (marked_so path text time MarkMade) a)) (λ a free. marks path text time a free) told
    done (Ok MarkExists) told = if_weaker old.content (λ a. IsSome (a.outside path)) (λ a. MarksAt path text MarkExists (out_of a) (turned (marked_so path text time MarkExists) a)) some told
    done (Err fault) told = tt

abbrev text_at : Option OutFile → Option (List ℕ)
text_at o = option_map (λ (f : OutFile). f.bytes) o

text_is : (text : List ℕ) (o : Option OutFile) → has_text text o ≡ true → text_at o ≡ Some text
text_is text None has = off (sym has)
text_is text (Some f) has = ap Some ((bytes_eq-Decides f.bytes text).0 has)

text_differs : (text : List ℕ) (o : Option OutFile) → has_text text o ≡ false → text_at o ≢ Some text
text_differs text None other is = none_some is
text_differs text (Some f) other is =
    off (sym ((bytes_eq-Decides f.bytes text).1 (let e = is in cc)) ∙ other)

unmarks : (path text : List ℕ) (a : Stored) → UnmarksAt path text (out_of a) (turned (mark_gone path text tt) a)
unmarks path text a = elim (cases_Bool (has_text text (a.outside path))) [
  | inl has ↦
      let gone : turned (mark_gone path text tt) a ≡ record { queue = a.stock.state.queue; recorded = a.recorded; takes = a.takes; outside = put_at path None a.outside } =
      ap (λ (b : Bool). let c = (if b then record { takes = a.takes; outside = put_at path None a.outside } else around a) in record { queue = a.stock.state.queue; recorded = a.recorded; takes = c.takes; outside = c.outside }) has in
      inl (subst (Unmarks path text (out_of a)) (sym gone) (record { own = text_is text (a.outside path) has; gone = puts path None a.outside; queue = refl; recorded = refl; takes = refl }))
  | inr other ↦
      let same : turned (mark_gone path text tt) a ≡ out_of a =
      ap (λ (b : Bool). let c = (if b then record { takes = a.takes; outside = put_at path None a.outside } else around a) in record { queue = a.stock.state.queue; recorded = a.recorded; takes = c.takes; outside = c.outside }) other in
      inr (text_differs text (a.outside path) other, same)
]

pub unmark_steps : (path text : List ℕ) (r : Result (Unit {0}) StoreFault) (old : StoreState) → Stepping (mark_gone path text) (λ _. UnmarksAt path text) r old
unmark_steps path text r old = record { may = λ x. each_told old.content (λ a. StepAt (UnmarksAt path text) (out_of a) (turned (mark_gone path text x) a)) (λ a. inr (unmarks path text a)); done = done r }
  where
    done : (r : Result (Unit {0}) StoreFault) → IfOk r (λ x. IfTold old.content (λ a. UnmarksAt path text (out_of a) (turned (mark_gone path text x) a)))
    done (Ok x) = each_told old.content (λ a. UnmarksAt path text (out_of a) (turned (mark_gone path text x) a)) (λ a. unmarks path text a)
    done (Err fault) = tt
