-- A gift under the first of two names that is free, from its calls of the disk.
use Rattle.std.proofs.Common.{◌≡◌, inl, inr, ℕ, List, Option, Some, None, Result, Ok, Err, Bool, true, refl, sym, ◌∙◌, ap, subst, arith}
use Rattle.std.specs.Prelude.{IfOk, IfSome, IsSome}
use Rattle.ftn_addr.specs.declared.refusals.Failed.{Failed}
use Rattle.disk_model.specs.World.{World}
use Rattle.disk_model.specs.Answers.{GivesTo, GivingOf}
use Rattle.disk_model.specs.Folders.{path_in}
use Rattle.disk_model.specs.Changes.{Every, Follows, Same}
use Rattle.disk_model.specs.Moments.{Leaves, StepOf, Together}
use Rattle.disk_model.specs.declared.answers.Giving.{Giving}
use Rattle.disk_model.specs.declared.answers.Giving.TheVariants.{Given, Taken}
use Rattle.disk_model.proofs.MomentLemmas.{started, goes_on, weakened}
use Rattle.node_model.proofs.Lists.{none_some}
use Rattle.node_store.specs.Gifts.{IsTaken, IsFirstFree, GivesUnder, MayGive, AnswerSays, GivesAs}

-- under which name it was given, if it was
abbrev pub under_of : List ℕ → Option Giving → Option (List ℕ)
under_of name None = None
under_of name (Some Given) = Some name
under_of name (Some Taken) = None

step_is : (own folder name : List ℕ) (time : ℕ) (made : Option Giving) (d c : World) → StepOf (GivesTo own folder name time) made d c → GivesUnder own folder time (under_of name made) d c
step_is own folder name time None d c step = step
step_is own folder name time (Some Given) d c step = step
step_is own folder name time (Some Taken) d c step = step

-- both names are in use
abbrev pub AreTaken : (World → Type 0) → (folder first second : List ℕ) → Type 0
AreTaken worlds folder first second = Every worlds (λ w. IsTaken folder first w × IsTaken folder second w)

answer_is : (worlds : World → Type 0) (folder first second name : List ℕ) (result : Result Giving Failed) (made : Option Giving) → IfOk result (λ answer. made ≡ Some answer) → IfOk result (λ giving. giving ≡ Taken → AreTaken worlds folder first second)
    → IfOk result (λ giving. AnswerSays worlds folder first second giving (under_of name made))
answer_is worlds folder first second name (Ok Given) made is taken = subst (λ (m : Option Giving). IsSome (under_of name m)) (sym is) refl
answer_is worlds folder first second name (Ok Taken) made is taken = (ap (under_of name) is, taken refl)
answer_is worlds folder first second name (Err e) made is taken = tt

module _ {D : Type 0} (tells : Bool) (content : D → World) (files : D → World → Type 0) (moment : D → ℕ) (images : D → ℕ → World → Type 0) (reads : (d : D) (w : World) → files d w → (tells ≡ true) × (w ≡ content d)) (told : tells ≡ true → (d : D) → files d (content d))
    (old mid new : D) (own folder name : List ℕ) (time : ℕ) (same : Every (files mid) (files old)) where
  -- a name in use stays as it is, so that nothing is given under it
  free_of : (made : Option Giving) → Follows (StepOf (GivesTo own folder name time) made) (files mid) (files new) → Follows (λ d c. IsTaken folder name d → Same d c) (files mid) (files new)
      → (P : List ℕ → World → Type 0) → ((w : World) → files old w → (IsTaken folder name w → ⊥) → P name w) → IfSome (under_of name made) (λ n. Every (files old) (P n))
  free_of None follows in_use P choose = tt
  free_of (Some Taken) follows in_use P choose = tt
  free_of (Some Given) follows in_use P choose = λ w read.
      let at = reads old w read in
      let now = told at.0 new in
      let gave = follows (content new) now in
      let kept = in_use (content new) now in
      let is : w ≡ kept.0 = at.1 ∙ sym (reads old kept.0 (same kept.0 kept.1)).1 in
      let is_gave : kept.0 ≡ gave.0 = (reads old kept.0 (same kept.0 kept.1)).1 ∙ sym (reads old gave.0 (same gave.0 gave.1)).1 in
      choose w read (λ used.
      let unchanged : content new ≡ kept.0 = kept.2 (subst (IsTaken folder name) is used) in
      none_some (sym gave.2.gone.here ∙ ap (λ (v : World). v.own own) (unchanged ∙ is_gave) ∙ gave.2.was))

  -- one call of the disk, after none or one that changed nothing
  pub given_once : (first second : List ℕ) (result : Result Giving Failed) (both : Together files moment images result (GivesTo own folder name time) mid new) → Leaves moment images Same old mid
      → Follows (λ d c. IsTaken folder name d → Same d c) (files mid) (files new)
      → ((w : World) → files old w → (IsTaken folder name w → ⊥) → IsFirstFree folder first second name w)
      → IfOk result (λ giving. giving ≡ Taken → AreTaken (files old) folder first second)
      → GivesAs files moment images result own folder first second old new
  given_once first second result both start in_use choose taken = record {
    under = under_of name both.made;
    time = time;
    answered = answer_is (files old) folder first second name result both.made both.answered taken;
    free = free_of both.made both.read in_use (IsFirstFree folder first second) choose;
    read = λ c now. let was = both.read c now in (was.0, same was.0 was.1, step_is own folder name time both.made was.0 c was.2);
    stop = goes_on moment images (StepOf (GivesTo own folder name time) both.made) (MayGive own folder time (under_of name both.made)) old mid new
        (weakened moment images Same (MayGive own folder time (under_of name both.made)) old mid (λ d c now is. inl is) start) both.stop
        (λ c now. let was = lasting c now in (was.0, was.1, inr was.2));
    lasts = lasting;
  }
    where
      lasting : Follows (GivesUnder own folder time (under_of name both.made)) (images old (moment old)) (images new (moment new))
      lasting c now =
          let was = both.stop.now c now in
          let before = start.each (moment mid) was.0 start.grew.later (omega arith) was.1 in
          (before.0, before.1, subst (λ (w : World). GivesUnder own folder time (under_of name both.made) w c) before.2 (step_is own folder name time both.made was.0 c was.2))

-- a call that changed nothing
pub after_same : {D : Type 0} (files : D → World → Type 0) (moment : D → ℕ) (images : D → ℕ → World → Type 0) (result : Result Giving Failed) (step : Giving → World → World → Type 0) (old mid : D) → Together files moment images result step old mid
    → result ≡ Ok Taken → ((d c : World) → step Taken d c → Same d c) → Every (files mid) (files old) × Leaves moment images Same old mid
after_same files moment images result step old mid both is none =
    let made : both.made ≡ Some Taken = subst (λ (x : Result Giving Failed). IfOk x (λ answer. both.made ≡ Some answer)) is both.answered in (
      λ c now. let was = both.read c now in subst (files old) (sym (none was.0 c (subst (λ (x : Option Giving). StepOf step x was.0 c) made was.2))) was.1,
      goes_on moment images (StepOf step both.made) Same old old mid (started moment images Same old (λ c now. refl)) both.stop
          (λ c now. let was = both.stop.now c now in (was.0, was.1, none was.0 c (subst (λ (x : Option Giving). StepOf step x was.0 c) made was.2))),
    )

-- what is read as before is read again
pub read_back : {D : Type 0} (tells : Bool) (content : D → World) (files : D → World → Type 0) → ((d : D) (w : World) → files d w → (tells ≡ true) × (w ≡ content d)) → (tells ≡ true → (d : D) → files d (content d)) → (old mid : D) → Every (files mid) (files old) → Every (files old) (files mid)
read_back tells content files reads told old mid same w read =
    let is = reads old w read in
    let now = told is.0 mid in
    subst (files mid) ((reads old (content mid) (same (content mid) now)).1 ∙ sym is.1) now

-- the second name is in use too
pub both_taken : (old mid : World → Type 0) (folder first second : List ℕ) (result : Result Giving Failed) → IfOk result (λ giving. Every mid (GivingOf giving (path_in folder second))) → Every old mid → Every old (IsTaken folder first)
    → IfOk result (λ giving. giving ≡ Taken → AreTaken old folder first second)
both_taken old mid folder first second (Ok answer) says back used = λ is w read. (used w read, subst (λ (x : Giving). GivingOf x (path_in folder second) w) is (says w (back w read)))
both_taken old mid folder first second (Err e) says back used = tt

-- the same of names that are equal
pub gives_by : {D : Type 0} (files : D → World → Type 0) (moment : D → ℕ) (images : D → ℕ → World → Type 0) (result : Result Giving Failed) (old new : D) (own own' folder folder' first first' second second' : List ℕ) → own ≡ own' → folder ≡ folder' → first ≡ first' → second ≡ second'
    → GivesAs files moment images result own folder first second old new → GivesAs files moment images result own' folder' first' second' old new
gives_by files moment images result old new own own' folder folder' first first' second second' a b c d gives =
    subst (λ (x : List ℕ). GivesAs files moment images result own' folder' first' x old new) d
    (subst (λ (x : List ℕ). GivesAs files moment images result own' folder' x second old new) c
    (subst (λ (x : List ℕ). GivesAs files moment images result own' x first second old new) b
    (subst (λ (x : List ℕ). GivesAs files moment images result x folder first second old new) a gives)))
