-- Steps of one own file.
use Rattle.std.proofs.Common.{◌≡◌, inl, inr, ℕ, List, Some, Result, Ok, Err, refl, sym, ◌∙◌, subst, arith}
use Rattle.ftn_addr.specs.declared.refusals.Failed.{Failed}
use Rattle.disk_model.specs.World.{World}
use Rattle.disk_model.specs.Answers.{Creates}
use Rattle.disk_model.specs.Changes.{Same, AtOnce, OnOwn, Rewrites, Only}
use Rattle.disk_model.specs.Moments.{Steps, Leaves}
use Rattle.disk_model.proofs.MomentLemmas.{started, goes_on}
use Rattle.disk_model.specs.declared.answers.Made.{Made}
use Rattle.disk_model.specs.declared.answers.Made.TheVariants.{New, Exists}

-- the file changed by S, since it changed by R
pub own_map : (name : List ℕ) (R S : List ℕ → List ℕ → Type 0) (d e : World) → ((b c : List ℕ) → d.own name ≡ Some b → e.own name ≡ Some c → R b c → S b c) → OnOwn (Rewrites name R) d e → OnOwn (Rewrites name S) d e
own_map name R S d e leads step = record {
  own = record {
    file = λ b is. let after = step.own.file b is in (after.0, after.1, leads b after.0 is after.1 after.2);
    absent = step.own.absent;
    others = step.own.others;
  };
  outside = step.outside;
  gifts = step.gifts;
}

-- one change after another
pub own_then : (name : List ℕ) (R S T : List ℕ → List ℕ → Type 0) (d m e : World)
    → ((b x c : List ℕ) → d.own name ≡ Some b → m.own name ≡ Some x → e.own name ≡ Some c → R b x → S x c → T b c)
    → OnOwn (Rewrites name R) d m → OnOwn (Rewrites name S) m e → OnOwn (Rewrites name T) d e
own_then name R S T d m e leads first second = record {
  own = record {
    file = λ b is.
        let mid = first.own.file b is in
        let after = second.own.file mid.0 mid.1 in
        (after.0, after.1, leads b mid.0 after.0 is mid.1 after.1 mid.2 after.2);
    absent = λ none. second.own.absent (first.own.absent none);
    others = λ n other. second.own.others n other ∙ first.own.others n other;
  };
  outside = second.outside ∙ first.outside;
  gifts = second.gifts ∙ first.gifts;
}

-- nothing changed
pub own_same : (name : List ℕ) (R : List ℕ → List ℕ → Type 0) (d : World) → ((b : List ℕ) → d.own name ≡ Some b → R b b) → OnOwn (Rewrites name R) d d
own_same name R d law = record {
  own = record { file = λ b is. (b, is, law b is); absent = λ none. none; others = λ n other. refl };
  outside = refl;
  gifts = refl;
}

pub only_same : (name : List ℕ) (d : World) → Only name d d
only_same name d = record { others = λ n other. refl; outside = refl; gifts = refl }

pub only_rewrites : (name : List ℕ) (R : List ℕ → List ℕ → Type 0) (d e : World) → OnOwn (Rewrites name R) d e → Only name d e
only_rewrites name R d e step = record { others = step.own.others; outside = step.outside; gifts = step.gifts }

pub only_then : (name : List ℕ) (d m e : World) → Only name d m → Only name m e → Only name d e
only_then name d m e first second = record {
  others = λ n other. second.others n other ∙ first.others n other;
  outside = second.outside ∙ first.outside;
  gifts = second.gifts ∙ first.gifts;
}

only_made : (name : List ℕ) (made : Made) (d c : World) → Creates name made d c → Only name d c
only_made name New d c step = record { others = step.own.others; outside = step.outside; gifts = step.gifts }
only_made name Exists d c same = subst (λ (w : World). Only name d w) (sym same) (only_same name d)

pub only_creates : (name : List ℕ) (result : Result Made Failed) (d c : World) → AtOnce result (Creates name) d c → Only name d c
only_creates name (Ok made) d c step = only_made name made d c step
only_creates name (Err e) d c (inl same) = subst (λ (w : World). Only name d w) (sym same) (only_same name d)
only_creates name (Err e) d c (inr step) = only_made name step.0 d c step.1

-- runs that change nothing
module _ {D : Type 0} {moment : D → ℕ} {images : D → ℕ → World → Type 0} where
  pub same_started : (d : D) → Leaves moment images Same d d
  same_started d = started moment images Same d (λ c now. refl)

  pub same_goes_on : (old mid new : D) → Leaves moment images Same old mid → Steps moment images Same mid new → Leaves moment images Same old new
  same_goes_on old mid new so_far call = goes_on moment images Same Same old mid new so_far call (λ c now.
      let was = call.now c now in
      let first = so_far.each (moment mid) was.0 so_far.grew.later (omega arith) was.1 in
      (first.0, first.1, was.2 ∙ first.2))

-- runs that change one own file alone
module _ {D : Type 0} {moment : D → ℕ} {images : D → ℕ → World → Type 0} {name : List ℕ} where
  pub only_started : {d : D} → Leaves moment images (Only name) d d
  only_started {d} = started moment images (Only name) d (λ c now. only_same name c)

  only_steps : (R : World → World → Type 0) (old mid new : D) → ((d c : World) → R d c → Only name d c) → Steps moment images R mid new → Leaves moment images (Only name) old mid → Leaves moment images (Only name) old new
  only_steps R old mid new leads call so_far = goes_on moment images R (Only name) old mid new so_far call (λ c now.
      let was = call.now c now in
      let first = so_far.each (moment mid) was.0 so_far.grew.later (omega arith) was.1 in
      (first.0, first.1, only_then name first.0 was.0 c first.2 (leads was.0 c was.2)))

  pub only_after_change : {R : List ℕ → List ℕ → Type 0} {old mid new : D} → Steps moment images (OnOwn (Rewrites name R)) mid new → Leaves moment images (Only name) old mid → Leaves moment images (Only name) old new
  only_after_change {R} {old} {mid} {new} call so_far = only_steps (OnOwn (Rewrites name R)) old mid new (only_rewrites name R) call so_far

  pub only_after_none : {old mid new : D} → Steps moment images Same mid new → Leaves moment images (Only name) old mid → Leaves moment images (Only name) old new
  only_after_none {old} {mid} {new} call so_far = only_steps Same old mid new (λ d c same. subst (λ (w : World). Only name d w) (sym same) (only_same name d)) call so_far

  pub only_after_create : (result : Result Made Failed) {old mid new : D} → Steps moment images (AtOnce result (Creates name)) mid new → Leaves moment images (Only name) old mid → Leaves moment images (Only name) old new
  only_after_create result {old} {mid} {new} call so_far = only_steps (AtOnce result (Creates name)) old mid new (only_creates name result) call so_far
