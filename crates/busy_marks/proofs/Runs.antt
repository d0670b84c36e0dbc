-- Runs of calls, one after another.
use Rattle.std.proofs.Common.{◌≡◌, ◌⊎◌, inl, inr, ⊎_elim, ℕ, ◌<◌, ◌≤◌, Bool, true, List, refl, sym, ◌∙◌, subst, arith}
use Rattle.std.proofs.lemmas.Bool.{cases_lt}
use Rattle.ftn_addr.proofs.MomentsGrow.{moments_grew-then}
use Rattle.disk_model.specs.World.{World}
use Rattle.disk_model.specs.Changes.{Every, Follows, Same, Only}
use Rattle.disk_model.specs.Moments.{Now, Leaves}

-- the same but for one own file

pub only_same : (own : List ℕ) (d c : World) → Same d c → Only own d c
only_same own d c same = subst (λ (w : World). Only own d w) (sym same) (record { others = λ n other. refl; outside = refl; gifts = refl })

pub only_then : (own : List ℕ) (d e c : World) → Only own d e → Only own e c → Only own d c
only_then own d e c first second = record {
  others = λ n other. second.others n other ∙ first.others n other;
  outside = second.outside ∙ first.outside;
  gifts = second.gifts ∙ first.gifts;
}

-- A disk that tells, tells always: what was read before a call leads to what is read after it.
module _ {D : Type 0} (tells : Bool) (content : D → World) (files : D → World → Type 0)
    (reads : (d : D) (w : World) → files d w → (tells ≡ true) × (w ≡ content d)) (told : tells ≡ true → (d : D) → files d (content d)) where
  pub forward : (S : World → World → Type 0) (d0 d1 : D) → Follows S (files d0) (files d1) → (w : World) → files d0 w → (v : World) × files d1 v × S w v
  forward S d0 d1 follows w read =
      let at = reads d0 w read in
      let now = told at.0 d1 in
      let was = follows (content d1) now in
      let same : was.0 ≡ w = (reads d0 was.0 was.1).1 ∙ sym at.1 in
      (content d1, now, subst (λ (v : World). S v (content d1)) same was.2)

  pub stays : (d0 d1 : D) → Every (files d1) (files d0) → (w : World) → files d0 w → files d1 w
  stays d0 d1 every w read =
      let at = reads d0 w read in
      let now = told at.0 d1 in
      let same : content d1 ≡ w = (reads d0 (content d1) (every (content d1) now)).1 ∙ sym at.1 in
      subst (files d1) same now

module _ {D : Type 0} (moment : D → ℕ) (images : D → ℕ → World → Type 0) where
  -- one run after another, where more is known of the end of the first
  pub runs_after : (R F S T : World → World → Type 0) (old mid new : D) → Leaves moment images R old mid → Follows F (Now moment images old) (Now moment images mid) → Leaves moment images S mid new
      → ((d c : World) → R d c → T d c) → ((d e c : World) → F d e → S e c → T d c) → Leaves moment images T old new
  runs_after R F S T old mid new first ends second keeps steps = record {
    grew = moments_grew-then (moment old) (images old) (moment mid) (images mid) (moment new) (images new) first.grew second.grew;
    each = λ k c from to left. ⊎_elim
        (λ (before : k ≤ moment mid).
        let was = first.each k c from before (second.grew.before k c before left) in
        (was.0, was.1, keeps was.0 c was.2))
        (λ (after : moment mid ≤ k).
        let was = second.each k c after to left in
        let early = ends was.0 was.1 in
        (early.0, early.1, steps early.0 was.0 c early.2 was.2))
        (either k (moment mid));
  }
    where
      either : (a b : ℕ) → (a ≤ b) ⊎ (b ≤ a)
      either a b = ⊎_elim (λ (past : a < b). inl (omega arith)) (λ (le : b ≤ a). inr le) (cases_lt a b)

  -- what a run leaves at its end
  pub at_end : (R : World → World → Type 0) (old new : D) → Leaves moment images R old new → Follows R (Now moment images old) (Now moment images new)
  at_end R old new run c now = run.each (moment new) c run.grew.later (omega arith) now

  pub end_then : (R S T : World → World → Type 0) (a b c : World → Type 0) → Follows R a b → Follows S b c → ((d e f : World) → R d e → S e f → T d f) → Follows T a c
  end_then R S T a b c first second steps f now =
      let was = second f now in
      let before = first was.0 was.1 in
      (before.0, before.1, steps before.0 was.0 f before.2 was.2)
