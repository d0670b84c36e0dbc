-- Steps and runs that change one own file alone.
use Rattle.std.proofs.Common.{◌≡◌, inl, inr, ℕ, List, None, Result, Ok, Err, refl, sym, ◌∙◌, subst, arith}
use Rattle.ftn_addr.specs.declared.refusals.Failed.{Failed}
use Rattle.disk_model.specs.World.{World}
use Rattle.disk_model.specs.Answers.{Copies, CopiesInPart}
use Rattle.disk_model.specs.Changes.{Every, Follows, Same, AtOnce, OnOwn, Only, Puts}
use Rattle.disk_model.specs.Moments.{Steps, Leaves}
use Rattle.disk_model.specs.declared.answers.Copied.{Copied}
use Rattle.disk_model.specs.declared.answers.Copied.TheVariants.{Copied as CopiedAll, Absent as NoSource, Over}
use Rattle.disk_model.proofs.MomentLemmas.{started, goes_on, runs_on}

pub only_same : (name : List ℕ) (d : World) → Only name d d
only_same name d = record { others = λ n other. refl; outside = refl; gifts = refl }

pub only_equal : (name : List ℕ) (d c : World) → c ≡ d → Only name d c
only_equal name d c same = subst (λ (w : World). Only name d w) (sym same) (only_same name d)

pub only_then : (name : List ℕ) (d m e : World) → Only name d m → Only name m e → Only name d e
only_then name d m e first second = record {
  others = λ n other. second.others n other ∙ first.others n other;
  outside = second.outside ∙ first.outside;
  gifts = second.gifts ∙ first.gifts;
}

-- a copy changes its own file alone
pub only_copies : (result : Result Copied Failed) (path own : List ℕ) (most : ℕ) (d c : World) → Copies result path own most d c → Only own d c
only_copies (Ok (CopiedAll stat)) path own most d c step = record { others = step.2.own.others; outside = step.2.outside; gifts = step.2.gifts }
only_copies (Ok NoSource) path own most d c same = only_equal own d c same
only_copies (Ok Over) path own most d c step = record { others = step.own.others; outside = step.outside; gifts = step.gifts }
only_copies (Err e) path own most d c step = record { others = step.own.others; outside = step.outside; gifts = step.gifts }

only_copies_in_part : (result : Result Copied Failed) (own : List ℕ) (most : ℕ) (d c : World) → CopiesInPart result own most d c → Only own d c
only_copies_in_part (Ok (CopiedAll stat)) own most d c step = record { others = step.own.others; outside = step.outside; gifts = step.gifts }
only_copies_in_part (Ok NoSource) own most d c same = only_equal own d c same
only_copies_in_part (Ok Over) own most d c step = record { others = step.own.others; outside = step.outside; gifts = step.gifts }
only_copies_in_part (Err e) own most d c step = record { others = step.own.others; outside = step.outside; gifts = step.gifts }

-- and so does a removal
pub only_removes : {T E : Type 0} (result : Result T E) (name : List ℕ) (d c : World) → AtOnce result (λ answer. OnOwn (Puts name None)) d c → Only name d c
only_removes (Ok answer) name d c step = record { others = step.own.others; outside = step.outside; gifts = step.gifts }
only_removes (Err e) name d c (inl same) = only_equal name d c same
only_removes (Err e) name d c (inr step) = record { others = step.1.own.others; outside = step.1.outside; gifts = step.1.gifts }

-- what is read follows so, call by call
module _ (name : List ℕ) where
  pub reads_then : (old mid new : World → Type 0) → Follows (Only name) old mid → Follows (Only name) mid new → Follows (Only name) old new
  reads_then old mid new first second c now =
      let was = second c now in
      let before = first was.0 was.1 in
      (before.0, before.1, only_then name before.0 was.0 c before.2 was.2)

  pub reads_every : (old mid new : World → Type 0) → Follows (Only name) old mid → Every new mid → Follows (Only name) old new
  reads_every old mid new first every c now = first c (every c now)

  pub reads_same : (old new : World → Type 0) → Every new old → Follows (Only name) old new
  reads_same old new every c now = (c, every c now, only_same name c)

-- and so do the images of a run
module _ {D : Type 0} (moment : D → ℕ) (images : D → ℕ → World → Type 0) (name : List ℕ) where
  pub begun : (d : D) → Leaves moment images (Only name) d d
  begun d = started moment images (Only name) d (λ c now. only_same name c)

  pub one_more : (R : World → World → Type 0) (old mid new : D) → ((d c : World) → R d c → Only name d c) → Leaves moment images (Only name) old mid → Steps moment images R mid new → Leaves moment images (Only name) old new
  one_more R old mid new leads so_far call = goes_on moment images R (Only name) old mid new so_far call (λ c now.
      let was = call.now c now in
      let first = so_far.each (moment mid) was.0 so_far.grew.later (omega arith) was.1 in
      (first.0, first.1, only_then name first.0 was.0 c first.2 (leads was.0 c was.2)))

  pub after_none : (old mid new : D) → Leaves moment images (Only name) old mid → Steps moment images Same mid new → Leaves moment images (Only name) old new
  after_none old mid new so_far call = one_more Same old mid new (only_equal name) so_far call

  module _ (own : List ℕ) (named : own ≡ name) where
    under_it : (d c : World) → Only own d c → Only name d c
    under_it d c only = subst (λ (n : List ℕ). Only n d c) named only

    pub after_copy : (result : Result Copied Failed) (most : ℕ) (old new : D) → Steps moment images (CopiesInPart result own most) old new → Leaves moment images (Only name) old new
    after_copy result most old new call = one_more (CopiesInPart result own most) old old new (λ d c step. under_it d c (only_copies_in_part result own most d c step)) (begun old) call

    pub after_remove : {T E : Type 0} (result : Result T E) (old mid new : D) → Leaves moment images (Only name) old mid → Steps moment images (AtOnce result (λ answer. OnOwn (Puts own None))) mid new → Leaves moment images (Only name) old new
    after_remove result old mid new so_far call = one_more (AtOnce result (λ answer. OnOwn (Puts own None))) old mid new (λ d c step. under_it d c (only_removes result own d c step)) so_far call

  -- one run after another
  pub then_runs : (old mid new : D) → Leaves moment images (Only name) old mid → Leaves moment images (Only name) mid new → Leaves moment images (Only name) old new
  then_runs old mid new first second = runs_on moment images (Only name) (Only name) (Only name) old mid new first second
      (λ d c now only. only) (λ d e c now then one two. only_then name d e c one two)

  -- a run that changes nothing behind
  pub then_same : (old mid new : D) → Leaves moment images (Only name) old mid → Leaves moment images Same mid new → Leaves moment images (Only name) old new
  then_same old mid new first second = runs_on moment images (Only name) Same (Only name) old mid new first second
      (λ d c now only. only) (λ d e c now then one two. only_then name d e c one (only_equal name e c two))
