-- What a whole compiling leaves.
use Rattle.std.proofs.Common.{◌≡◌, inl, inr, ℕ, List, Some, Err, ◌∙◌, ap}
use Rattle.std.specs.Prelude.{◌⊎◌, IsErrOf}
use Rattle.disk_model.specs.World.{World}
use Rattle.disk_model.specs.Changes.{Every, Follows, Only, IsFree}
use Rattle.disk_model.specs.Moments.{Now, Leaves}
use Rattle.disk_model.proofs.MomentLemmas.{runs_on, weakened}
use Rattle.nodelist_files.specs.Files.{list_name, index_name, new_name}
use Rattle.nodelist_files.specs.Compiling.{Compiles, Clears, IsCompiled, NewList, OldPair, OnLists}
use Rattle.nodelist_files.specs.Staging.{IsStaged, Replaced, Replaces}
use Rattle.nodelist_files.proofs.Alone.{reads_then, then_runs}
use Rattle.nodelist_files.proofs.InPlace.{list_is_not_new, index_is_not_new}

-- the same fault of another answer
pub still_err : {T U E : Type 0} (a b : E) → IsErrOf {T = T} {E = E} (Err a) b → IsErrOf {T = U} {E = E} (Err a) b
still_err {T} {U} {E} a b is = let same : a ≡ b = cc is in ap (λ (e : E). Err e) same

module _ {D : Type 0} (moment : D → ℕ) (images : D → ℕ → World → Type 0) (files : D → World → Type 0) (as_read : (d : D) (w : World) → files d w → images d (moment d) w)
    (path : List ℕ) (d0 d1 : D) (first : Leaves moment images (Only new_name) d0 d1) (first_read : Follows (Only new_name) (files d0) (files d1)) where
  abbrev pub Step : World → World → Type 0
  Step = Compiles (files d0) path

  only_step : (d c : World) → Only new_name d c → Step d c
  only_step d c only = record {
    others = λ n a b e. only.others n e;
    outside = only.outside;
    gifts = only.gifts;
    both = inl (record { list = only.others list_name list_is_not_new; index = only.others index_name index_is_not_new });
  }

  -- nothing is in its place yet
  pub begun_leaves : Leaves moment images Step d0 d1
  begun_leaves = weakened moment images (Only new_name) Step d0 d1 (λ d c now only. only_step d c only) first

  pub begun_reads : Follows Step (files d0) (files d1)
  begun_reads c now = let was = first_read c now in (was.0, was.1, only_step was.0 c was.2)

  -- what was made is taken away
  module _ (d2 : D) (clear : Leaves moment images (Only new_name) d1 d2) (clear_read : Follows (Only new_name) (files d1) (files d2)) where
    pub kept_leaves : Leaves moment images (Only new_name) d0 d2
    kept_leaves = then_runs moment images new_name d0 d1 d2 first clear

    pub kept_reads : Follows (Only new_name) (files d0) (files d2)
    kept_reads = reads_then new_name (files d0) (files d1) (files d2) first_read clear_read

    pub cleared_leaves : Leaves moment images Step d0 d2
    cleared_leaves = weakened moment images (Only new_name) Step d0 d2 (λ d c now only. only_step d c only) kept_leaves

    pub cleared_reads : Follows Step (files d0) (files d2)
    cleared_reads c now = let was = kept_reads c now in (was.0, was.1, only_step was.0 c was.2)

    pub clears : Every (files d2) (IsFree new_name) → Follows Clears (files d0) (files d2)
    clears free c now = let was = kept_reads c now in (was.0, was.1, record { only = was.2; free = free c now })

  -- what was made takes its place
  module _ (index made : List ℕ) (is_made : index ≡ made) (count : ℕ) (staged : IsStaged (files d0) (Now moment images d1) path made count) (d2 : D) where
    behind : (d e c : World) → images d1 (moment d1) e → Only new_name d e → OnLists (Replaces index) e c → Step d c
    behind d e c there only step = record {
      others = λ n a b f. step.others n a b f ∙ only.others n f;
      outside = step.outside ∙ only.outside;
      gifts = step.gifts ∙ only.gifts;
      both = pair step.both;
    }
      where
        list_same : e.own list_name ≡ d.own list_name
        list_same = only.others list_name list_is_not_new

        index_same : e.own index_name ≡ d.own index_name
        index_same = only.others index_name index_is_not_new

        text_there : e.own new_name ≡ Some staged.text
        text_there = staged.stands e there

        pair : Replaces index e c → OldPair d c ⊎ NewList (files d0) path d c
        pair (inl old) = inl (record { list = old.list ∙ list_same; index = old.index ∙ index_same })
        pair (inr (inl placed)) = inr (record {
          text = staged.text;
          nodes = staged.nodes;
          has = staged.has;
          list = placed.list ∙ text_there;
          index = inl (placed.index ∙ index_same);
        })
        pair (inr (inr both)) = inr (record {
          text = staged.text;
          nodes = staged.nodes;
          has = staged.has;
          list = both.0 ∙ text_there;
          index = inr (both.1 ∙ ap Some (is_made ∙ staged.index));
        })

    pub replaced_leaves : Leaves moment images (OnLists (Replaces index)) d1 d2 → Leaves moment images Step d0 d2
    replaced_leaves second = runs_on moment images (Only new_name) (OnLists (Replaces index)) Step d0 d1 d2 first second
        (λ d c now only. only_step d c only) (λ d e c now there only step. behind d e c there only step)

    pub replaced_reads : Follows (OnLists (Replaces index)) (files d1) (files d2) → Follows Step (files d0) (files d2)
    replaced_reads second c now =
        let was = second c now in
        let before = first_read was.0 was.1 in
        (before.0, before.1, behind before.0 was.0 c (as_read d1 was.0 was.1) before.2 was.2)

    module _ (replaced : Follows (Replaced index) (Now moment images d1) (Now moment images d2)) where
      pub durable : Every (Now moment images d2) (IsCompiled (files d0) path)
      durable c now =
          let was = replaced c now in
          record {
            text = staged.text;
            nodes = staged.nodes;
            has = staged.has;
            list = was.2.list ∙ staged.stands was.0 was.1;
            index = was.2.index ∙ ap Some (is_made ∙ staged.index);
            free = was.2.free;
          }

      pub compiled : Every (files d2) (IsCompiled (files d0) path)
      compiled c read = durable c (as_read d2 c read)
