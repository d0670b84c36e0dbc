-- The list takes its place, and then the index.
use Rattle.std.proofs.Common.{◌≡◌, ◌≢◌, get_or, inl, inr, ℕ, List, Some, Result, Ok, Err, refl, sym, ◌∙◌, ap, subst, arith}
use Rattle.std.specs.Prelude.{OnOk}
use Rattle.disk_model.specs.World.{World}
use Rattle.disk_model.specs.Changes.{Every, Follows, AtOnce, OnOwn, Only, Renames, Stands}
use Rattle.disk_model.specs.Moments.{Now, Steps, Leaves}
use Rattle.disk_model.proofs.MomentLemmas.{started, goes_on, runs_on}
use Rattle.nodelist_files.specs.Files.{list_name, index_name, new_name}
use Rattle.nodelist_files.specs.Compiling.{OnLists}
use Rattle.nodelist_files.specs.Staging.{Placed, Replaced, Replaces}

-- the tenth bytes differ
pub list_is_not_new : list_name ≢ new_name
list_is_not_new same = let at : 116 ≡ 110 = ap (λ (name : List ℕ). get_or name 9 0) same in omega (arith, at)

pub index_is_not_new : index_name ≢ new_name
index_is_not_new same = let at : 105 ≡ 110 = ap (λ (name : List ℕ). get_or name 9 0) same in omega (arith, at)

pub index_is_not_list : index_name ≢ list_name
index_is_not_list same = let at : 105 ≡ 116 = ap (λ (name : List ℕ). get_or name 9 0) same in omega (arith, at)

abbrev pub RenamesTo : List ℕ → List ℕ → {T : Type 0} → T → World → World → Type 0
RenamesTo from to _ d c = OnOwn (Renames from to) d c

module _ (bytes : List ℕ) where
  abbrev pub Step : World → World → Type 0
  Step = OnLists (Replaces bytes)

  pub same_step : (d : World) → Step d d
  same_step d = record { others = λ n a b c. refl; outside = refl; gifts = refl; both = inl (record { list = refl; index = refl }) }

  equal_step : (d c : World) → c ≡ d → Step d c
  equal_step d c same = subst (λ (w : World). Step d w) (sym same) (same_step d)

  pub placed : (d c : World) → OnOwn (Renames new_name list_name) d c → OnLists Placed d c
  placed d c step = record {
    others = λ n a b e. step.own.others n e a;
    outside = step.outside;
    gifts = step.gifts;
    both = record { list = step.own.moved; index = step.own.others index_name index_is_not_new index_is_not_list };
  }

  pub as_step : (d c : World) → OnLists Placed d c → Step d c
  as_step d c step = record { others = step.others; outside = step.outside; gifts = step.gifts; both = inr (inl step.both) }

  pub first_rename : {T E : Type 0} (result : Result T E) (d c : World) → AtOnce result (RenamesTo new_name list_name) d c → Step d c
  first_rename (Ok v) d c step = as_step d c (placed d c step)
  first_rename (Err e) d c (inl same) = equal_step d c same
  first_rename (Err e) d c (inr step) = as_step d c (placed d c step.1)

  pub placed_only : (d m c : World) → OnLists Placed d m → Only new_name m c → OnLists Placed d c
  placed_only d m c step only = record {
    others = λ n a b e. only.others n e ∙ step.others n a b e;
    outside = only.outside ∙ step.outside;
    gifts = only.gifts ∙ step.gifts;
    both = record { list = only.others list_name list_is_not_new ∙ step.both.list; index = only.others index_name index_is_not_new ∙ step.both.index };
  }

  pub replaced : (d m c : World) → OnLists Placed d m → m.own new_name ≡ Some bytes → OnOwn (Renames new_name index_name) m c → Replaced bytes d c
  replaced d m c placed stood step = record {
    list = step.own.others list_name list_is_not_new (λ same. index_is_not_list (sym same)) ∙ placed.both.list;
    index = step.own.moved ∙ stood;
    free = step.own.gone (λ same. index_is_not_new (sym same));
  }

  second_step : (d m c : World) → OnLists Placed d m → m.own new_name ≡ Some bytes → OnOwn (Renames new_name index_name) m c → Step d c
  second_step d m c placed stood step =
      let is = replaced d m c placed stood step in
      record {
        others = λ n a b e. step.own.others n e b ∙ placed.others n a b e;
        outside = step.outside ∙ placed.outside;
        gifts = step.gifts ∙ placed.gifts;
        both = inr (inr (is.list, is.index));
      }

  pub second_rename : {T E : Type 0} (result : Result T E) (d m c : World) → OnLists Placed d m → m.own new_name ≡ Some bytes → AtOnce result (RenamesTo new_name index_name) m c → Step d c
  second_rename (Ok v) d m c placed stood step = second_step d m c placed stood step
  second_rename (Err e) d m c placed stood (inl same) = subst (λ (w : World). Step d w) (sym same) (as_step d m placed)
  second_rename (Err e) d m c placed stood (inr step) = second_step d m c placed stood step.1

  -- the file in which both are made may change
  pub step_only : (d e c : World) → Step d e → Only new_name e c → Step d c
  step_only d e c step only = record {
    others = λ n a b f. only.others n f ∙ step.others n a b f;
    outside = only.outside ∙ step.outside;
    gifts = only.gifts ∙ step.gifts;
    both = pair step.both;
  }
    where
      list_same : c.own list_name ≡ e.own list_name
      list_same = only.others list_name list_is_not_new

      index_same : c.own index_name ≡ e.own index_name
      index_same = only.others index_name index_is_not_new

      pair : Replaces bytes d e → Replaces bytes d c
      pair (inl old) = inl (record { list = list_same ∙ old.list; index = index_same ∙ old.index })
      pair (inr (inl there)) = inr (inl (record { list = list_same ∙ there.list; index = index_same ∙ there.index }))
      pair (inr (inr there)) = inr (inr (list_same ∙ there.0, index_same ∙ there.1))

-- A run over the disks d0 to d3: a rename, a whole file, a rename. The names are those of the code.
module _ {D : Type 0} (moment : D → ℕ) (images : D → ℕ → World → Type 0) (files : D → World → Type 0)
    (as_read : (d : D) (w : World) → files d w → images d (moment d) w)
    (bytes new list : List ℕ) (new_is : new ≡ new_name) (list_is : list ≡ list_name) (d0 d1 : D) where
  named_first : {T E : Type 0} (result : Result T E) (d c : World) → AtOnce result (RenamesTo new list) d c → AtOnce result (RenamesTo new_name list_name) d c
  named_first result d c step = subst (λ (t : List ℕ). AtOnce result (RenamesTo new_name t) d c) list_is (subst (λ (n : List ℕ). AtOnce result (RenamesTo n list) d c) new_is step)

  module _ {T E : Type 0} (result : Result T E) where
    pub first_leaves : Steps moment images (AtOnce result (RenamesTo new list)) d0 d1 → Leaves moment images (Step bytes) d0 d1
    first_leaves call = goes_on moment images (AtOnce result (RenamesTo new list)) (Step bytes) d0 d0 d1 (started moment images (Step bytes) d0 (λ c now. same_step bytes c)) call
        (λ c now. let was = call.now c now in (was.0, was.1, first_rename bytes result was.0 c (named_first result was.0 c was.2)))

    pub first_reads : Follows (AtOnce result (RenamesTo new list)) (files d0) (files d1) → Follows (Step bytes) (files d0) (files d1)
    first_reads call c now = let was = call c now in (was.0, was.1, first_rename bytes result was.0 c (named_first result was.0 c was.2))

  -- the first rename was made
  module _ (first : Steps moment images (OnOwn (Renames new list)) d0 d1) (first_read : Follows (OnOwn (Renames new list)) (files d0) (files d1)) (d2 : D)
      (put : Leaves moment images (Only new) d1 d2) (put_read : Follows (Only new) (files d1) (files d2)) where
    only_new : (d c : World) → Only new d c → Only new_name d c
    only_new d c only = subst (λ (n : List ℕ). Only n d c) new_is only

    named_renames : (d c : World) → OnOwn (Renames new list) d c → OnOwn (Renames new_name list_name) d c
    named_renames d c step = subst (λ (t : List ℕ). OnOwn (Renames new_name t) d c) list_is (subst (λ (n : List ℕ). OnOwn (Renames n list) d c) new_is step)

    still_placed : Follows (OnLists Placed) (Now moment images d0) (Now moment images d2)
    still_placed c now =
        let was = put.each (moment d2) c put.grew.later (omega arith) now in
        let before = first.now was.0 was.1 in
        (before.0, before.1, placed_only bytes before.0 was.0 c (placed bytes before.0 was.0 (named_renames before.0 was.0 before.2)) (only_new was.0 c was.2))

    read_placed : Follows (OnLists Placed) (files d0) (files d2)
    read_placed c now =
        let was = put_read c now in
        let before = first_read was.0 was.1 in
        (before.0, before.1, placed_only bytes before.0 was.0 c (placed bytes before.0 was.0 (named_renames before.0 was.0 before.2)) (only_new was.0 c was.2))

    pub put_reads : Follows (Step bytes) (files d0) (files d2)
    put_reads c now = let was = read_placed c now in (was.0, was.1, as_step bytes was.0 c was.2)

    pub put_leaves : Leaves moment images (Step bytes) d0 d2
    put_leaves = runs_on moment images (Step bytes) (Only new) (Step bytes) d0 d1 d2 (first_leaves {T = Unit {0}} {E = Unit {0}} (Ok tt) first) put
        (λ d c now step. step)
        (λ d e c now there step only. step_only bytes d e c step (only_new e c only))

    module _ (index : List ℕ) (index_is : index ≡ index_name) (stood : Every (Now moment images d2) (λ w. w.own new ≡ Some bytes)) (d3 : D) where
      named_second : {U F : Type 0} (result : Result U F) (d c : World) → AtOnce result (RenamesTo new index) d c → AtOnce result (RenamesTo new_name index_name) d c
      named_second result d c step = subst (λ (t : List ℕ). AtOnce result (RenamesTo new_name t) d c) index_is (subst (λ (n : List ℕ). AtOnce result (RenamesTo n index) d c) new_is step)

      stood_there : (w : World) → images d2 (moment d2) w → w.own new_name ≡ Some bytes
      stood_there w now = ap w.own (sym new_is) ∙ stood w now

      -- what is to be renamed stands
      pub stands : Every (files d2) (Stands new 0)
      stands w read = (bytes, stood w (as_read d2 w read), omega arith)

      module _ {U F : Type 0} (result : Result U F) where
        pub second_leaves : Steps moment images (AtOnce result (RenamesTo new index)) d2 d3 → Leaves moment images (Step bytes) d0 d3
        second_leaves call = goes_on moment images (AtOnce result (RenamesTo new index)) (Step bytes) d0 d2 d3 put_leaves call (λ c now.
            let was = call.now c now in
            let before = still_placed was.0 was.1 in
            (before.0, before.1, second_rename bytes result before.0 was.0 c before.2 (stood_there was.0 was.1) (named_second result was.0 c was.2)))

        pub second_reads : Follows (AtOnce result (RenamesTo new index)) (files d2) (files d3) → Follows (Step bytes) (files d0) (files d3)
        second_reads call c now =
            let was = call c now in
            let before = read_placed was.0 was.1 in
            (before.0, before.1, second_rename bytes result before.0 was.0 c before.2 (stood_there was.0 (as_read d2 was.0 was.1)) (named_second result was.0 c was.2))

      pub all_replaced : {U F : Type 0} (result : Result U F) → Steps moment images (AtOnce result (RenamesTo new index)) d2 d3 → OnOk result (Follows (Replaced bytes) (Now moment images d0) (Now moment images d3))
      all_replaced {U} {F} (Ok v) call = λ c now.
          let was = call.now c now in
          let before = still_placed was.0 was.1 in
          (before.0, before.1, replaced bytes before.0 was.0 c before.2 (stood_there was.0 was.1) (named_second {U = U} {F = F} (Ok v) was.0 c was.2))
      all_replaced (Err e) call = tt
