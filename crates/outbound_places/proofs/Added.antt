-- What was added to a set of places.
use Rattle.std.proofs.Common.{◌≡◌, List, [], ◌∷◌, ◌++◌, sym, ap, ◌∙◌, subst, inl, inr, ⊎_elim}
use Rattle.std.specs.Prelude.{◌||◌}
use Rattle.node_model.specs.Lists.{Member}
use Rattle.node_model.proofs.Lists.{Member-append, Member-append_cases, Member-append_right, or_cases, or_true, or_true_right}
use Rattle.outbound_places.specs.declared.place.Place.{Place}
use Rattle.outbound_places.specs.declared.set.PlaceSet.{PlaceSet}
use Rattle.outbound_places.specs.Outbound.{Adds, Grows, OneOf}
use Rattle.outbound_places.specs.Places.{IsPlace, has_place, same_place}
use Rattle.outbound_places.proofs.Sets.{same_place_is, same_place-refl}

-- Nothing is lost.

pub grows-refl : (set : PlaceSet) → Grows set set
grows-refl set = record { kept = λ p there. there; within = λ p there. inl there }

pub grows-then : (a b c : PlaceSet) → Grows a b → Grows b c → Grows a c
grows-then a b c x y = record {
  kept = λ p there. y.kept p (x.kept p there);
  within = λ p there. ⊎_elim (λ before. x.within p before) (λ fits. inr fits) (y.within p there);
}

pub grows_added : (old new : PlaceSet) (place : Place) → IsPlace place → ((p : Place) → has_place new p ≡ (has_place old p || same_place p place)) → Grows old new
grows_added old new place fits added = record {
  kept = λ p there. added p ∙ or_true (has_place old p) (same_place p place) there;
  within = λ p there. ⊎_elim (λ before. inl before) (λ same. inr (subst IsPlace (sym (same_place_is p place same)) fits)) (or_cases (has_place old p) (same_place p place) (sym (added p) ∙ there));
}

-- One place.

pub adds_none : (P : Place → Type 0) (set : PlaceSet) → ((p : Place) → IsPlace p → P p → ⊥) → Adds P set set
adds_none P set none = record { all = λ p fits is. absurd (none p fits is); only = λ p there. inl there }

pub adds_one : (P : Place → Type 0) (old new : PlaceSet) (place : Place) → IsPlace place → P place → ((p : Place) → IsPlace p → P p → p ≡ place)
    → ((p : Place) → has_place new p ≡ (has_place old p || same_place p place)) → Adds P old new
adds_one P old new place fits of one added = record {
  all = λ p within is. added p ∙ or_true_right (has_place old p) (same_place p place) (ap (λ (x : Place). same_place x place) (one p within is) ∙ same_place-refl place);
  only = λ p there. ⊎_elim (λ before. inl before)
      (λ same. let is = same_place_is p place same in inr (subst IsPlace (sym is) fits, subst P (sym is) of))
      (or_cases (has_place old p) (same_place p place) (sym (added p) ∙ there));
}

-- One after another.

pub none_added : {A : Type 0} (Of : A → Place → Type 0) (set : PlaceSet) → Adds (OneOf Of []) set set
none_added Of set = adds_none (OneOf Of []) set (λ p fits is. is.1)

pub one_added : {A : Type 0} (Of : A → Place → Type 0) (xs : List A) (x : A) (a b c : PlaceSet) → Adds (OneOf Of xs) a b → Adds (Of x) b c → Grows b c → Adds (OneOf Of (xs ++ x ∷ [])) a c
one_added {A} Of xs x a b c first then' grows = record {
  all = λ p fits is. ⊎_elim
      (λ (m : Member is.0 xs). grows.kept p (first.all p fits (is.0, m, is.2)))
      (λ (m : Member is.0 (x ∷ [])). ⊎_elim (λ (same : is.0 ≡ x). then'.all p fits (subst (λ (y : A). Of y p) same is.2)) (λ none. absurd none) m)
      (Member-append_cases is.0 xs (x ∷ []) is.1);
  only = λ p there. ⊎_elim
      (λ before. ⊎_elim (λ old. inl old)
      (λ (found : IsPlace p × OneOf Of xs p). inr (found.0, (found.1.0, Member-append found.1.0 xs (x ∷ []) found.1.1, found.1.2))) (first.only p before))
      (λ (found : IsPlace p × Of x p). inr (found.0, (x, Member-append_right x xs (x ∷ []) (inl (λ i. x)), found.1))) (then'.only p there);
}
