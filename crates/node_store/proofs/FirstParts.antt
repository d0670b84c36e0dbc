-- The first open part that passes a test: where it stands, and the parts without it.
use Rattle.std.proofs.Common.{◌≡◌, ℕ, zero, suc, ◌+◌, ◌<◌, ◌≤◌, List, [], ◌∷◌, length, get_or, Some, None, Bool, true, false, refl, sym, ◌∙◌, ap, subst, arith, inl, inr}
use Rattle.std.specs.Prelude.{find, position, if◌then◌else◌, nat_lt}
use Rattle.std.specs.List.{AllByRecursion, position_or_len, remove}
use Rattle.std.proofs.lemmas.Bool.{cases_Bool, ltb-false}
use Rattle.std.proofs.lemmas.List.Quantifiers.{position-Some}
use Rattle.node_model.proofs.Lists.{some_inj, none_some}
use Rattle.node_store.specs.Stored.{Part, without_first}

module _ (t : Part → Bool) where
  found_here : (ps : List Part) (i : ℕ) (d : Part) → i < length ps → t (get_or ps i d) ≡ true → ((k : ℕ) → k < i → t (get_or ps k d) ≡ false) → find t ps ≡ Some (get_or ps i d)
  found_here [] i d within here before = absurd (omega (arith, within))
  found_here (p ∷ ps) zero d within here before = ap (λ (b : Bool). if b then Some p else find t ps) here
  found_here (p ∷ ps) (suc i) d within here before =
      ap (λ (b : Bool). if b then Some p else find t ps) (before 0 (omega arith)) ∙ found_here ps i d (omega (arith, within)) here (λ k low. before (suc k) (omega (arith, low)))

  pub first_found : (ps : List Part) (i : ℕ) (d : Part) → position t ps ≡ Some i → find t ps ≡ Some (get_or ps i d)
  first_found ps i d at =
      let first = position-Some t ps i d at in
      found_here ps i d first.0 first.1 first.2

  removed_here : (ps : List Part) (i : ℕ) (d : Part) → i < length ps → t (get_or ps i d) ≡ true → ((k : ℕ) → k < i → t (get_or ps k d) ≡ false) → remove ps i ≡ without_first t ps
  removed_here [] i d within here before = absurd (omega (arith, within))
  removed_here (p ∷ ps) zero d within here before = sym (ap (λ (b : Bool). if b then ps else p ∷ without_first t ps) here)
  removed_here (p ∷ ps) (suc i) d within here before =
      ap (λ (l : List Part). p ∷ l) (removed_here ps i d (omega (arith, within)) here (λ k low. before (suc k) (omega (arith, low))))
      ∙ sym (ap (λ (b : Bool). if b then ps else p ∷ without_first t ps) (before 0 (omega arith)))

  pub first_removed : (ps : List Part) (i : ℕ) (d : Part) → position t ps ≡ Some i → remove ps i ≡ without_first t ps
  first_removed ps i d at =
      let first = position-Some t ps i d at in
      removed_here ps i d first.0 first.1 first.2

  -- none passes

  none_there : (ps : List Part) → length ps ≤ position_or_len t ps → find t ps ≡ None
  none_there [] all = refl
  none_there (p ∷ ps) all = elim (cases_Bool (t p)) [
    | inl passes ↦ absurd (let short : length (p ∷ ps) ≤ 0 = rw passes at all in omega (arith, short))
    | inr fails ↦ (let more : length (p ∷ ps) ≤ 1 + position_or_len t ps = rw fails at all in ap (λ (b : Bool). if b then Some p else find t ps) fails ∙ none_there ps (omega (arith, more)))
  ]

  past_end : (i len : ℕ) → (if nat_lt i len then Some i else None) ≡ None → len ≤ i
  past_end i len none = elim (cases_Bool (nat_lt i len)) [
    | inl low ↦ none_some (sym none ∙ ap (λ (b : Bool). if b then Some i else None) low)
    | inr high ↦ ltb-false i len high
  ]

  pub none_found : (ps : List Part) → position t ps ≡ None → find t ps ≡ None
  none_found ps none = none_there ps (past_end (position_or_len t ps) (length ps) none)

  pub none_without : (ps : List Part) → find t ps ≡ None → without_first t ps ≡ ps
  none_without [] none = refl
  none_without (p ∷ ps) none = go (t p) none (none_without ps)
    where
      go : (b : Bool) → (if b then Some p else find t ps) ≡ None → (find t ps ≡ None → without_first t ps ≡ ps) → (if b then ps else p ∷ without_first t ps) ≡ p ∷ ps
      go true is rest = none_some (sym is)
      go false is rest = ap (λ (l : List Part). p ∷ l) (rest is)

  -- what holds of all holds of those that are left
  pub all_without : (P : Part → Type 0) (ps : List Part) → AllByRecursion P ps → AllByRecursion P (without_first t ps)
  all_without P [] all = tt
  all_without P (p ∷ ps) all = go (t p) (all_without P ps all.1)
    where
      go : (b : Bool) → AllByRecursion P (without_first t ps) → AllByRecursion P (if b then ps else p ∷ without_first t ps)
      go true rest = all.1
      go false rest = (all.0, rest)

  pub first_is : (P : Part → Type 0) (ps : List Part) (q : Part) → AllByRecursion P ps → find t ps ≡ Some q → P q × (t q ≡ true)
  first_is P [] q all is = none_some is
  first_is P (p ∷ ps) q all is = go (t p) refl is (first_is P ps q all.1)
    where
      go : (b : Bool) → t p ≡ b → (if b then Some p else find t ps) ≡ Some q → (find t ps ≡ Some q → P q × (t q ≡ true)) → P q × (t q ≡ true)
      go true passes e rest = (subst P (some_inj e) all.0, subst (λ (x : Part). t x ≡ true) (some_inj e) passes)
      go false fails e rest = rest e

  -- one that stands is found
  pub some_found : (ps : List Part) (i : ℕ) → position t ps ≡ Some i → (q : Part) × (find t ps ≡ Some q)
  some_found [] i at = none_some at
  some_found (p ∷ ps) i at = (get_or (p ∷ ps) i p, first_found (p ∷ ps) i p at)
