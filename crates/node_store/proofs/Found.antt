-- Entries and receipts that are found by their numbers.
use Rattle.std.proofs.Common.{◌≡◌, ◌≢◌, ℕ, ◌==◌, List, [], ◌∷◌, map, Some, Bool, true, false, refl, sym, ◌∙◌, ap, inl, inr}
use Rattle.std.specs.Prelude.{find, option_map, if◌then◌else◌}
use Rattle.std.specs.List.{AllByRecursion}
use Rattle.std.proofs.lemmas.Bool.{cases_Bool}
use Rattle.std.proofs.lemmas.Bool.Decides.{Decides-eqb}
use Rattle.node_model.specs.Lists.{Member}
use Rattle.node_model.proofs.Lists.{some_inj, none_some}
use Rattle.node_store.specs.Numbers.{AreDifferent}

-- items and what is seen of them
pub seen_from : {A B : Type 0} (f : A → B) (y : B) (xs : List A) → Member y (map f xs) → (x : A) × Member x xs × (y ≡ f x)
seen_from f y [] there = absurd there
seen_from f y (x ∷ xs) (inl same) = (x, inl refl, same)
seen_from f y (x ∷ xs) (inr later) = let h = seen_from f y xs later in (h.0, inr h.1, h.2)

pub seen_there : {A B : Type 0} (f : A → B) (x : A) (xs : List A) → Member x xs → Member (f x) (map f xs)
seen_there f x [] there = absurd there
seen_there f x (y ∷ xs) (inl same) = inl (ap f same)
seen_there f x (y ∷ xs) (inr later) = inr (seen_there f x xs later)

-- two views that agree on a list agree on each item
pub views_agree : {A B : Type 0} (f g : A → B) (x : A) (xs : List A) → map f xs ≡ map g xs → Member x xs → f x ≡ g x
views_agree f g x [] same there = absurd there
views_agree {A} {B} f g x (y ∷ xs) same (inl is) = ap f is ∙ head same ∙ ap g (sym is)
  where
    head : {a b : B} {us vs : List B} → a ∷ us ≡ b ∷ vs → a ≡ b
    head e = cc e
views_agree {A} {B} f g x (y ∷ xs) same (inr later) = views_agree f g x xs (tail same) later
  where
    tail : {a b : B} {us vs : List B} → a ∷ us ≡ b ∷ vs → us ≡ vs
    tail e = cc e

module _ {A : Type 0} (number : A → ℕ) where
  -- no two have one number
  apart : (x y : A) (ys : List A) → AllByRecursion (λ k. number x ≢ k) (map number ys) → Member y ys → number x ≢ number y
  apart x y [] all there = absurd there
  apart x y (z ∷ zs) all (inl same) = λ e. all.0 (e ∙ ap number same)
  apart x y (z ∷ zs) all (inr later) = apart x y zs all.1 later

  pub only_one : (x y : A) (xs : List A) → AreDifferent (map number xs) → Member x xs → Member y xs → number x ≡ number y → x ≡ y
  only_one x y [] different a b same = absurd a
  only_one x y (z ∷ zs) different (inl p) (inl q) same = p ∙ sym q
  only_one x y (z ∷ zs) different (inl p) (inr q) same = absurd (apart z y zs different.0 q (ap number (sym p) ∙ same))
  only_one x y (z ∷ zs) different (inr p) (inl q) same = absurd (apart z x zs different.0 p (ap number (sym q) ∙ sym same))
  only_one x y (z ∷ zs) different (inr p) (inr q) same = only_one x y zs different.1 p q same

  -- one with that number is found
  pub is_found : (n : ℕ) (x : A) (xs : List A) → Member x xs → number x ≡ n → (y : A) × (find (λ z. number z == n) xs ≡ Some y)
  is_found n x [] there is = absurd there
  is_found n x (y ∷ xs) there is = elim (cases_Bool (number y == n)) as (λ _. (z : A) × ((if number y == n then Some y else find (λ z. number z == n) xs) ≡ Some z)) [
    | inl this ↦ (y, ap (λ (b : Bool). if b then Some y else find (λ z. number z == n) xs) this)
    | inr other ↦
        let rest = is_found n x xs (later there other) is in
        (rest.0, ap (λ (b : Bool). if b then Some y else find (λ z. number z == n) xs) other ∙ rest.1)
  ]
    where
      later : Member x (y ∷ xs) → (number y == n) ≡ false → Member x xs
      later (inl same) other = absurd (let clash : true ≡ false = sym ((Decides-eqb (number y) n).1 (ap number (sym same) ∙ is)) ∙ other in cc clash)
      later (inr m) other = m

  -- what is found is there, and has the number
  pub found_is : (n : ℕ) (x : A) (xs : List A) → find (λ z. number z == n) xs ≡ Some x → Member x xs × (number x ≡ n)
  found_is n x [] is = none_some is
  found_is n x (y ∷ xs) is = elim (cases_Bool (number y == n)) as (λ _. Member x (y ∷ xs) × (number x ≡ n)) [
    | inl this ↦
        let same : y ≡ x = some_inj (sym (ap (λ (b : Bool). if b then Some y else find (λ z. number z == n) xs) this) ∙ is) in
        (inl (sym same), sym (ap number same) ∙ (Decides-eqb (number y) n).0 this)
    | inr other ↦
        let rest = found_is n x xs (sym (ap (λ (b : Bool). if b then Some y else find (λ z. number z == n) xs) other) ∙ is) in
        (inr rest.0, rest.1)
  ]

-- what is found of a view is the view of what is found
pub found_seen : {A B : Type 0} (number : A → ℕ) (seen : B → ℕ) (f : A → B) → ((x : A) → seen (f x) ≡ number x) → (n : ℕ) (xs : List A) → find (λ y. seen y == n) (map f xs) ≡ option_map f (find (λ x. number x == n) xs)
found_seen number seen f same n [] = refl
found_seen number seen f same n (x ∷ xs) =
    ap (λ (k : ℕ). if k == n then Some (f x) else find (λ y. seen y == n) (map f xs)) (same x) ∙ go (number x == n) (found_seen number seen f same n xs)
  where
    go : (b : Bool) → find (λ y. seen y == n) (map f xs) ≡ option_map f (find (λ x. number x == n) xs)
        → (if b then Some (f x) else find (λ y. seen y == n) (map f xs)) ≡ option_map f (if b then Some x else find (λ x. number x == n) xs)
    go true rest = refl
    go false rest = rest
