-- Lists without repeats, and facts of each item.
use Rattle.std.proofs.Common.{◌≡◌, ◌≢◌, ℕ, Bool, true, false, not, ◌||◌, ◌==◌, if◌then◌else◌, List, [], ◌∷◌, ◌++◌, Some, None, map, find, refl, sym, ap, ◌∙◌, inl, inr}
use Rattle.std.proofs.lemmas.Bool.Decides.{Decides-eqb}
use Rattle.node_model.specs.Lists.{Member, Each, some_passes, without}
use Rattle.node_model.specs.Sound.{Distinct}
use Rattle.node_model.proofs.Lists.{off, is_false, none_some, both_false, or_false, Each-member, none_passes-append}

-- numbers that differ fail the test
pub apart_numbers : (a b : ℕ) → a ≢ b → (a == b) ≡ false
apart_numbers a b apart = is_false (a == b) (λ t. apart ((Decides-eqb a b).0 t))

pub same_numbers : (a b : ℕ) → (a == b) ≡ false → a ≢ b
same_numbers a b e same = off (sym ((Decides-eqb a b).1 same) ∙ e)

pub each_of : {A : Type 0} (P : A → Type 0) (xs : List A) → ((x : A) → Member x xs → P x) → Each P xs
each_of P [] f = tt
each_of P (x ∷ xs) f = (f x (inl refl), each_of P xs (λ y m. f y (inr m)))

pub each_map : {A B : Type 0} (P : A → Type 0) (Q : B → Type 0) (f : A → B) (xs : List A) → ((x : A) → P x → Q (f x)) → Each P xs → Each Q (map f xs)
each_map P Q f [] g a = tt
each_map P Q f (x ∷ xs) g a = (g x a.0, each_map P Q f xs g a.1)

pub member_map : {A B : Type 0} (f : A → B) (x : A) (xs : List A) → Member x xs → Member (f x) (map f xs)
member_map f x [] m = absurd m
member_map f x (y ∷ ys) (inl e) = inl (ap f e)
member_map f x (y ∷ ys) (inr m) = inr (member_map f x ys m)

pub none_each : {A : Type 0} (p : A → Bool) (xs : List A) → Each (λ x. p x ≡ false) xs → some_passes p xs ≡ false
none_each p [] a = refl
none_each p (x ∷ xs) a = both_false (p x) _ a.0 (none_each p xs a.1)

pub each_none : {A : Type 0} (p : A → Bool) (xs : List A) → some_passes p xs ≡ false → Each (λ x. p x ≡ false) xs
each_none p [] e = tt
each_none p (x ∷ xs) e = let h = or_false (p x) (some_passes p xs) e in (h.0, each_none p xs h.1)

pub find_none : {A : Type 0} (p : A → Bool) (xs : List A) → find p xs ≡ None → Each (λ x. p x ≡ false) xs
find_none p [] e = tt
find_none p (x ∷ xs) e = go (p x) refl e (find_none p xs)
  where
    go : (b : Bool) → p x ≡ b → (if b then Some x else find p xs) ≡ None → (find p xs ≡ None → Each (λ y. p y ≡ false) xs) → Each (λ y. p y ≡ false) (x ∷ xs)
    go true t f rest = none_some (sym f)
    go false t f rest = (t, rest f)

pub some_passes_map : {A : Type 0} (p : A → Bool) (f : A → A) (xs : List A) → ((x : A) → p (f x) ≡ p x) → some_passes p (map f xs) ≡ some_passes p xs
some_passes_map p f [] same = refl
some_passes_map p f (x ∷ xs) same = let h = some_passes_map p f xs same in λ i. same x i || h i

-- what is left out passes nowhere

pub without_none : {A : Type 0} (p : A → Bool) (xs : List A) → Each (λ x. p x ≡ false) (without p xs)
without_none p [] = tt
without_none p (x ∷ xs) = go (p x) refl (without_none p xs)
  where
    go : (b : Bool) → p x ≡ b → Each (λ y. p y ≡ false) (without p xs) → Each (λ y. p y ≡ false) (if not b then x ∷ without p xs else without p xs)
    go true t rest = rest
    go false t rest = (t, rest)

pub none_without : {A : Type 0} (q p : A → Bool) (xs : List A) → some_passes q xs ≡ false → some_passes q (without p xs) ≡ false
none_without q p [] e = refl
none_without q p (x ∷ xs) e = let h = or_false (q x) (some_passes q xs) e in go (p x) h.0 (none_without q p xs h.1)
  where
    go : (b : Bool) → q x ≡ false → some_passes q (without p xs) ≡ false → some_passes q (if not b then x ∷ without p xs else without p xs) ≡ false
    go true this rest = rest
    go false this rest = both_false _ _ this rest

-- no repeats

pub distinct_without : {A : Type 0} (same : A → A → Bool) (p : A → Bool) (xs : List A) → Distinct same xs → Distinct same (without p xs)
distinct_without same p [] d = tt
distinct_without same p (x ∷ xs) d = go (p x) (distinct_without same p xs d.1)
  where
    go : (b : Bool) → Distinct same (without p xs) → Distinct same (if not b then x ∷ without p xs else without p xs)
    go true rest = rest
    go false rest = (none_without (same x) p xs d.0, rest)

pub distinct_push : {A : Type 0} (same : A → A → Bool) (xs : List A) (y : A) → Distinct same xs → Each (λ x. same x y ≡ false) xs → Distinct same (xs ++ y ∷ [])
distinct_push same [] y d e = (refl, tt)
distinct_push same (x ∷ xs) y d e = (none_passes-append (same x) xs y d.0 e.0, distinct_push same xs y d.1 e.1)

pub distinct_map : {A : Type 0} (same : A → A → Bool) (f : A → A) (xs : List A) → ((x y : A) → same (f x) (f y) ≡ same x y) → Distinct same xs → Distinct same (map f xs)
distinct_map same f [] alike d = tt
distinct_map {A = A} same f (x ∷ xs) alike d = (one xs ∙ d.0, distinct_map same f xs alike d.1)
  where
    one : (ys : List A) → some_passes (same (f x)) (map f ys) ≡ some_passes (same x) ys
    one [] = refl
    one (y ∷ ys) = let h = one ys in λ i. alike x y i || h i

-- two items that are the same are one
pub distinct_one : {A : Type 0} (same : A → A → Bool) (xs : List A) (x y : A) → Distinct same xs → Member x xs → Member y xs → same x y ≡ true → same y x ≡ true → x ≡ y
distinct_one same [] x y d a b s t = absurd a
distinct_one same (z ∷ zs) x y d (inl a) (inl b) s t = a ∙ sym b
distinct_one same (z ∷ zs) x y d (inl a) (inr b) s t =
    off (sym s ∙ (ap (λ w. same w y) a ∙ Each-member (λ w. same z w ≡ false) y zs (each_none (same z) zs d.0) b))
distinct_one same (z ∷ zs) x y d (inr a) (inl b) s t =
    off (sym t ∙ (ap (λ w. same w x) b ∙ Each-member (λ w. same z w ≡ false) x zs (each_none (same z) zs d.0) a))
distinct_one same (z ∷ zs) x y d (inr a) (inr b) s t = distinct_one same zs x y d.1 a b s t
