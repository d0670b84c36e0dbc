-- The greatest of some numbers.
use Rattle.std.proofs.Common.{◌≡◌, inl, inr, ℕ, ◌+◌, ◌<◌, ◌≤◌, ◌==◌, max, List, [], ◌∷◌, ◌++◌, length, map, take, get_or, fold, true, refl, sym, ◌∙◌, ap, arith}
use Rattle.std.specs.List.{AllByRecursion}
use Rattle.std.proofs.lemmas.List.{take_more}
use Rattle.std.proofs.lemmas.Bool.Decides.{Decides-eqb}
use Rattle.ledger_rec.specs.Fold.{is_among}
use Rattle.node_model.proofs.Lists.{off, or_cases}
use Rattle.node_store.specs.Opening.{greatest}

fold_append : (a : ℕ) (xs : List ℕ) (x : ℕ) → fold max a (xs ++ x ∷ []) ≡ max (fold max a xs) x
fold_append a [] x = refl
fold_append a (y ∷ ys) x = fold_append (max a y) ys x

map_last : {A B : Type 0} (f : A → B) (xs : List A) (x : A) → map f (xs ++ x ∷ []) ≡ map f xs ++ f x ∷ []
map_last f [] x = refl
map_last f (y ∷ ys) x = ap (λ l. f y ∷ l) (map_last f ys x)

pub greatest_more : {A : Type 0} (number : A → ℕ) (xs : List A) (i : ℕ) (x : A) → i < length xs → x ≡ get_or xs i x → greatest (map number (take (i + 1) xs)) ≡ max (greatest (map number (take i xs))) (number x)
greatest_more {A} number xs i x lt is =
    ap (λ (l : List A). greatest (map number l)) (take_more xs i x lt ∙ ap (λ (y : A). take i xs ++ y ∷ []) (sym is)) ∙ ap greatest (map_last number (take i xs) x) ∙ fold_append 0 (map number (take i xs)) (number x)

pub map_map : {A B : Type 0} (f : A → B) (number : B → ℕ) (xs : List A) → map number (map f xs) ≡ map (λ a. number (f a)) xs
map_map f number [] = refl
map_map f number (x ∷ xs) = ap (λ (l : List ℕ). number (f x) ∷ l) (map_map f number xs)

above_start : (a : ℕ) (xs : List ℕ) → a ≤ fold max a xs
above_start a [] = omega arith
above_start a (x ∷ xs) = let h = above_start (max a x) xs in omega (arith, h)

among_below : (n a : ℕ) (xs : List ℕ) → is_among n xs ≡ true → n ≤ fold max a xs
among_below n a [] is = off (sym is)
among_below n a (x ∷ xs) is = elim (or_cases (x == n) (is_among n xs) is) [
  | inl here ↦ let same = (Decides-eqb x n).0 here in let h = above_start (max a x) xs in omega (arith, h, same)
  | inr later ↦ among_below n (max a x) xs later
]

pub among_greatest : (n : ℕ) (xs : List ℕ) → is_among n xs ≡ true → n ≤ greatest xs
among_greatest n xs is = among_below n 0 xs is

-- each of these numbers is at most the greatest
pub each_below : {A : Type 0} (number : A → ℕ) (a : ℕ) (xs : List A) → AllByRecursion (λ (x : A). number x ≤ fold max a (map number xs)) xs
each_below number a [] = tt
each_below number a (x ∷ xs) = (above number a x xs, each_below number (max a (number x)) xs)
  where
    above : {A : Type 0} (number : A → ℕ) (a : ℕ) (x : A) (xs : List A) → number x ≤ fold max a (map number (x ∷ xs))
    above number a x xs = let h = above_start (max a (number x)) (map number xs) in omega (arith, h)

-- each of these numbers is at most the greatest of them and another
pub numbers_below : (a : ℕ) (xs : List ℕ) → AllByRecursion (λ n. n ≤ fold max a xs) xs
numbers_below a [] = tt
numbers_below a (x ∷ xs) = (let h = above_start (max a x) xs in omega (arith, h), numbers_below (max a x) xs)
