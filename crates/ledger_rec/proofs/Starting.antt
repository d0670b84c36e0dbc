-- The first that passes stands behind those that can't pass.
use Rattle.std.proofs.Common.{◌≡◌, ℕ, zero, suc, ◌+◌, ◌-◌, ◌==◌, Bool, true, false, ◌&&◌, ◌||◌, List, [], ◌∷◌, length, map, take, drop, Option, Some, None, refl, sym, ap, ◌∙◌, inl, inr, arith}
use Rattle.std.specs.Prelude.{position}
use Rattle.std.specs.List.{position_from}
use Rattle.std.proofs.lemmas.Bool.{cases_Bool, true≢false, and_parts}
use Rattle.std.proofs.lemmas.Bool.Decides.{nat_tests}
use Rattle.std.proofs.lemmas.Iterator.Adapters.{position_from-zero}
use Rattle.std.proofs.Math.Seq.{take-length}
use Rattle.file_index.specs.Numbered.{is_among}

-- a place among those behind the first k
abbrev pub later : ℕ → Option ℕ → Option ℕ
later k None = None
later k (Some i) = Some (k + i)

shift : {A : Type 0} (p : A → Bool) (j i : ℕ) (xs : List A) → position_from p (j + i) xs ≡ later j (position_from p i xs)
shift p j i [] = refl
shift p j i (x ∷ xs) =
    let next : j + i + 1 ≡ j + (i + 1) = omega arith in
    elim (cases_Bool (p x)) as (λ _. position_from p (j + i) (x ∷ xs) ≡ later j (position_from p i (x ∷ xs))) [
      | inl here ↦ rw here refl
      | inr there ↦ rw there (ap (λ (n : ℕ). position_from p n xs) next ∙ shift p j (i + 1) xs)
    ]

module _ {A : Type 0} (p : A → Bool) (number : A → ℕ) (n : ℕ) (numbered : (x : A) → p x ≡ true → number x ≡ n) where
  skip : (k i : ℕ) (xs : List A) → is_among n (take k (map number xs)) ≡ false → position_from p i xs ≡ position_from p (i + k) (drop k xs)
  skip zero i xs none = let same : i ≡ i + 0 = omega arith in ap (λ (m : ℕ). position_from p m xs) same
  skip (suc k) i [] none = refl
  skip (suc k) i (x ∷ xs) none =
      let next : i + 1 + k ≡ i + suc k = omega arith in
      elim (cases_Bool (number x == n)) as (λ _. position_from p i (x ∷ xs) ≡ position_from p (i + suc k) (drop (suc k) (x ∷ xs))) [
        | inl here ↦ absurd (true≢false (sym (ap (λ (b : Bool). b || is_among n (take k (map number xs))) here) ∙ none))
        | inr there ↦ (let rest : is_among n (take k (map number xs)) ≡ false = sym (ap (λ (b : Bool). b || is_among n (take k (map number xs))) there) ∙ none in
            let fails : p x ≡ false = elim (cases_Bool (p x)) as (λ _. p x ≡ false) [
              | inl passes ↦ absurd (let is = numbered x passes in let e : (number x == n) ≡ true = grind (arith, nat_tests) in true≢false (sym e ∙ there))
              | inr fails ↦ fails
            ] in
            rw fails (skip k (i + 1) xs rest ∙ ap (λ (m : ℕ). position_from p m (drop k xs)) next))
      ]

  pub started : (k : ℕ) (xs : List A) → is_among n (take k (map number xs)) ≡ false → position p xs ≡ later k (position p (drop k xs))
  started k xs none =
      let first : 0 + k ≡ k + 0 = omega arith in
      position_from-zero p xs ∙ skip k 0 xs none ∙ ap (λ (m : ℕ). position_from p m (drop k xs)) first ∙ shift p k 0 (drop k xs) ∙ ap (later k) (sym (position_from-zero p (drop k xs)))

-- the slice from a place on
pub rest_of : {A : Type 0} (k : ℕ) (xs : List A) → take (length xs - k) (drop k xs) ≡ drop k xs
rest_of zero xs = let same : length xs - 0 ≡ length xs = omega arith in ap (λ (n : ℕ). take n xs) same ∙ take-length xs
rest_of (suc k) [] = let none : 0 - suc k ≡ 0 = omega arith in ap (λ (n : ℕ). take n []) none
rest_of (suc k) (x ∷ xs) = let less : length (x ∷ xs) - suc k ≡ length xs - k = omega arith in ap (λ (n : ℕ). take n (drop k xs)) less ∙ rest_of k xs

map_twice : {A B C : Type 0} (f : B → C) (g : A → B) (xs : List A) → map f (map g xs) ≡ map (λ x. f (g x)) xs
map_twice f g [] = refl
map_twice f g (x ∷ xs) = ap (λ ys. f (g x) ∷ ys) (map_twice f g xs)

pub length_twice : {A B C : Type 0} (f : B → C) (g : A → B) (xs : List A) → length xs ≡ length (map f (map g xs))
length_twice f g [] = refl
length_twice f g (x ∷ xs) = ap (λ (n : ℕ). suc n) (length_twice f g xs)

-- the same of items, by what contracts see of them
pub started_view : {A E : Type 0} (view : A → E) (p : E → Bool) (number : E → ℕ) (n : ℕ) (numbered : (x : E) → p x ≡ true → number x ≡ n) (k : ℕ) (xs : List A) → is_among n (take k (map number (map view xs))) ≡ false → position (λ x. p (view x)) xs ≡ later k (position (λ x. p (view x)) (drop k xs))
started_view view p number n numbered k xs none =
    started (λ x. p (view x)) (λ x. number (view x)) n (λ x passes. numbered (view x) passes) k xs (sym (ap (λ (ns : List ℕ). is_among n (take k ns)) (map_twice number view xs)) ∙ none)

-- a number and more
pub is_number : (a n : ℕ) (b : Bool) → (a == n && b) ≡ true → a ≡ n
is_number a n b both = let e = (and_parts (a == n) b both).0 in grind (arith, nat_tests)

pub same_number : (a n : ℕ) → (a == n) ≡ true → a ≡ n
same_number a n same = grind (arith, nat_tests)
