-- Where numbers stand first.
use Rattle.std.proofs.Common.{◌≡◌, ℕ, zero, suc, ◌≤◌, Bool, true, false, List, [], ◌∷◌, ◌++◌, length, take, Option, Some, None, refl, sym, ap, ◌∙◌, arith, inl, inr, subst}
use Rattle.std.specs.Prelude.{option_map, is_some, ◌==◌, ◌||◌, if◌then◌else◌}
use Rattle.std.proofs.lemmas.Bool.{cases_Bool, cases_eq}
use Rattle.std.proofs.lemmas.Bool.Decides.{nat_tests}
use Rattle.file_index.specs.Numbered.{first, is_among}

mapped : (o : Option ℕ) → is_some (option_map (λ i. suc i) o) ≡ is_some o
mapped None = refl
mapped (Some i) = refl

pub first-any : (n : ℕ) (ns : List ℕ) → is_some (first n ns) ≡ is_among n ns
first-any n [] = refl
first-any n (x ∷ xs) = elim (cases_Bool (x == n)) as (λ _. is_some (first n (x ∷ xs)) ≡ is_among n (x ∷ xs)) [
  | inl here ↦ rw here refl
  | inr there ↦ rw there (mapped (first n xs) ∙ first-any n xs)
]

-- the earlier place, or the last
abbrev pub or_last : Option ℕ → Bool → ℕ → Option ℕ
or_last (Some i) here k = Some i
or_last None true k = Some k
or_last None false k = None

later : (o : Option ℕ) (here : Bool) (k : ℕ) → option_map (λ i. suc i) (or_last o here k) ≡ or_last (option_map (λ i. suc i) o) here (suc k)
later (Some i) here k = refl
later None true k = refl
later None false k = refl

pub first-push : (n : ℕ) (ns : List ℕ) (m : ℕ) → first n (ns ++ m ∷ []) ≡ or_last (first n ns) (m == n) (length ns)
first-push n [] m = elim (cases_Bool (m == n)) as (λ _. first n (m ∷ []) ≡ or_last None (m == n) 0) [ inl here ↦ rw here refl | inr there ↦ rw there refl ]
first-push n (x ∷ xs) m = elim (cases_Bool (x == n)) as (λ _. first n ((x ∷ xs) ++ m ∷ []) ≡ or_last (first n (x ∷ xs)) (m == n) (length (x ∷ xs))) [
  | inl here ↦ rw here refl
  | inr there ↦ rw there (ap (option_map (λ i. suc i)) (first-push n xs m) ∙ later (first n xs) (m == n) (length xs))
]

-- the first place of the rest is one less
one_less : (o : Option ℕ) (i : ℕ) → option_map (λ k. suc k) o ≡ Some i → (j : ℕ) × (o ≡ Some j) × (suc j ≡ i)
one_less None i now = absurd (cc now)
one_less (Some j) i now = (j, refl, cc now)

pub first-before : (n : ℕ) (ns : List ℕ) (i k : ℕ) → first n ns ≡ Some i → k ≤ i → is_among n (take k ns) ≡ false
first-before n ns i zero is le = refl
first-before n [] i (suc k) is le = absurd (cc is)
first-before n (x ∷ xs) i (suc k) is le = elim (cases_Bool (x == n)) as (λ _. is_among n (take (suc k) (x ∷ xs)) ≡ false) [
  | inl here ↦ absurd (let now : Some 0 ≡ Some i = sym (ap (λ (b : Bool). if b then Some 0 else option_map (λ k. suc k) (first n xs)) here) ∙ is in
      let zeroth : 0 ≡ i = cc now in
      omega (arith, zeroth, le))
  | inr there ↦ (let later = one_less (first n xs) i (sym (ap (λ (b : Bool). if b then Some 0 else option_map (λ k. suc k) (first n xs)) there) ∙ is) in
      let less : k ≤ later.0 = (let next = later.2 in omega (arith, next, le)) in
      rw there (first-before n xs later.0 k later.1 less))
]

pub none-before : (n : ℕ) (ns : List ℕ) (k : ℕ) → is_among n ns ≡ false → is_among n (take k ns) ≡ false
none-before n ns zero none = refl
none-before n [] (suc k) none = refl
none-before n (x ∷ xs) (suc k) none = elim (cases_Bool (x == n)) as (λ _. is_among n (take (suc k) (x ∷ xs)) ≡ false) [
  | inl here ↦ absurd (let now : true ≡ false = sym (ap (λ (b : Bool). b || is_among n xs) here) ∙ none in cc now)
  | inr there ↦ rw there (none-before n xs k (sym (ap (λ (b : Bool). b || is_among n xs) there) ∙ none))
]

-- one more number, where it stood nowhere
pub first-new : (n : ℕ) (ns : List ℕ) (m : ℕ) → (m == n) ≡ true → first n ns ≡ None → first n (ns ++ m ∷ []) ≡ Some (length ns)
first-new n ns m same none = first-push n ns m ∙ rw (none, same) refl

-- and of another
pub first-other : (n : ℕ) (ns : List ℕ) (m : ℕ) → (m == n) ≡ false → first n (ns ++ m ∷ []) ≡ first n ns
first-other n ns m apart = first-push n ns m ∙ rw apart (kept (first n ns) (length ns))
  where
    kept : (o : Option ℕ) (k : ℕ) → or_last o false k ≡ o
    kept None k = refl
    kept (Some i) k = refl

-- one more number, where it stood already
pub first-again : (n : ℕ) (ns : List ℕ) (m : ℕ) → is_some (first m ns) ≡ true → first n (ns ++ m ∷ []) ≡ first n ns
first-again n ns m stood = elim (cases_eq m n) [
  | inl same ↦ first-push n ns m ∙ here (first n ns) (m == n) (length ns) (subst (λ (k : ℕ). is_some (first k ns) ≡ true) same stood)
  | inr apart ↦ first-other n ns m (let e : (m == n) ≡ false = grind (arith, nat_tests) in e)
]
  where
    here : (o : Option ℕ) (b : Bool) (k : ℕ) → is_some o ≡ true → or_last o b k ≡ o
    here None b k some = absurd (cc some)
    here (Some i) b k some = refl

pub none_of : (o : Option ℕ) → is_some o ≡ false → o ≡ None
none_of None is = refl
none_of (Some i) is = absurd (cc is)
