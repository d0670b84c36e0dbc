-- What holds of a list, by what holds of one of its elements and of the list without it.
use Rattle.std.proofs.Common.{◌≡◌, ◌≢◌, ℕ, zero, suc, ◌<◌, Bool, true, false, true≢false, List, [], ◌∷◌, length, map, remove, Option, None, Some, All, Contains, slice_get, slice_index_or, refl, sym, ap, ◌∙◌, subst, arith}

-- no element is k, and one is
pub found : {A : Type 0} (f : A → ℕ) (os : List A) (k i : ℕ) → i < length (map f os) → slice_index_or (map f os) i k ≡ k → All (λ o. f o ≢ k) os → ⊥
found f [] k i l e h = absurd (omega arith)
found f (o ∷ os) k zero l e h = h 0 o (omega arith) e
found f (o ∷ os) k (suc i) l e h = found f os k i (omega arith) e (λ j d l. h (suc j) d (omega arith))

some_of : {A : Type 0} → A → Option A → A
some_of d (Some y) = y
some_of d None = d

is_full : {A : Type 0} → Option A → Bool
is_full (Some x) = true
is_full None = false

module _ {A B : Type 0} (J : A → B) where
  get_map : (l : List A) (k : ℕ) (o : B) → slice_get (map J l) k ≡ Some o → (p : A) × (slice_get l k ≡ Some p) × (J p ≡ o)
  unfolding some_of is_full
  get_map [] k o e = absurd (true≢false (sym (ap is_full e)))
  get_map (y ∷ ys) zero o e = (y, refl, ap (some_of o) e)
  get_map (y ∷ ys) (suc k) o e = get_map ys k o e

  get_back : (xs : List A) (i : ℕ) → i < length xs → (k : ℕ) (p : A) → slice_get (remove xs i) k ≡ Some p → (m : ℕ) × (slice_get xs m ≡ Some p)
  get_back [] i l k p e = absurd (omega arith)
  get_back (y ∷ ys) zero l k p e = (suc k, e)
  get_back (y ∷ ys) (suc i) l zero p e = (0, e)
  get_back (y ∷ ys) (suc i) l (suc k) p e = let r = get_back ys i (omega arith) k p e in (suc r.0, r.1)

  get_here : (xs : List A) (i : ℕ) (x : A) → i < length xs → x ≡ slice_index_or xs i x → slice_get xs i ≡ Some x
  get_here [] i x l e = absurd (omega arith)
  get_here (y ∷ ys) zero x l e = ap Some (sym e)
  get_here (y ∷ ys) (suc i) x l e = get_here ys i x (omega arith) e

  -- an image of the one or of the rest is an image of an element of the whole
  pub get_of_whole : (xs : List A) (i : ℕ) (x : A) → i < length xs → x ≡ slice_index_or xs i x → (k : ℕ) (o : B) → slice_get (J x ∷ map J (remove xs i)) k ≡ Some o
      → (m : ℕ) × (p : A) × (slice_get xs m ≡ Some p) × (J p ≡ o)
  unfolding some_of
  get_of_whole xs i x l here zero o e = (i, x, get_here xs i x l here, ap (some_of o) e)
  get_of_whole xs i x l here (suc k) o e = let g = get_map (remove xs i) k o e in let b = get_back xs i l k g.0 g.1 in (b.0, g.0, b.1, g.2)

  all_in_map : (P : B → Type 0) (zs : List A) → All P (map J zs) → All (λ a. P (J a)) zs
  all_in_map P [] g k d lt = absurd (omega arith)
  all_in_map P (z ∷ zs) g zero d lt = g 0 (J z) (omega arith)
  all_in_map P (z ∷ zs) g (suc k) d lt = all_in_map P zs (λ j e l. g (suc j) e (omega arith)) k d (omega arith)

  all_cons : (P : B → Type 0) (y : A) (ys : List A) → P (J y) → All (λ a. P (J a)) ys → All (λ a. P (J a)) (y ∷ ys)
  all_cons P y ys p h zero d lt = p
  all_cons P y ys p h (suc k) d lt = h k d (omega arith)

  without : (P : B → Type 0) (x y : B) (zs : List B) → All P (x ∷ y ∷ zs) → All P (x ∷ zs)
  without P x y zs h zero e l = h 0 e (omega arith)
  without P x y zs h (suc k) e l = h (suc (suc k)) e (omega arith)

  -- what holds of all images of the one and of the rest holds of all of the whole
  pub all_of_whole : (P : B → Type 0) (xs : List A) (i : ℕ) (x : A) → i < length xs → x ≡ slice_index_or xs i x → All P (J x ∷ map J (remove xs i)) → All (λ a. P (J a)) xs
  all_of_whole P [] i x l here h = absurd (omega arith)
  all_of_whole P (y ∷ ys) zero x l here h = all_cons P y ys (subst (λ (z : A). P (J z)) here (h 0 (J x) (omega arith))) (all_in_map P ys (λ j e l'. h (suc j) e (omega arith)))
  all_of_whole P (y ∷ ys) (suc i) x l here h = all_cons P y ys (h 1 (J y) (omega arith)) (all_of_whole P ys i x (omega arith) here (without P (J x) (J y) (map J (remove ys i)) h))

  map_twice : (s : B → ℕ) (xs : List A) → map (λ a. s (J a)) xs ≡ map s (map J xs)
  map_twice s [] = refl
  map_twice s (y ∷ ys) = ap (λ (l : List ℕ). s (J y) ∷ l) (map_twice s ys)

  shifted : (s : B → ℕ) (n : ℕ) (x y : B) (zs : List B) → Contains (map s (x ∷ zs)) n → Contains (map s (x ∷ y ∷ zs)) n
  shifted s n x y zs (zero, lt, e) = (0, omega arith, e)
  shifted s n x y zs (suc m, lt, e) = (suc (suc m), omega (arith, lt), e)

  -- a number of the whole is one of the one or of the rest
  pub number_of_whole : (s : B → ℕ) (n : ℕ) (xs : List A) (i : ℕ) (x : A) → i < length xs → x ≡ slice_index_or xs i x → (k : ℕ) → k < length (map (λ a. s (J a)) xs) → slice_index_or (map (λ a. s (J a)) xs) k n ≡ n
      → Contains (map s (J x ∷ map J (remove xs i))) n
  number_of_whole s n [] i x l here k lt e = absurd (omega arith)
  number_of_whole s n (y ∷ ys) zero x l here zero lt e = (0, omega arith, ap (λ (z : A). s (J z)) here ∙ e)
  number_of_whole s n (y ∷ ys) zero x l here (suc k) lt e =
      let c : Contains (map s (map J ys)) n = subst (λ (l : List ℕ). Contains l n) (map_twice s ys) (k, omega arith, e) in let lt : c.0 < length (map s (map J ys)) = c.1 in (suc c.0, omega (arith, lt), c.2)
  number_of_whole s n (y ∷ ys) (suc i) x l here zero lt e = (1, omega arith, e)
  number_of_whole s n (y ∷ ys) (suc i) x l here (suc k) lt e = shifted s n (J x) (J y) (map J (remove ys i)) (number_of_whole s n ys i x (omega arith) here k (omega arith) e)
