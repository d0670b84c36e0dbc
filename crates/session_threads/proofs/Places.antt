-- A slot that is replaced.
use Rattle.std.proofs.Common.{◌≡◌, ℕ, zero, suc, List, [], ◌∷◌, ◌++◌, ◌+◌, Some, None, ◌<◌, length, map, option_map, replicate, slice_get, slice_index_or, slice_set, arith, refl, sym, ap, ◌∙◌, subst}
use Rattle.std.proofs.lemmas.List.{length-map, map-append, map-set, replicate_more}
use Rattle.std.proofs.lemmas.Option.{get_or_from_slice_get, slice_get-map, slice_get_within}

-- what holds of each item, by its place, holds once one is replaced by such an item
pub each_set : {A : Type 0} (P : ℕ → A → Type 0) (xs : List A) (k : ℕ) (x : A) → ((j : ℕ) (y : A) → slice_get xs j ≡ Some y → P j y) → P k x → (j : ℕ) (y : A) → slice_get (slice_set xs k x) j ≡ Some y → P j y
each_set P [] k x each here j y is = each j y is
each_set P (z ∷ xs) zero x each here zero y is = let same : x ≡ y = cc in subst (P 0) same here
each_set P (z ∷ xs) zero x each here (suc j) y is = each (suc j) y is
each_set P (z ∷ xs) (suc k) x each here zero y is = each 0 y is
each_set P (z ∷ xs) (suc k) x each here (suc j) y is = each_set (λ i. P (suc i)) xs k x (λ i w at. each (suc i) w at) here j y is

-- what is seen of a place
pub seen_at : {A B : Type 0} (v : A → B) (xs : List A) (ys : List B) (k : ℕ) (x : A) → map v xs ≡ ys → slice_get xs k ≡ Some x → slice_get ys k ≡ Some (v x)
seen_at v xs ys k x is at = subst (λ zs. slice_get zs k ≡ Some (v x)) is (slice_get-map v xs k ∙ ap (λ o. option_map v o) at)

-- what is seen of all, once an item is replaced
pub seen_set : {A B : Type 0} (v : A → B) (xs zs : List A) (ys : List B) (k : ℕ) (x : A) → map v xs ≡ ys → zs ≡ slice_set xs k x → map v zs ≡ slice_set ys k (v x)
seen_set v xs zs ys k x is set = ap (map v) set ∙ (map-set v xs k x ∙ ap (λ us. slice_set us k (v x)) is)

-- a place of which something is seen
pub is_within : {A B : Type 0} (v : A → B) (xs : List A) (ys : List B) (j k : ℕ) (y : B) → map v xs ≡ ys → slice_get ys k ≡ Some y → j ≡ k → j < length xs
is_within v xs ys j k y is at same =
    let within : k < length ys = slice_get_within ys k y at in
    omega (arith, same, within, ap length is, length-map xs v)

-- a place that is set twice
set_twice : {A : Type 0} (xs : List A) (k : ℕ) (x y : A) → slice_set (slice_set xs k x) k y ≡ slice_set xs k y
set_twice [] k x y = refl
set_twice (z ∷ xs) zero x y = refl
set_twice (z ∷ xs) (suc k) x y = ap (λ us. z ∷ us) (set_twice xs k x y)

-- an item that is replaced, and replaced again
pub again_set : {A : Type 0} (xs ys zs : List A) (k : ℕ) (x y : A) → ys ≡ slice_set xs k x → zs ≡ slice_set ys k y → zs ≡ slice_set xs k y
again_set xs ys zs k x y first second = second ∙ (ap (λ us. slice_set us k y) first ∙ set_twice xs k x y)

-- how many there are then
pub length_set : {A : Type 0} (xs : List A) (k : ℕ) (x : A) → length (slice_set xs k x) ≡ length xs
length_set [] k x = refl
length_set (z ∷ xs) zero x = refl
length_set (z ∷ xs) (suc k) x = ap suc (length_set xs k x)

-- a place at which an item was replaced
pub still_within : {A : Type 0} (xs ys : List A) (k : ℕ) (x y : A) → slice_get xs k ≡ Some x → ys ≡ slice_set xs k y → k < length ys
still_within xs ys k x y at is = let within = slice_get_within xs k x at in rw (is, length_set xs k y) within

-- of what comes behind n items: the first is at the place n
pub first_comes : {A : Type 0} (P : ℕ → A → Type 0) (n : ℕ) (before rest : List A) (x : A) → before ≡ x ∷ rest → ((k : ℕ) (y : A) → slice_get before k ≡ Some y → P (n + k) y) → P n x
first_comes P n before rest x is each = let here : n + 0 ≡ n = omega arith in subst (λ i. P i x) here (each 0 x (rw is refl))

-- and the rest comes behind n + 1 items
pub rest_comes : {A : Type 0} (P : ℕ → A → Type 0) (n m : ℕ) (before rest : List A) (x : A) → before ≡ x ∷ rest → m ≡ n + 1 → ((k : ℕ) (y : A) → slice_get before k ≡ Some y → P (n + k) y) → (k : ℕ) (y : A) → slice_get rest k ≡ Some y → P (m + k) y
rest_comes P n m before rest x is more each k y at =
    let there : n + suc k ≡ m + k = omega arith in
    subst (λ i. P i y) there (each (suc k) y (rw is at))

snoc_each : {A : Type 0} (P : ℕ → A → Type 0) (xs : List A) (x : A) → ((k : ℕ) (y : A) → slice_get xs k ≡ Some y → P k y) → P (length xs) x → (k : ℕ) (y : A) → slice_get (xs ++ x ∷ []) k ≡ Some y → P k y
snoc_each P [] x each last zero y at = let same : x ≡ y = cc in subst (P 0) same last
snoc_each P [] x each last (suc k) y at = absurd (let none : None ≡ Some y = at in cc)
snoc_each P (z ∷ xs) x each last zero y at = each 0 y at
snoc_each P (z ∷ xs) x each last (suc k) y at = snoc_each (λ i. P (suc i)) xs x (λ i w q. each (suc i) w q) last k y at

-- one more item behind n others
pub one_more : {A : Type 0} (P : ℕ → A → Type 0) (n : ℕ) (xs ys : List A) (x : A) → ys ≡ xs ++ x ∷ [] → n ≡ length xs → ((k : ℕ) (y : A) → slice_get xs k ≡ Some y → P k y) → P n x → (k : ℕ) (y : A) → slice_get ys k ≡ Some y → P k y
one_more P n xs ys x is len each last k y at = snoc_each P xs x each (subst (λ i. P i x) len last) k y (rw (← is) at)

-- what is read at a place
pub read_at : {A : Type 0} (P : ℕ → A → Type 0) (n : ℕ) (xs : List A) → n ≡ length xs → ((k : ℕ) (d : A) → k < n → P k (slice_index_or xs k d)) → (k : ℕ) (y : A) → slice_get xs k ≡ Some y → P k y
read_at P n xs len each k y at =
    let within = slice_get_within xs k y at in
    subst (P k) (get_or_from_slice_get xs k y y at) (each k y (omega arith))

-- the same is seen of each, and of one more
pub seen_more : {A B : Type 0} (v : A → B) (xs ys : List A) (n m : ℕ) (x : A) (y : B) → map v xs ≡ replicate n y → ys ≡ xs ++ x ∷ [] → m ≡ n + 1 → v x ≡ y → map v ys ≡ replicate m y
seen_more v xs ys n m x y is pushed more here =
    ap (map v) pushed ∙ (map-append v xs (x ∷ []) ∙ (ap (λ ws. ws ++ v x ∷ []) is ∙ (ap (λ w. replicate n y ++ w ∷ []) here ∙ (replicate_more n y ∙ ap (λ k. replicate k y) (sym more)))))
