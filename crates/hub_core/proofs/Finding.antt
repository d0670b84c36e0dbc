-- The first that passes a test, among some that go and one more.
use Rattle.std.proofs.Common.{◌≡◌, ◌⊎◌, Bool, true, false, not, cond, List, [], ◌∷◌, ◌++◌, Some, None, refl, sym, ◌∙◌, ap, subst, inl, inr, map}
use Rattle.node_model.specs.Lists.{Member, without, first_that}

off : {X : Type 0} {b : Bool} → b ≡ true → b ≡ false → X
off {X} {b} t f = absurd (cc)

none_some : {A X : Type 0} {x : A} → None ≡ Some x → X
none_some e = absurd (cc)

pub first-without : {A : Type 0} (p q : A → Bool) (xs : List A) → ((x : A) → Member x xs → q x ≡ true → p x ≡ false) → first_that q (without p xs) ≡ first_that q xs
first-without p q [] apart = refl
first-without {A} p q (x ∷ xs) apart = go (p x) (q x) refl refl (first-without p q xs (λ y m. apart y (inr m)))
  where
    go : (b c : Bool) → p x ≡ b → q x ≡ c → first_that q (without p xs) ≡ first_that q xs → first_that q (cond (not b) (x ∷ without p xs) (without p xs)) ≡ cond c (Some x) (first_that q xs)
    go true true t u rest = off t (apart x (inl refl) u)
    go true false t u rest = rest
    go false true t u rest = ap (λ d. cond d (Some x) (first_that q (without p xs))) u
    go false false t u rest = ap (λ d. cond d (Some x) (first_that q (without p xs))) u ∙ rest

pub first-push_other : {A : Type 0} (q : A → Bool) (xs : List A) (y : A) → q y ≡ false → first_that q (xs ++ y ∷ []) ≡ first_that q xs
first-push_other q [] y fails = ap (λ d. cond d (Some y) None) fails
first-push_other {A} q (x ∷ xs) y fails = ap (λ rest. cond (q x) (Some x) rest) (first-push_other q xs y fails)

pub first-push_own : {A : Type 0} (q : A → Bool) (xs : List A) (y : A) → first_that q xs ≡ None → q y ≡ true → first_that q (xs ++ y ∷ []) ≡ Some y
first-push_own q [] y none passes = ap (λ d. cond d (Some y) None) passes
first-push_own {A} q (x ∷ xs) y none passes = go (q x) refl none (λ n. first-push_own q xs y n passes)
  where
    go : (b : Bool) → q x ≡ b → cond b (Some x) (first_that q xs) ≡ None → (first_that q xs ≡ None → first_that q (xs ++ y ∷ []) ≡ Some y) → cond (q x) (Some x) (first_that q (xs ++ y ∷ [])) ≡ Some y
    go true t n rest = none_some (sym n)
    go false t n rest = ap (λ d. cond d (Some x) (first_that q (xs ++ y ∷ []))) t ∙ rest n

pub first-none : {A : Type 0} (q : A → Bool) (xs : List A) → ((x : A) → Member x xs → q x ≡ false) → first_that q xs ≡ None
first-none q [] none = refl
first-none q (x ∷ xs) none =
    ap (λ d. cond d (Some x) (first_that q xs)) (none x (inl refl)) ∙ first-none q xs (λ y m. none y (inr m))

-- what is found is there, and passes
pub record Found {A : Type 0} (q : A → Bool) (xs : List A) (y : A) : Type 0 where
  pub there : Member y xs
  pub passes : q y ≡ true

pub found : {A : Type 0} (q : A → Bool) (xs : List A) (y : A) → first_that q xs ≡ Some y → Found q xs y
found q [] y is = none_some is
found {A} q (x ∷ xs) y is = go (q x) refl is (λ e. found q xs y e)
  where
    go : (b : Bool) → q x ≡ b → cond b (Some x) (first_that q xs) ≡ Some y → (first_that q xs ≡ Some y → Found q xs y) → Found q (x ∷ xs) y
    go true t e rest =
        let same : x ≡ y = cc in
        record { there = inl (sym same); passes = subst (λ z. q z ≡ true) same t }
    go false t e rest = let f = rest e in record { there = inr f.there; passes = f.passes }

-- of those that are left
pub left_there : {A : Type 0} (p : A → Bool) (xs : List A) (x : A) → Member x (without p xs) → Member x xs × (p x ≡ false)
left_there p [] x m = absurd m
left_there {A} p (y ∷ xs) x m = go (p y) refl m (λ n. left_there p xs x n)
  where
    go : (b : Bool) → p y ≡ b → Member x (cond (not b) (y ∷ without p xs) (without p xs)) → (Member x (without p xs) → Member x xs × (p x ≡ false)) → Member x (y ∷ xs) × (p x ≡ false)
    go true t m rest = let l = rest m in (inr l.0, l.1)
    go false t (inl same) rest = (inl same, ap p same ∙ t)
    go false t (inr m) rest = let l = rest m in (inr l.0, l.1)

pub there_left : {A : Type 0} (p : A → Bool) (xs : List A) (x : A) → Member x xs → p x ≡ false → Member x (without p xs)
there_left p [] x m fails = absurd m
there_left {A} p (y ∷ xs) x (inl same) fails =
    subst (λ (b : Bool). Member x (cond (not b) (y ∷ without p xs) (without p xs))) (sym (ap p (sym same) ∙ fails)) (inl same)
there_left {A} p (y ∷ xs) x (inr m) fails = go (p y) (there_left p xs x m fails)
  where
    go : (b : Bool) → Member x (without p xs) → Member x (cond (not b) (y ∷ without p xs) (without p xs))
    go true l = l
    go false l = inr l

pub pushed : {A : Type 0} (xs : List A) (y x : A) → Member x (xs ++ y ∷ []) → Member x xs ⊎ (x ≡ y)
pushed [] y x (inl same) = inr same
pushed [] y x (inr m) = absurd m
pushed (z ∷ xs) y x (inl same) = inl (inl same)
pushed {A} (z ∷ xs) y x (inr m) = go (pushed xs y x m)
  where
    go : Member x xs ⊎ (x ≡ y) → Member x (z ∷ xs) ⊎ (x ≡ y)
    go (inl n) = inl (inr n)
    go (inr same) = inr same

pub member_map : {A B : Type 0} (f : A → B) (xs : List A) (x : A) → Member x xs → Member (f x) (map f xs)
member_map f [] x m = absurd m
member_map f (y ∷ xs) x (inl same) = inl (ap f same)
member_map f (y ∷ xs) x (inr m) = inr (member_map f xs x m)

-- what stands among the mapped comes from one of these
pub map_member : {A B : Type 0} (f : A → B) (xs : List A) (y : B) → Member y (map f xs) → (x : A) × Member x xs × (y ≡ f x)
map_member f [] y m = absurd m
map_member f (x ∷ xs) y (inl same) = (x, inl refl, same)
map_member f (x ∷ xs) y (inr m) = let w = map_member f xs y m in (w.0, inr w.1, w.2)
