-- The names that pass a test.
use Rattle.std.proofs.Common.{◌≡◌, ◌≢◌, inl, inr, ℕ, List, [], ◌∷◌, filter, Bool, true, false, refl, sym, ◌∙◌, ap}
use Rattle.std.specs.Prelude.{if◌then◌else◌}
use Rattle.node_model.specs.Lists.{Each, Member}
use Rattle.node_model.proofs.Lists.{off}
use Rattle.node_store.specs.Names.{AreDistinct}

-- the first is there where it passes
chosen : (P : List (List ℕ) → Type 0) (b : Bool) (x : List ℕ) (rest : List (List ℕ)) → (b ≡ true → P (x ∷ rest)) → (b ≡ false → P rest) → P (if b then x ∷ rest else rest)
chosen P true x rest there gone = there refl
chosen P false x rest there gone = gone refl

pub each_passed : (P : List ℕ → Type 0) (p : List ℕ → Bool) (xs : List (List ℕ)) → Each P xs → Each P (filter p xs)
each_passed P p [] all = tt
each_passed P p (x ∷ xs) all = let rest = each_passed P p xs all.1 in chosen (Each P) (p x) x (filter p xs) (λ is. (all.0, rest)) (λ is. rest)

pub distinct_passed : (p : List ℕ → Bool) (xs : List (List ℕ)) → AreDistinct xs → AreDistinct (filter p xs)
distinct_passed p [] apart = tt
distinct_passed p (x ∷ xs) apart =
    let rest = distinct_passed p xs apart.1 in
    chosen AreDistinct (p x) x (filter p xs) (λ is. (each_passed (λ (other : List ℕ). other ≢ x) p xs apart.0, rest)) (λ is. rest)

pub member_passed : (p : List ℕ → Bool) (xs : List (List ℕ)) (name : List ℕ) → Member name xs → p name ≡ true → Member name (filter p xs)
member_passed p [] name there passed = absurd there
member_passed p (x ∷ xs) name (inl here) passed = chosen (Member name) (p x) x (filter p xs) (λ is. inl here) (λ is. off (sym passed ∙ ap p here ∙ is))
member_passed p (x ∷ xs) name (inr there) passed =
    let rest = member_passed p xs name there passed in
    chosen (Member name) (p x) x (filter p xs) (λ is. inr rest) (λ is. rest)

-- a member of what passed
split : (P : Type 0) (b : Bool) (name x : List ℕ) (rest : List (List ℕ)) → Member name (if b then x ∷ rest else rest) → (b ≡ true → name ≡ x → P) → (Member name rest → P) → P
split P true name x rest (inl here) first later = first refl here
split P true name x rest (inr there) first later = later there
split P false name x rest there first later = later there

pub passed_member : (p : List ℕ → Bool) (xs : List (List ℕ)) (name : List ℕ) → Member name (filter p xs) → Member name xs × (p name ≡ true)
passed_member p [] name there = absurd there
passed_member p (x ∷ xs) name there =
    let rest = passed_member p xs name in
    split (Member name (x ∷ xs) × (p name ≡ true)) (p x) name x (filter p xs) there (λ is here. (inl here, ap p here ∙ is)) (λ m. let h = rest m in (inr h.0, h.1))
