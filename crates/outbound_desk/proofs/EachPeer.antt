-- What holds of all peers holds of each, and what an answer that is missing says.
use Rattle.std.proofs.Common.{◌≡◌, ℕ, false, List, [], ◌∷◌, map, Option, Some, None, refl, sym, subst, inl, inr}
use Rattle.std.specs.Option.{is_some}
use Rattle.std.specs.Prelude.{slice_get}
use Rattle.std.proofs.lemmas.List.Elements.{All-head, All-tail}
use Rattle.std.specs.List.{All}
use Rattle.node_model.specs.Lists.{Member}

pub all_there : {A : Type 0} (P : A → Type 0) (xs : List A) (x : A) → All P xs → Member x xs → P x
all_there P [] x all there = absurd there
all_there P (y ∷ xs) x all (inl same) = subst P (sym same) (All-head P y xs all)
all_there P (y ∷ xs) x all (inr behind) = all_there P xs x (All-tail P y xs all) behind

-- and of the first
pub first_there : {A B : Type 0} (f : A → B) (P : B → Type 0) (xs : List A) (x : A) → All P (map f xs) → Some x ≡ slice_get xs 0 → P (f x)
first_there f P [] x all is = absurd (cc)
first_there f P (y ∷ xs) x all is = let same : x ≡ y = cc in subst (λ z. P (f z)) (sym same) (All-head P (f y) (map f xs) all)

-- No count.

pub none_is : (o : Option ℕ) → is_some o ≡ false → o ≡ None
none_is None is = refl
none_is (Some x) is = absurd (cc)

pub none_unless : {A : Type 0} (o : Option A) → ((x : A) → o ≡ Some x → ⊥) → o ≡ None
none_unless None other = refl
none_unless (Some x) other = absurd (other x refl)
