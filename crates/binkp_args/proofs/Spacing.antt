-- Words with one space between them are the first word, and each other one behind a space.
use Rattle.std.proofs.Common.{◌≡◌, ℕ, ◌≤◌, List, [], ◌∷◌, ◌++◌, length, take, map, refl, sym, ap, ◌∙◌}
use Rattle.std.specs.List.{flat_map}
use Rattle.std.proofs.lemmas.List.{append-nil, take_all}
use Rattle.binkp_args.specs.Words.{spaced}

pub spaced-map : {X : Type 0} (text_of : X → List ℕ) (first : X) (more : List X) → spaced (map text_of (first ∷ more)) ≡ text_of first ++ flat_map (λ x. 32 ∷ text_of x) more
spaced-map text_of first [] = sym (append-nil (text_of first))
spaced-map text_of first (second ∷ more) = ap (λ (x : List ℕ). text_of first ++ 32 ∷ x) (spaced-map text_of second more)

-- what is written behind each other is all the words
pub all_spaced : {X : Type 0} (text_of : X → List ℕ) (all : List X) (first : X) (more : List X) (i : ℕ) (empty start text : List ℕ) → all ≡ first ∷ more → length more ≤ i → empty ≡ [] → start ≡ empty ++ text_of first → text ≡ start ++ flat_map (λ x. 32 ∷ text_of x) (take i more) → text ≡ spaced (map text_of all)
all_spaced {X} text_of all first more i empty start text parts past none begins ends =
    let begun : start ≡ text_of first = begins ∙ ap (λ (x : List ℕ). x ++ text_of first) none in
    let whole : take i more ≡ more = take_all i more past in
    ends ∙ ap (λ (x : List ℕ). x ++ flat_map (λ x. 32 ∷ text_of x) (take i more)) begun ∙ ap (λ (xs : List X). text_of first ++ flat_map (λ x. 32 ∷ text_of x) xs) whole ∙ sym (spaced-map text_of first more) ∙ ap (λ (xs : List X). spaced (map text_of xs)) (sym parts)

-- a map after a map is one
twice : {X Y Z : Type 0} (g : Y → Z) (f : X → Y) (xs : List X) → map (λ x. g (f x)) xs ≡ map g (map f xs)
twice g f [] = refl
twice g f (x ∷ xs) = ap (λ ys. g (f x) ∷ ys) (twice g f xs)

pub all_viewed : {X Y : Type 0} (text_of : Y → List ℕ) (view : X → Y) (all : List X) (text : List ℕ) → text ≡ spaced (map (λ x. text_of (view x)) all) → text ≡ spaced (map text_of (map view all))
all_viewed text_of view all text e = e ∙ ap spaced (twice text_of view all)
