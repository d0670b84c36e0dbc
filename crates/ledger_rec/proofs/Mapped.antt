-- Tests of items, by what contracts see of them.
use Rattle.std.proofs.Common.{◌≡◌, Bool, List, [], ◌∷◌, map, refl}
use Rattle.std.specs.List.{list_all, list_any}
use Rattle.std.proofs.lemmas.List.Folds.{list_all-map}

pub list_any_map : {X Y : Type 0} (p : Y → Bool) (h : X → Y) (xs : List X) → list_any p (map h xs) ≡ list_any (λ x. p (h x)) xs
list_any_map p h [] = refl
list_any_map p h (x ∷ xs) = rw (list_any_map p h xs) refl

pub list_all_map : {X Y : Type 0} (p : Y → Bool) (h : X → Y) (xs : List X) → list_all p (map h xs) ≡ list_all (λ x. p (h x)) xs
list_all_map p h xs = list_all-map p h xs
