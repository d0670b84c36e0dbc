-- A list that is given item by item, and then its last item again (own).
use Rattle.std.specs.Prelude.{List, [], ◌∷◌, Option, Some, None}

abbrev pub first_item : {A : Type 0} → List A → Option A
first_item [] = None
first_item (x ∷ xs) = Some x

-- what is left to give after an item, the last of which stays
abbrev pub after_item : {A : Type 0} → List A → List A
after_item [] = []
after_item (x ∷ []) = x ∷ []
after_item (x ∷ y ∷ xs) = y ∷ xs
