-- How many pass a test, one more at a time.
use Rattle.std.proofs.Common.{◌≡◌, ℕ, ◌+◌, ◌<◌, List, [], ◌∷◌, ◌++◌, length, map, take, get_or, count_by, cond, fold, Bool, true, false, refl, sym, ◌∙◌, ap, arith}
use Rattle.std.specs.Prelude.{if◌then◌else◌}
use Rattle.std.proofs.lemmas.List.{take_more}
use Rattle.node_store.specs.Opening.{counted}

fold_last : {A B : Type 0} (f : B → A → B) (b : B) (xs : List A) (x : A) → fold f b (xs ++ x ∷ []) ≡ f (fold f b xs) x
fold_last f b [] x = refl
fold_last f b (y ∷ ys) x = fold_last f (f b y) ys x

map_last : {A B : Type 0} (f : A → B) (xs : List A) (x : A) → map f (xs ++ x ∷ []) ≡ map f xs ++ f x ∷ []
map_last f [] x = refl
map_last f (y ∷ ys) x = ap (λ l. f y ∷ l) (map_last f ys x)

count_last : {A B : Type 0} (view : A → B) (p : B → Bool) (xs : List A) (x : A) → count_by p (map view (xs ++ x ∷ [])) ≡ count_by p (map view xs) + cond (p (view x)) 1 0
count_last {A} {B} view p xs x = ap (count_by p) (map_last view xs x) ∙ fold_last (λ (n : ℕ) (y : B). n + cond (p y) 1 0) 0 (map view xs) (view x)

counted_one : (b : Bool) (n : ℕ) → (if b then counted (counted n + 1) else counted n) ≡ counted (n + cond b 1 0)
counted_one true n = omega arith
counted_one false n = omega arith

pub counted_more : {A B : Type 0} (view : A → B) (p : B → Bool) (xs : List A) (i : ℕ) (x : A) (old new : ℕ) → i < length xs → x ≡ get_or xs i x → old ≡ counted (count_by p (map view (take i xs))) → new ≡ (if p (view x) then counted (old + 1) else old)
    → new ≡ counted (count_by p (map view (take (i + 1) xs)))
counted_more {A} view p xs i x old new lt is so_far one =
    one ∙ ap (λ (k : ℕ). if p (view x) then counted (k + 1) else k) so_far ∙ counted_one (p (view x)) (count_by p (map view (take i xs)))
    ∙ ap counted (sym (ap (λ (l : List A). count_by p (map view l)) (take_more xs i x lt ∙ ap (λ (y : A). take i xs ++ y ∷ []) (sym is)) ∙ count_last view p (take i xs) x))
