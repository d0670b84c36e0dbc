-- The takes that are left, by their own names.
use Rattle.std.proofs.Common.{◌≡◌, inl, inr, ℕ, ◌<◌, ◌≤◌, Bool, true, false, not, List, [], ◌∷◌, ◌++◌, length, map, Option, Some, None, refl, sym, ◌∙◌, ap, subst, arith}
use Rattle.std.specs.Global.{Vec}
use Rattle.std.specs.Prelude.{if◌then◌else◌}
use Rattle.std.specs.Str.{bytes_eq}
use Rattle.std.proofs.lemmas.List.{map-append}
use Rattle.std.proofs.lemmas.Slice.Eq.{bytes_eq-Decides}
use Rattle.node_model.specs.Lists.{Member}
use Rattle.node_model.proofs.Lists.{eqb_refl}
use Rattle.outbound_model.specs.declared.fate.Fate.{Fate}
use Rattle.outbound_model.specs.OwnNames.{number_of}
use Rattle.outbound_take.specs.Calls.{Has, names_without, noted, owns, with_take, without_take}
use Rattle.outbound_take.specs.declared.words.TookFile.{TookFile}
use Rattle.outbound_take.specs.Ours.{all_took, left_noted, names_behind, took}
use Rattle.outbound_take.specs.Stand.{Left}

-- Recording changes no name.

pub owns_noted : (n : ℕ) (left : List Left) → owns (map (noted n) left) ≡ owns left
owns_noted n [] = refl
owns_noted n (t ∷ left) = ap (λ (xs : List (List ℕ)). t.own ∷ xs) (owns_noted n left)

noted_member : (n : ℕ) (t : Left) (left : List Left) → Member t left → Member (noted n t) (map (noted n) left)
noted_member n t (x ∷ left) (inl same) = inl (ap (noted n) same)
noted_member n t (x ∷ left) (inr there) = inr (noted_member n t left there)
noted_member n t [] none = absurd none

-- the take whose number is recorded
pub has_noted : (own : List ℕ) (left : List Left) → Has own false left → Has own true (map (noted (number_of own)) left)
has_noted own left there =
    subst (λ (b : Bool). Member (record { own = own; recorded = b }) (map (noted (number_of own)) left)) (eqb_refl (number_of own))
    (noted_member (number_of own) (record { own = own; recorded = false }) left there)

-- Removing a take.

pub owns_without : (own : List ℕ) (left : List Left) → owns (without_take own left) ≡ names_without own (owns left)
owns_without own [] = refl
owns_without own (t ∷ left) = go (bytes_eq t.own own) (owns_without own left)
  where
    go : (b : Bool) → owns (without_take own left) ≡ names_without own (owns left) → owns (if not b then t ∷ without_take own left else without_take own left) ≡ (if not b then t.own ∷ names_without own (owns left) else names_without own (owns left))
    go true rest = rest
    go false rest = ap (λ (xs : List (List ℕ)). t.own ∷ xs) rest

pub owns_has : (own : List ℕ) (recorded : Bool) (left : List Left) → Has own recorded left → Member own (owns left)
owns_has own recorded [] none = absurd none
owns_has own recorded (t ∷ left) (inl same) = inl (ap (λ (x : Left). x.own) same)
owns_has own recorded (t ∷ left) (inr there) = inr (owns_has own recorded left there)

no_longer : (own : List ℕ) (names : List (List ℕ)) → length (names_without own names) ≤ length names
no_longer own [] = omega arith
no_longer own (x ∷ names) = go (bytes_eq x own) (no_longer own names)
  where
    go : (b : Bool) → length (names_without own names) ≤ length names → length (if not b then x ∷ names_without own names else names_without own names) ≤ length (x ∷ names)
    go true rest = omega (arith, rest)
    go false rest = omega (arith, rest)

pub shorter : (own : List ℕ) (names : List (List ℕ)) → Member own names → length (names_without own names) < length names
shorter own [] none = absurd none
shorter own (x ∷ names) (inl same) =
    let e : bytes_eq x own ≡ true = (bytes_eq-Decides x own).1 (sym same) in
    subst (λ (b : Bool). length (if not b then x ∷ names_without own names else names_without own names) < length (x ∷ names)) (sym e) (omega (arith, no_longer own names))
shorter own (x ∷ names) (inr there) = go (bytes_eq x own) (shorter own names there)
  where
    go : (b : Bool) → length (names_without own names) < length names → length (if not b then x ∷ names_without own names else names_without own names) < length (x ∷ names)
    go true less = omega (arith, less)
    go false less = omega (arith, less)

pub owns_with : (own : List ℕ) (left : List Left) → owns (with_take own left) ≡ owns left ++ own ∷ []
owns_with own left = map-append (λ (t : Left). t.own) left (record { own = own; recorded = false } ∷ [])

pub has_with : (own : List ℕ) (left : List Left) → Has own false (with_take own left)
has_with own [] = inl refl
has_with own (t ∷ left) = inr (has_with own left)

-- what is left behind one take that waited
pub left_one : (own : List ℕ) (left noted_left new : List Left) → noted_left ≡ map (noted (number_of own)) left → new ≡ without_take own noted_left → owns new ≡ names_without own (owns left)
left_one own left noted_left new is gone =
    ap owns gone ∙ (owns_without own noted_left ∙ ap (names_without own) (ap owns is ∙ owns_noted (number_of own) left))

pub names_gone : (own : List ℕ) (left new : List Left) → new ≡ without_take own left → owns new ≡ names_without own (owns left)
names_gone own left new is = ap owns is ∙ owns_without own left

pub has_in : (own : List ℕ) (a b : List Left) → b ≡ a → Has own true a → Has own true b
has_in own a b same there = subst (Has own true) (sym same) there

-- the own file of a take stands as one that isn't recorded
pub has_from : (own : List ℕ) (left new : List Left) → new ≡ with_take own left → Has own false new
has_from own left new is = subst (Has own false) (sym is) (has_with own left)

pub noted_some : (own : List ℕ) (o : Option (Vec Fate)) (fates : Vec Fate) (left new : List Left) → o ≡ Some fates → new ≡ left_noted own o left → new ≡ map (noted (number_of own)) left
noted_some own o fates left new is h = subst (λ (x : Option (Vec Fate)). new ≡ left_noted own x left) is h

pub names_noted_none : (own : List ℕ) (o : Option (Vec Fate)) (left new : List Left) → o ≡ None → new ≡ left_noted own o left → owns new ≡ owns left
names_noted_none own o left new is h = ap owns (subst (λ (x : Option (Vec Fate)). new ≡ left_noted own x left) is h)

pub names_some : (own : List ℕ) (o : Option (Vec Fate)) (fates : Vec Fate) (names new : List (List ℕ)) → o ≡ Some fates → new ≡ names_behind own o names → new ≡ names_without own names
names_some own o fates names new is h = subst (λ (x : Option (Vec Fate)). new ≡ names_behind own x names) is h

pub names_none : (own : List ℕ) (o : Option (Vec Fate)) (names new : List (List ℕ)) → o ≡ None → new ≡ names_behind own o names → new ≡ names
names_none own o names new is h = subst (λ (x : Option (Vec Fate)). new ≡ names_behind own x names) is h

-- What is told of the files.

pub took_more : (old new : List TookFile) (x : TookFile) → new ≡ old ++ x ∷ [] → all_took old ++ took x ∷ [] ≡ all_took new
took_more old new x is = sym (ap all_took is ∙ map-append took old (x ∷ []))

-- a take less

pub fewer_names : (own : List ℕ) (recorded : Bool) (left new : List Left) → Has own recorded left → owns new ≡ names_without own (owns left) → length (owns new) < length (owns left)
fewer_names own recorded left new there is = subst (λ (xs : List (List ℕ)). length xs < length (owns left)) (sym is) (shorter own (owns left) (owns_has own recorded left there))

pub fewer_without : (own : List ℕ) (recorded : Bool) (left new : List Left) → Has own recorded left → new ≡ without_take own left → length (owns new) < length (owns left)
fewer_without own recorded left new there is = fewer_names own recorded left new there (ap owns is ∙ owns_without own left)
