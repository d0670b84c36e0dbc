-- An item at its place in a list, and the others.
use Rattle.std.proofs.Common.{◌≡◌, ◌≢◌, ◌⊎◌, ℕ, zero, suc, ◌<◌, Bool, true, false, not, cond, nat_lt, List, [], ◌∷◌, ◌++◌, Option, Some, None, IsSome, refl, sym, ◌∙◌, ap, subst, inl, inr, ⊎_elim, arith, length, get_or, set, map, find, position}
use Rattle.std.specs.List.{position_or_len, remove, slice_get}
use Rattle.std.proofs.lemmas.Bool.Decides.{Decides-ltb}
use Rattle.std.proofs.lemmas.List.Folds.{find_at}
use Rattle.std.proofs.lemmas.List.Sums.{passes_at_first}
use Rattle.std.proofs.lemmas.Option.{slice_get_within, slice_get-get_or}
use Rattle.node_model.specs.Lists.{Member, Each, without, first_that}
use Rattle.node_model.proofs.Lists.{Each-member}
use Rattle.mem_store.specs.Orders.{OneEach}

-- what is found stands somewhere
pub stands : {X : Type 0} (p : X → Bool) (xs : List X) → IsSome (first_that p xs) → position_or_len p xs < length xs
stands {X} p xs some = go (find p xs) refl some
  where
    go : (o : Option X) → find p xs ≡ o → IsSome o → position_or_len p xs < length xs
    go None is none = absurd (cc)
    go (Some x) is there = slice_get_within xs _ x (sym (find_at p xs) ∙ is)

pub position-stands : {X : Type 0} (p : X → Bool) (xs : List X) → position_or_len p xs < length xs → position p xs ≡ Some (position_or_len p xs)
position-stands p xs lt = ap (λ b. cond b (Some (position_or_len p xs)) None) ((Decides-ltb (position_or_len p xs) (length xs)).1 lt)

-- a position is where the first stands
pub position_is : {X : Type 0} (p : X → Bool) (xs : List X) (i : ℕ) → position p xs ≡ Some i → (i ≡ position_or_len p xs) × (i < length xs)
position_is p xs i is = go (nat_lt (position_or_len p xs) (length xs)) refl is
  where
    go : (b : Bool) → nat_lt (position_or_len p xs) (length xs) ≡ b → cond b (Some (position_or_len p xs)) None ≡ Some i → (i ≡ position_or_len p xs) × (i < length xs)
    go true lt at = let same : i ≡ position_or_len p xs = cc in (same, subst (λ k. k < length xs) (sym same) ((Decides-ltb (position_or_len p xs) (length xs)).0 lt))
    go false lt at = absurd (cc)

-- where the first stands, it passes
pub first_passes : {X : Type 0} (p : X → Bool) (xs : List X) (i : ℕ) (x : X) → i ≡ position_or_len p xs → i < length xs → x ≡ get_or xs i x → p x ≡ true
first_passes p xs i x first lt is =
    subst (λ y. p y ≡ true) (sym (is ∙ ap (λ k. get_or xs k x) first)) (passes_at_first p xs x (subst (λ k. k < length xs) first lt))

-- with no position, all fail
pub no_position : {X : Type 0} (p : X → Bool) (xs : List X) → position p xs ≡ None → Each (λ x. p x ≡ false) xs
no_position {X} p xs none = go (find p xs) refl
  where
    find_none : (ys : List X) → find p ys ≡ None → Each (λ y. p y ≡ false) ys
    find_none [] e = tt
    find_none (y ∷ ys) e = step (p y) refl e (find_none ys)
      where
        step : (b : Bool) → p y ≡ b → cond b (Some y) (find p ys) ≡ None → (find p ys ≡ None → Each (λ z. p z ≡ false) ys) → Each (λ z. p z ≡ false) (y ∷ ys)
        step true t f rest = absurd (cc)
        step false t f rest = (t, rest f)

    go : (o : Option X) → find p xs ≡ o → Each (λ x. p x ≡ false) xs
    go None is = find_none xs is
    go (Some x) is = absurd (let lt = stands p xs (subst IsSome (sym is) refl) in let e = sym none ∙ position-stands p xs lt in cc)

pub member_at : {X : Type 0} (xs : List X) (i : ℕ) (x : X) → i < length xs → x ≡ get_or xs i x → Member x xs
member_at [] i x lt e = absurd (omega (arith, lt))
member_at (y ∷ ys) zero x lt e = inl e
member_at (y ∷ ys) (suc i) x lt e = inr (member_at ys i x (omega arith) e)

pub each_at : {X : Type 0} (P : X → Type 0) (xs : List X) (i : ℕ) (x : X) → Each P xs → i < length xs → x ≡ get_or xs i x → P x
each_at P xs i x all lt e = Each-member P x xs all (member_at xs i x lt e)

pub each_set : {X : Type 0} (P : X → Type 0) (xs : List X) (i : ℕ) (y : X) → Each P xs → P y → Each P (set xs i y)
each_set P [] i y all one = tt
each_set P (x ∷ xs) zero y all one = (one, all.1)
each_set P (x ∷ xs) (suc i) y all one = (all.0, each_set P xs i y all.1 one)

pub each_remove : {X : Type 0} (P : X → Type 0) (xs : List X) (i : ℕ) → i < length xs → Each P xs → Each P (remove xs i)
each_remove P [] i lt all = absurd (omega (arith, lt))
each_remove P (x ∷ xs) zero lt all = all.1
each_remove P (x ∷ xs) (suc i) lt all = (all.0, each_remove P xs i (omega arith) all.1)

pub without_all : {X : Type 0} (p : X → Bool) (xs : List X) → Each (λ y. p y ≡ false) xs → without p xs ≡ xs
without_all p [] all = refl
without_all p (x ∷ xs) all = ap (λ b. cond (not b) (x ∷ without p xs) (without p xs)) all.0 ∙ ap (λ rest. x ∷ rest) (without_all p xs all.1)

-- the one that passes is left out
pub without_one : {X : Type 0} (p : X → Bool) (xs : List X) (i : ℕ) (x : X) → i < length xs → x ≡ get_or xs i x → p x ≡ true → Each (λ y. p y ≡ false) (remove xs i) → without p xs ≡ remove xs i
without_one p [] i x lt e t all = absurd (omega (arith, lt))
without_one p (y ∷ ys) zero x lt e t all =
    ap (λ b. cond (not b) (y ∷ without p ys) (without p ys)) (subst (λ z. p z ≡ true) e t) ∙ without_all p ys all
without_one p (y ∷ ys) (suc i) x lt e t all =
    ap (λ b. cond (not b) (y ∷ without p ys) (without p ys)) all.0 ∙ ap (λ rest. y ∷ rest) (without_one p ys i x (omega arith) e t all.1)

-- the one that passes is found
pub first_one : {X : Type 0} (p : X → Bool) (xs : List X) (i : ℕ) (x : X) → i < length xs → x ≡ get_or xs i x → p x ≡ true → Each (λ y. p y ≡ false) (remove xs i) → first_that p xs ≡ Some x
first_one p [] i x lt e t all = absurd (omega (arith, lt))
first_one p (y ∷ ys) zero x lt e t all = ap (λ b. cond b (Some y) (find p ys)) (subst (λ z. p z ≡ true) e t) ∙ ap Some (sym e)
first_one p (y ∷ ys) (suc i) x lt e t all = ap (λ b. cond b (Some y) (find p ys)) all.0 ∙ first_one p ys i x (omega arith) e t all.1

pub first_none : {X : Type 0} (p : X → Bool) (xs : List X) → Each (λ y. p y ≡ false) xs → first_that p xs ≡ None
first_none p [] all = refl
first_none p (x ∷ xs) all = ap (λ b. cond b (Some x) (find p xs)) all.0 ∙ first_none p xs all.1

pub map_same : {X : Type 0} (f : X → X) (xs : List X) → Each (λ y. f y ≡ y) xs → map f xs ≡ xs
map_same f [] all = refl
map_same f (x ∷ xs) all = ap (λ y. y ∷ map f xs) all.0 ∙ ap (λ rest. x ∷ rest) (map_same f xs all.1)

-- what changes one item alone is a write at its place
pub map_one : {X : Type 0} (f : X → X) (xs : List X) (i : ℕ) (x y : X) → i < length xs → x ≡ get_or xs i x → f x ≡ y → Each (λ z. f z ≡ z) (remove xs i) → map f xs ≡ set xs i y
map_one f [] i x y lt e t all = absurd (omega (arith, lt))
map_one f (z ∷ zs) zero x y lt e t all = ap (λ w. w ∷ map f zs) (ap f (sym e) ∙ t) ∙ ap (λ rest. y ∷ rest) (map_same f zs all)
map_one f (z ∷ zs) (suc i) x y lt e t all = ap (λ w. w ∷ map f zs) all.0 ∙ ap (λ rest. z ∷ rest) (map_one f zs i x y (omega arith) e t all.1)

-- an item is the one there, or one of the others
pub member_split : {X : Type 0} (xs : List X) (i : ℕ) (x y : X) → i < length xs → x ≡ get_or xs i x → Member y xs → (y ≡ x) ⊎ Member y (remove xs i)
member_split [] i x y lt e m = absurd m
member_split (z ∷ zs) zero x y lt e (inl s) = inl (s ∙ sym e)
member_split (z ∷ zs) zero x y lt e (inr m) = inr m
member_split (z ∷ zs) (suc i) x y lt e (inl s) = inr (inl s)
member_split (z ∷ zs) (suc i) x y lt e (inr m) = ⊎_elim (λ l. inl l) (λ r. inr (inr r)) (member_split zs i x y (omega arith) e m)

-- with one number each

pub one_rest : {X : Type 0} (number : X → ℕ) (xs : List X) (i : ℕ) (x : X) → OneEach number xs → i < length xs → x ≡ get_or xs i x → Each (λ y. number y ≢ number x) (remove xs i)
one_rest number [] i x one lt e = absurd (omega (arith, lt))
one_rest {X} number (y ∷ ys) zero x one lt e = subst (λ z. Each (λ (w : X). number w ≢ number z) ys) (sym e) one.0
one_rest {X} number (y ∷ ys) (suc i) x one lt e =
    ((λ same. each_at (λ (w : X). number w ≢ number y) ys i x one.0 (omega arith) e (sym same)), one_rest number ys i x one.1 (omega arith) e)

pub one_set : {X : Type 0} (number : X → ℕ) (xs : List X) (i : ℕ) (x y : X) → OneEach number xs → i < length xs → x ≡ get_or xs i x → number y ≡ number x → OneEach number (set xs i y)
one_set number [] i x y one lt e same = tt
one_set {X} number (z ∷ zs) zero x y one lt e same =
    (subst (λ n. Each (λ (w : X). number w ≢ n) zs) (ap number (sym e) ∙ sym same) one.0, one.1)
one_set {X} number (z ∷ zs) (suc i) x y one lt e same =
    (each_set (λ (w : X). number w ≢ number z) zs i y one.0 (subst (λ n. n ≢ number z) (sym same) (each_at (λ (w : X). number w ≢ number z) zs i x one.0 (omega arith) e)), one_set number zs i x y one.1 (omega arith) e same)

pub one_push : {X : Type 0} (number : X → ℕ) (xs : List X) (y : X) → OneEach number xs → Each (λ x. number x ≢ number y) xs → OneEach number (xs ++ y ∷ [])
one_push number [] y one apart = (tt, tt)
one_push {X} number (x ∷ xs) y one apart = (push xs one.0, one_push number xs y one.1 apart.1)
  where
    push : (ys : List X) → Each (λ (w : X). number w ≢ number x) ys → Each (λ (w : X). number w ≢ number x) (ys ++ y ∷ [])
    push [] all = ((λ same. apart.0 (sym same)), tt)
    push (w ∷ ws) all = (all.0, push ws all.1)

-- an item of that number is the one there
pub the_one : {X : Type 0} (number : X → ℕ) (xs : List X) (i : ℕ) (x y : X) → OneEach number xs → i < length xs → x ≡ get_or xs i x → Member y xs → number y ≡ number x → y ≡ x
the_one {X} number xs i x y one lt e m same =
    ⊎_elim (λ l. l) (λ r. absurd (Each-member (λ (w : X). number w ≢ number x) y (remove xs i) (one_rest number xs i x one lt e) r same)) (member_split xs i x y lt e m)

-- an item of the list passes where its test does
pub member_found : {X : Type 0} (p : X → Bool) (xs : List X) (x : X) → Member x xs → p x ≡ true → IsSome (first_that p xs)
member_found p [] x m t = absurd m
member_found {X} p (y ∷ ys) x (inl e) t = subst (λ b. IsSome (cond b (Some y) (find p ys))) (sym (subst (λ z. p z ≡ true) e t)) refl
member_found {X} p (y ∷ ys) x (inr m) t = go (p y) (member_found p ys x m t)
  where
    go : (b : Bool) → IsSome (find p ys) → IsSome (cond b (Some y) (find p ys))
    go true some = refl
    go false some = some

-- what a position tells of what is found

pub found_at : {X : Type 0} (p : X → Bool) (xs : List X) (i : ℕ) (x : X) → position p xs ≡ Some i → x ≡ get_or xs i x → first_that p xs ≡ Some x
found_at p xs i x there is =
    let h = position_is p xs i there in
    find_at p xs ∙ (ap (slice_get xs) (sym h.0) ∙ (slice_get-get_or xs i x h.1 ∙ ap Some (sym is)))

pub found_none : {X : Type 0} (p : X → Bool) (xs : List X) → position p xs ≡ None → first_that p xs ≡ None
found_none p xs none = first_none p xs (no_position p xs none)

-- a fact of each of these, seen by a view, is one of the item there
pub each_seen_at : {X Y : Type 0} (P : Y → Type 0) (f : X → Y) (xs : List X) (i : ℕ) (x : X) → Each P (map f xs) → i < length xs → x ≡ get_or xs i x → P (f x)
each_seen_at P f [] i x all lt e = absurd (omega (arith, lt))
each_seen_at P f (y ∷ ys) zero x all lt e = subst (λ z. P (f z)) (sym e) all.0
each_seen_at P f (y ∷ ys) (suc i) x all lt e = each_seen_at P f ys i x all.1 (omega arith) e
