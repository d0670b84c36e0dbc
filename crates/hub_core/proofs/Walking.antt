-- Walking the live entries of an address, and the first of several addresses.
use Rattle.std.proofs.Common.{◌≡◌, ◌≢◌, ◌⊎◌, ℕ, Bool, true, false, cond, ◌&&◌, ◌||◌, ◌==◌, nat_lt, ◌+◌, ◌<◌, ◌≤◌, List, [], ◌∷◌, ◌++◌, Option, Some, None, refl, sym, ◌∙◌, ap, subst, inl, inr, ⊎_elim, arith}
use Rattle.std.proofs.lemmas.Bool.Decides.{Decides-eqb, Decides-ltb}
use Rattle.ftn_addr.specs.Address.{Address}
use Rattle.node_model.specs.declared.words.Flavour.{Flavour}
use Rattle.node_model.specs.Items.{EntryOf}
use Rattle.node_model.specs.Lists.{Member}
use Rattle.node_model.specs.SendRows.{rank}
use Rattle.node_model.specs.Stocks.{is_live, IsBehind, IsOffered, NextLive}
use Rattle.node_model.proofs.Lists.{Member-append, Member-append_right, Member-append_cases, off}
use Rattle.hub_core.specs.declared.claim_index.ClaimIndex.{ClaimIndex}
use Rattle.hub_core.specs.Indices.{KeptIf}
use Rattle.hub_core.specs.Sending.{Comes, EarlierOf, place_of, FirstFree, NextFree}
use Rattle.hub_core.specs.Skips.{AllBehind, IsFree, Skipped}
use Rattle.hub_core.proofs.Going.{free_alike, skipped_kept}

pub comes_then : (a b c : Flavour × ℕ) → Comes a b → Comes b c → Comes a c
comes_then a b c (inl x) (inl y) = inl (omega (arith, x, y))
comes_then a b c (inl x) (inr y) = let e = y.0 in inl (omega (arith, x, e))
comes_then a b c (inr x) (inl y) = let e = x.0 in inl (omega (arith, y, e))
comes_then a b c (inr x) (inr y) = let m = x.1 in let n = y.1 in inr (x.0 ∙ y.0, omega (arith, m, n))

-- How far a walk has to go: the entries behind that one.

-- how many pass a test
abbrev pub how_many : {A : Type 0} → (A → Bool) → List A → ℕ
how_many p [] = 0
how_many p (x ∷ xs) = cond (p x) 1 0 + how_many p xs

-- an entry stands behind another
abbrev pub stands_behind : Flavour × ℕ → EntryOf ℕ → Bool
stands_behind at e = nat_lt (rank at.0) (rank e.flavour) || ((rank at.0 == rank e.flavour) && nat_lt at.1 e.number)

abbrev pub still_behind : Option (Flavour × ℕ) → List (EntryOf ℕ) → ℕ
still_behind None queue = 0
still_behind (Some at) queue = how_many (stands_behind at) queue + 1

or_cases : (a b : Bool) → (a || b) ≡ true → (a ≡ true) ⊎ (b ≡ true)
or_cases true b e = inl refl
or_cases false b e = inr e

and_cases : (a b : Bool) → (a && b) ≡ true → (a ≡ true) × (b ≡ true)
and_cases true b e = (refl, e)
and_cases false b e = off (sym e)

or_left : (a b : Bool) → a ≡ true → (a || b) ≡ true
or_left a b e = ap (λ (x : Bool). x || b) e

or_right : (a b : Bool) → b ≡ true → (a || b) ≡ true
or_right true b e = refl
or_right false b e = e

both : (a b : Bool) → a ≡ true → b ≡ true → (a && b) ≡ true
both a b x y = (λ i. x i && y i)

behind_true : (at : Flavour × ℕ) (e : EntryOf ℕ) → IsBehind (Some at) e → stands_behind at e ≡ true
behind_true at e (inl x) = or_left _ _ ((Decides-ltb (rank at.0) (rank e.flavour)).1 x)
behind_true at e (inr x) =
    or_right (nat_lt (rank at.0) (rank e.flavour)) _ (both _ _ ((Decides-eqb (rank at.0) (rank e.flavour)).1 x.0) ((Decides-ltb at.1 e.number).1 x.1))

true_behind : (at : Flavour × ℕ) (e : EntryOf ℕ) → stands_behind at e ≡ true → IsBehind (Some at) e
true_behind at e t = go (or_cases (nat_lt (rank at.0) (rank e.flavour)) _ t)
  where
    go : (nat_lt (rank at.0) (rank e.flavour) ≡ true) ⊎ (((rank at.0 == rank e.flavour) && nat_lt at.1 e.number) ≡ true) → IsBehind (Some at) e
    go (inl x) = inl ((Decides-ltb (rank at.0) (rank e.flavour)).0 x)
    go (inr x) =
        let y = and_cases (rank at.0 == rank e.flavour) (nat_lt at.1 e.number) x in
        inr ((Decides-eqb (rank at.0) (rank e.flavour)).0 y.0, (Decides-ltb at.1 e.number).0 y.1)

not_true : (b : Bool) → (b ≡ true → ⊥) → b ≡ false
not_true true f = absurd (f refl)
not_true false f = refl

-- not behind itself
not_itself : (e : EntryOf ℕ) → stands_behind (place_of e) e ≡ false
not_itself e = not_true _ (λ t. go (true_behind (place_of e) e t))
  where
    go : IsBehind (Some (place_of e)) e → ⊥
    go (inl x) = absurd (omega (arith, x))
    go (inr x) = let y = x.1 in absurd (omega (arith, y))

behind_then : (at : Flavour × ℕ) (e f : EntryOf ℕ) → IsBehind (Some at) e → IsBehind (Some (place_of e)) f → IsBehind (Some at) f
behind_then at e f (inl x) (inl y) = inl (omega (arith, x, y))
behind_then at e f (inl x) (inr y) = let q = y.0 in inl (omega (arith, x, q))
behind_then at e f (inr x) (inl y) = let q = x.0 in inl (omega (arith, y, q))
behind_then at e f (inr x) (inr y) = let m = x.1 in let n = y.1 in inr (x.0 ∙ y.0, omega (arith, m, n))

count_most : {A : Type 0} (p q : A → Bool) (xs : List A) → ((x : A) → q x ≡ true → p x ≡ true) → how_many q xs ≤ how_many p xs
count_most p q [] f = omega arith
count_most {A} p q (x ∷ xs) f = go (p x) (q x) (f x) (count_most p q xs f)
  where
    go : (a b : Bool) → (b ≡ true → a ≡ true) → how_many q xs ≤ how_many p xs → cond b 1 0 + how_many q xs ≤ cond a 1 0 + how_many p xs
    go true true g rest = omega (arith, rest)
    go true false g rest = omega (arith, rest)
    go false true g rest = off (sym (g refl))
    go false false g rest = omega (arith, rest)

count_less : {A : Type 0} (p q : A → Bool) (xs : List A) (y : A) → Member y xs → ((x : A) → q x ≡ true → p x ≡ true) → p y ≡ true → q y ≡ false → how_many q xs < how_many p xs
count_less p q [] y m f passes fails = absurd m
count_less {A} p q (x ∷ xs) y (inl same) f passes fails =
    go (p x) (q x) (ap p (sym same) ∙ passes) (ap q (sym same) ∙ fails) (count_most p q xs f)
  where
    go : (a b : Bool) → a ≡ true → b ≡ false → how_many q xs ≤ how_many p xs → cond b 1 0 + how_many q xs < cond a 1 0 + how_many p xs
    go true false s t rest = omega (arith, rest)
    go true true s t rest = off t
    go false b s t rest = off (sym s)
count_less {A} p q (x ∷ xs) y (inr m) f passes fails = go (p x) (q x) (f x) (count_less p q xs y m f passes fails)
  where
    go : (a b : Bool) → (b ≡ true → a ≡ true) → how_many q xs < how_many p xs → cond b 1 0 + how_many q xs < cond a 1 0 + how_many p xs
    go true true g rest = omega (arith, rest)
    go true false g rest = omega (arith, rest)
    go false true g rest = off (sym (g refl))
    go false false g rest = omega (arith, rest)

-- The walk.

-- it stands at a live entry of the address, and none that isn't kept back comes before that
pub record Walked (dest : Address) (Back : ℕ → Type 0) (queue : List (EntryOf ℕ)) (at : Flavour × ℕ) : Type 0 where
  pub entry : EntryOf ℕ
  pub there : Member entry queue
  pub live : is_live entry.body ≡ true
  pub addressed : entry.dest ≡ dest
  pub flavoured : entry.flavour ≡ at.0
  pub numbered : entry.number ≡ at.1
  pub least : (f : EntryOf ℕ) → IsFree (dest ∷ []) Back queue f → Comes at (place_of f)

-- or at the end, where there is none
abbrev pub Walks : Address → (ℕ → Type 0) → List (EntryOf ℕ) → Option (Flavour × ℕ) → Type 0
Walks dest Back queue None = (f : EntryOf ℕ) → IsFree (dest ∷ []) Back queue f → ⊥
Walks dest Back queue (Some at) = Walked dest Back queue at

single : {A : Type 0} (x y : A) → Member x (y ∷ []) → x ≡ y
single x y (inl same) = same
single x y (inr m) = absurd m

free_offered : (dest : Address) (Back : ℕ → Type 0) (queue : List (EntryOf ℕ)) (after : Option (Flavour × ℕ)) (f : EntryOf ℕ) → IsFree (dest ∷ []) Back queue f → IsBehind after f → IsOffered dest after queue f
free_offered dest Back queue after f free behind =
    record { there = free.there; live = free.live; addressed = single f.dest dest free.addressed; behind = behind }

walks_from : (dest : Address) (Back : ℕ → Type 0) (queue : List (EntryOf ℕ)) (after : Option (Flavour × ℕ)) → ((f : EntryOf ℕ) → IsFree (dest ∷ []) Back queue f → IsBehind after f) → (r : Option (Flavour × ℕ)) → NextLive dest after queue r → Walks dest Back queue r
walks_from dest Back queue after behind None next =
    λ f free. next f (free_offered dest Back queue after f free (behind f free))
walks_from dest Back queue after behind (Some at) next =
    record { entry = next.entry; there = next.offered.there; live = next.offered.live; addressed = next.offered.addressed; flavoured = next.flavoured; numbered = next.numbered; least = λ f free. next.least f (free_offered dest Back queue after f free (behind f free)) }

-- it begins at a place that only skipped entries stand before
pub walk_begins : (dest : Address) (o : Option ClaimIndex) (skipped : List ℕ) (queue : List (EntryOf ℕ)) (at r : Option (Flavour × ℕ)) → AllBehind (dest ∷ []) skipped queue at → NextLive dest at queue r → Walks dest (KeptIf o skipped) queue r
walk_begins dest o skipped queue at r all next =
    walks_from dest (KeptIf o skipped) queue at (λ f free. all f (free_alike (dest ∷ []) (KeptIf o skipped) (Skipped skipped) queue f (skipped_kept o skipped) free)) r next

-- an entry that is kept back is left behind
pub walk_on : (dest : Address) (Back : ℕ → Type 0) (queue : List (EntryOf ℕ)) (at : Flavour × ℕ) (r : Option (Flavour × ℕ)) → Walked dest Back queue at → Back at.1 → NextLive dest (Some at) queue r → Walks dest Back queue r
walk_on dest Back queue at r w back next = walks_from dest Back queue (Some at) behind r next
  where
    behind : (f : EntryOf ℕ) → IsFree (dest ∷ []) Back queue f → IsBehind (Some at) f
    behind f free = go (w.least f free)
      where
        apart : at.1 ≢ f.number
        apart same = free.free (subst Back same back)

        go : Comes at (place_of f) → IsBehind (Some at) f
        go (inl x) = inl x
        go (inr x) = let m = x.1 in inr (x.0, omega (arith, m, apart))

pub walk_shorter : (dest : Address) (queue : List (EntryOf ℕ)) (at : Flavour × ℕ) (r : Option (Flavour × ℕ)) → NextLive dest (Some at) queue r → still_behind r queue < still_behind (Some at) queue
walk_shorter dest queue at None next = omega arith
walk_shorter dest queue at (Some b) next =
    let e = next.entry in
    let placed : place_of e ≡ b = (λ i. (next.flavoured i, next.numbered i)) in
    let behind : stands_behind at e ≡ true = behind_true at e next.offered.behind in
    let itself : stands_behind b e ≡ false = ap (λ (p : Flavour × ℕ). stands_behind p e) (sym placed) ∙ not_itself e in
    let less = count_less (stands_behind at) (stands_behind b) queue e next.offered.there
    (λ f t. behind_true at f (behind_then at e f next.offered.behind (subst (λ (p : Flavour × ℕ). IsBehind (Some p) f) (sym placed) (true_behind b f t))))
    behind itself in
    omega (arith, less)

pub walk_found : (dest : Address) (Back : ℕ → Type 0) (queue : List (EntryOf ℕ)) (at : Flavour × ℕ) → Walked dest Back queue at → (Back at.1 → ⊥) → FirstFree (dest ∷ []) Back queue at
walk_found dest Back queue at w free = record {
  entry = w.entry;
  is_free = record { there = w.there; live = w.live; addressed = inl w.addressed; free = λ b. free (subst Back w.numbered b) };
  flavoured = w.flavoured;
  numbered = w.numbered;
  least = w.least;
}

-- Several addresses.

split_free : (ds es : List Address) (Back : ℕ → Type 0) (queue : List (EntryOf ℕ)) (f : EntryOf ℕ) → IsFree (ds ++ es) Back queue f → IsFree ds Back queue f ⊎ IsFree es Back queue f
split_free ds es Back queue f free = go (Member-append_cases f.dest ds es free.addressed)
  where
    go : Member f.dest ds ⊎ Member f.dest es → IsFree ds Back queue f ⊎ IsFree es Back queue f
    go (inl m) = inl (record { there = free.there; live = free.live; addressed = m; free = free.free })
    go (inr m) = inr (record { there = free.there; live = free.live; addressed = m; free = free.free })

more : (ds es : List Address) (Back : ℕ → Type 0) (queue : List (EntryOf ℕ)) (f : EntryOf ℕ) → ((x : Address) → Member x ds → Member x es) → IsFree ds Back queue f → IsFree es Back queue f
more ds es Back queue f wider free =
    record { there = free.there; live = free.live; addressed = wider f.dest free.addressed; free = free.free }

first_more : (ds es : List Address) (Back : ℕ → Type 0) (queue : List (EntryOf ℕ)) (at : Flavour × ℕ) → ((x : Address) → Member x ds → Member x es) → FirstFree ds Back queue at → ((f : EntryOf ℕ) → IsFree es Back queue f → Comes at (place_of f)) → FirstFree es Back queue at
first_more ds es Back queue at wider first least =
    record { entry = first.entry; is_free = more ds es Back queue first.entry wider first.is_free; flavoured = first.flavoured; numbered = first.numbered; least = least }

-- the first among one list of addresses or another is the earlier of the first of each
pub join_free : (ds es : List Address) (Back : ℕ → Type 0) (queue : List (EntryOf ℕ)) (a b r : Option (Flavour × ℕ)) → NextFree ds Back queue a → NextFree es Back queue b → EarlierOf a b r → NextFree (ds ++ es) Back queue r
join_free ds es Back queue None None r x y is =
    subst (NextFree (ds ++ es) Back queue) (sym is) (λ f free. ⊎_elim (x f) (y f) (split_free ds es Back queue f free))
join_free ds es Back queue None (Some b) r x y is =
    subst (NextFree (ds ++ es) Back queue) (sym is)
    (first_more es (ds ++ es) Back queue b (λ d m. Member-append_right d ds es m) y (λ f free. ⊎_elim (λ (p : IsFree ds Back queue f). absurd (x f p)) (y.least f) (split_free ds es Back queue f free)))
join_free ds es Back queue (Some a) None r x y is =
    subst (NextFree (ds ++ es) Back queue) (sym is)
    (first_more ds (ds ++ es) Back queue a (λ d m. Member-append d ds es m) x (λ f free. ⊎_elim (x.least f) (λ (p : IsFree es Back queue f). absurd (y f p)) (split_free ds es Back queue f free)))
join_free ds es Back queue (Some a) (Some b) r x y (inl w) =
    subst (NextFree (ds ++ es) Back queue) (sym w.0)
    (first_more ds (ds ++ es) Back queue a (λ d m. Member-append d ds es m) x (λ f free. ⊎_elim (x.least f) (λ (p : IsFree es Back queue f). comes_then a b (place_of f) w.1 (y.least f p)) (split_free ds es Back queue f free)))
join_free ds es Back queue (Some a) (Some b) r x y (inr w) =
    subst (NextFree (ds ++ es) Back queue) (sym w.0)
    (first_more es (ds ++ es) Back queue b (λ d m. Member-append_right d ds es m) y (λ f free. ⊎_elim (λ (p : IsFree ds Back queue f). comes_then b a (place_of f) w.1 (x.least f p)) (y.least f) (split_free ds es Back queue f free)))
