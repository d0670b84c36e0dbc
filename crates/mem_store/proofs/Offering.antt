-- The first entry that is offered, as a queue is walked.
use Rattle.std.proofs.Common.{◌≡◌, ◌⊎◌, ℕ, ◌<◌, ◌≤◌, Bool, true, false, not, ◌&&◌, ◌||◌, ◌==◌, nat_lt, List, [], ◌∷◌, ◌++◌, Option, Some, None, refl, sym, ◌∙◌, subst, inl, inr, ⊎_elim, arith}
use Rattle.std.proofs.lemmas.Bool.Decides.{Decides-ltb, Decides-eqb}
use Rattle.ftn_addr.specs.Address.{Address, same_address}
use Rattle.node_model.specs.declared.words.Flavour.{Flavour}
use Rattle.node_model.specs.Items.{Entry}
use Rattle.node_model.specs.Lists.{Member}
use Rattle.node_model.specs.SendRows.{rank}
use Rattle.node_model.specs.Stocks.{is_live, IsBehind, IsOffered, NextLive}
use Rattle.node_model.proofs.Lists.{off, and_true, and_both, or_cases, or_true, or_true_right, Member-append, Member-append_right, Member-append_cases}
use Rattle.node_model.proofs.SameFiles.{same_address_is, number-refl, bytes-refl}
use Rattle.mem_store.specs.Offers.{is_behind, is_before, offers}

behind_true : (after : Option (Flavour × ℕ)) (e : Entry) → is_behind after e.flavour e.number ≡ true → IsBehind after e
behind_true None e t = tt
behind_true (Some at) e t =
    ⊎_elim (λ l. inl ((Decides-ltb _ _).0 l)) (λ r. let h = and_true (rank at.0 == rank e.flavour) _ r in inr ((Decides-eqb _ _).0 h.0, (Decides-ltb _ _).0 h.1)) (or_cases (nat_lt (rank at.0) (rank e.flavour)) _ t)

behind_is : (after : Option (Flavour × ℕ)) (e : Entry) → IsBehind after e → is_behind after e.flavour e.number ≡ true
behind_is None e t = refl
behind_is (Some at) e (inl l) = or_true (nat_lt (rank at.0) (rank e.flavour)) _ ((Decides-ltb _ _).1 l)
behind_is (Some at) e (inr r) =
    or_true_right (nat_lt (rank at.0) (rank e.flavour)) _ (and_both (rank at.0 == rank e.flavour) _ ((Decides-eqb _ _).1 r.0) ((Decides-ltb _ _).1 r.1))

pub same_address-refl : (a : Address) → same_address a a ≡ true
same_address-refl a =
    and_both (a.zone == a.zone) _ (number-refl a.zone) (and_both (a.net == a.net) _ (number-refl a.net) (and_both (a.node == a.node) _ (number-refl a.node) (and_both (a.point == a.point) _ (number-refl a.point) (bytes-refl a.domain))))

offers_true : (dest : Address) (after : Option (Flavour × ℕ)) (queue : List Entry) (e : Entry) → Member e queue → offers dest after e ≡ true → IsOffered dest after queue e
offers_true dest after queue e m t =
    let h = and_true (is_live e.body) _ t in
    let k = and_true (same_address dest e.dest) _ h.1 in
    record { there = m; live = h.0; addressed = sym (same_address_is dest e.dest k.0); behind = behind_true after e k.1 }

offers_is : (dest : Address) (after : Option (Flavour × ℕ)) (queue : List Entry) (e : Entry) → IsOffered dest after queue e → offers dest after e ≡ true
offers_is dest after queue e o =
    and_both (is_live e.body) _ o.live (and_both (same_address dest e.dest) _ (subst (λ (a : Address). same_address dest a ≡ true) (sym o.addressed) (same_address-refl dest)) (behind_is after e o.behind))

-- by flavour, then by number
abbrev NotAfter : Flavour → ℕ → Flavour → ℕ → Type 0
NotAfter f n g m = (rank f < rank g) ⊎ ((rank f ≡ rank g) × (n ≤ m))

at_most : (a b : ℕ) → (a < b → ⊥) → b ≤ a
at_most a b h = omega (arith, h)

-- what isn't behind is not after
not_behind : (f g : Flavour) (n m : ℕ) → is_behind (Some (g, m)) f n ≡ false → NotAfter f n g m
not_behind f g n m e = go (nat_lt (rank g) (rank f)) (rank g == rank f) (nat_lt m n) refl refl refl e
  where
    go : (a b c : Bool) → nat_lt (rank g) (rank f) ≡ a → (rank g == rank f) ≡ b → nat_lt m n ≡ c → (a || (b && c)) ≡ false → NotAfter f n g m
    go true b c u v w e = off e
    go false true true u v w e = off e
    go false true false u v w e =
        inr (sym ((Decides-eqb (rank g) (rank f)).0 v), at_most m n (λ lt. off (sym ((Decides-ltb m n).1 lt) ∙ w)))
    go false false c u v w e =
        let le : rank f ≤ rank g = at_most (rank g) (rank f) (λ lt. off (sym ((Decides-ltb (rank g) (rank f)).1 lt) ∙ u)) in
        let ne : rank g ≡ rank f → ⊥ = λ same. off (sym ((Decides-eqb (rank g) (rank f)).1 same) ∙ v) in
        inl (omega (arith, le, ne))

-- what is behind comes after
is_after : (f g : Flavour) (n m : ℕ) → is_behind (Some (g, m)) f n ≡ true → NotAfter g m f n
is_after f g n m e =
    ⊎_elim (λ l. inl ((Decides-ltb _ _).0 l)) (λ r. let h = and_true (rank g == rank f) _ r in inr ((Decides-eqb _ _).0 h.0, let lt : m < n = (Decides-ltb _ _).0 h.1 in omega arith)) (or_cases (nat_lt (rank g) (rank f)) _ e)

in_turn : (f g h : Flavour) (n m k : ℕ) → NotAfter f n g m → NotAfter g m h k → NotAfter f n h k
in_turn f g h n m k (inl a) (inl b) = inl (omega arith)
in_turn f g h n m k (inl a) (inr b) = let e = b.0 in inl (omega (arith, e))
in_turn f g h n m k (inr a) (inl b) = let e = a.0 in inl (omega (arith, e))
in_turn f g h n m k (inr a) (inr b) = inr (a.0 ∙ b.0, omega (arith, a.1, b.1))

further : (dest : Address) (after : Option (Flavour × ℕ)) (xs : List Entry) (x e : Entry) → IsOffered dest after xs e → IsOffered dest after (xs ++ x ∷ []) e
further dest after xs x e o =
    record { there = Member-append e xs (x ∷ []) o.there; live = o.live; addressed = o.addressed; behind = o.behind }

-- an offered one of the longer queue is one of the shorter, or the last
earlier : (dest : Address) (after : Option (Flavour × ℕ)) (xs : List Entry) (x e : Entry) → IsOffered dest after (xs ++ x ∷ []) e → IsOffered dest after xs e ⊎ ((e ≡ x) × (offers dest after x ≡ true))
earlier dest after xs x e o =
    ⊎_elim (λ l. inl (record { there = l; live = o.live; addressed = o.addressed; behind = o.behind })) (λ r. inr (last r)) (Member-append_cases e xs (x ∷ []) o.there)
  where
    last : Member e (x ∷ []) → (e ≡ x) × (offers dest after x ≡ true)
    last (inl same) = (same, subst (λ (y : Entry). offers dest after y ≡ true) same (offers_is dest after _ e o))
    last (inr m) = absurd m

-- one that isn't offered changes nothing
pub next-unoffered : (dest : Address) (after : Option (Flavour × ℕ)) (xs : List Entry) (x : Entry) (best : Option (Flavour × ℕ)) → offers dest after x ≡ false → NextLive dest after xs best → NextLive dest after (xs ++ x ∷ []) best
next-unoffered dest after xs x None f none = λ e o. ⊎_elim (λ l. none e l) (λ r. off (sym r.1 ∙ f)) (earlier dest after xs x e o)
next-unoffered dest after xs x (Some at) f first =
    record { entry = first.entry; offered = further dest after xs x first.entry first.offered; flavoured = first.flavoured; numbered = first.numbered; least = λ e o. ⊎_elim (λ l. first.least e l) (λ r. off (sym r.1 ∙ f)) (earlier dest after xs x e o) }

-- nor does one behind the best
pub next-behind : (dest : Address) (after : Option (Flavour × ℕ)) (xs : List Entry) (x : Entry) (best : Option (Flavour × ℕ)) → is_before (x.flavour, x.number) best ≡ false → NextLive dest after xs best → NextLive dest after (xs ++ x ∷ []) best
next-behind dest after xs x None f none = off f
next-behind dest after xs x (Some at) f first =
    let behind : is_behind (Some at) x.flavour x.number ≡ true = not_false (is_behind (Some at) x.flavour x.number) f in
    record { entry = first.entry; offered = further dest after xs x first.entry first.offered; flavoured = first.flavoured; numbered = first.numbered; least = λ e o. ⊎_elim (λ l. first.least e l) (λ r. subst (λ (y : Entry). NotAfter at.0 at.1 y.flavour y.number) (sym r.0) (is_after x.flavour at.0 x.number at.1 behind)) (earlier dest after xs x e o) }
  where
    not_false : (b : Bool) → not b ≡ false → b ≡ true
    not_false true e = refl
    not_false false e = off e

self_not_after : (f : Flavour) (n : ℕ) → NotAfter f n f n
self_not_after f n = inr (refl, omega arith)

-- one that is offered, and isn't behind the best, is the best
pub next-best : (dest : Address) (after : Option (Flavour × ℕ)) (xs : List Entry) (x : Entry) (best : Option (Flavour × ℕ)) → offers dest after x ≡ true → is_before (x.flavour, x.number) best ≡ true → NextLive dest after xs best → NextLive dest after (xs ++ x ∷ []) (Some (x.flavour, x.number))
next-best dest after xs x best t before next =
    record { entry = x; offered = offers_true dest after _ x (Member-append_right x xs (x ∷ []) (inl refl)) t; flavoured = refl; numbered = refl; least = λ e o. ⊎_elim (λ l. old best before next e l) (λ r. subst (λ (y : Entry). NotAfter x.flavour x.number y.flavour y.number) (sym r.0) (self_not_after x.flavour x.number)) (earlier dest after xs x e o) }
  where
    not_true : (b : Bool) → not b ≡ true → b ≡ false
    not_true true e = off (sym e)
    not_true false e = refl

    old : (best : Option (Flavour × ℕ)) → is_before (x.flavour, x.number) best ≡ true → NextLive dest after xs best → (e : Entry) → IsOffered dest after xs e → NotAfter x.flavour x.number e.flavour e.number
    old None before none e o = absurd (none e o)
    old (Some at) before first e o =
        in_turn x.flavour at.0 e.flavour x.number at.1 e.number (not_behind x.flavour at.0 x.number at.1 (not_true _ before)) (first.least e o)
