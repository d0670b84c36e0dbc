-- The least number, as a list is walked, and which receipt and which entry is next.
use Rattle.std.proofs.Common.{◌≡◌, ◌⊎◌, ℕ, ◌<◌, ◌≤◌, Bool, true, false, ◌&&◌, List, [], ◌∷◌, ◌++◌, Option, Some, None, refl, sym, ◌∙◌, subst, inl, inr, ⊎_elim, arith, min, nat_lt}
use Rattle.std.proofs.lemmas.Bool.Decides.{Decides-ltb}
use Rattle.ftn_addr.specs.Address.{Address, same_address}
use Rattle.node_model.specs.Items.{Entry, Receipt}
use Rattle.node_model.specs.Lists.{Member}
use Rattle.node_model.specs.SendRows.{InRound, NextActed, NextGiven, may_go, waits_for_action}
use Rattle.node_model.proofs.Lists.{off, and_true, and_both, Member-append, Member-append_right, Member-append_cases}
use Rattle.node_model.proofs.SameFiles.{same_address_is}
use Rattle.mem_store.specs.Least.{LeastOf, Least, lesser, is_above}
use Rattle.mem_store.proofs.Offering.{same_address-refl}

-- one item more
pub least_more : {A : Type 0} (p : A → Bool) (number : A → ℕ) (xs : List A) (x : A) (best : Option ℕ) → Least p number xs best → Least p number (xs ++ x ∷ []) (lesser (p x) (number x) best)
least_more {A} p number xs x best l = go (p x) refl best l
  where
    last : (y : A) → Member y (x ∷ []) → y ≡ x
    last y (inl e) = e
    last y (inr m) = absurd m

    go : (b : Bool) → p x ≡ b → (best : Option ℕ) → Least p number xs best → Least p number (xs ++ x ∷ []) (lesser b (number x) best)
    go false is None none = λ y m t. ⊎_elim (λ old. none y old t) (λ new. off (sym t ∙ (subst (λ (z : A). p z ≡ p x) (sym (last y new)) refl ∙ is))) (Member-append_cases y xs (x ∷ []) m)
    go false is (Some n) h =
        record { item = h.item; there = Member-append h.item xs (x ∷ []) h.there; passes = h.passes; numbered = h.numbered; least = λ y m t. ⊎_elim (λ old. h.least y old t) (λ new. off (sym t ∙ (subst (λ (z : A). p z ≡ p x) (sym (last y new)) refl ∙ is))) (Member-append_cases y xs (x ∷ []) m) }
    go true is None none =
        record { item = x; there = Member-append_right x xs (x ∷ []) (inl refl); passes = is; numbered = refl; least = λ y m t. ⊎_elim (λ old. absurd (none y old t)) (λ new. subst (λ (z : A). number x ≤ number z) (sym (last y new)) (omega arith)) (Member-append_cases y xs (x ∷ []) m) }
    go true is (Some n) h = ⊎_elim (λ lt. first lt) (λ ge. second ge) (split (number x) n)
      where
        split : (a b : ℕ) → (a < b) ⊎ (b ≤ a)
        split a b = elim (nat_lt a b) as (λ c. nat_lt a b ≡ c → (a < b) ⊎ (b ≤ a)) [ true ↦ λ e. inl ((Decides-ltb a b).0 e) | false ↦ λ e. inr (at_most a b (λ lt. off (sym ((Decides-ltb a b).1 lt) ∙ e))) ] refl
          where
            at_most : (a b : ℕ) → (a < b → ⊥) → b ≤ a
            at_most a b h = omega (arith, h)

        first : number x < n → LeastOf p number (xs ++ x ∷ []) (min (number x) n)
        first lt =
            let e : number x ≡ min (number x) n = omega (arith, lt) in
            subst (LeastOf p number (xs ++ x ∷ [])) e (record { item = x; there = Member-append_right x xs (x ∷ []) (inl refl); passes = is; numbered = refl; least = λ y m t. ⊎_elim (λ old. let le : n ≤ number y = h.least y old t in omega (arith, lt, le)) (λ new. subst (λ (z : A). number x ≤ number z) (sym (last y new)) (omega arith)) (Member-append_cases y xs (x ∷ []) m) })

        second : n ≤ number x → LeastOf p number (xs ++ x ∷ []) (min (number x) n)
        second ge =
            let e : n ≡ min (number x) n = omega (arith, ge) in
            subst (LeastOf p number (xs ++ x ∷ [])) e (record { item = h.item; there = Member-append h.item xs (x ∷ []) h.there; passes = h.passes; numbered = h.numbered; least = λ y m t. ⊎_elim (λ old. h.least y old t) (λ new. subst (λ (z : A). n ≤ number z) (sym (last y new)) ge) (Member-append_cases y xs (x ∷ []) m) })

-- Receipts.

abbrev WaitsAbove : Option ℕ → List Receipt → Option ℕ → Type 0
WaitsAbove above inbox found = Least (λ (r : Receipt). may_go r && is_above above r.number) (λ (r : Receipt). r.number) inbox found

-- the least above the last one is next
pub given_above : (inbox : List Receipt) (last number : ℕ) → WaitsAbove (Some last) inbox (Some number) → NextGiven number last inbox
given_above inbox last number h =
    let t = and_true (may_go h.item) _ h.passes in
    let above : last < number = subst (λ n. last < n) h.numbered ((Decides-ltb last h.item.number).0 t.1) in
    record { receipt = h.item; there = h.there; is = h.numbered; may = t.0; least = λ r m may. go (nat_lt last r.number) r refl m may above }
  where
    at_most : (a b : ℕ) → (a < b → ⊥) → b ≤ a
    at_most a b h = omega (arith, h)

    go : (b : Bool) (r : Receipt) → nat_lt last r.number ≡ b → Member r inbox → may_go r ≡ true → last < number → InRound last number r.number
    go true r is m may above = inl (above, inl ((Decides-ltb last r.number).0 is, h.least r m (and_both (may_go r) _ may is)))
    go false r is m may above = inl (above, inr (at_most last r.number (λ lt. off (sym ((Decides-ltb last r.number).1 lt) ∙ is))))

-- with none above it, the least of all is
pub given_least : (inbox : List Receipt) (last number : ℕ) → WaitsAbove (Some last) inbox None → WaitsAbove None inbox (Some number) → NextGiven number last inbox
given_least inbox last number none h =
    let may = (and_true (may_go h.item) _ h.passes).0 in
    record { receipt = h.item; there = h.there; is = h.numbered; may = may; least = λ r m go. inr (subst (λ n. n ≤ last) h.numbered (below h.item h.there may), h.least r m (and_both (may_go r) _ go refl), below r m go) }
  where
    at_most : (a b : ℕ) → (a < b → ⊥) → b ≤ a
    at_most a b h = omega (arith, h)

    below : (r : Receipt) → Member r inbox → may_go r ≡ true → r.number ≤ last
    below r m may = at_most last r.number (λ lt. none r m (and_both (may_go r) _ may ((Decides-ltb last r.number).1 lt)))

pub given_none : (inbox : List Receipt) → WaitsAbove None inbox None → (r : Receipt) → Member r inbox → may_go r ≡ true → ⊥
given_none inbox none r m may = none r m (and_both (may_go r) _ may refl)

-- Entries.

abbrev Waits : Address → List Entry → Option ℕ → Type 0
Waits dest queue found = Least (λ (e : Entry). same_address dest e.dest && waits_for_action e) (λ (e : Entry). e.number) queue found

addressed : (dest : Address) (e : Entry) → e.dest ≡ dest → same_address dest e.dest ≡ true
addressed dest e is = subst (λ (a : Address). same_address dest a ≡ true) (sym is) (same_address-refl dest)

pub acted_first : (dest : Address) (queue : List Entry) (number : ℕ) → Waits dest queue (Some number) → NextActed dest number queue
acted_first dest queue number h =
    let t = and_true (same_address dest h.item.dest) _ h.passes in
    record { entry = h.item; there = h.there; is = h.numbered; addressed = sym (same_address_is dest h.item.dest t.0); waits = t.1; first_one = λ e m is waits. h.least e m (and_both (same_address dest e.dest) _ (addressed dest e is) waits) }

pub acted_none : (dest : Address) (queue : List Entry) → Waits dest queue None → (e : Entry) → Member e queue → e.dest ≡ dest → waits_for_action e ≡ true → ⊥
acted_none dest queue none e m is waits = none e m (and_both (same_address dest e.dest) _ (addressed dest e is) waits)
