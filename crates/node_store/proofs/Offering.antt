-- The first file that waits for an address is the first entry that is offered to it.
use Rattle.std.proofs.Common.{◌≡◌, ◌⊎◌, ℕ, zero, suc, ◌<◌, ◌≤◌, Bool, true, false, ◌==◌, List, [], ◌∷◌, map, Option, Some, None, refl, sym, ◌∙◌, ap, subst, inl, inr, ⊎_elim, arith}
use Rattle.std.specs.Prelude.{option_map, if◌then◌else◌}
use Rattle.std.specs.List.{AllByRecursion, list_any}
use Rattle.std.proofs.lemmas.Bool.Decides.{Decides-eqb}
use Rattle.ftn_addr.specs.Address.{Address, same_address}
use Rattle.file_index.specs.declared.turns.Turn.{Turn}
use Rattle.file_index.specs.Turns.{same_turn, IsLater, IsPast, NextTurn}
use Rattle.ledger_rec.specs.Items.{Entry}
use Rattle.ledger_rec.specs.Waiting.{turn_of as entry_turn, waits_at, is_waiting}
use Rattle.node_model.specs.declared.words.Flavour.{Flavour}
use Rattle.node_model.specs.Items.{EntryOf, Live, Done}
use Rattle.node_model.specs.Lists.{Member}
use Rattle.node_model.specs.SendRows.{rank}
use Rattle.node_model.specs.Stocks.{is_live, IsBehind, IsOffered, NextLive}
use Rattle.node_model.proofs.Lists.{and_true, and_both, or_cases, or_true, or_true_right, Each-member}
use Rattle.node_model.proofs.SameFiles.{same_address_is, number-refl, bytes-refl}
use Rattle.node_store.specs.Contents.{Contents, entry_by}
use Rattle.node_store.specs.Logs.{flavour_of}
use Rattle.node_store.specs.Offers.{turn_of, place_of}
use Rattle.node_store.proofs.Found.{seen_from, seen_there}
use Rattle.node_store.proofs.Listed.{IsListed}

pub same_address-refl : (a : Address) → same_address a a ≡ true
same_address-refl a =
    and_both (a.zone == a.zone) _ (number-refl a.zone) (and_both (a.net == a.net) _ (number-refl a.net) (and_both (a.node == a.node) _ (number-refl a.node) (and_both (a.point == a.point) _ (number-refl a.point) (bytes-refl a.domain))))

-- the number of a flavour is its rank
rank_is : (n : ℕ) → n ≤ 4 → rank (flavour_of n) ≡ n
rank_is zero low = refl
rank_is (suc zero) low = refl
rank_is (suc (suc zero)) low = refl
rank_is (suc (suc (suc zero))) low = refl
rank_is (suc (suc (suc (suc zero)))) low = refl
rank_is (suc (suc (suc (suc (suc n))))) low = absurd (omega (arith, low))

live_is : (c : Contents ℕ) (e : Entry) → is_live (entry_by c e).body ≡ e.live
live_is c e = go e.live
  where
    go : (b : Bool) → is_live (if b then Live (c.queued e.number e.key.size) else Done) ≡ b
    go true = refl
    go false = refl

-- one among these that passes
pub any_there : (p : Entry → Bool) (e : Entry) (xs : List Entry) → Member e xs → p e ≡ true → list_any p xs ≡ true
any_there p e [] there passes = absurd there
any_there p e (x ∷ xs) (inl same) passes = or_true (p x) (list_any p xs) (subst (λ (y : Entry). p y ≡ true) same passes)
any_there p e (x ∷ xs) (inr later) passes = or_true_right (p x) (list_any p xs) (any_there p e xs later passes)

pub one_there : (p : Entry → Bool) (xs : List Entry) → list_any p xs ≡ true → (e : Entry) × Member e xs × (p e ≡ true)
one_there p [] is = absurd (let clash : false ≡ true = is in cc clash)
one_there p (x ∷ xs) is = ⊎_elim (λ here. (x, inl refl, here)) (λ later. let e = one_there p xs later in (e.0, inr e.1, e.2)) (or_cases (p x) (list_any p xs) is)

pub turn_is : (t u : Turn) → same_turn t u ≡ true → t ≡ u
turn_is t u same =
    let h = and_true (t.rank == u.rank) (t.number == u.number) same in
    let rank : t.rank ≡ u.rank = (Decides-eqb t.rank u.rank).0 h.0 in
    let number : t.number ≡ u.number = (Decides-eqb t.number u.number).0 h.1 in
    λ i. record { rank = rank i; number = number i }

pub turn-refl : (t : Turn) → same_turn t t ≡ true
turn-refl t = and_both (t.rank == t.rank) (t.number == t.number) ((Decides-eqb t.rank t.rank).1 refl) ((Decides-eqb t.number t.number).1 refl)

module _ (c : Contents ℕ) (queue : List Entry) (dest : Address) (after : Option (Flavour × ℕ)) (listed : AllByRecursion IsListed queue) where
  -- behind a place is behind its turn
  behind_past : (after : Option (Flavour × ℕ)) (e : Entry) → e.flavour ≤ 4 → IsBehind after (entry_by c e) → IsPast (option_map turn_of after) (entry_turn e)
  behind_past None e low behind = tt
  behind_past (Some at) e low (inl less) = let r = rank_is e.flavour low in inl (omega (arith, less, r))
  behind_past (Some at) e low (inr (same, less)) = inr (same ∙ rank_is e.flavour low, less)

  past_behind : (after : Option (Flavour × ℕ)) (e : Entry) → e.flavour ≤ 4 → IsPast (option_map turn_of after) (entry_turn e) → IsBehind after (entry_by c e)
  past_behind None e low past = tt
  past_behind (Some at) e low (inl less) = let r = rank_is e.flavour low in inl (omega (arith, less, r))
  past_behind (Some at) e low (inr (same, less)) = inr (same ∙ sym (rank_is e.flavour low), less)

  flavoured : (e : Entry) → Member e queue → e.flavour ≤ 4
  flavoured e there = (Each-member IsListed e queue listed there).flavour

  -- what is offered waits
  offered_waits : (f : EntryOf ℕ) → IsOffered dest after (map (entry_by c) queue) f → (e : Entry) × (f ≡ entry_by c e) × (is_waiting queue dest (entry_turn e) ≡ true) × IsPast (option_map turn_of after) (entry_turn e) × (e.flavour ≤ 4)
  offered_waits f o =
      let e = seen_from (entry_by c) f queue o.there in
      let low = flavoured e.0 e.1 in
      let live : e.0.live ≡ true = sym (live_is c e.0) ∙ ap (λ (x : EntryOf ℕ). is_live x.body) (sym e.2) ∙ o.live in
      let addressed : dest ≡ e.0.dest = sym (sym (ap (λ (x : EntryOf ℕ). x.dest) e.2) ∙ o.addressed) in
      let same : same_address dest e.0.dest ≡ true = subst (λ (a : Address). same_address dest a ≡ true) addressed (same_address-refl dest) in
      let waits : waits_at dest (entry_turn e.0) e.0 ≡ true = and_both e.0.live _ live (and_both (same_address dest e.0.dest) _ same (turn-refl (entry_turn e.0))) in
      (e.0, e.2, any_there (waits_at dest (entry_turn e.0)) e.0 queue e.1 waits, behind_past after e.0 low (subst (IsBehind after) e.2 o.behind), low)

  -- what waits is offered
  waits_offered : (t : Turn) → is_waiting queue dest t ≡ true → IsPast (option_map turn_of after) t → (e : Entry) × IsOffered dest after (map (entry_by c) queue) (entry_by c e) × (t ≡ entry_turn e) × (e.flavour ≤ 4)
  waits_offered t waits past =
      let e = one_there (waits_at dest t) queue waits in
      let h = and_true e.0.live _ e.2 in
      let k = and_true (same_address dest e.0.dest) _ h.1 in
      let turn = turn_is t (entry_turn e.0) k.1 in
      let low = flavoured e.0 e.1 in
      (e.0, record { there = seen_there (entry_by c) e.0 queue e.1; live = live_is c e.0 ∙ h.0; addressed = sym (same_address_is dest e.0.dest k.0); behind = past_behind after e.0 low (subst (IsPast (option_map turn_of after)) turn past) }, turn, low)

  not_after : (t : Turn) (e : Entry) (f : EntryOf ℕ) → f ≡ entry_by c e → e.flavour ≤ 4 → t.rank ≤ 4 → (entry_turn e ≡ t) ⊎ IsLater (entry_turn e) t → (rank (flavour_of t.rank) < rank f.flavour) ⊎ ((rank (flavour_of t.rank) ≡ rank f.flavour) × (t.number ≤ f.number))
  not_after t e f is low small cases = subst (λ (x : EntryOf ℕ). (rank (flavour_of t.rank) < rank x.flavour) ⊎ ((rank (flavour_of t.rank) ≡ rank x.flavour) × (t.number ≤ x.number))) (sym is) (go cases)
    where
      go : (entry_turn e ≡ t) ⊎ IsLater (entry_turn e) t → (rank (flavour_of t.rank) < rank (flavour_of e.flavour)) ⊎ ((rank (flavour_of t.rank) ≡ rank (flavour_of e.flavour)) × (t.number ≤ e.number))
      go (inl same) = inr (ap (λ (u : Turn). rank (flavour_of u.rank)) (sym same), let n = ap (λ (u : Turn). u.number) same in omega (arith, n))
      go (inr (inl less)) = let r = rank_is t.rank small in let s = rank_is e.flavour low in inl (omega (arith, less, r, s))
      go (inr (inr (same, less))) = inr (ap (λ (n : ℕ). rank (flavour_of n)) same, omega (arith, less))

  pub next_is : (next : Option Turn) → NextTurn (is_waiting queue dest) (option_map turn_of after) next → NextLive dest after (map (entry_by c) queue) (option_map place_of next)
  next_is None none = λ f o. let e = offered_waits f o in none (entry_turn e.0) e.2 e.3
  next_is (Some t) found =
      let e = waits_offered t found.waits found.past in
      let small : t.rank ≤ 4 = let r = ap (λ (u : Turn). u.rank) e.2 in let low = e.3 in omega (arith, r, low) in
      record {
        entry = entry_by c e.0;
        offered = e.1;
        flavoured = ap (λ (u : Turn). flavour_of u.rank) (sym e.2);
        numbered = ap (λ (u : Turn). u.number) (sym e.2);
        least = λ f o. let g = offered_waits f o in not_after t g.0 f g.1 g.4 small (found.first (entry_turn g.0) g.2 g.3);
      }
