-- The first file whose source waits for its action is the next to act on.
use Rattle.std.proofs.Common.{◌≡◌, ◌⊎◌, inl, inr, ℕ, zero, suc, ◌==◌, ◌<◌, ◌≤◌, Bool, true, false, not, nat_lt, ◌&&◌, List, map, Some, None, refl, sym, ◌∙◌, ap, subst, arith}
use Rattle.std.specs.Prelude.{IsSome, find, if◌then◌else◌}
use Rattle.std.proofs.lemmas.Bool.Decides.{Decides-ltb}
use Rattle.ftn_addr.specs.Address.{Address, same_address}
use Rattle.ftn_addr.specs.declared.source_file.Action.TheVariants.{Leave, Delete, Cut}
use Rattle.file_index.specs.declared.turns.Turn.{Turn}
use Rattle.file_index.specs.Turns.{IsLater, NextTurn}
use Rattle.ledger_rec.specs.Acting.{acting_turn, has_action, acts_at, is_acting}
use Rattle.ledger_rec.specs.Items.{Entry, entry}
use Rattle.ledger_rec.specs.declared.items.QueueItem.{QueueItem}
use Rattle.node_model.specs.Items.{EntryOf}
use Rattle.node_model.specs.Lists.{Member}
use Rattle.node_model.specs.SendRows.{leaves, waits_for_action, NextActed}
use Rattle.node_model.proofs.Lists.{and_true, and_both}
use Rattle.node_model.proofs.SameFiles.{same_address_is}
use Rattle.node_store.specs.Contents.{Contents, entry_by}
use Rattle.node_store.specs.Logs.{action_of}
use Rattle.node_store.specs.Numbers.{AreDifferent}
use Rattle.node_store.proofs.Found.{seen_from, seen_there, only_one, is_found, found_is}
use Rattle.node_store.proofs.Mirrors.{eqb_apart}
use Rattle.node_store.proofs.Offering.{same_address-refl, any_there, one_there, turn_is, turn-refl}

-- an action is to be done exactly where it doesn't leave the source
acts_or_leaves : (n : ℕ) → nat_lt 0 n ≡ not (leaves (action_of n))
acts_or_leaves zero = refl
acts_or_leaves (suc n) =
    let low : 0 < suc n = omega arith in
    (Decides-ltb 0 (suc n)).1 low
    ∙ sym (ap (λ (b : Bool). not (leaves (if b then Leave else if suc n == 1 then Delete else Cut))) (eqb_apart (suc n) 0 (λ is. omega (arith, is))) ∙ go (suc n == 1))
  where
    go : (b : Bool) → not (leaves (if b then Delete else Cut)) ≡ true
    go true = refl
    go false = refl

swapped : (a b : Bool) → (a && b) ≡ (b && a)
swapped true true = refl
swapped true false = refl
swapped false true = refl
swapped false false = refl

pub waits_is : (c : Contents ℕ) (e : Entry) → waits_for_action (entry_by c e) ≡ has_action e
waits_is c e = swapped (not e.acted) (not (leaves (action_of e.action))) ∙ ap (λ (b : Bool). b && not e.acted) (sym (acts_or_leaves e.action))

pub some_action : (e : Entry) → has_action e ≡ true → 0 < e.action
some_action e has = (Decides-ltb 0 e.action).0 (and_true (nat_lt 0 e.action) (not e.acted) has).0

-- the file that is next
pub record IsNext (dest : Address) (queue : List Entry) (e : Entry) : Type 0 where
  pub there : Member e queue
  pub acts : has_action e ≡ true
  pub addressed : e.dest ≡ dest
  pub first : (f : Entry) → Member f queue → f.dest ≡ dest → has_action f ≡ true → e.number ≤ f.number

module _ (queue : List Entry) (dest : Address) where
  acts_there : (e : Entry) → Member e queue → e.dest ≡ dest → has_action e ≡ true → is_acting queue dest (acting_turn e.number) ≡ true
  acts_there e there addressed acts =
      any_there (acts_at dest (acting_turn e.number)) e queue there
      (and_both (has_action e) _ acts (and_both (same_address dest e.dest) _ (subst (λ (a : Address). same_address dest a ≡ true) (sym addressed) (same_address-refl dest)) (turn-refl (acting_turn e.number))))

  -- the entry that waits at that turn
  acting_at : (t : Turn) → is_acting queue dest t ≡ true → (e : Entry) × Member e queue × (has_action e ≡ true) × (e.dest ≡ dest) × (t ≡ acting_turn e.number)
  acting_at t waits =
      let e = one_there (acts_at dest t) queue waits in
      let h = and_true (has_action e.0) _ e.2 in
      let k = and_true (same_address dest e.0.dest) _ h.1 in
      (e.0, e.1, h.0, sym (same_address_is dest e.0.dest k.0), turn_is t (acting_turn e.0.number) k.1)

  -- none is next
  pub none_acts : (c : Contents ℕ) → NextTurn (is_acting queue dest) None None → (e : EntryOf ℕ) → Member e (map (entry_by c) queue) → e.dest ≡ dest → waits_for_action e ≡ true → ⊥
  none_acts c none e there addressed waits =
      let f = seen_from (entry_by c) e queue there in
      none (acting_turn f.0.number)
      (acts_there f.0 f.1 (sym (ap (λ (x : EntryOf ℕ). x.dest) f.2) ∙ addressed) (sym (waits_is c f.0) ∙ ap waits_for_action (sym f.2) ∙ waits)) tt

  module _ (number : ℕ) (found : NextTurn (is_acting queue dest) None (Some (acting_turn number))) where
    at : (e : Entry) × Member e queue × (has_action e ≡ true) × (e.dest ≡ dest) × (acting_turn number ≡ acting_turn e.number)
    at = acting_at (acting_turn number) found.waits

    -- an item in memory has that number
    pub next_there : (items : List QueueItem) → map entry items ≡ queue → IsSome (find (λ (e : QueueItem). e.number == number) items)
    next_there items same =
        let x = seen_from entry at.0 items (subst (Member at.0) (sym same) at.1) in
        let f = is_found (λ (i : QueueItem). i.number) number x.0 items x.1 (sym (ap (λ (i : Entry). i.number) x.2) ∙ sym (ap (λ (t : Turn). t.number) at.4)) in
        subst IsSome (sym f.1) refl

    -- the entry at that turn is next
    next_at : IsNext dest queue at.0
    next_at = record { there = at.1; acts = at.2; addressed = at.3; first = λ f there addressed acts. least f (found.first (acting_turn f.number) (acts_there f there addressed acts) tt) }
      where
        least : (f : Entry) → (acting_turn f.number ≡ acting_turn number) ⊎ IsLater (acting_turn f.number) (acting_turn number) → at.0.number ≤ f.number
        least f (inl same) = let k = ap (λ (t : Turn). t.number) at.4 in let n = ap (λ (t : Turn). t.number) same in omega (arith, k, n)
        least f (inr (inl less)) = absurd (omega (arith, less))
        least f (inr (inr (ranks, less))) = let k = ap (λ (t : Turn). t.number) at.4 in omega (arith, k, less)

    pub next_is : (e : Entry) × IsNext dest queue e
    next_is = (at.0, next_at)

    -- and so is what is found
    pub next_found : AreDifferent (map (λ (e : Entry). e.number) queue) → (items : List QueueItem) → map entry items ≡ queue → (x : QueueItem) → find (λ (e : QueueItem). e.number == number) items ≡ Some x
        → IsNext dest queue (entry x) × (x.number ≡ number)
    next_found different items same x is =
        let f = found_is (λ (e : QueueItem). e.number) number x items is in
        let there : Member (entry x) queue = subst (Member (entry x)) same (seen_there entry x items f.0) in
        let one : at.0 ≡ entry x = only_one (λ (e : Entry). e.number) at.0 (entry x) queue different at.1 there (sym (ap (λ (t : Turn). t.number) at.4) ∙ sym f.1) in
        (subst (IsNext dest queue) one next_at, f.1)

-- as the store tells it
abbrev pub next_acted : (c : Contents ℕ) (queue : List Entry) (dest : Address) (e : Entry) → IsNext dest queue e → NextActed dest e.number (map (entry_by c) queue)
next_acted c queue dest e is = record {
  entry = entry_by c e;
  there = seen_there (entry_by c) e queue is.there;
  is = refl;
  addressed = is.addressed;
  waits = waits_is c e ∙ is.acts;
  first_one = λ f there addressed waits.
      let g = seen_from (entry_by c) f queue there in
      subst (λ (n : ℕ). e.number ≤ n) (sym (ap (λ (x : EntryOf ℕ). x.number) g.2))
      (is.first g.0 g.1 (sym (ap (λ (x : EntryOf ℕ). x.dest) g.2) ∙ addressed) (sym (waits_is c g.0) ∙ ap waits_for_action (sym g.2) ∙ waits));
}
