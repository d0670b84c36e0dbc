-- A give call is the step of the store's node.
use Rattle.std.proofs.Common.{◌≡◌, ◌∙◌, ℕ, ◌+◌, arith, true, List, [], ◌∷◌, map, length, Option, Some, option_map, refl, sym, ap, subst, inl, inr}
use Rattle.std.proofs.lemmas.List.{append-nil}
use Rattle.hub_core.specs.Hubs.{HubState, node_with}
use Rattle.node_model.specs.Durable.{receipt_map, with_given}
use Rattle.node_model.specs.Items.{Receipt, ReceiptOf}
use Rattle.node_model.specs.Lists.{Member}
use Rattle.node_model.specs.Outside.{Gift}
use Rattle.node_model.specs.SendRows.{GiveHeld, GiveNothing, GiveRow, NextGiven, may_go}
use Rattle.node_model.specs.Stocks.{Sizes, sizes, on_state}
use Rattle.node_model.specs.Stores.{Stored, StoreState, StoreTied, IfTold, given, gift_made, stored_after, GivesNext, HoldsNext}
use Rattle.node_model.specs.declared.store.Gave.TheVariants.{Given, Held, Nothing}
use Rattle.node_model.proofs.Lists.{some_inj}
use Rattle.binkp_serve.specs.GiveSteps.{GivesAreSteps}

-- Members of a list that is seen without bytes.

pub there_with : {A B : Type 0} (f : A → B) (xs : List A) (x : A) → Member x xs → Member (f x) (map f xs)
there_with f [] x there = absurd there
there_with f (y ∷ ys) x (inl is) = inl (ap f is)
there_with f (y ∷ ys) x (inr behind) = inr (there_with f ys x behind)

there_before : {A B : Type 0} (f : A → B) (xs : List A) (y : B) → Member y (map f xs) → (x : A) × Member x xs × (f x ≡ y)
there_before f [] y there = absurd there
there_before f (x ∷ xs) y (inl is) = (x, inl refl, sym is)
there_before f (x ∷ xs) y (inr behind) = let found = there_before f xs y behind in (found.0, inr found.1, found.2)

-- The next receipt in a round is the same, with its bytes.
pub next_with : (number last : ℕ) (inbox : List Receipt) → NextGiven number last (map (receipt_map length) inbox) → NextGiven number last inbox
next_with number last inbox next =
    let found = there_before (receipt_map length) inbox next.receipt next.there in
    record {
      receipt = found.0;
      there = found.1;
      is = ap (λ (r : ReceiptOf ℕ). r.number) found.2 ∙ next.is;
      may = ap (λ (r : ReceiptOf ℕ). may_go r) found.2 ∙ next.may;
      least = λ r there may. next.least (receipt_map length r) (there_with (receipt_map length) inbox r there) may;
    }

same_told : (s : StoreState) (kept : Stored) → StoreTied s → s.content ≡ Some kept → s.stock ≡ sizes kept.stock
same_told s kept tied told = (subst (λ (c : Option Stored). IfTold c (λ a. (s.stock ≡ sizes a.stock) × (s.recorded ≡ a.recorded) × (s.appended ≡ length a.log))) told tied.sizes).0

next_told : (number : ℕ) (s : StoreState) (kept : Stored) → StoreTied s → s.content ≡ Some kept → NextGiven number s.last_given s.stock.state.inbox → NextGiven number s.last_given kept.stock.state.inbox
next_told number s kept tied told next =
    next_with number s.last_given kept.stock.state.inbox (subst (λ (inbox : List (ReceiptOf ℕ)). NextGiven number s.last_given inbox) (ap (λ (x : Sizes). x.state.inbox) (same_told s kept tied told)) next)

-- What is told after a call.

left_given : (gift : Gift) (time : ℕ) (old : StoreState) (kept left : Stored) → old.content ≡ Some kept → (given gift time old).content ≡ Some left → left ≡ gift_made gift time (stored_after (on_state (with_given gift.receipt)) old.seat [] kept)
left_given gift time old kept left told is = sym (some_inj (ap (λ (c : Option Stored). option_map (gift_made gift time) (option_map (stored_after (on_state (with_given gift.receipt)) old.seat []) c)) (sym told) ∙ is))

pub given_is : (hub : HubState) (number : ℕ) (gift : Gift) (time : ℕ) (old : StoreState) (kept left : Stored) → gift.receipt ≡ number → old.content ≡ Some kept → (given gift time old).content ≡ Some left
    → node_with left (given gift time old) hub ≡ record (node_with kept old hub) { state = with_given number kept.stock.state; last_given = number }
given_is hub number gift time old kept left numbered told is =
    let no_record : old.records + 0 ≡ old.records = omega arith in
    ap (λ (a : Stored). node_with a (given gift time old) hub) (left_given gift time old kept left told is)
    ∙ (λ i. record (node_with kept old hub) { state = with_given (numbered i) kept.stock.state; log = append-nil kept.log i; records = no_record i; last_given = numbered i })

-- A call that is answered at all.

gives_step : (seat : ℕ) (hub : HubState) (inbound nonsecure : List ℕ) (number : ℕ) (old new : StoreState) (kept left : Stored) → StoreTied old → old.content ≡ Some kept → new.content ≡ Some left
    → GivesNext inbound nonsecure number old new → GiveRow number (node_with kept old hub) (node_with left new hub)
gives_step seat hub inbound nonsecure number old new kept left tied told is does = record {
  next = next_told number old kept tied told does.next;
  after = subst (λ (s : StoreState). s.content ≡ Some left → node_with left s hub ≡ record (node_with kept old hub) { state = with_given number kept.stock.state; last_given = number }) (sym does.after) (given_is hub number does.gift does.time old kept left does.receipt told) is;
}

holds_step : (seat : ℕ) (hub : HubState) (inbound nonsecure : List ℕ) (number : ℕ) (old new : StoreState) (kept left : Stored) → StoreTied old → old.content ≡ Some kept → new.content ≡ Some left
    → HoldsNext inbound nonsecure number old new → GiveHeld number (node_with kept old hub) (node_with left new hub)
holds_step seat hub inbound nonsecure number old new kept left tied told is does = record {
  next = next_told number old kept tied told does.next;
  after = subst (λ (s : StoreState). s.content ≡ Some left → node_with left s hub ≡ record (node_with kept old hub) { last_given = number }) (sym does.after) (λ same. ap (λ (a : Stored). node_with a (record old { last_given = number }) hub) (sym (some_inj (sym told ∙ same)))) is;
}

nothing_step : (seat : ℕ) (hub : HubState) (old new : StoreState) (kept left : Stored) → StoreTied old → old.content ≡ Some kept → new.content ≡ Some left
    → ((r : ReceiptOf ℕ) → Member r old.stock.state.inbox → may_go r ≡ true → ⊥) × (new ≡ old) → GiveNothing (node_with kept old hub) (node_with left new hub)
nothing_step seat hub old new kept left tied told is does = record {
  none = λ r there may. does.0 (receipt_map length r) (subst (λ (x : Sizes). Member (receipt_map length r) x.state.inbox) (sym (same_told old kept tied told)) (there_with (receipt_map length) kept.stock.state.inbox r there)) may;
  after = subst (λ (s : StoreState). s.content ≡ Some left → node_with left s hub ≡ node_with kept old hub) (sym does.1) (λ same. ap (λ (a : Stored). node_with a old hub) (sym (some_inj (sym told ∙ same)))) is;
}

pub gives_are_steps : GivesAreSteps
gives_are_steps seat hub inbound nonsecure old new kept left (Given number) tied whole told is does = (inl whole, gives_step seat hub inbound nonsecure number old new kept left tied told is does)
gives_are_steps seat hub inbound nonsecure old new kept left (Held number) tied whole told is does = (inl whole, holds_step seat hub inbound nonsecure number old new kept left tied told is does)
gives_are_steps seat hub inbound nonsecure old new kept left Nothing tied whole told is does = (inl whole, nothing_step seat hub old new kept left tied told is does)
