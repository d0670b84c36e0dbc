-- The number of a file whose source waits for its action is its whole turn.
use Rattle.std.proofs.Common.{◌≡◌, List, [], ◌∷◌, None, Bool, true, false, ◌&&◌, ◌||◌, sym, subst, ◌∙◌, ap, inl, inr}
use Rattle.std.specs.Prelude.{◌==◌}
use Rattle.std.proofs.lemmas.Bool.{cases_Bool, and_parts, eqb-true}
use Rattle.ftn_addr.specs.Address.{Address, same_address}
use Rattle.file_index.specs.Turns.{FirstPast, same_turn}
use Rattle.file_index.specs.declared.turns.Turn.{Turn}
use Rattle.ledger_rec.specs.Acting.{acting_turn, acts_at, has_action, is_acting}
use Rattle.ledger_rec.specs.Items.{Entry}

its_turn : (to : Address) (t : Turn) (e : Entry) → acts_at to t e ≡ true → t ≡ acting_turn t.number
its_turn to t e acts =
    let turn = (and_parts (same_address to e.dest) (same_turn t (acting_turn e.number)) (and_parts (has_action e) _ acts).1).1 in
    let rank = eqb-true t.rank 0 (and_parts (t.rank == 0) (t.number == e.number) turn).0 in
    λ i. record { rank = rank i; number = t.number }

acting_number : (queue : List Entry) (to : Address) (t : Turn) → is_acting queue to t ≡ true → t ≡ acting_turn t.number
acting_number [] to t acts = absurd (cc acts)
acting_number (e ∷ queue) to t acts = elim (cases_Bool (acts_at to t e)) as (λ _. t ≡ acting_turn t.number) [
  | inl here ↦ its_turn to t e here
  | inr there ↦ acting_number queue to t (sym (ap (λ (b : Bool). b || is_acting queue to t) there) ∙ acts)
]

-- the first such turn is that of its number
pub numbered : (queue : List Entry) (to : Address) (t : Turn) → FirstPast (is_acting queue to) None t → FirstPast (is_acting queue to) None (acting_turn t.number)
numbered queue to t first = subst (λ (u : Turn). FirstPast (is_acting queue to) None u) (acting_number queue to t first.waits) first
