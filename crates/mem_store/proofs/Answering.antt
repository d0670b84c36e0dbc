-- A received request is answered.
use Rattle.std.proofs.Common.{◌≡◌, ◌≢◌, ℕ, true, false, ◌==◌, cond, List, Some, None, sym, ◌∙◌, ap, get_or, set, map, position}
use Rattle.std.specs.List.{remove}
use Rattle.std.proofs.lemmas.Bool.Decides.{Decides-eqb}
use Rattle.node_model.specs.Items.{Receipt}
use Rattle.node_model.specs.Durable.{answered_receipt}
use Rattle.node_model.proofs.Distinct.{apart_numbers}
use Rattle.node_model.proofs.Lists.{Each-weaker}
use Rattle.mem_store.proofs.Places.{position_is, no_position, first_passes, map_same, map_one, one_rest}
use Rattle.mem_store.specs.Orders.{OneEach}

-- where there is none, nothing changes
pub none_answered : (number : ℕ) (inbox : List Receipt) → position (λ (r : Receipt). r.number == number) inbox ≡ None → inbox ≡ map (answered_receipt number) inbox
none_answered number inbox none =
    sym (map_same (answered_receipt number) inbox (Each-weaker (λ (r : Receipt). (r.number == number) ≡ false) (λ (r : Receipt). answered_receipt number r ≡ r) (λ r e. ap (λ b. cond b (record r { answered = true }) r) e) inbox (no_position (λ (r : Receipt). r.number == number) inbox none)))

pub one_answered : (number i : ℕ) (inbox : List Receipt) (x y : Receipt) → OneEach (λ (r : Receipt). r.number) inbox → position (λ (r : Receipt). r.number == number) inbox ≡ Some i → x ≡ get_or inbox i x → y ≡ record x { answered = true } → set inbox i y ≡ map (answered_receipt number) inbox
one_answered number i inbox x y one there is after =
    let h = position_is (λ (r : Receipt). r.number == number) inbox i there in
    let hit = first_passes (λ (r : Receipt). r.number == number) inbox i x h.0 h.1 is in
    let numbered : x.number ≡ number = (Decides-eqb x.number number).0 hit in
    sym (map_one (answered_receipt number) inbox i x y h.1 is (ap (λ b. cond b (record x { answered = true }) x) hit ∙ sym after) (Each-weaker (λ (r : Receipt). r.number ≢ x.number) (λ (r : Receipt). answered_receipt number r ≡ r) (λ r ne. ap (λ b. cond b (record r { answered = true }) r) (apart_numbers r.number number (λ same. ne (same ∙ sym numbered)))) (remove inbox i) (one_rest (λ (r : Receipt). r.number) inbox i x one h.1 is)))
