-- The life in which a file is received twice, by computing.
use Rattle.std.proofs.Common.{◌≡◌, ℕ, zero, suc, [], ◌∷◌, Some, refl, inl, lit<, lit≤}
use Rattle.node_model.specs.declared.words.Role.TheVariants.{Answers}
use Rattle.node_model.specs.Node.{Hold, Node, blank, session_at, hold_in}
use Rattle.node_model.specs.Rows.{Go, FileRow}
use Rattle.node_model.specs.Lives.{Lives}
use Rattle.world_pair.specs.WorkedRun.{sender, file}
use Rattle.world_pair.specs.MixedRun.{point}
use Rattle.world_pair.specs.TwoNames.{called_twice, ReceivesTwice}
use Rattle.world_pair.proofs.WorkedNodes.{open_in, held_in, opening, released_in, going_as, whole, leaving}
use Rattle.node_model.proofs.Lists.{none_some}

abbrev first_call : Node
first_call = opening 0 Answers sender [] blank

abbrev first_part : Node
first_part = going_as 1 sender 0 0 first_call

abbrev first_left : Node
first_left = leaving 0 (whole 0 (7 ∷ 8 ∷ []) first_part)

abbrev second_call : Node
second_call = opening 0 Answers point [] first_left

abbrev second_part : Node
second_part = going_as 2 point 0 0 second_call

no_hold : (seat : ℕ) (h : Hold) → hold_in (session_at (released_in 0 first_call) seat) ≡ Some h → ⊥
no_hold zero h e = none_some e
no_hold (suc j) h e = none_some e

no_hold_then : (seat : ℕ) (h : Hold) → hold_in (session_at (released_in 0 second_call) seat) ≡ Some h → ⊥
no_hold_then zero h e = none_some e
no_hold_then (suc j) h e = none_some e

first_goes : FileRow 0 file 0 Go first_call first_part
first_goes =
    record {
      session = open_in 0 first_call;
      has = refl;
      applies = (record { unknown = refl; wanted = refl; free = λ h. no_hold h.other h.hold h.holds }, refl, lit< tt);
      room = lit≤ tt;
      made = (1, record { its_own = λ m c. none_some c; unmarked = λ _. tt; unreceived = tt; unheld = λ seat h e. absurd (no_hold seat h e); some = lit≤ tt; next = lit≤ tt; few = lit≤ tt }, refl);
    }

-- the name differs, and so it isn't known
second_goes : FileRow 0 file 0 Go second_call second_part
second_goes =
    record {
      session = open_in 0 second_call;
      has = refl;
      applies = (record { unknown = refl; wanted = refl; free = λ h. no_hold_then h.other h.hold h.holds }, refl, lit< tt);
      room = lit≤ tt;
      made = (2, record { its_own = λ m c. none_some c; unmarked = λ _. tt; unreceived = ((λ (e : suc zero ≡ suc (suc zero)). absurd (cc)), tt); unheld = λ seat h e. absurd (no_hold_then seat h e); some = lit≤ tt; next = lit≤ tt; few = lit≤ tt }, refl);
    }

pub received_twice : (last : Node) × Lives blank called_twice last × ReceivesTwice last
received_twice =
    (leaving 0 (whole 0 (7 ∷ 8 ∷ []) second_part), (first_call, (inl refl, (refl, record { first = sender; others = []; has_first = refl; none_yet = refl; few = lit< tt; after = refl })), (first_part, (inl refl, first_goes), (whole 0 (7 ∷ 8 ∷ []) first_part, (inl refl, record { session = open_in 0 first_part; has = refl; hold = held_in 0 first_part; holds = refl; taking = refl; whole = refl; after = refl }), (first_left, (inl refl, inl (record { session = open_in 0 (whole 0 (7 ∷ 8 ∷ []) first_part); has = refl; after = refl })), (second_call, (inl refl, (refl, record { first = point; others = []; has_first = refl; none_yet = refl; few = lit< tt; after = refl })), (second_part, (inl refl, second_goes), (whole 0 (7 ∷ 8 ∷ []) second_part, (inl refl, record { session = open_in 0 second_part; has = refl; hold = held_in 0 second_part; holds = refl; taking = refl; whole = refl; after = refl }), (leaving 0 (whole 0 (7 ∷ 8 ∷ []) second_part), (inl refl, inl (record { session = open_in 0 (whole 0 (7 ∷ 8 ∷ []) second_part); has = refl; after = refl })), refl)))))))), refl)
