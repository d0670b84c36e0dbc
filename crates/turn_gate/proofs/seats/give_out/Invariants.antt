use Rattle.std.proofs.Common.{◌≡◌, ℕ, [], ◌+◌, ◌<◌, ◌≤◌, vec_len, slice_index_or}
use Rattle.turn_gate.specs.Seats.{IsNewAt}
use Rattle.turn_gate.specs.Views.{keeper_view}
use Rattle.turn_gate.proofs.seats.give_out.Given as goal

abbrev pub invariant-loop-seat : goal.invariant-loop-seat
invariant-loop-seat g l =
    (l.keeper.table_id ≡ l.initial.keeper.table_id)
    × (l.keeper.me ≡ (keeper_view l.fn.keeper.me.0.left l.seat [], []))
    × (vec_len l.passes + 1 ≡ l.seat) × (l.fn.seats ≤ l.passes.cap)
    × ((k : ℕ) (d : _) → k + 1 < l.seat → IsNewAt l.shared.table_id l.fn.keeper.me.0.left (k + 1) (slice_index_or l.passes.items k d).token.table_id (slice_index_or l.passes.items k d).token.me)
