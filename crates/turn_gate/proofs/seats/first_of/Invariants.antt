use Rattle.std.proofs.Common.{◌≢◌, ℕ, ◌<◌, ◌≤◌, length, slice_index_or}
use Rattle.turn_gate.proofs.seats.first_of.Given as goal

abbrev pub invariant-loop-at : goal.invariant-loop-at
invariant-loop-at g l = (l.at ≤ length l.passes) × ((k : ℕ) (d : _) → k < l.at → (slice_index_or l.passes k d).token.me.0.seat ≢ 0)
