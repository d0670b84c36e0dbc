use Rattle.std.proofs.Common.{◌≡◌, ◌<◌, ℕ, Some, slice_get}
use Rattle.session_threads.specs.Slots.{Rests_here}
use Rattle.test_threads.specs.Serving.{NoneOut}
use Rattle.test_threads.proofs.serving.end_all.Given as goal

abbrev pub invariant-loop-seat : goal.invariant-loop-seat
invariant-loop-seat g l = record {
  none_out : NoneOut l.slots;
  back : (k : ℕ) (w : _) → k < l.seat → slice_get l.slots k ≡ Some w → (left : _) × (w ≡ Rests_here left);
}
