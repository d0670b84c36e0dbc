use Rattle.std.proofs.Common.{◌≡◌, ℕ, ◌-◌, ◌<◌, ◌≤◌, length}
use Rattle.std.specs.Prelude.{Some, slice_get}
use Rattle.ftn_addr.specs.Address.{address}
use Rattle.call_sched.specs.declared.words.Try.{Try}
use Rattle.call_sched.proofs.Searching.{IsPast, IsUpTo}
use Rattle.call_sched.proofs.tries.last_in_order.Given as goal

abbrev pub invariant-loop-low : goal.invariant-loop-low
invariant-loop-low l = record {
  below : (k : ℕ) (t : Try) → k < l.low → slice_get l.tries k ≡ Some t → IsUpTo (address l.addr) t;
  above : (k : ℕ) (t : Try) → l.high ≤ k → slice_get l.tries k ≡ Some t → IsPast (address l.addr) t;
  order : l.low ≤ l.high;
  within : l.high ≤ length l.tries;
}

abbrev pub decreases-loop-low : goal.decreases-loop-low
decreases-loop-low l = l.high - l.low
