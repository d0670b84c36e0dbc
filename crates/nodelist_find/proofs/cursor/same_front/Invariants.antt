use Rattle.std.proofs.Common.{◌≡◌, ◌+◌, ◌-◌, ◌≤◌, drop, length, nat_eq}
use Rattle.std.specs.List.{common_prefix_len}
use Rattle.nodelist_find.proofs.cursor.same_front.Given as goal

abbrev pub invariant-loop-same : goal.invariant-loop-same
invariant-loop-same l = record {
  same : l.same + common_prefix_len nat_eq (drop l.same l.a) (drop l.same l.b) ≡ common_prefix_len nat_eq l.a l.b;
  first : l.same ≤ length l.a;
  second : l.same ≤ length l.b;
}

abbrev pub decreases-loop-same : goal.decreases-loop-same
decreases-loop-same l = length l.a - l.same
