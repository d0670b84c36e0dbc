use Rattle.std.proofs.Common.{◌≤◌}
use Rattle.mem_talk.proofs.kept.count_in.Given as goal

abbrev pub invariant-loop-receipt : goal.invariant-loop-receipt
invariant-loop-receipt l = l.count ≤ l.receipt-index
