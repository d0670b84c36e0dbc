use Rattle.std.proofs.Common.{◌≤◌}
use Rattle.mem_talk.proofs.kept.live.Given as goal

abbrev pub invariant-loop-entry : goal.invariant-loop-entry
invariant-loop-entry l = l.count ≤ l.entry-index
