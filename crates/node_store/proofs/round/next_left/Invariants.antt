use Rattle.std.proofs.Common.{◌-◌, ◌^◌}
use Rattle.node_store.specs.Seeking.{is_sought}
use Rattle.node_store.proofs.Walked.{HasPassed, reached}
use Rattle.node_store.proofs.round.next_left.Given as goal

abbrev pub decreases-loop-next : goal.decreases-loop-next
decreases-loop-next l = 2 ^ 32 - reached l.passed

abbrev pub invariant-loop-next : goal.invariant-loop-next
invariant-loop-next l = HasPassed (is_sought l.fn.sought) l.given l.folded.state.inbox l.fn.after l.passed
