use Rattle.std.proofs.Common.{◌≡◌, take}
use Rattle.outbound_round.specs.Counts.{counts_with}
use Rattle.outbound_round.proofs.counting.with_fates.Given as goal

abbrev pub invariant-loop-fate : goal.invariant-loop-fate
invariant-loop-fate l = l.more ≡ counts_with (take l.fate-index l.fates) l.fn.counts
