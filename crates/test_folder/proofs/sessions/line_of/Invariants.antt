use Rattle.std.proofs.Common.{map}
use Rattle.binkp_link.specs.Scripts.{AllGiveSome, act_of}
use Rattle.test_folder.proofs.sessions.line_of.Given as goal

abbrev pub invariant-loop-turn : goal.invariant-loop-turn
invariant-loop-turn l = AllGiveSome (map act_of l.reads.items)
