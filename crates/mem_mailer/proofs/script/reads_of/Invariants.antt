use Rattle.std.proofs.Common.{map}
use Rattle.binkp_link.specs.Scripts.{AllGiveSome, act_of}
use Rattle.mem_mailer.proofs.script.reads_of.Given as goal

abbrev pub invariant-loop-one : goal.invariant-loop-one
invariant-loop-one l = AllGiveSome (map act_of l.reads.items)
