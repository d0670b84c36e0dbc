use Rattle.std.specs.Prelude.{All}
use Rattle.binkp_link.specs.Callers.{ActIsUnused}
use Rattle.mem_mailer.proofs.serving.acts_of.Given as goal

abbrev pub invariant-loop-one : goal.invariant-loop-one
invariant-loop-one l = All ActIsUnused l.acts.items
