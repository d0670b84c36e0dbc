use Rattle.std.specs.Prelude.{All}
use Rattle.binkp_link.specs.Callers.{UnusedLine}
use Rattle.mem_mailer.proofs.serving.dials_of.Given as goal

abbrev pub invariant-loop-pieces : goal.invariant-loop-pieces
invariant-loop-pieces l = All UnusedLine l.lines.items
