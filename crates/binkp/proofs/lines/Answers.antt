use Rattle.std.proofs.Common.{ap}
use Rattle.binkp_link.specs.LineSources.{LinesState}
use Rattle.binkp.proofs.lines.Goals as goal

pub returns : goal.returns
returns c = record { given = ap (λ (l : LinesState). l.counts.given) c.new.ensures; told = tt }
