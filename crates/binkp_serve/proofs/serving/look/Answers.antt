use Rattle.std.proofs.Common.{refl}
use Rattle.outbound_round.specs.Round.{told_of}
use Rattle.binkp_serve.proofs.serving.look.Goals as goal

pub returns-clause-looks : goal.returns-clause-looks
returns-clause-looks g c = λ lines. record { round = told_of c.take_outbound-round.result; takes = c.take_outbound-round.ensures.takes; says = c.tell_news.ensures; lines = refl; memory = refl }
