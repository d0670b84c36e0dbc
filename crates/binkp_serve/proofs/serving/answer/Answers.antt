use Rattle.binkp_serve.specs.Serving.{Answers_one}
use Rattle.binkp_serve.proofs.Rested.{rests_then}
use Rattle.binkp_serve.proofs.serving.answer.Goals as goal

pub returns-clause-turn : goal.returns-clause-turn
returns-clause-turn g c = λ before gave listed. Answers_one _ (c.hold_line.ensures.holds before before gave) (c.give.ensures.gives (g.N.Lines.state c.hold_line.new.lines) (g.O.Sink.state c.hold_line.new.out) c.hold_line.new.watch)

pub returns-clause-rests : goal.returns-clause-rests
returns-clause-rests g c = rests_then g.D.Disk.tells g.D.Disk.content g.D.Disk.fault_count g.D.Disk.moment g.D.Disk.images _ _ _ _ _ c.hold_line.ensures.rests c.give.ensures.rests
