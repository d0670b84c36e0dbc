use Rattle.std.proofs.Common.{refl}
use Rattle.binkp_mailer.specs.OverLines.{None_came, One_came, Nobody_yet, Nobody_more, Not_heard}
use Rattle.binkp_mailer.proofs.Lines.{first_out}
use Rattle.binkp_mailer.proofs.over_lines.answer_next.Goals as goal

pub hold_over-requires-clause-out : goal.hold_over-requires-clause-out
hold_over-requires-clause-out g c = λ ks outlives. first_out _ _ _ c.requires.fresh c.in-Came.ensures

pub returns-in-Came-clause-answers : goal.returns-in-Came-clause-answers
returns-in-Came-clause-answers g c = One_came (record { line = _; mid = _; gave = c.in-Came.ensures; holds = c.hold_over.ensures.holds })

pub returns-in-Nothing-clause-answers : goal.returns-in-Nothing-clause-answers
returns-in-Nothing-clause-answers g c = None_came refl (Nobody_yet refl c.in-Nothing.ensures) refl

pub returns-in-Stop-clause-answers : goal.returns-in-Stop-clause-answers
returns-in-Stop-clause-answers g c = None_came refl (Nobody_more refl c.in-Stop.ensures) refl

pub returns-in-Failed-clause-answers : goal.returns-in-Failed-clause-answers
returns-in-Failed-clause-answers g c = None_came refl (Not_heard refl c.in-Failed.ensures) refl
