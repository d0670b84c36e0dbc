use Rattle.std.proofs.Common.{refl}
use Rattle.binkp_mailer.specs.OverLines.{No_line, A_line}
use Rattle.binkp_mailer.proofs.Lines.{dialling_fresh, first_out}
use Rattle.binkp_mailer.proofs.over_lines.dial.Goals as goal

pub hold_over-requires-clause-out : goal.hold_over-requires-clause-out
hold_over-requires-clause-out g c = λ ks outlives. first_out _ _ _ (dialling_fresh _ _ _ c.requires.fresh) c.in-Line.ensures

pub returns-in-Line-clause-dials : goal.returns-in-Line-clause-dials
returns-in-Line-clause-dials g c = A_line (record { line = _; mid = _; gave = c.in-Line.ensures; holds = c.hold_over.ensures.holds })

pub returns-in-Failed-clause-dials : goal.returns-in-Failed-clause-dials
returns-in-Failed-clause-dials g c = No_line refl refl c.in-Failed.ensures refl
