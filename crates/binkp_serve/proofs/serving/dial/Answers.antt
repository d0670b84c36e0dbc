use Rattle.std.proofs.Common.{refl}
use Rattle.binkp_link.specs.LineSources.{dialling}
use Rattle.binkp_serve.specs.Serving.{A_line, No_line}
use Rattle.binkp_serve.proofs.LineSources.{dialling_back, failed_back}
use Rattle.binkp_serve.proofs.Rested.{rests_none}
use Rattle.binkp_serve.proofs.serving.dial.Goals as goal

pub hold_line-requires-clause-given : goal.hold_line-requires-clause-given
hold_line-requires-clause-given g c = λ ks outlives. (dialling _ _ _, c.in-Line.ensures, dialling_back _ _ _ _ c.requires.back)

pub returns-in-Line-clause-dials : goal.returns-in-Line-clause-dials
returns-in-Line-clause-dials g c = A_line (c.hold_line.ensures.holds _ _ c.in-Line.ensures)

pub returns-in-Failed-clause-dials : goal.returns-in-Failed-clause-dials
returns-in-Failed-clause-dials g c = No_line c.in-Failed.ensures refl

pub returns-in-Failed-clause-back : goal.returns-in-Failed-clause-back
returns-in-Failed-clause-back g c = failed_back _ _ _ _ _ c.requires.back c.in-Failed.ensures

pub returns-in-Failed-clause-rests : goal.returns-in-Failed-clause-rests
returns-in-Failed-clause-rests g c = rests_none g.D.Disk.tells g.D.Disk.content g.D.Disk.fault_count g.D.Disk.moment g.D.Disk.images _ _ c.requires.at_rest
