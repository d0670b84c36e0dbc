use Rattle.std.proofs.Common.{refl}
use Rattle.binkp_serve.specs.Serving.{Is_due, Not_due}
use Rattle.binkp_serve.proofs.Rested.{rests_none}
use Rattle.binkp_serve.proofs.serving.look_again.Goals as goal

pub returns-then-not-is_due-clause-looks : goal.returns-then-not-is_due-clause-looks
returns-then-not-is_due-clause-looks g c = λ lines. Not_due (c.is_due.ensures.no c.if-not-is_due.true) refl

pub returns-then-not-is_due-clause-rests : goal.returns-then-not-is_due-clause-rests
returns-then-not-is_due-clause-rests g c = rests_none g.D.Disk.tells g.D.Disk.content g.D.Disk.fault_count g.D.Disk.moment g.D.Disk.images _ _ c.requires.at_rest

pub returns-clause-looks : goal.returns-clause-looks
returns-clause-looks g c = λ lines. Is_due (c.is_due.ensures.yes c.if-not-is_due.false) (c.look.ensures.looks lines)
