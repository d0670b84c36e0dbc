use Rattle.std.proofs.Common.{ap, refl}
use Rattle.command_base.specs.Statuses as S
use Rattle.binkp_mailer.specs.OverLines.{Is_marked, Not_marked, Under_mark}
use Rattle.binkp_mailer.proofs.Marked.{made_unbroken, made_whole}
use Rattle.binkp_mailer.proofs.over_lines.dial_marked.Goals as goal

pub dial-outcome-requires-clause-whole : goal.dial-outcome-requires-clause-whole
dial-outcome-requires-clause-whole g c = λ ks outlives. made_unbroken _ _ _ _ c.in-Ok-Made.ensures.marks.1 c.requires.whole

pub dial-outcome-requires-clause-fits : goal.dial-outcome-requires-clause-fits
dial-outcome-requires-clause-fits g c = λ ks outlives. made_whole _ _ _ _ c.in-Ok-Made.ensures.marks.1 c.requires.whole c.requires.fits

pub returns-in-Ok-Made-clause-calls : goal.returns-in-Ok-Made-clause-calls
returns-in-Ok-Made-clause-calls g c =
    rw c.free.ensures.told
    (Under_mark _ _ _ _
    (rw c.requires.path at rw c.requires.text at rw c.in-Ok-Made.field-0-is at c.in-Ok-Made.ensures.marks.1)
    (c.in-Ok-Made.ensures.noted.0, (rw c.requires.path at rw c.requires.text at rw c.requires.own at c.in-Ok-Made.ensures.noted.1.stop))
    c.dial-outcome.ensures.dials
    (rw c.requires.path at rw c.requires.text at c.free.ensures.frees))

pub returns-in-Ok-Exists-clause-calls : goal.returns-in-Ok-Exists-clause-calls
returns-in-Ok-Exists-clause-calls g c =
    Is_marked refl (ap S.Marked c.requires.name) refl _
    (rw c.requires.path at rw c.requires.text at rw c.in-Ok-Exists.field-0-is at c.in-Ok-Exists.ensures.marks.1)
    (c.in-Ok-Exists.ensures.noted.0, (rw c.requires.path at rw c.requires.text at rw c.requires.own at c.in-Ok-Exists.ensures.noted.1.stop))
    (rw c.requires.path at rw c.in-Ok-Exists.field-0-is at c.in-Ok-Exists.ensures.told)

pub returns-in-Err-clause-calls : goal.returns-in-Err-clause-calls
returns-in-Err-clause-calls g c =
    Not_marked refl (ap S.DiskFault c.faults-faults.ensures) refl _ c.in-Err.field-0
    (rw c.requires.path at rw c.requires.text at c.in-Err.ensures.marks.1)
    (c.in-Err.ensures.noted.0, (rw c.requires.path at rw c.requires.text at rw c.requires.own at c.in-Err.ensures.noted.1.stop))
