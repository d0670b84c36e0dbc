use Rattle.std.proofs.Common.{◌≡◌, length}
use Rattle.std.specs.Str.Lines.{lines}
use Rattle.ftn_addr.specs.Address.{address}
use Rattle.mail_conf.specs.Conf.{with_lines}
use Rattle.mail_conf.specs.Draft.{empty_draft}
use Rattle.mail_conf.specs.Drafted.{drafted}
use Rattle.mail_conf.proofs.reading.take_lines.Given as goal

abbrev pub invariant-loop-line : goal.invariant-loop-line
invariant-loop-line l =
    with_lines (address l.home) (drafted l.draft) l.number (lines l.rest) ≡ with_lines (address l.home) empty_draft 0 (lines l.text)

abbrev pub decreases-loop-line : goal.decreases-loop-line
decreases-loop-line l = length l.rest
