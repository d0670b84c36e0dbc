use Rattle.std.proofs.Common.{ap, refl}
use Rattle.ftn_addr.specs.Address.{address}
use Rattle.command_words.specs.Forms.{session_command}
use Rattle.session_auth.specs.Sides.{side_of}
use Rattle.binkp_mailer.specs.Words.{to_answer}
use Rattle.binkp_mailer.proofs.WordLists.{called, not_called, ok_so}
use Rattle.binkp_mailer.proofs.words.asked_side.Goals as goal

pub returns-in-Answer-clause-ok : goal.returns-in-Answer-clause-ok
returns-in-Answer-clause-ok c = to_answer refl (ap session_command c.in-Answer.is)

pub returns-in-Call-clause-ok : goal.returns-in-Call-clause-ok
returns-in-Call-clause-ok c =
    rw (ap session_command c.in-Call.is)
    (ok_so c.read_side.result _ _ (λ side x. called (address c.args.home.now) c.in-Call.text.now.list (side_of side) x) c.read_side.ensures.ok)

pub returns-in-Call-clause-usage : goal.returns-in-Call-clause-usage
returns-in-Call-clause-usage c =
    rw (ap session_command c.in-Call.is) (λ same side asks. not_called (address c.args.home.now) c.in-Call.text.now.list (c.read_side.ensures.usage same) side asks)
