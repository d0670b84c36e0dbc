use Rattle.std.proofs.Common.{ap, refl, subst, inl, inr, Err}
use Rattle.ftn_addr.specs.Address.{Address, address}
use Rattle.mail_conf.specs.ConfView.{conf_text}
use Rattle.session_auth.specs.Sides.{Answers, Calls, side_of}
use Rattle.binkp_mailer.specs.DiskCall.{No_call}
use Rattle.command_words.specs.Forms.{session_command}
use Rattle.binkp_mailer.specs.Words.{AsksFor}
use Rattle.binkp_mailer.specs.declared.words.WordsFault.{WordsFault}
use Rattle.command_base.proofs.ReadOnly.{no_read}
use Rattle.binkp_mailer.proofs.WordLists.{no_side}
use Rattle.binkp_mailer.proofs.over_disk.call_by.Goals as goal

-- The command asks for nothing, or there was no memory to read its address.

pub returns-in-Err-Usage : goal.returns-in-Err-Usage
returns-in-Err-Usage g c =
    No_call (conf_text c.args.conf.now) c.requires.settings refl
    (inl (refl, no_side (session_command c.args.form) _ _ c.home_of.ensures (c.in-Err-Usage.ensures.usage (ap (λ (fault : WordsFault). Err fault) c.in-Err-Usage.field-0-is))))
    (no_read g.D.Disk.tells g.D.Disk.content g.D.Disk.fault_count g.D.Disk.moment g.D.Disk.images c.args.disk) refl

pub returns-in-Err-NoMemory : goal.returns-in-Err-NoMemory
returns-in-Err-NoMemory g c = No_call (conf_text c.args.conf.now) c.requires.settings refl (inr refl) (no_read g.D.Disk.tells g.D.Disk.content g.D.Disk.fault_count g.D.Disk.moment g.D.Disk.images c.args.disk) refl

-- What it asks for is read with the home of the settings.

pub returns-in-Ok-Answers : goal.returns-in-Ok-Answers
returns-in-Ok-Answers g c = c.answer.ensures (session_command c.args.form) (subst (λ (home : Address). AsksFor (session_command c.args.form) home Answers) c.home_of.ensures (rw (ap side_of c.in-Ok-Answers.field-0-is) at c.in-Ok-Answers.ensures.ok))

pub returns-in-Ok-Calls : goal.returns-in-Ok-Calls
returns-in-Ok-Calls g c = c.call_peer.ensures (session_command c.args.form) (subst (λ (home : Address). AsksFor (session_command c.args.form) home (Calls (address c.in-Ok-Calls.peer))) c.home_of.ensures (rw (ap side_of c.in-Ok-Calls.field-0-is) at c.in-Ok-Calls.ensures.ok))
