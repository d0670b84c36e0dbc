use Rattle.std.proofs.Common.{List, ℕ, ap, sym, subst, ◌∙◌}
use Rattle.ftn_addr.specs.Address.{Address, address}
use Rattle.ftn_addr.specs.Limits.{IsAddress}
use Rattle.ftn_addr.specs.Outcomes.{Fails}
use Rattle.binkp_args.specs.Command.{command_of}
use Rattle.binkp_args.specs.declared.fault.ArgFault.TheVariants.{NoMemory as NoMemoryFault}
use Rattle.mail_conf.specs.ConfView.{conf_text}
use Rattle.session_core.specs.Replies.{setting_in}
use Rattle.session_core.proofs.Dids.{refused_argument}
use Rattle.session_core.proofs.Early.{home_within, read_row}
use Rattle.session_core.proofs.session.Session.take_argument.Goals as goal

pub take_command-requires-clause-addresses : goal.take_command-requires-clause-addresses
take_command-requires-clause-addresses g c = c.in-Ok.ensures.addresses (subst IsAddress (sym c.home_of.ensures) (home_within (conf_text c.args.conf.now).addresses c.requires.own))

pub returns-in-Ok-clause-row : goal.returns-in-Ok-clause-row
returns-in-Ok-clause-row g c = read_row (setting_in c.args.self.now (conf_text c.args.conf.now)) _ _ _ _ _ _ _ _ _ _ _ _ _ (ap (λ (home : Address). command_of home c.args.number c.args.args.now.list) (sym c.home_of.ensures) ∙ ap (command_of (address c.home_of.result.now) c.args.number) (sym c.as_slice.ensures) ∙ c.in-Ok.ensures.reads) c.take_command.ensures.row

pub returns-in-Err-clause-row : goal.returns-in-Err-clause-row
returns-in-Err-clause-row g c = refused_argument (setting_in c.args.self.now (conf_text c.args.conf.now)) _ _ c.in-Err.fault _ _ _ _ _ _ _ (subst (λ (home : Address). Fails NoMemoryFault c.in-Err.fault (command_of home c.args.number c.args.args.now.list)) c.home_of.ensures (subst (λ (args : List ℕ). Fails NoMemoryFault c.in-Err.fault (command_of (address c.home_of.result.now) c.args.number args)) c.as_slice.ensures c.in-Err.ensures.reads)) c.refuse_argument.ensures
