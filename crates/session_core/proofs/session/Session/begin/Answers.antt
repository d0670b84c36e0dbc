use Rattle.std.proofs.Common.{refl, ap, map, ◌∙◌}
use Rattle.ftn_addr.specs.Address.{address}
use Rattle.node_model.specs.Calls.{Begun, Refused}
use Rattle.node_model.specs.Desks.{fault_of}
use Rattle.session_core.specs.Replies.{setting_in, tally_at}
use Rattle.session_core.specs.Says.{fault_bytes}
use Rattle.session_core.specs.Stages.{role_of}
use Rattle.session_core.specs.Takings as T
use Rattle.session_core.proofs.Logins.{began, did_begin, first_stage}
use Rattle.session_core.proofs.Writings.{wrote_all, wrote_then}
use Rattle.session_core.proofs.session.Session.begin.Goals as goal

pub returns-in-Ok-clause-row : goal.returns-in-Ok-clause-row
returns-in-Ok-clause-row g c = λ conf at before said e.
    did_begin (setting_in c.args.self.now conf) at said _ _ _ c.args.login.secure (Begun c.in-Ok.number) _ _ _ _ _ _ _ _ _ _ (c.role_of-role.ensures ∙ ap role_of c.side.ensures) (ap (map address) c.as_slice.ensures.value) refl c.in-Ok.ensures.made (began (setting_in c.args.self.now conf) _ c.args.login.secure _ _ _ _ _ c.first_of-peer.ensures.1 c.new.ensures.none (ap tally_at c.requires.at_login)) (first_stage c.new.result _ _ (c.role_of-role.ensures ∙ ap role_of c.side.ensures) c.new.ensures.talk c.new.ensures.held) (wrote_all before _ said T.More e)

pub returns-in-Err-clause-row : goal.returns-in-Err-clause-row
returns-in-Err-clause-row g c = λ conf at before said e.
    did_begin (setting_in c.args.self.now conf) at said _ _ _ c.args.login.secure (Refused (fault_of c.in-Err.fault)) _ _ _ _ _ _ _ _ _ _ (c.role_of-role.ensures ∙ ap role_of c.side.ensures) (ap (map address) c.as_slice.ensures.value) refl c.in-Err.ensures.made refl tt (wrote_then before _ _ said (fault_bytes (fault_of c.in-Err.fault)) _ _ e c.end_by_fault.ensures)
