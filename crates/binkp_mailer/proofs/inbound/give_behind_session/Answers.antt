use Rattle.std.proofs.Common.{◌∙◌, refl, sym, ap}
use Rattle.binkp_mailer.specs.Inbound.{Gives_round}
use Rattle.command_base.specs.Statuses.{DiskFault}
use Rattle.binkp_mailer.proofs.Failing.{failed_so, went_so}
use Rattle.binkp_mailer.proofs.inbound.give_behind_session.Goals as goal

pub returns-then-eq-clause-gives : goal.returns-then-eq-clause-gives
returns-then-eq-clause-gives g c =
    Gives_round refl c.give_waiting.result c.give_waiting.ensures
    (ap DiskFault c.faults-faults.ensures ∙ sym (failed_so c.give_waiting.result _ _ (sym c.eq.ensures ∙ c.if-eq.true)))

pub returns-clause-gives : goal.returns-clause-gives
returns-clause-gives g c = Gives_round refl c.give_waiting.result c.give_waiting.ensures (sym (went_so c.give_waiting.result _ _ (sym c.eq.ensures ∙ c.if-eq.false)))
