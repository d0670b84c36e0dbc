use Rattle.std.proofs.Common.{ap, sym, ◌∙◌}
use Rattle.node_trial.specs.declared.totals.Totals.{Totals}
use Rattle.node_trial.proofs.Drawing.{count_is}
use Rattle.node_trial.proofs.trial.Trial.run.Goals as goal

pub returns-clause-files : goal.returns-clause-files
returns-clause-files c = ap (λ (t : Totals). t.files) c.totals.ensures ∙ c.rounds.invariant.0 ∙ sym (count_is c.args.count 1 c.args.start)
