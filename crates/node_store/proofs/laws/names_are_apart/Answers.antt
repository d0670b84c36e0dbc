use Rattle.node_store.proofs.NameLaws.{in_not_out, in_not_ledger, out_not_ledger, in_not_new, out_not_new}
use Rattle.node_store.proofs.laws.names_are_apart.Goals as goal

pub returns-clause-queued : goal.returns-clause-queued
returns-clause-queued c = in_not_out

pub returns-clause-ledger : goal.returns-clause-ledger
returns-clause-ledger c = in_not_ledger

pub returns-clause-no_queued_ledger : goal.returns-clause-no_queued_ledger
returns-clause-no_queued_ledger c = out_not_ledger

pub returns-clause-new_ledger : goal.returns-clause-new_ledger
returns-clause-new_ledger c = in_not_new

pub returns-clause-no_queued_new_ledger : goal.returns-clause-no_queued_new_ledger
returns-clause-no_queued_new_ledger c = out_not_new
