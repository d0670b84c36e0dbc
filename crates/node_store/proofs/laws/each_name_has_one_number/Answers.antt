use Rattle.node_store.proofs.NameLaws.{one_out_name, one_in_name, one_take_name}
use Rattle.node_store.proofs.laws.each_name_has_one_number.Goals as goal

pub returns-clause-queued : goal.returns-clause-queued
returns-clause-queued c = one_out_name

pub returns-clause-received : goal.returns-clause-received
returns-clause-received c = one_in_name

pub returns-clause-taken : goal.returns-clause-taken
returns-clause-taken c = one_take_name
