use Rattle.mem_node.proofs.Whole.{is_next, is_one, answered_whole}
use Rattle.mem_node.proofs.takes.take_next.Goals as goal

pub own_of-own-requires-clause-one : goal.own_of-own-requires-clause-one
own_of-own-requires-clause-one c = is_one c.in_ok-take.take c.next_take.result c.args.store.now c.next_take.new.self c.next_take.ensures.draws c.in_ok-take.was

pub take_file-requires-clause-next : goal.take_file-requires-clause-next
take_file-requires-clause-next c =
    is_next _ c.in_ok-take.take c.next_take.result c.args.store.now c.next_take.new.self c.own_of-own.ensures c.next_take.ensures.draws c.in_ok-take.was
