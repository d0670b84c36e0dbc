use Rattle.hub_core.specs.Hubs.{hub_state}
use Rattle.mem_talk.proofs.Resting.{both_hold}
use Rattle.mem_talk.proofs.crossing.turn_beside.Goals as goal

pub returns-else-not-is_given : goal.returns-else-not-is_given
returns-else-not-is_given c =
    both_hold c.args.desk.now.hub.store c.turned.new.desk.hub.store (hub_state c.args.desk.now.hub.seats) (hub_state c.turned.new.desk.hub.seats) c.args.own.now.seat c.turned.new.desk.seat c.turned.new.pipe c.in-Some.told c.set.new.self c.args.other.now
    c.set.ensures.pipe c.set.ensures.seat c.set.ensures.told c.requires.apart c.in-Some.ensures.seat (c.is_given.ensures c.if-not-is_given.false) c.in-Some.ensures.ready c.in-Some.ensures.ran c.in-Some.ensures.may c.requires.other
