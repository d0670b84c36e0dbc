use Rattle.hub_core.specs.Hubs.{hub_state}
use Rattle.mem_talk.proofs.Resting.{ran_on}
use Rattle.mem_talk.proofs.crossing.turned.Goals as goal

pub returns-clause-seat : goal.returns-clause-seat
returns-clause-seat c = (ran_on c.args.desk.now.hub.store c.is_sound.new.desk.hub.store c.go_on.new.desk.hub.store (hub_state c.args.desk.now.hub.seats) (hub_state c.is_sound.new.desk.hub.seats) (hub_state c.go_on.new.desk.hub.seats) c.args.desk.now.seat c.is_sound.new.desk.seat c.go_on.new.desk.seat c.is_sound.ensures.seat (c.is_sound.ensures.came c.if-not-is_sound.false) c.go_on.ensures.ran).0

pub returns-clause-ran : goal.returns-clause-ran
returns-clause-ran c = (ran_on c.args.desk.now.hub.store c.is_sound.new.desk.hub.store c.go_on.new.desk.hub.store (hub_state c.args.desk.now.hub.seats) (hub_state c.is_sound.new.desk.hub.seats) (hub_state c.go_on.new.desk.hub.seats) c.args.desk.now.seat c.is_sound.new.desk.seat c.go_on.new.desk.seat c.is_sound.ensures.seat (c.is_sound.ensures.came c.if-not-is_sound.false) c.go_on.ensures.ran).1
