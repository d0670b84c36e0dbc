use Rattle.std.proofs.Common.{◌≡◌, Ok, ap}
use Rattle.node_model.specs.declared.desk.Knock.{Knock}
use Rattle.node_model.specs.Calls.{Let_in}
use Rattle.node_model.specs.Desks.{knock_answer}
use Rattle.hub_core.specs.Hubs.{hub_state}
use Rattle.mem_talk.proofs.Resting.{came_in}
use Rattle.mem_talk.proofs.crossing.is_sound.Goals as goal

pub returns-in-Ok-Come-clause-came : goal.returns-in-Ok-Come-clause-came
returns-in-Ok-Come-clause-came c = λ t.
    let answer : knock_answer (Ok c.in-Ok-Come.field-0) ≡ Let_in = ap (λ (k : Knock). knock_answer (Ok k)) c.in-Ok-Come.field-0-is in
    came_in c.args.desk.now.hub.store c.knock.new.self.hub.store (hub_state c.args.desk.now.hub.seats) (hub_state c.knock.new.self.hub.seats) c.args.desk.now.seat c.knock.new.self.seat _ _ answer c.in-Ok-Come.ensures.part c.in-Ok-Come.ensures.made
