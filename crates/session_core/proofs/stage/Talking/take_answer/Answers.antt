use Rattle.std.proofs.Common.{refl}
use Rattle.session_recv.specs.Replies.{held_of}
use Rattle.session_core.specs.Replies.{talk_of, tally_of}
use Rattle.session_core.proofs.Heard.{answered, answer_refused}
use Rattle.session_core.proofs.stage.Talking.take_answer.Goals as goal

pub returns-in-Ok-clause-row : goal.returns-in-Ok-clause-row
returns-in-Ok-clause-row g c = answered _ (talk_of c.args.self.now) (held_of c.args.self.now.receiver) _ _ _ _ _ (tally_of c.args.self.now) _ _ _ (c.in-Ok.ensures.row (talk_of c.args.self.now) refl)

pub returns-in-Err-clause-row : goal.returns-in-Err-clause-row
returns-in-Err-clause-row g c = answer_refused _ (talk_of c.args.self.now) (held_of c.args.self.now.receiver) _ _ _ _ _ (tally_of c.args.self.now) _ _ _ _ _ _ _ (c.in-Err.ensures.row (talk_of c.args.self.now) refl) c.end_by_fault.ensures
