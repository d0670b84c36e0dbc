use Rattle.node_model.specs.Talk.{Data}
use Rattle.session_recv.specs.Replies.{held_of}
use Rattle.session_core.specs.Replies.{talk_of, tally_of}
use Rattle.session_core.proofs.Heard.{heard, data_keeps, data_counts}
use Rattle.session_core.proofs.stage.Talking.take_data.Goals as goal

pub returns-clause-row : goal.returns-clause-row
returns-clause-row g c =
    heard _ (talk_of c.args.self.now) (held_of c.args.self.now.receiver) _ (Data c.args.bytes.now) _ _ _ (tally_of c.args.self.now) _ _ _ _ _ _ (data_keeps _ _ c.args.bytes.now) (data_counts (tally_of c.args.self.now) _ _ c.args.bytes.now) (c.take_data-step.ensures.row (talk_of c.args.self.now)) c.conclude.ensures
