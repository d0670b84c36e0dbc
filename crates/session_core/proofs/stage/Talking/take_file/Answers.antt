use Rattle.ftn_addr.specs.Key.{key_of}
use Rattle.node_model.specs.Talk.{File}
use Rattle.session_recv.specs.Replies.{held_of}
use Rattle.session_core.specs.Replies.{talk_of, tally_of}
use Rattle.session_core.proofs.Heard.{heard, file_keeps, file_counts}
use Rattle.session_core.proofs.stage.Talking.take_file.Goals as goal

pub returns-clause-row : goal.returns-clause-row
returns-clause-row g c =
    heard _ (talk_of c.args.self.now) (held_of c.args.self.now.receiver) _ (File (key_of c.args.key) c.args.offset) _ _ _ (tally_of c.args.self.now) _ _ _ _ _ _ (file_keeps _ _ _) (file_counts (tally_of c.args.self.now) _ _ _) (c.take_file-step.ensures.row (talk_of c.args.self.now)) c.conclude.ensures
