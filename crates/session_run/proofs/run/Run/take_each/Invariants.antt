use Rattle.std.proofs.Common.{◌≡◌, ◌≤◌, ◌+◌, ◌*◌, [], drop, length}
use Rattle.binkp_frame.specs.Views.{frame_texts}
use Rattle.binkp_link.specs.Lines.{LineState}
use Rattle.mail_conf.specs.ConfView.{conf_text}
use Rattle.session_run.specs.Machine.{Taking}
use Rattle.session_core.specs.Replies.{Sits, lent_in, setting_in, stage_in}
use Rattle.session_run.specs.Runs.{Went, SameCounts, spot}
use Rattle.session_run.proofs.run.Run.take_each.Given as goal

abbrev pub invariant-loop-frame : goal.invariant-loop-frame
invariant-loop-frame g l = record {
  went : (line : LineState) → Went g.K.Desk.alone (setting_in l.fn.self.session (conf_text l.conf)) (g.K.Desk.stand l.fn.desk) (spot l.fn.self line (g.K.Desk.stand l.fn.desk).state (frame_texts l.frames) Taking) (g.K.Desk.stand l.desk) (spot l.self line (g.K.Desk.stand l.desk).state (drop l.frame-index (frame_texts l.frames)) Taking);
  sits : Sits (g.K.Desk.ready l.desk) (g.K.Desk.part l.desk) (stage_in l.self.session);
  piece : l.self.piece.list ≡ [];
  lent : lent_in l.self.session ≡ lent_in l.fn.self.session;
  counts : SameCounts l.fn.self l.self;
  short : length l.self.out ≤ length l.fn.self.out + 1100 * l.frame-index;
}
