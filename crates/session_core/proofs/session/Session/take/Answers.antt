use Rattle.std.proofs.Common.{ap, sym, ◌∙◌}
use Rattle.binkp_frame.specs.Views.{frame_text}
use Rattle.ftn_addr.specs.Frames.{Data as DataFrame}
use Rattle.mail_conf.specs.ConfView.{conf_text}
use Rattle.session_core.specs.Replies.{setting_in, stage_in}
use Rattle.session_core.proofs.Bounds.{made_short, row_short, session_holds}
use Rattle.session_core.proofs.Early.{command_frame, data_frame}
use Rattle.session_core.proofs.session.Session.take.Goals as goal

pub returns-in-Command-clause-row : goal.returns-in-Command-clause-row
returns-in-Command-clause-row g c =
    command_frame (setting_in c.args.self.now (conf_text c.args.conf.now)) _ _ (stage_in c.args.self.now) (frame_text c.args.frame.now) _ _ _ _ _ _ _ _ _ _ _ (ap frame_text c.in-Command.is) c.take_argument.ensures.keeps.frames_is c.take_argument.ensures.row

pub returns-in-Data-clause-row : goal.returns-in-Data-clause-row
returns-in-Data-clause-row g c =
    data_frame (setting_in c.args.self.now (conf_text c.args.conf.now)) _ _ (stage_in c.args.self.now) (frame_text c.args.frame.now) _ _ _ _ _ _ _ _ _ _ (ap frame_text c.in-Data.is ∙ ap DataFrame (sym c.as_slice.ensures)) c.take_data.ensures.keeps.frames_is c.take_data.ensures.row

pub returns-in-Command-clause-short : goal.returns-in-Command-clause-short
returns-in-Command-clause-short g c =
    made_short _ _ _ _ _ _ _ _ _ _ (λ es r. row_short (setting_in c.args.self.now (conf_text c.args.conf.now)) _ (stage_in c.args.self.now) (frame_text c.args.frame.now) es r (session_holds c.args.self.now)) (returns-in-Command-clause-row g c)

pub returns-in-Data-clause-short : goal.returns-in-Data-clause-short
returns-in-Data-clause-short g c =
    made_short _ _ _ _ _ _ _ _ _ _ (λ es r. row_short (setting_in c.args.self.now (conf_text c.args.conf.now)) _ (stage_in c.args.self.now) (frame_text c.args.frame.now) es r (session_holds c.args.self.now)) (returns-in-Data-clause-row g c)
