use Rattle.std.proofs.Common.{ap}
use Rattle.binkp_frame.specs.Views.{frame_texts}
use Rattle.mail_conf.specs.ConfView.{conf_text}
use Rattle.session_core.specs.Replies.{setting_in}
use Rattle.session_core.specs.declared.session.Session.{Session}
use Rattle.session_run.proofs.Runs.{went_then, went_still, went_lent, from_pending}
use Rattle.session_run.proofs.run.Run.take_all.Goals as goal

pub returns-in-Ok-clause-went : goal.returns-in-Ok-clause-went
returns-in-Ok-clause-went g c = λ line. went_then (went_still (g.K.Desk.stand c.args.desk.now) (c.in-Ok.ensures.ok g.K.Desk.alone _ line _)) (from_pending _ _ _ _ _ _ (ap frame_texts c.as_slice.ensures.value) (went_lent (ap (λ (x : Session). setting_in x (conf_text c.args.conf.now)) c.feed.ensures.stage) (c.take_each.ensures.went line)))

pub returns-in-Err-clause-went : goal.returns-in-Err-clause-went
returns-in-Err-clause-went g c = λ line. went_still (g.K.Desk.stand c.args.desk.now) (c.in-Err.ensures.err g.K.Desk.alone _ line _)
