use Rattle.std.proofs.Common.{◌∙◌}
use Rattle.mail_conf.specs.ConfView.{conf_text}
use Rattle.session_auth.specs.Sides.{side_of}
use Rattle.session_core.specs.Stages.{setting_of}
use Rattle.session_run.proofs.Acknowledging.{told_none}
use Rattle.session_run.proofs.CourseRuns.{came_new, came_on, came_whole, nearer_close, new_may}
use Rattle.session_run.proofs.Runs.{with_lent}
use Rattle.session_run.proofs.turns.run_session.Goals as goal

pub loop-course-init : goal.loop-course-init
loop-course-init g c = record {
  came = came_new _ (setting_of (side_of c.args.side) (conf_text c.args.conf.now) c.args.challenge c.args.now) (g.K.Desk.stand c.args.desk.now) _ c.new-course.result c.new-course.ensures.run c.new-course.ensures.going;
  lent = c.new-course.ensures.setting;
  is_ready = c.requires.ready;
  may = new_may _ _ _ c.new-course.result _ (conf_text c.args.conf.now) _ c.new-course.ensures.run c.new-course.ensures.going c.new-course.ensures.setting c.requires.part c.requires.some c.requires.calm;
  unclosed = c.requires.open;
}

pub loop-course-preserved : goal.loop-course-preserved
loop-course-preserved g c = record {
  came = came_on _ _ _ _ _ _ _ c.loop-course.course c.turn.new.self _ _ c.loop-course.invariant.lent c.loop-course.invariant.came c.in-More.ensures.went;
  lent = with_lent (conf_text c.args.conf.now) c.in-More.ensures.lent ∙ c.loop-course.invariant.lent;
  is_ready = c.turn.ensures.ready;
  may = c.in-More.ensures.may;
  unclosed = c.in-More.ensures.open;
}

pub returns-in-Ended-clause-session : goal.returns-in-Ended-clause-session
returns-in-Ended-clause-session g c =
    came_whole _ (setting_of (side_of c.args.side) (conf_text c.args.conf.now) c.args.challenge c.args.now) _ _ _ _ _ c.loop-course.course c.turn.new.self _ _ c.in-Ended.report c.loop-course.invariant.lent c.loop-course.invariant.came c.in-Ended.ensures.went
    c.requires.fits
    (told_none (g.K.Desk.part c.args.desk.now) (g.K.Desk.stand c.args.desk.now).state.seat (g.K.Desk.stand c.args.desk.now).state.knows c.requires.part (g.met.K.Desk.tied c.args.desk.now c.requires.ready))

pub loop-report-preserved : goal.loop-report-preserved
loop-report-preserved g c = record {
  came = came_on _ _ _ _ _ _ _ c.loop-report.course c.turn-in-loop-report.new.self _ _ c.loop-report.invariant.lent c.loop-report.invariant.came c.in-More-turn.ensures.went;
  lent = with_lent (conf_text c.args.conf.now) c.in-More-turn.ensures.lent ∙ c.loop-report.invariant.lent;
  is_ready = c.turn-in-loop-report.ensures.ready;
  may = c.in-More-turn.ensures.may;
  unclosed = c.in-More-turn.ensures.open;
  over = (nearer_close _ c.loop-report.course _ c.turn-in-loop-report.new.self _ _ c.loop-report.invariant.over c.in-More-turn.ensures.nearer).0;
}

pub returns-in-Ended-turn-clause-session : goal.returns-in-Ended-turn-clause-session
returns-in-Ended-turn-clause-session g c =
    came_whole _ (setting_of (side_of c.args.side) (conf_text c.args.conf.now) c.args.challenge c.args.now) _ _ _ _ _ c.loop-report.course c.turn-in-loop-report.new.self _ _ c.in-Ended-turn.report c.loop-report.invariant.lent c.loop-report.invariant.came c.in-Ended-turn.ensures.went
    c.requires.fits
    (told_none (g.K.Desk.part c.args.desk.now) (g.K.Desk.stand c.args.desk.now).state.seat (g.K.Desk.stand c.args.desk.now).state.knows c.requires.part (g.met.K.Desk.tied c.args.desk.now c.requires.ready))
