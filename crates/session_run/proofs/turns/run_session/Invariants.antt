use Rattle.std.proofs.Common.{◌≡◌, false}
use Rattle.node_model.specs.Calls.{counts_of}
use Rattle.mail_conf.specs.ConfView.{conf_text}
use Rattle.session_auth.specs.Sides.{side_of}
use Rattle.session_core.specs.Replies.{setting_in}
use Rattle.session_core.specs.Stages.{setting_of}
use Rattle.session_run.specs.Courses.{MayTurn, talks, talk_room}
use Rattle.session_run.specs.Runs.{drain_room}
use Rattle.session_run.proofs.CourseRuns.{CameTo}
use Rattle.session_run.proofs.turns.run_session.Given as goal

abbrev pub invariant-loop-course : goal.invariant-loop-course
invariant-loop-course g l = record {
  came : CameTo g.K.Desk.alone (setting_of (side_of l.fn.side) (conf_text l.conf) l.fn.challenge l.fn.now) (g.K.Desk.stand l.fn.desk) (g.L.Line.state l.fn.line) (g.K.Desk.stand l.desk) l.course (g.L.Line.state l.line);
  lent : setting_in l.course.run.session (conf_text l.conf) ≡ setting_of (side_of l.fn.side) (conf_text l.conf) l.fn.challenge l.fn.now;
  is_ready : g.K.Desk.ready l.desk;
  may : MayTurn (g.K.Desk.ready l.desk) (g.K.Desk.part l.desk) (counts_of (g.K.Desk.stand l.desk).state.knows).broken (g.L.Line.state l.line).calm l.course.run l.course.going;
  unclosed : (g.L.Line.state l.line).closed ≡ false;
}

abbrev pub decreases-loop-course : goal.decreases-loop-course
decreases-loop-course g l = talk_room (conf_text l.conf).session_limit l.course.run (g.L.Line.state l.line).calm l.course.going

abbrev pub invariant-loop-report : goal.invariant-loop-report
invariant-loop-report g l = record {
  came : CameTo g.K.Desk.alone (setting_of (side_of l.fn.side) (conf_text l.conf) l.fn.challenge l.fn.now) (g.K.Desk.stand l.fn.desk) (g.L.Line.state l.fn.line) (g.K.Desk.stand l.desk) l.course (g.L.Line.state l.line);
  lent : setting_in l.course.run.session (conf_text l.conf) ≡ setting_of (side_of l.fn.side) (conf_text l.conf) l.fn.challenge l.fn.now;
  is_ready : g.K.Desk.ready l.desk;
  may : MayTurn (g.K.Desk.ready l.desk) (g.K.Desk.part l.desk) (counts_of (g.K.Desk.stand l.desk).state.knows).broken (g.L.Line.state l.line).calm l.course.run l.course.going;
  unclosed : (g.L.Line.state l.line).closed ≡ false;
  over : talks l.course.going ≡ false;
}

abbrev pub decreases-loop-report : goal.decreases-loop-report
decreases-loop-report g l = drain_room l.course.run (g.L.Line.state l.line).calm
