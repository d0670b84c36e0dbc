use Rattle.std.proofs.Common.{◌≡◌, ◌≤◌, ◌^◌, false}
use Rattle.node_model.specs.Calls.{counts_of}
use Rattle.session_run.specs.Courses.{MayTurn}
use Rattle.mem_talk.proofs.slow.walk.Given as goal

abbrev pub invariant-loop-made : goal.invariant-loop-made
invariant-loop-made g l = record {
  is_ready : g.K.Desk.ready l.desk;
  may : MayTurn (g.K.Desk.ready l.desk) (g.K.Desk.part l.desk) (counts_of (g.K.Desk.stand l.desk).state.knows).broken (g.L.Line.state l.line).calm l.course.run l.course.going;
  limit : l.course.run.session.setting.limit ≤ 2 ^ 62;
  unclosed : (g.L.Line.state l.line).closed ≡ false;
}
