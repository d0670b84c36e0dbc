use Rattle.std.proofs.Common.{refl, sym, ◌∙◌, ap}
use Rattle.binkp_serve.specs.Serving.{By_count, By_disk, By_lines, By_stop, No_turn, One_more}
use Rattle.binkp_serve.proofs.LineSources.{nothing_back}
use Rattle.binkp_serve.proofs.Rested.{rests_none, rests_then}
use Rattle.binkp_serve.proofs.served.turn_all.Goals as goal

pub loop-init : goal.loop-init
loop-init g c = record {
  turns = No_turn;
  rests = rests_none g.D.Disk.tells g.D.Disk.content g.D.Disk.fault_count g.D.Disk.moment g.D.Disk.images _ _ c.requires.at_rest;
  back = c.requires.back;
}

-- Its end.

pub returns-in-Some-broken-clause-turns : goal.returns-in-Some-broken-clause-turns
returns-in-Some-broken-clause-turns g c = record { last = _; turns = c.loop.invariant.turns; ends = By_disk c.in-Some-broken.count (sym c.broken.ensures ∙ c.in-Some-broken.is) }

pub returns-then-watch-ge-MOST_LINES-clause-turns : goal.returns-then-watch-ge-MOST_LINES-clause-turns
returns-then-watch-ge-MOST_LINES-clause-turns g c = record { last = _; turns = c.loop.invariant.turns; ends = By_count (sym c.broken.ensures ∙ c.in_default.is) c.if-watch-ge-MOST_LINES.true }

pub returns-in-Stop-clause-turns : goal.returns-in-Stop-clause-turns
returns-in-Stop-clause-turns g c = record { last = _; turns = c.loop.invariant.turns; ends = By_stop (sym c.broken.ensures ∙ c.in_default.is) _ c.in-Stop.ensures }

pub returns-in-Failed-clause-turns : goal.returns-in-Failed-clause-turns
returns-in-Failed-clause-turns g c = record { last = _; turns = c.loop.invariant.turns; ends = By_lines (sym c.broken.ensures ∙ c.in_default.is) _ c.in-Failed.ensures }

-- A turn.

pub answer-requires-clause-at_rest : goal.answer-requires-clause-at_rest
answer-requires-clause-at_rest g c = λ ks outlives. c.loop.invariant.rests.at_rest

pub answer-requires-clause-whole : goal.answer-requires-clause-whole
answer-requires-clause-whole g c = λ ks outlives. sym c.broken.ensures ∙ c.in_default.is

pub answer-requires-clause-given : goal.answer-requires-clause-given
answer-requires-clause-given g c = λ ks outlives. (_, c.in-Came.ensures, c.loop.invariant.back)

pub loop-preserved-in-Came : goal.loop-preserved-in-Came
loop-preserved-in-Came g c = record {
  turns = One_more c.loop.invariant.turns (sym c.broken.ensures ∙ c.in_default.is) c.if-watch-ge-MOST_LINES.false (c.answer.ensures.turn _ c.in-Came.ensures _);
  rests = rests_then g.D.Disk.tells g.D.Disk.content g.D.Disk.fault_count g.D.Disk.moment g.D.Disk.images _ _ _ _ _ c.loop.invariant.rests c.answer.ensures.rests;
  back = c.answer.ensures.back;
}

pub pause-requires-clause-at_rest : goal.pause-requires-clause-at_rest
pause-requires-clause-at_rest g c = λ ks outlives. c.loop.invariant.rests.at_rest

pub pause-requires-clause-whole : goal.pause-requires-clause-whole
pause-requires-clause-whole g c = λ ks outlives. sym c.broken.ensures ∙ c.in_default.is

pub pause-requires-clause-back : goal.pause-requires-clause-back
pause-requires-clause-back g c = λ ks outlives. nothing_back _ _ _ c.loop.invariant.back c.in-Nothing.ensures

pub loop-preserved : goal.loop-preserved
loop-preserved g c = record {
  turns = One_more c.loop.invariant.turns (sym c.broken.ensures ∙ c.in_default.is) c.if-watch-ge-MOST_LINES.false (c.pause.ensures.turn _ c.in-Nothing.ensures);
  rests = rests_then g.D.Disk.tells g.D.Disk.content g.D.Disk.fault_count g.D.Disk.moment g.D.Disk.images _ _ _ _ _ c.loop.invariant.rests c.pause.ensures.rests;
  back = c.pause.ensures.back;
}
