use Rattle.std.proofs.Common.{◌∙◌, refl, arith}
use Rattle.mail_conf.specs.ConfView.{conf_text}
use Rattle.session_core.specs.Ends.{end_text}
use Rattle.session_core.specs.Takings as T
use Rattle.session_run.proofs.RowRuns.{took_it}
use Rattle.session_run.proofs.Runs.{went_then, went_nowhere, went_lent, over_drops, pending_as, with_lent}
use Rattle.session_run.proofs.Streams.{next_pending, none_pending}
use Rattle.session_run.proofs.run.Run.take_each.Goals as goal

pub loop-frame-init : goal.loop-frame-init
loop-frame-init g c = record {
  went = λ line. went_nowhere _ _ _ _;
  sits = c.requires.sits;
  piece = c.requires.piece;
  lent = refl;
  counts = record { taken = refl; wrote = refl };
  short = omega arith;
}

pub loop-frame-preserved : goal.loop-frame-preserved
loop-frame-preserved g c =
    let next = next_pending c.args.frames.now c.loop-frame.frame-index c.frame-item.result c.loop-frame-test.true c.frame-item.is in
    record {
      went = λ line. went_then (pending_as _ _ _ _ _ _ next (c.loop-frame.invariant.went line)) (went_lent (with_lent (conf_text c.args.conf.now) c.loop-frame.invariant.lent) (took_it _ _ _ _ line _ _ _ _ T.More c.in-More.ensures.frames c.in-More.ensures.row refl refl refl refl));
      sits = record { is_ready = c.in-More.ensures.sits.is_ready; part_is = c.in-More.ensures.sits.part_is };
      piece = c.loop-frame.invariant.piece;
      lent = c.in-More.ensures.lent ∙ c.loop-frame.invariant.lent;
      counts = record { taken = c.loop-frame.invariant.counts.taken; wrote = c.loop-frame.invariant.counts.wrote };
      short = omega (arith, c.loop-frame.invariant.short, c.in-More.ensures.short);
    }

pub returns-in-Ended-clause-went : goal.returns-in-Ended-clause-went
returns-in-Ended-clause-went g c = λ line.
    let next = next_pending c.args.frames.now c.loop-frame.frame-index c.frame-item.result c.loop-frame-test.true c.frame-item.is in
    over_drops _ _ _ _ _ _ _ _ _ _ (T.Ended (end_text c.in-Ended.end)) (end_text c.in-Ended.end) refl
    (went_then (pending_as _ _ _ _ _ _ next (c.loop-frame.invariant.went line)) (went_lent (with_lent (conf_text c.args.conf.now) c.loop-frame.invariant.lent) (took_it _ _ _ _ line _ _ _ _ (T.Ended (end_text c.in-Ended.end)) c.in-Ended.ensures.frames c.in-Ended.ensures.row refl refl refl refl)))

pub returns-clause-went : goal.returns-clause-went
returns-clause-went g c = λ line. pending_as _ _ _ _ _ _ (none_pending c.args.frames.now _ c.loop-frame-test.false) (c.loop-frame.invariant.went line)
