use Rattle.std.proofs.Common.{refl, sym, subst}
use Rattle.session_run.specs.Reports.{report_text}
use Rattle.binkp_serve.specs.Serving.{AreBack}
use Rattle.binkp_serve.proofs.LineSources.{next_out, one_back}
use Rattle.binkp_serve.proofs.serving.hold_line.Goals as goal

pub hold-report-requires-clause-calm : goal.hold-report-requires-clause-calm
hold-report-requires-clause-calm g c = c.requires.given.1.unused.calm

pub hold-report-requires-clause-open : goal.hold-report-requires-clause-open
hold-report-requires-clause-open g c = c.requires.given.1.unused.is_open

pub back-requires : goal.back-requires
back-requires g c = next_out _ _ _ _ c.requires.few c.requires.given.2 c.requires.given.1

pub returns-clause-holds : goal.returns-clause-holds
returns-clause-holds g c = λ before first gave. record {
  line = _;
  given = _;
  gave = gave;
  challenge = c.args.challenge;
  now = c.args.now;
  report = report_text c.hold-report.result;
  line' = _;
  holds = c.hold-report.ensures.holds;
  back = c.back.ensures;
  says = c.tell_session.ensures;
  memory = refl;
}

pub returns-clause-back : goal.returns-clause-back
returns-clause-back g c = subst (AreBack _) (sym c.back.ensures) (one_back _ _ _ _ _ c.requires.few c.requires.given.2 c.requires.given.1)
