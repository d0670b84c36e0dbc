use Rattle.binkp_mailer.proofs.over_lines.hold_over.Goals as goal

pub returns-clause-holds : goal.returns-clause-holds
returns-clause-holds g c =
    let e = c.hold_with_outbound-outcome.ensures in
    record {
      line' = _;
      serves = record { call = e.call; cause = e.cause; once = e.once; stays = e.stays; stop_once = e.stop_once; stop_stays = e.stop_stays };
      back = c.back.ensures;
    }
