use Rattle.std.proofs.Common.{◌≡◌, ◌∙◌, ap, refl}
use Rattle.mail_conf.specs.ConfView.{conf_text}
use Rattle.hub_core.specs.Hubs.{hub_state}
use Rattle.node_store.specs.Stored.{Holding, stand_of}
use Rattle.outbound_store.specs.declared.taking_store.TakingStore.{TakingStore}
use Rattle.session_auth.specs.Sides.{side_of}
use Rattle.session_run.specs.Reports.{report_text}
use Rattle.binkp_mailer.specs.Settings.{hub_settings}
use Rattle.binkp_mailer.proofs.ServeCalls.{new_rest}
use Rattle.binkp_mailer.proofs.TopCalls.{answers_once, answers_stay, answers_causes, declined_call, none_once, none_stays, seated_call, stops_once, stops_stay}
use Rattle.binkp_mailer.proofs.with_outbound.hold_with_outbound.Goals as goal

-- There was no memory for the hub.

pub returns-in-Err-clause-call : goal.returns-in-Err-clause-call
returns-in-Err-clause-call g c = rw c.in-Err.ensures.err (declined_call (side_of c.args.side) _ _ (stand_of g.D.Disk.tells g.D.Disk.content g.D.Disk.fault_count g.D.Disk.moment g.D.Disk.images c.args.store))

pub returns-in-Err-clause-once : goal.returns-in-Err-clause-once
returns-in-Err-clause-once g c =
    rw c.in-Err.ensures.err (none_once (conf_text c.args.conf.now) (stand_of g.D.Disk.tells g.D.Disk.content g.D.Disk.fault_count g.D.Disk.moment g.D.Disk.images c.args.store).state ((c.requires.fits (hub_settings (conf_text c.args.conf.now))).fitted c.requires.whole))

pub returns-in-Err-clause-stays : goal.returns-in-Err-clause-stays
returns-in-Err-clause-stays g c =
    rw c.in-Err.ensures.err (none_stays (stand_of g.D.Disk.tells g.D.Disk.content g.D.Disk.fault_count g.D.Disk.moment g.D.Disk.images c.args.store).state.content)

-- The session.

pub hold-report-requires-clause-at_rest : goal.hold-report-requires-clause-at_rest
hold-report-requires-clause-at_rest g c =
    new_rest g.D.Disk.tells g.D.Disk.content g.D.Disk.fault_count g.D.Disk.moment g.D.Disk.images (conf_text c.args.conf.now) _ _ _ _ c.in-Ok.ensures.hub c.in-Ok.ensures.seat c.in-Ok.ensures.ready

pub hold-report-requires-clause-whole : goal.hold-report-requires-clause-whole
hold-report-requires-clause-whole g c = ap (λ (s : Holding g.row.D.Denot). s.memory.broken) c.in-Ok.ensures.store ∙ c.requires.whole

pub returns-clause-call : goal.returns-clause-call
returns-clause-call g c =
    let same : c.into_store-2.result ≡ c.hold-report.new.desk.desk.hub.store.store = c.into_store-2.ensures ∙ ap (λ (s : TakingStore g.row.D.Denot). s.store) c.into_store.ensures.store in
    seated_call (side_of c.args.side) _ _ _ _ _ _ _ (report_text c.hold-report.result) (hub_state c.in-Ok.desk.desk.hub.seats) (hub_state c.hold-report.new.desk.desk.hub.seats) c.in-Ok.desk.desk.seat c.hold-report.new.desk.desk.seat refl refl
    c.in-Ok.ensures.hub
    c.in-Ok.ensures.seat
    (rw same (rw c.in-Ok.ensures.store at c.hold-report.ensures.holds))

pub returns-clause-cause : goal.returns-clause-cause
returns-clause-cause g c = answers_causes _ _ _ _ _ _ _ _ (returns-clause-call g c).answers c.requires.whole

pub returns-clause-once : goal.returns-clause-once
returns-clause-once g c = answers_once _ _ _ _ _ _ _ _ (returns-clause-call g c).answers ((c.requires.fits (hub_settings (conf_text c.args.conf.now))).fitted c.requires.whole)

pub returns-clause-stays : goal.returns-clause-stays
returns-clause-stays g c = answers_stay _ _ _ _ _ _ _ _ (returns-clause-call g c).answers

pub returns-clause-stop_once : goal.returns-clause-stop_once
returns-clause-stop_once g c = stops_once _ _ _ _ _ _ _ _ (returns-clause-call g c) ((c.requires.fits (hub_settings (conf_text c.args.conf.now))).fitted c.requires.whole)

pub returns-clause-stop_stays : goal.returns-clause-stop_stays
returns-clause-stop_stays g c = stops_stay _ _ _ _ _ _ _ _ (returns-clause-call g c)
