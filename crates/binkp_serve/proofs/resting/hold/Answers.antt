use Rattle.std.proofs.Common.{◌≡◌, ℕ, Option, None, ap, subst}
use Rattle.hub_core.specs.Hubs.{hub_state, seat_part}
use Rattle.node_model.specs.Calls.{Counts}
use Rattle.node_model.specs.StoreStates.{StoreStand}
use Rattle.node_store.specs.Stored.{Holding, stand_of}
use Rattle.session_run.specs.Courses.{IsFree}
use Rattle.binkp_serve.proofs.Sessions.{closed_part, session_stays, told_counts}
use Rattle.binkp_serve.proofs.Reaching.{session_rows}
use Rattle.binkp_serve.proofs.resting.hold.Goals as goal

pub run_session-requires-clause-part : goal.run_session-requires-clause-part
run_session-requires-clause-part g c = closed_part (hub_state c.args.desk.now.desk.hub.seats) c.args.desk.now.desk.seat (c.requires.at_rest.free c.requires.whole)

pub returns-clause-rests : goal.returns-clause-rests
returns-clause-rests g c =
    let St : Holding g.row.D.Denot → StoreStand = λ s. stand_of g.D.Disk.tells g.D.Disk.content g.D.Disk.fault_count g.D.Disk.moment g.D.Disk.images s in
    let desk = c.run_session.new.desk.desk in
    let x = session_rows _ _ _ _ _ _ _ _ _ _ c.run_session.ensures.session in
    record {
      at_rest = record {
        ready = c.run_session.ensures.ready;
        free = subst (λ (k : Counts). IsFree k.broken (seat_part (hub_state desk.hub.seats) desk.seat)) (told_counts (St desk.hub.store.store).state (hub_state desk.hub.seats) desk.seat) c.run_session.ensures.left;
      };
      reached = record { events = x.rows.0; rows = x.rows.1; seat = x.same };
      stays = session_stays _ _ _ _ _ _ _ _ _ _ (c.requires.at_rest.ready.ready.fitted c.requires.whole) c.run_session.ensures.session;
    }
