use Rattle.std.proofs.Common.{◌≡◌, ℕ, ap, refl, subst, ◌∙◌}
use Rattle.hub_core.specs.Hubs.{IsReady, hub_state}
use Rattle.inbound_files.specs.Giving.{GivesFiles}
use Rattle.mail_conf.specs.ConfView.{conf_text}
use Rattle.node_model.specs.Calls.{Knows}
use Rattle.node_model.specs.StoreStates.{StoreStand, StoreState}
use Rattle.node_model.specs.Stores.{By_seat, StoreKept, Well}
use Rattle.node_store.specs.Stored.{Holding, stand_of}
use Rattle.outbound_desk.specs.TakenIn.{AreDrawn}
use Rattle.outbound_desk.proofs.Joining.{told_by}
use Rattle.outbound_desk.proofs.SeatTurns.{turn_taken}
use Rattle.binkp_serve.proofs.Giving.{round_goes}
use Rattle.outbound_store.specs.declared.taking_store.TakingStore.{TakingStore}
use Rattle.binkp_serve.proofs.Reaching.{Rows}
use Rattle.binkp_serve.proofs.Staying.{stays_kept, stays_then}
use Rattle.binkp_serve.proofs.Takings.{closed_anew, told_anew, turn_stays}
use Rattle.binkp_serve.proofs.resting.give_received.Goals as goal

pub returns-clause-gives : goal.returns-clause-gives
returns-clause-gives g c =
    let St : Holding g.row.D.Denot → StoreStand = λ s. stand_of g.D.Disk.tells g.D.Disk.content g.D.Disk.fault_count g.D.Disk.moment g.D.Disk.images s in
    let same = ap (λ (t : TakingStore g.row.D.Denot). t.store) c.look_anew.ensures.store in
    record {
      turned = c.by.new.self;
      turns = subst (λ (s : Holding g.row.D.Denot). StoreKept (St s) (By_seat c.args.desk.now.desk.seat) Well (St c.by.new.self)) same c.by.ensures;
      result = c.give_files-given.result;
      gives = subst (λ (n : ℕ). GivesFiles St (conf_text c.args.conf.now).inbound (conf_text c.args.conf.now).inbound_nonsecure n c.by.new.self c.give_files-given.result c.give_files-given.new.store) c.waits-files.ensures c.give_files-given.ensures.gives;
      looks = record { hub = c.look_anew.ensures.seats; seat = refl };
    }

pub returns-clause-rests : goal.returns-clause-rests
returns-clause-rests g c =
    let St : Holding g.row.D.Denot → StoreStand = λ s. stand_of g.D.Disk.tells g.D.Disk.content g.D.Disk.fault_count g.D.Disk.moment g.D.Disk.images s in
    let desk = c.args.desk.now.desk in
    let hub = c.look_anew.new.self in
    let h = hub_state hub.seats in
    let old = St desk.hub.store.store in
    let same = ap (λ (t : TakingStore g.row.D.Denot). t.store) c.look_anew.ensures.store in
    let ready = subst (λ (s : Holding g.row.D.Denot). IsReady (St s) h desk.seat) same (c.look_anew.ensures.ready desk.seat c.requires.at_rest.ready.ready) in
    let turns = subst (λ (s : Holding g.row.D.Denot). StoreKept (St s) (By_seat desk.seat) Well (St c.by.new.self)) same c.by.ensures in
    let drawn = subst (λ (s : Holding g.row.D.Denot). AreDrawn (St s).state) same (record { staged = c.numbers_are_drawn.ensures.staged; few = c.numbers_are_drawn.ensures.few }) in
    let turn = turn_taken h desk.seat old (St c.by.new.self) c.look_anew.ensures.anew c.requires.whole (ready.fitted c.requires.whole) drawn turns in
    let whole = ap (λ (s : StoreState). s.counts.broken) turns.made ∙ c.requires.whole in
    let x = round_goes St h desk.seat (told_by h desk.seat old) _ _ _ c.by.new.self c.give_files-given.result c.give_files-given.new.store c.look_anew.ensures.anew whole (turn.fitted whole) (turn.settled whole) turn.turn (turn.events, turn.rows) c.give_files-given.ensures.gives in
    let rows = subst (λ (k : Knows). Rows desk.seat k (told_by h desk.seat (St c.give_files-given.new.store))) (told_anew (hub_state desk.hub.seats) h desk.seat old c.look_anew.ensures.seats) x.rows in
    record {
      at_rest = record {
        ready = record { ready = record { given = ready.given; fitted = x.fitted; settled = x.settled }; home_within = c.requires.at_rest.ready.home_within };
        free = λ _. closed_anew (hub_state desk.hub.seats) h desk.seat c.look_anew.ensures.seats (c.requires.at_rest.free c.requires.whole);
      };
      reached = record { events = rows.0; rows = rows.1; seat = refl };
      stays = stays_then old (St c.by.new.self) (St c.give_files-given.new.store) (turn_stays desk.seat _ _ turns) (stays_kept _ _ c.give_files-given.ensures.keeps);
    }
