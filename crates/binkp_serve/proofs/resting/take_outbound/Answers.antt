use Rattle.std.proofs.Common.{◌≡◌, ap, refl, sym, ◌∙◌, subst}
use Rattle.ftn_addr.specs.Address.{Address, address}
use Rattle.ftn_addr.specs.Limits.{IsAddress}
use Rattle.hub_core.specs.Hubs.{HubState, IsReady, hub_state}
use Rattle.mail_conf.specs.ConfView.{conf_text}
use Rattle.node_model.specs.Calls.{Beside, Knows}
use Rattle.node_model.specs.StoreStates.{StoreStand}
use Rattle.node_model.specs.Stores.{By_seat, StoreKept, Well}
use Rattle.node_store.specs.Stored.{Holding, stand_of}
use Rattle.outbound_desk.specs.TakenIn.{TakenIn}
use Rattle.outbound_desk.proofs.Joining.{told_by}
use Rattle.outbound_round.specs.Round.{TakesRound, told_of}
use Rattle.outbound_round.specs.declared.words.Telling.TheVariants.{PassedOver}
use Rattle.outbound_store.specs.GoesOn.{GoesOn}
use Rattle.outbound_store.specs.declared.taking_store.TakingStore.{TakingStore}
use Rattle.session_core.proofs.Early.{home_within}
use Rattle.binkp_serve.proofs.Staying.{stays_going, stays_then}
use Rattle.binkp_serve.proofs.Takings.{closed_anew, ready_taken, takes_rows, told_anew, turn_stays}
use Rattle.binkp_serve.proofs.resting.take_outbound.Goals as goal

pub take_round-requires-clause-home : goal.take_round-requires-clause-home
take_round-requires-clause-home g c = subst IsAddress (sym c.home_of.ensures) (home_within (conf_text c.args.conf.now).addresses (record { some = c.requires.keeps.some; each = c.requires.keeps.addresses }))

pub returns-clause-takes : goal.returns-clause-takes
returns-clause-takes g c =
    let St : Holding g.row.D.Denot → StoreStand = λ s. stand_of g.D.Disk.tells g.D.Disk.content g.D.Disk.fault_count g.D.Disk.moment g.D.Disk.images s in
    let desk = c.args.desk.now.desk in
    let hub = c.look_anew.new.self in
    let end = c.take_round.new.taking in
    let same = ap (λ (t : TakingStore g.row.D.Denot). t.store) c.look_anew.ensures.store in
    let whole = ap (λ (s : Holding g.row.D.Denot). s.memory.broken) same ∙ c.requires.whole in
    let ready = c.look_anew.ensures.ready desk.seat c.requires.at_rest.ready.ready in
    let rows =
    takes_rows (λ (t : TakingStore g.row.D.Denot). St t.store) (λ (t : TakingStore g.row.D.Denot). t.wanting) (hub_state hub.seats) desk.seat (St hub.store.store) c.begin_anew.new.self end
    c.look_anew.ensures.anew whole (ready.fitted whole) (record { staged = c.numbers_are_drawn.ensures.staged; few = c.numbers_are_drawn.ensures.few })
    (subst (λ (s : Holding g.row.D.Denot). StoreKept (St hub.store.store) (By_seat desk.seat) Well (St s)) (sym c.begin_anew.ensures.store) c.by.ensures) c.begin_anew.ensures.wanting c.take_round.ensures.ruled in
    record {
      turned = c.by.new.self;
      turns = subst (λ (s : Holding g.row.D.Denot). StoreKept (St s) (By_seat desk.seat) Well (St c.by.new.self)) same c.by.ensures;
      takes =
          subst
          (λ (home : Address). TakesRound g.D.Disk.tells g.D.Disk.content g.D.Disk.fault_count g.D.Disk.moment g.D.Disk.images PassedOver (conf_text c.args.conf.now).base (conf_text c.args.conf.now).zone home c.args.now (told_of c.take_round.result) c.by.new.self end.store)
          c.home_of.ensures
          (subst
          (λ (s : Holding g.row.D.Denot). TakesRound g.D.Disk.tells g.D.Disk.content g.D.Disk.fault_count g.D.Disk.moment g.D.Disk.images PassedOver (conf_text c.args.conf.now).base (conf_text c.args.conf.now).zone (address c.home_of.result.now) c.args.now (told_of c.take_round.result) s end.store)
          c.begin_anew.ensures.store c.take_round.ensures.round);
      wants = end.wanting;
      rows =
          subst (λ (h : HubState). TakenIn h desk.seat (St desk.hub.store.store) (St end.store) end.wanting) c.look_anew.ensures.seats
          (subst (λ (s : Holding g.row.D.Denot). TakenIn (hub_state hub.seats) desk.seat (St s) (St end.store) end.wanting) same rows);
      looks = record { hub = c.look_anew.ensures.seats; seat = refl };
    }

pub returns-clause-rests : goal.returns-clause-rests
returns-clause-rests g c =
    let St : Holding g.row.D.Denot → StoreStand = λ s. stand_of g.D.Disk.tells g.D.Disk.content g.D.Disk.fault_count g.D.Disk.moment g.D.Disk.images s in
    let desk = c.args.desk.now.desk in
    let hub = c.look_anew.new.self in
    let new = St c.take_round.new.taking.store in
    let same = ap (λ (t : TakingStore g.row.D.Denot). t.store) c.look_anew.ensures.store in
    let x = subst (λ (h : HubState). TakenIn h desk.seat (St desk.hub.store.store) new (returns-clause-takes g c).wants) (sym c.look_anew.ensures.seats) (returns-clause-takes g c).rows in
    let turns = subst (λ (s : Holding g.row.D.Denot). StoreKept (St s) (By_seat desk.seat) Well (St c.by.new.self)) same c.by.ensures in
    record {
      at_rest = record {
        ready = ready_taken (hub_state hub.seats) desk.seat _ (St desk.hub.store.store) new _ (record { ready = subst (λ (s : Holding g.row.D.Denot). IsReady (St s) (hub_state hub.seats) desk.seat) same (c.look_anew.ensures.ready desk.seat c.requires.at_rest.ready.ready); home_within = c.requires.at_rest.ready.home_within }) x;
        free = λ _. closed_anew (hub_state desk.hub.seats) (hub_state hub.seats) desk.seat c.look_anew.ensures.seats (c.requires.at_rest.free c.requires.whole);
      };
      reached = record { events = x.events; rows = subst (λ (k : Knows). Beside desk.seat k x.events (told_by (hub_state hub.seats) desk.seat new)) (told_anew (hub_state desk.hub.seats) (hub_state hub.seats) desk.seat (St desk.hub.store.store) c.look_anew.ensures.seats) x.rows; seat = refl };
      stays = stays_then (St desk.hub.store.store) (St c.by.new.self) new (turn_stays desk.seat _ _ turns)
          (stays_going _ _ (subst (λ (s : Holding g.row.D.Denot). GoesOn (St s) new) c.begin_anew.ensures.store c.take_round.ensures.goes_on));
    }
