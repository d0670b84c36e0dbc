use Rattle.std.proofs.Common.{◌∙◌, ℕ, Some, sym, ap, subst, inr}
use Rattle.ftn_addr.specs.Address.{address}
use Rattle.ftn_addr.specs.Limits.{IsAddress}
use Rattle.hub_core.specs.Hubs.{HubState, hub_state}
use Rattle.node_model.specs.StoreStates.{StoreStand}
use Rattle.node_store.specs.Stored.{Holding, stand_of}
use Rattle.hub_core.specs.Anew.{LooksAnew, anew}
use Rattle.hub_core.specs.Hubs.{IsReady}
use Rattle.node_model.specs.StoreWords.{IsOpenRequest}
use Rattle.outbound_store.specs.Calls.{want_in}
use Rattle.outbound_store.specs.declared.taking_store.TakingStore.{TakingStore}
use Rattle.outbound_desk.specs.Answering.{Answered}
use Rattle.outbound_desk.proofs.WaitingFacts.{peer_within, waiting_open}
use Rattle.outbound_desk.proofs.desk.LineDesk+TakingStore+D.answer_newest.Goals as goal

pub answer-answered-requires-clause-open : goal.answer-answered-requires-clause-open
answer-answered-requires-clause-open g c =
    let St : Holding g.row.D.Denot → StoreStand = λ s. stand_of g.D.Disk.tells g.D.Disk.content g.D.Disk.fault_count g.D.Disk.moment g.D.Disk.images s in
    let same = ap (λ (t : TakingStore g.row.D.Denot). t.store) c.look_anew.ensures.store in
    subst (λ (s : Holding g.row.D.Denot). IsOpenRequest (Some c.in-Some-newest_request.receipt) (St s).state.stock.state.inbox) (sym same) (waiting_open (address c.in-Ok.dest) (St c.args.self.now.desk.hub.store.store).state c.in-Some-newest_request.ensures.0 c.in-Some-newest_request.receipt c.in-Some-newest_request.ensures.1)

pub answer-answered-requires-clause-dest : goal.answer-answered-requires-clause-dest
answer-answered-requires-clause-dest g c =
    let St : Holding g.row.D.Denot → StoreStand = λ s. stand_of g.D.Disk.tells g.D.Disk.content g.D.Disk.fault_count g.D.Disk.moment g.D.Disk.images s in
    subst IsAddress (sym c.in-Ok.ensures) (peer_within (St c.args.self.now.desk.hub.store.store) (hub_state c.args.self.now.desk.hub.seats) c.args.self.now.desk.seat (address c.in-Some.first.now) c.in-Some.moment (sym c.broken.ensures ∙ c.in-None.is) c.requires.ready.ready c.in-Some.ensures)

pub returns-clause-behind : goal.returns-clause-behind
returns-clause-behind g c =
    let St : Holding g.row.D.Denot → StoreStand = λ s. stand_of g.D.Disk.tells g.D.Disk.content g.D.Disk.fault_count g.D.Disk.moment g.D.Disk.images s in
    let same = ap (λ (t : TakingStore g.row.D.Denot). t.store) c.look_anew.ensures.store in
    let whole = ap (λ (s : Holding g.row.D.Denot). s.memory.broken) same ∙ (sym c.broken.ensures ∙ c.in-None.is) in
    let turn = ap (λ (s : Holding g.row.D.Denot). s.memory.seat) same ∙ c.requires.turn in
    let k = anew (hub_state c.args.self.now.desk.hub.seats) in
    let looks = subst LooksAnew c.look_anew.ensures.seats c.look_anew.ensures.anew in
    let ready = subst (λ (x : HubState). IsReady (St c.look_anew.new.self.store.store) x c.args.self.now.desk.seat) c.look_anew.ensures.seats (c.look_anew.ensures.ready c.args.self.now.desk.seat c.requires.ready.ready) in
    let want = want_in c.answer-answered.result in
    let answered = subst (λ (n : ℕ). Answered k n (St c.look_anew.new.self.store.store) (St c.answer-answered.new.store) want) turn (c.answer-answered.ensures.answers k looks (ready.fitted whole) (record { staged = c.numbers_are_drawn.ensures.staged; few = c.numbers_are_drawn.ensures.few }) (ready.settled whole)) in
    inr (c.look_anew.ensures.seats, looks, (want, subst (λ (s : Holding g.row.D.Denot). Answered k c.args.self.now.desk.seat (St s) (St c.answer-answered.new.store) want) same answered))
