-- A node between its sessions: its store and its hub, at rest, and what its own calls do to both (own).
use Rattle.std.specs.Prelude.{◌≡◌, ℕ, ◌≤◌, ◌<◌, Bool, true, List, Option, Some, None, Result, option_map, count_by}
use Rattle.disk_model.specs.World.{World}
use Rattle.ftn_addr.specs.Address.{Address}
use Rattle.ftn_addr.specs.Counts.{CountGrew}
use Rattle.binkp_link.specs.Lines.{LineState}
use Rattle.hub_core.specs.Anew.{anew}
use Rattle.hub_core.specs.Hubs.{HubState, hub_stand, hub_state, knows_over, seat_part, state_of}
use Rattle.hub_core.specs.declared.places.Seats.{Seats}
use Rattle.inbound_files.specs.Giving.{GivesFiles, StillHas}
use Rattle.mail_conf.specs.Conf.{ConfText}
use Rattle.node_model.specs.Calls.{Beside, Event, Knows}
use Rattle.node_model.specs.SendRows.{may_go}
use Rattle.node_model.specs.StoreStates.{IfTold, Shelf, Stored, StoreStand}
use Rattle.node_model.specs.Stores.{By_seat, OpensShelf, StoreKept, Well}
use Rattle.node_model.specs.declared.store.StoreFault.{StoreFault}
use Rattle.node_store.specs.Opening.{counted}
use Rattle.node_store.specs.Stored.{Holding, stand_of}
use Rattle.outbound_desk.specs.Lines.{IsDeskReady}
use Rattle.outbound_desk.specs.TakenIn.{TakenIn}
use Rattle.outbound_round.specs.Round.{RoundTold, TakesRound}
use Rattle.outbound_round.specs.declared.words.Telling.TheVariants.{PassedOver}
use Rattle.session_auth.specs.Sides.{Side}
use Rattle.session_core.specs.Stages.{home_of, setting_of}
use Rattle.session_run.specs.Courses.{IsFree}
use Rattle.session_run.specs.Laws.{IsSession}
use Rattle.session_run.specs.Reports.{ReportText}
use Rattle.take_steps.specs.declared.wanting.Wanting.{Wanting}

-- a store, and the hub over it with the seat that its calls are made at
pub record Rest (D : Type 0) : Type 0 where
  pub store : Holding D
  pub hub : HubState
  pub seat : ℕ

abbrev pub rest_of : {D : Type 0} → Holding D → Seats → ℕ → Rest D
rest_of store seats seat = record { store = store; hub = hub_state seats; seat = seat }

-- the hub's sessions look anew for what they offer; all else of it and the seat are the same
pub record LooksAgain {D : Type 0} (old new : Rest D) : Type 0 where
  pub hub : new.hub ≡ anew old.hub
  pub seat : new.seat ≡ old.seat

-- what a store that tells what it keeps received and refused, it still has
abbrev pub StillTold : Option Stored → Option Stored → Type 0
StillTold None new = Unit {0}
StillTold (Some old) None = ⊥
StillTold (Some old) (Some new) = StillHas old.stock.state new.stock.state

-- What is received stays so, at each moment since too. What a stop at an earlier moment may have left has no other durable state than
-- before, and no count of faults falls.
pub record StaysReceived (old new : StoreStand) : Type 0 where
  pub told : StillTold old.state.content new.state.content
  pub later : old.moment ≤ new.moment
  pub before : (k : ℕ) (e : Option Shelf) → k ≤ old.moment → new.images k e → (o : Option Shelf) × old.images k o × (option_map state_of e ≡ option_map state_of o)
  pub since : IfTold old.state.content (λ a. (k : ℕ) (e : Option Shelf) → old.moment < k → k ≤ new.moment → new.images k e → OpensShelf (λ s. StillHas a.stock.state s.state) e)
  pub faults : CountGrew old.state.counts.faults new.state.counts.faults

-- how many received files may be given
abbrev pub waiting : StoreStand → ℕ
waiting store = counted (count_by may_go store.state.stock.state.inbox)

module _ {D : Type 0} (tells : Bool) (content : D → World) (faults : D → ℕ) (moment : D → ℕ) (images : D → ℕ → World → Type 0) where
  abbrev pub standing : Rest D → StoreStand
  standing r = stand_of tells content faults moment images r.store

  -- what the seat's desk tells of the node
  abbrev pub told_at : Rest D → Knows
  told_at r = knows_over (standing r).state.content (standing r).state r.hub r.seat

  -- the node of the second was reached from that of the first by rows of the seat
  pub record Reached (old new : Rest D) : Type 0 where
    pub events : List Event
    pub rows : Beside old.seat (told_at old) events (told_at new)
    pub seat : new.seat ≡ old.seat

  -- the seat is ready, and no session is open at it; or the store is to be opened again
  pub record IsAtRest (home : Address) (r : Rest D) : Type 0 where
    pub ready : IsDeskReady (standing r) r.hub r.seat home
    pub free : IsFree (standing r).state.counts.broken (seat_part r.hub r.seat)

  -- It is at rest again: the node was reached by rows of the seat, and what was received stays so.
  pub record StaysAtRest (home : Address) (old new : Rest D) : Type 0 where
    pub at_rest : IsAtRest home new
    pub reached : Reached old new
    pub stays : StaysReceived (standing old) (standing new)

  -- The outbound of the settings is taken in, at the seat's turn: these are rows of the node.
  pub record TakesOutbound (conf : ConfText) (now : ℕ) (round : RoundTold) (old new : Rest D) : Type 0 where
    pub turned : Holding D
    pub turns : StoreKept (standing old) (By_seat old.seat) Well (stand_of tells content faults moment images turned)
    pub takes : TakesRound tells content faults moment images PassedOver conf.base conf.zone (home_of conf.addresses) now round turned new.store
    pub wants : Option Wanting
    pub rows : TakenIn (anew old.hub) old.seat (standing old) (standing new) wants
    pub looks : LooksAgain old new

  -- Received files are given, at the seat's turn: one round for all that may be given, to the folders of the settings.
  pub record GivesReceived (conf : ConfText) (old new : Rest D) : Type 0 where
    pub turned : Holding D
    pub turns : StoreKept (standing old) (By_seat old.seat) Well (stand_of tells content faults moment images turned)
    pub result : Result (Unit {0}) StoreFault
    pub gives : GivesFiles (stand_of tells content faults moment images) conf.inbound conf.inbound_nonsecure (waiting (stand_of tells content faults moment images turned)) turned result new.store
    pub looks : LooksAgain old new

  -- a whole session is held over a line, at the seat
  abbrev pub HoldsSession : Side → ConfText → List ℕ → ℕ → LineState → ReportText → LineState → (old new : Rest D) → Type 0
  HoldsSession side conf challenge now line report line' old new =
      IsSession true (setting_of side conf challenge now) line (hub_stand (standing old) old.hub old.seat) report line' (hub_stand (standing new) new.hub new.seat)
