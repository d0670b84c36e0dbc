-- The desk of a seat, what its calls change of the hub, and the take-in before its session (own).
use Rattle.std.specs.Prelude.{◌≡◌, ◌≢◌, ◌⊎◌, ℕ, Option, Some, None, Result, Ok, Err, length}
use Rattle.ftn_addr.specs.Address.{Address}
use Rattle.ftn_addr.specs.Limits.{IsAddress}
use Rattle.node_model.specs.Calls.{EndsRefused}
use Rattle.node_model.specs.Desks.{fault_of}
use Rattle.node_model.specs.declared.desk.DeskFault.{DeskFault}
use Rattle.node_model.specs.declared.desk.DeskFault.TheVariants as D
use Rattle.node_model.specs.Stores.{StoreStand}
use Rattle.hub_core.specs.Anew.{LooksAnew, anew, chair_anew}
use Rattle.hub_core.specs.Hubs.{HubState, Fitted, IsReady, IsSettled, chair_in}
use Rattle.take_steps.specs.declared.wanting.Wanting.{Wanting}
use Rattle.take_steps.specs.declared.wanting.Wanting.TheVariants.{Places, Memory}
use Rattle.outbound_desk.specs.Answering.{Answered}
use Rattle.outbound_desk.specs.TakenIn.{AreDrawn, TakenIn}

-- a ready seat, and the home within its limits
pub record IsDeskReady (w : StoreStand) (h : HubState) (seat : ℕ) (home : Address) : Type 0 where
  pub ready : IsReady w h seat
  pub home_within : IsAddress home

-- A call of a seat is its own: the hub's settings are as before, and so are its other seats, but that their sessions may look anew for
-- what they offer; the records that the store makes next are this seat's.
pub record OwnTurn (seat : ℕ) (h : HubState) (w : StoreStand) (g : HubState) : Type 0 where
  pub settings : g.settings ≡ h.settings
  pub seats : length g.chairs ≡ length h.chairs
  pub others : (k : ℕ) → k ≢ seat → chair_anew (chair_in g.chairs k) ≡ chair_anew (chair_in h.chairs k)
  pub turn : w.state.seat ≡ seat

-- The calls of take-ins are rows of the seat whose turn it is, at every hub that fits the store and whose sessions look anew.
abbrev pub TakesIn : StoreStand → StoreStand → Option Wanting → Type 0
TakesIn old new now =
    (h : HubState) → LooksAnew h → Fitted old.state h → AreDrawn old.state → IsSettled old → TakenIn h old.state.seat old new now

-- what is wanted at the end of a take-in: what the calls of its store found no more of, or else memory, where it found none itself
abbrev pub WantsSo : (by_calls at_end : Option Wanting) → Type 0
WantsSo (Some want) at_end = at_end ≡ Some want
WantsSo None None = Unit {0}
WantsSo None (Some Memory) = Unit {0}
WantsSo None (Some Places) = ⊥

-- why a session isn't opened, where that was wanted before it
abbrev pub fault_wanted : Wanting → DeskFault
fault_wanted Places = D.Full
fault_wanted Memory = D.NoMemory

-- a take-in whose last row was refused so
pub record Refuses (h : HubState) (seat : ℕ) (old : StoreStand) (fault : DeskFault) (new : StoreStand) : Type 0 where
  pub now : Option Wanting
  pub taken : TakenIn h seat old new now
  pub refused : EndsRefused taken.events (fault_of fault)

-- Take-ins before a session: all of their rows were made, and the store is whole; or the last row was refused.
abbrev pub TakesPeers : HubState → ℕ → StoreStand → Result (Unit {0}) DeskFault → StoreStand → Type 0
TakesPeers h seat old (Ok done) new = (new.state.counts.broken ≡ None) × TakenIn h seat old new None
TakesPeers h seat old (Err fault) new = Refuses h seat old fault new

-- A request that was just received was answered, at the hub whose searches begin anew, or that was refused; or nothing changed.
abbrev pub AnswersBehind : {S : Type 0} → (S → StoreStand) → HubState → ℕ → S → S → HubState → Type 0
AnswersBehind stand h seat old new g =
    ((new ≡ old) × (g ≡ h)) ⊎ ((g ≡ anew h) × LooksAnew (anew h) × ((now : Option Wanting) × Answered (anew h) seat (stand old) (stand new) now))
