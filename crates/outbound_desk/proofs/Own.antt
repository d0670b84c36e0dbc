-- A call changes its own seat, and where the others' sessions go on from, alone.
use Rattle.std.proofs.Common.{◌≡◌, ℕ, Option, Some, None, option_map, refl, ◌∙◌, ap}
use Rattle.node_model.specs.Stores.{StoreStand}
use Rattle.hub_core.specs.Anew.{anew, chair_anew, from_start}
use Rattle.hub_core.specs.HubCalls.{OwnCall}
use Rattle.hub_core.specs.Hubs.{HubState, Sitting, chair_in}
use Rattle.hub_core.proofs.Anew.{chair_at, length_anew}
use Rattle.outbound_desk.specs.Lines.{OwnTurn}

pub own_turn : (seat : ℕ) (h : HubState) (w : StoreStand) (g : HubState) → OwnCall seat h w g → OwnTurn seat h w g
own_turn seat h w g own = record { settings = own.settings; seats = own.seats; others = λ k apart. ap chair_anew (own.others k apart); turn = own.turn }

twice : (busy reads : ℕ) (o : Option Sitting) → chair_anew (record { busy = busy; reads = reads; sitting = option_map from_start o }) ≡ chair_anew (record { busy = busy; reads = reads; sitting = o })
twice busy reads None = refl
twice busy reads (Some x) = refl

pub other_anew : (h : HubState) (k : ℕ) → chair_anew (chair_in (anew h).chairs k) ≡ chair_anew (chair_in h.chairs k)
other_anew h k = ap chair_anew (chair_at h.chairs k) ∙ twice (chair_in h.chairs k).busy (chair_in h.chairs k).reads (chair_in h.chairs k).sitting

-- behind searches that begin anew
pub own_behind : (seat : ℕ) (h : HubState) (w : StoreStand) (g : HubState) → OwnTurn seat (anew h) w g → OwnTurn seat h w g
own_behind seat h w g own = record { settings = own.settings; seats = own.seats ∙ length_anew h.chairs; others = λ k apart. own.others k apart ∙ other_anew h k; turn = own.turn }

pub own_anew : (seat : ℕ) (h : HubState) (w : StoreStand) → w.state.seat ≡ seat → OwnTurn seat h w (anew h)
own_anew seat h w turn = record { settings = refl; seats = length_anew h.chairs; others = λ k apart. other_anew h k; turn = turn }
