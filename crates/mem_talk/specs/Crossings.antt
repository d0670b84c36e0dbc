-- What a node stands on that holds two sessions, between two turns of these (own).
use Rattle.std.specs.Prelude.{◌≡◌, ◌≢◌, ◌<◌, ◌≤◌, ◌^◌, ℕ, true, false, List, length, None}
use Rattle.node_model.specs.Calls.{Turned}
use Rattle.node_model.specs.Images.{RanAt}
use Rattle.node_model.specs.Stores.{StoreStand}
use Rattle.binkp_link.specs.Pipes.{Pipe}
use Rattle.hub_core.specs.Hubs.{HubState, IsReady, hub_stand, seat_part}
use Rattle.session_run.specs.declared.turns.Course.{Course}
use Rattle.session_run.specs.declared.turns.Going.TheVariants as G
use Rattle.session_run.specs.Runs.{IsNew}
use Rattle.mem_talk.specs.Halves.{MayGoOn}
use Rattle.mem_talk.specs.declared.told.Told.{Told}
use Rattle.mem_talk.specs.declared.told.Told.TheVariants as T
use Rattle.mem_talk.specs.declared.leg.Leg.{Leg}

-- The session that goes on has a seat of the hub, and may make its next turn there unless the store is broken.
pub record Rests (store : StoreStand) (hub : HubState) (seat : ℕ) (course : Course) (pipe : Pipe) : Type 0 where
  pub given : seat < length hub.chairs
  pub may : store.state.counts.broken ≡ None → MayGoOn store hub seat course pipe

abbrev pub MayTell : StoreStand → HubState → ℕ → Pipe → Told → Type 0
MayTell store hub seat pipe (T.Goes course) = Rests store hub seat course.value pipe
MayTell store hub seat pipe (T.Over report) = Unit {0}
MayTell store hub seat pipe T.Lost = Unit {0}

-- it may begin at a seat without a session
abbrev pub MayBegin : Pipe → Told → Type 0
MayBegin pipe (T.Goes course) =
    (course.value.going ≡ G.Starting) × IsNew course.value.run × (0 < course.value.run.session.setting.limit) × (course.value.run.session.setting.limit ≤ 2 ^ 62) × (pipe.line.calm ≡ 0) × (pipe.line.closed ≡ false)
MayBegin pipe (T.Over report) = ⊥
MayBegin pipe T.Lost = ⊥

abbrev pub MayTurnLeg : StoreStand → HubState → Leg → Type 0
MayTurnLeg store hub leg = MayTell store hub leg.seat leg.pipe leg.told

-- two sessions at two seats of a hub, of which one seat is ready
pub record HoldsBoth (store : StoreStand) (hub : HubState) (seat : ℕ) (own other : Leg) : Type 0 where
  pub is_ready : IsReady store hub seat
  pub own_may : MayTurnLeg store hub own
  pub other_may : MayTurnLeg store hub other
  pub apart : own.seat ≢ other.seat

-- The session at that seat alone made calls, over a store that wasn't broken before.
pub record Ran (old : StoreStand) (hub : HubState) (seat : ℕ) (new : StoreStand) (hub' : HubState) : Type 0 where
  pub unbroken : old.state.counts.broken ≡ None
  pub events : List Turned
  pub ran : RanAt true (hub_stand old hub seat) events (hub_stand new hub' seat)

-- a knock was let in: it changes no part, and the store isn't broken
pub record CameIn (old : StoreStand) (hub : HubState) (seat : ℕ) (new : StoreStand) (hub' : HubState) : Type 0 where
  pub ran : Ran old hub seat new hub'
  pub part : seat_part hub' seat ≡ seat_part hub seat
  pub unbroken : new.state.counts.broken ≡ None
