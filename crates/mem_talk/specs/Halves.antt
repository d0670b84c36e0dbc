-- What one end of a line stands on between two turns of its session (own).
use Rattle.std.specs.Prelude.{◌≡◌, ℕ, ◌^◌, ◌≤◌, true, false, List}
use Rattle.node_model.specs.Calls.{Turned}
use Rattle.node_model.specs.Images.{RanAt, Stand}
use Rattle.node_model.specs.Stores.{StoreStand}
use Rattle.binkp_link.specs.Pipes.{Pipe}
use Rattle.hub_core.specs.Hubs.{HubState, IsReady, seat_part}
use Rattle.session_run.specs.Courses.{MayTurn}
use Rattle.session_run.specs.declared.turns.Course.{Course}
use Rattle.mem_talk.specs.declared.told.Told.{Told}
use Rattle.mem_talk.specs.declared.told.Told.TheVariants as T

-- the session's next turn may be made at its desk, over that end
pub record MayGoOn (store : StoreStand) (hub : HubState) (seat : ℕ) (course : Course) (pipe : Pipe) : Type 0 where
  pub is_ready : IsReady store hub seat
  pub may : MayTurn (IsReady store hub seat) (seat_part hub seat) store.state.counts.broken pipe.line.calm course.run course.going
  pub limit : course.run.session.setting.limit ≤ 2 ^ 62
  pub unclosed : pipe.line.closed ≡ false

-- it may make its next turn, unless it is over
abbrev pub GoesOn : StoreStand → HubState → ℕ → Pipe → Told → Type 0
GoesOn store hub seat pipe (T.Goes course) = MayGoOn store hub seat course.value pipe
GoesOn store hub seat pipe (T.Over report) = Unit {0}
GoesOn store hub seat pipe T.Lost = Unit {0}

-- a session at the one seat of a hub, which is ready
pub record HoldsOne (store : StoreStand) (hub : HubState) (seat : ℕ) (pipe : Pipe) (told : Told) : Type 0 where
  pub is_ready : IsReady store hub seat
  pub may : GoesOn store hub seat pipe told

-- a turn of a session: calls of its desk
pub record TurnRan (old new : Stand) : Type 0 where
  pub events : List Turned
  pub ran : RanAt true old events new
