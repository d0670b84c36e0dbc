-- What a node of a trial stands on between two turns of its session (own).
use Rattle.std.specs.Prelude.{◌≡◌, ℕ, ◌^◌, ◌≤◌, true, false}
use Rattle.node_model.specs.Node.{Settings}
use Rattle.node_model.specs.Stores.{StoreStand}
use Rattle.binkp_link.specs.Pipes.{Pipe}
use Rattle.hub_core.specs.Hubs.{HubState, IsReady, seat_part}
use Rattle.hub_core.specs.Opening.{IsWhole, no_seats}
use Rattle.mem_disk.specs.Holding.{shown}
use Rattle.mem_disk.specs.MemoryDisk.{mem_images, mem_moment}
use Rattle.mem_disk.specs.declared.disk.MemDisk.{MemDisk}
use Rattle.node_store.specs.Stored.{Holding, stand_of}
use Rattle.session_run.specs.Courses.{MayTurn}
use Rattle.session_run.specs.declared.turns.Course.{Course}
use Rattle.node_trial.specs.declared.told.Told.{Told}
use Rattle.node_trial.specs.declared.told.Told.TheVariants as T

-- where a store over a disk in memory stands
abbrev pub stand_in : Holding MemDisk → StoreStand
stand_in s = stand_of true (λ (d : MemDisk). shown d.held) (λ (d : MemDisk). d.faults) mem_moment mem_images s

-- it fits a hub without seats
abbrev pub FitsHub : Holding MemDisk → Type 0
FitsHub s = (settings : Settings) → IsWhole (stand_in s) (no_seats settings)

-- the session's next turn may be made at its desk, over that end of the line
pub record MayGoOn (store : StoreStand) (hub : HubState) (seat : ℕ) (course : Course) (pipe : Pipe) : Type 0 where
  pub is_ready : IsReady store hub seat
  pub may : MayTurn (IsReady store hub seat) (seat_part hub seat) store.state.counts.broken pipe.line.calm course.run course.going
  pub limit : course.run.session.setting.limit ≤ 2 ^ 62
  pub unclosed : pipe.line.closed ≡ false

-- it may make its next turn, unless it is over
abbrev pub GoesOn : StoreStand → HubState → ℕ → Pipe → Told → Type 0
GoesOn store hub seat pipe (T.Goes course) = MayGoOn store hub seat course.value pipe
GoesOn store hub seat pipe T.Over = Unit {0}
GoesOn store hub seat pipe T.Stopped = Unit {0}

-- a session at the one seat of a hub, which is ready
pub record HoldsOne (store : StoreStand) (hub : HubState) (seat : ℕ) (pipe : Pipe) (told : Told) : Type 0 where
  pub is_ready : IsReady store hub seat
  pub may : GoesOn store hub seat pipe told
