-- Seats without a session (own).
use Rattle.std.specs.Prelude.{◌≡◌, ℕ, false, None}
use Rattle.turn_gate.specs.declared.gate.Gate.{Gate}
use Rattle.turn_gate.specs.declared.grows.Grows.{Ghosts}
use Rattle.turn_gate.specs.declared.pass.Pass.{Pass}
use Rattle.turn_gate.specs.Passes.{IsFree, view}
use Rattle.node_model.specs.Desks.{DeskPart}
use Rattle.shared_desk.specs.Seen.{Sight}

abbrev pub nobody : DeskPart
nobody = record { open_now = false; claim = None; held = None }

-- a seat that is ready, with no session
pub record Rests {X : Type 0} (s : Sight X) (k : ℕ) (x : X) : Type 0 where
  pub ready : s.ready k x
  pub free : s.part k x ≡ nobody

-- a pass that made no turn, of such a seat
pub record IsFresh {T X E P : Type 0} {g : Ghosts T X E P} (s : Sight X) (gate : Gate T X E P) (p : Pass T X E P g) : Type 0 where
  pub free : IsFree gate p
  pub rests : Rests s (view p).seat (view p).left
  pub turns : (view p).turns ≡ 0
