-- A seat that is left (own).
use Rattle.std.specs.Prelude.{◌≡◌, false}
use Rattle.atomic_table.specs.Seated.{TableId}
use Rattle.node_model.specs.Calls.{Answer, Leave_call}
use Rattle.node_model.specs.Images.{Kept}
use Rattle.turn_gate.specs.declared.grows.Grows.{Ghosts}
use Rattle.turn_gate.specs.declared.pass.Pass.{Pass}
use Rattle.turn_gate.specs.Passes.{view}
use Rattle.shared_desk.specs.Seen.{Sight, stand}
use Rattle.session_threads.specs.Held.{IsHome, at_rest}

module _ {T X E P : Type 0} {g : Ghosts T X E P} where
  -- no session is open at its seat, nothing is claimed there, and nothing is held
  abbrev pub rests : Sight X → Pass T X E P g → Type 0
  rests s p = s.part (view p).seat (view p).left ≡ at_rest

  -- the seat of the pass was left, with that answer
  pub record IsLeft (s : Sight X) (name : TableId) (p : Pass T X E P g) (answer : Answer) (q : Pass T X E P g) : Type 0 where
    pub seat_is : (view q).seat ≡ (view p).seat
    pub home : IsHome s name q
    pub made : Kept false (stand s (view p).seat (view p).left) Leave_call answer (stand s (view q).seat (view q).left)
