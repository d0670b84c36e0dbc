-- A desk behind a gate, by its pass (own).
use Rattle.std.specs.Prelude.{◌≡◌, ◌+◌}
use Rattle.atomic_table.specs.Seated.{TableId}
use Rattle.turn_gate.specs.declared.gate.Gate.{Gate}
use Rattle.turn_gate.specs.declared.grows.Grows.{Ghosts}
use Rattle.turn_gate.specs.declared.pass.Pass.{Pass}
use Rattle.turn_gate.specs.Passes.{IsFree, view}
use Rattle.shared_desk.specs.Seen.{Sight}

module _ {T X E P : Type 0} {g : Ghosts T X E P} where
  -- Between two calls: the pass has no turn, is one of the gate of that name, and its seat was ready in the state that it left.
  pub record IsAtGate (s : Sight X) (name : TableId) (gate : Gate T X E P) (p : Pass T X E P g) : Type 0 where
    pub free : IsFree gate p
    pub named : p.token.table_id ≡ name
    pub ready : s.ready (view p).seat (view p).left

  -- the same seat made one turn more
  pub record OneTurnMore (p q : Pass T X E P g) : Type 0 where
    pub seat : (view q).seat ≡ (view p).seat
    pub turns : (view q).turns ≡ (view p).turns + 1
