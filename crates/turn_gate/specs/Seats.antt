-- What is said of seats at the table while a gate is made and closed.
use Rattle.std.specs.Prelude.{ℕ, ◌≡◌, true, false, []}
use Rattle.atomic_table.specs.Seated.{TableId}
use Rattle.atomic_table.specs.Table.{Me}
use Rattle.turn_gate.specs.declared.view.View.{View}
use Rattle.turn_gate.specs.Views.{new_view}

module _ {S X : Type 0} where
  -- a seat at the table z with the number k, which has made no turn
  abbrev pub IsNewAt : TableId → X → ℕ → TableId → Me S (View X) → Type 0
  IsNewAt z x k t me = (t ≡ z) × (me ≡ (new_view x k, []))

  -- a pass at the table z that has no turn
  abbrev pub IsIdleAt : TableId → TableId → Me S (View X) → Type 0
  IsIdleAt z t me = (t ≡ z) × (me.0.live ≡ true) × (me.0.holds ≡ false) × (me.1 ≡ [])
