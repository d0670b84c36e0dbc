-- What each kind of step on the words tells the seat that makes it.
use Rattle.std.specs.Prelude.{ℕ, ◌≡◌, ◌≢◌, Option, Some, [], ◌∷◌}
use mathlib.Core.Option as maybe
use Rattle.atomic_table.specs.Table.{Me, Step}
use Rattle.turn_gate.specs.declared.view.View.{View}
use Rattle.turn_gate.specs.declared.view.Counted.{Counted}
use Rattle.turn_gate.specs.Turns.{ByOthers}
use Rattle.turn_gate.specs.Views.{after_acquire, after_busy, after_publish, after_spent, after_release}

abbrev pub Tells : Type 0 → Type 0 → Type 1
Tells T X = Step (Option (Counted T)) → Me (Option (Counted T)) (View X) → ℕ → Me (Option (Counted T)) (View X) → Type 0

module _ {T X : Type 0} where
  -- `turn` was found 0: the seat has the turn and the value, whose state is reached from what it left by turns of others. Else it missed
  abbrev pub Acquires : (T → X) → (ℕ → X → X → Type 0) → Tells T X
  Acquires state Turns s m found w =
      (found ≡ 0 → (x : Counted T) × (w ≡ (after_acquire m.0 (state x.value) x.count, (0, Some x) ∷ [])) × ByOthers Turns m.0.seat m.0.left (state x.value))
      × (found ≢ 0 → w ≡ (after_busy m.0, []))

  -- the turn that leads to the announced value is counted
  abbrev pub Publishes : (T → X) → Tells T X
  Publishes state s m found w = (x : Counted T) → s.said ≡ maybe.some (Some x) → w ≡ (after_publish m.0 (state x.value), m.1)

  -- the count has ended
  abbrev pub FindsSpent : Tells T X
  FindsSpent s m found w = w ≡ (after_spent m.0, m.1)

  -- turn and value are given back
  abbrev pub Releases : Tells T X
  Releases s m found w = w ≡ (after_release m.0, [])
