-- What is told of a slot (own).
use Rattle.std.specs.Prelude.{◌≡◌, Bool, Option, Some, None, true, false}
use Rattle.turn_gate.specs.declared.grows.Grows.{Ghosts}
use Rattle.session_threads.specs.declared.slots.Slot.{Slot}
use Rattle.session_threads.specs.declared.slots.Slot.TheVariants as S

module _ {L T G X E P : Type 0} {g : Ghosts T X E P} where
  -- whether its pass is here
  abbrev pub is_idle : Option (Slot L T G X E P g) → Bool
  is_idle None = false
  is_idle (Some S.Lent) = false
  is_idle (Some (S.Idle pass)) = true
  is_idle (Some (S.Runs run)) = false

  abbrev pub Tells_idle : Option (Slot L T G X E P g) → Bool → Type 0
  Tells_idle slot told = told ≡ is_idle slot

  -- whether a session has it
  abbrev pub runs : Option (Slot L T G X E P g) → Bool
  runs None = false
  runs (Some S.Lent) = false
  runs (Some (S.Idle pass)) = false
  runs (Some (S.Runs run)) = true

  abbrev pub Tells_runs : Option (Slot L T G X E P g) → Bool → Type 0
  Tells_runs slot told = told ≡ runs slot
