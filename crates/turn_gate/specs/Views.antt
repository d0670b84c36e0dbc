-- What a seat at the gate's table knows, and how each kind of step changes it.
use Rattle.std.specs.Prelude.{ℕ, ◌+◌, true, false, List, [], ◌∷◌, ◌++◌}
use Rattle.turn_gate.specs.declared.view.View.{View}
use Rattle.turn_gate.specs.declared.view.Joined.{Joined}

module _ {X : Type 0} where
  -- the keeper, which gives out the seat n next, and took these passes in
  abbrev pub keeper_view : X → ℕ → List (Joined X) → View X
  keeper_view x n js = record { keeper = true; live = false; seat = 0; left = x; turns = 0; missed = 0; spent = false; holds = false; taken = x; number = 0; next = n; joined = js }

  -- the keeper, which took no pass in
  abbrev pub as_keeper : View X → View X
  as_keeper v = keeper_view v.left v.next []

  -- a new pass with the seat n
  abbrev pub new_view : X → ℕ → View X
  new_view x n = record { keeper = false; live = true; seat = n; left = x; turns = 0; missed = 0; spent = false; holds = false; taken = x; number = 0; next = 0; joined = [] }

  -- the turn was won: the value has the state x, and n turns were made so far
  abbrev pub after_acquire : View X → X → ℕ → View X
  after_acquire v x n = record { keeper = v.keeper; live = v.live; seat = v.seat; left = v.left; turns = v.turns; missed = v.missed; spent = v.spent; holds = true; taken = x; number = n; next = v.next; joined = v.joined }

  -- the turn was taken: one more exchange was lost
  abbrev pub after_busy : View X → View X
  after_busy v = record { keeper = v.keeper; live = v.live; seat = v.seat; left = v.left; turns = v.turns; missed = v.missed + 1; spent = v.spent; holds = v.holds; taken = v.taken; number = v.number; next = v.next; joined = v.joined }

  -- the turn was counted: the state x is left
  abbrev pub after_publish : View X → X → View X
  after_publish v x = record { keeper = v.keeper; live = v.live; seat = v.seat; left = x; turns = v.turns + 1; missed = v.missed; spent = v.spent; holds = v.holds; taken = x; number = v.number + 1; next = v.next; joined = v.joined }

  -- no more turns can be counted
  abbrev pub after_spent : View X → View X
  after_spent v = record { keeper = v.keeper; live = v.live; seat = v.seat; left = v.left; turns = v.turns; missed = v.missed; spent = true; holds = v.holds; taken = v.taken; number = v.number; next = v.next; joined = v.joined }

  -- the turn was given back
  abbrev pub after_release : View X → View X
  after_release v = record { keeper = v.keeper; live = v.live; seat = v.seat; left = v.left; turns = v.turns; missed = v.missed; spent = v.spent; holds = false; taken = v.left; number = 0; next = v.next; joined = v.joined }

  -- the keeper gave a seat out
  abbrev pub after_split : View X → View X
  after_split v = record { keeper = v.keeper; live = v.live; seat = v.seat; left = v.left; turns = v.turns; missed = v.missed; spent = v.spent; holds = v.holds; taken = v.taken; number = v.number; next = v.next + 1; joined = v.joined }

  -- what is kept of a pass that is taken in
  abbrev pub joined_of : View X → Joined X
  joined_of v = record { seat = v.seat; turns = v.turns; left = v.left }

  -- the keeper took a pass in
  abbrev pub after_join : View X → View X → View X
  after_join v u = record { keeper = v.keeper; live = v.live; seat = v.seat; left = v.left; turns = v.turns; missed = v.missed; spent = v.spent; holds = v.holds; taken = v.taken; number = v.number; next = v.next; joined = v.joined ++ joined_of u ∷ [] }

  -- a pass that was taken in
  abbrev pub ended_view : X → View X
  ended_view x = record { keeper = false; live = false; seat = 0; left = x; turns = 0; missed = 0; spent = false; holds = false; taken = x; number = 0; next = 0; joined = [] }
