-- What clauses say of a gate and of its passes.
use Rattle.std.specs.Prelude.{ℕ, ◌≡◌, ◌<◌, true, false, List, [], ◌∷◌, None, Some, All, length, map, slice_get, slice_index_or, Contains, ◌⊎◌}
use Rattle.turn_gate.specs.declared.gate.Gate.{Gate}
use Rattle.turn_gate.specs.declared.grows.Grows.{Ghosts}
use Rattle.turn_gate.specs.declared.no_turn.NoTurn.{NoTurn}
use Rattle.turn_gate.specs.declared.no_turn.NoTurn.TheVariants.{Busy, Spent}
use Rattle.turn_gate.specs.declared.pass.Pass.{Pass}
use Rattle.turn_gate.specs.declared.view.View.{View}
use Rattle.turn_gate.specs.Rule.{last_number}
use Rattle.turn_gate.specs.Views.{new_view, after_busy, after_spent}

module _ {T X E P : Type 0} where
  -- the state of the value that the gate was made with
  abbrev pub opening : (T → X) → Gate T X E P → X
  opening state gate = state gate.table.shared.key.value.value

  -- the number of its seats
  abbrev pub seats_of : Gate T X E P → ℕ
  seats_of gate = gate.table.shared.key.seats

-- nothing was handed out: the turn was taken, and only `missed` rose; or the count has ended, and only `spent` was set
abbrev pub after_refusal : {X : Type 0} → NoTurn → View X → View X
after_refusal Busy v = after_busy v
after_refusal Spent v = after_spent v

module _ {T X E P : Type 0} {g : Ghosts T X E P} where
  -- what the pass knows
  abbrev pub view : Pass T X E P g → View X
  view p = p.token.me.0

  -- a pass of this gate that has no turn
  pub record IsFree (gate : Gate T X E P) (p : Pass T X E P g) : Type 0 where
    pub of : p.token.table_id ≡ gate.table.shared.table_id
    pub live : (view p).live ≡ true
    pub free : (view p).holds ≡ false
    pub taken : (view p).taken ≡ (view p).left
    pub number : (view p).number ≡ 0
    pub bare : p.token.me.1 ≡ []

  -- a pass of this gate that has the turn, with the value of that number
  pub record HasTurn (gate : Gate T X E P) (p : Pass T X E P g) (n : ℕ) : Type 0 where
    pub of : p.token.table_id ≡ gate.table.shared.table_id
    pub live : (view p).live ≡ true
    pub holds : (view p).holds ≡ true
    pub number : (view p).number ≡ n
    pub low : n < last_number
    pub out : p.token.me.1 ≡ (0, None) ∷ []

  -- a pass of this gate with the seat k, which has made no turn
  abbrev pub IsNew : Gate T X E P → ℕ → Pass T X E P g → Type 0
  IsNew gate k p = IsFree gate p × (view p ≡ new_view (opening g.state gate) k)

  -- all passes of the gate, in any order. None has the turn
  pub record AreAll (gate : Gate T X E P) (passes : List (Pass T X E P g)) : Type 0 where
    pub free : All (IsFree gate) passes
    pub every_seat : (k : ℕ) → k < seats_of gate → Contains (map (λ p. (view p).seat) passes) k

  -- all passes of the gate, in the order of their seats. None has the turn
  pub record AreInOrder (gate : Gate T X E P) (passes : List (Pass T X E P g)) : Type 0 where
    pub count : length passes ≡ seats_of gate
    pub each : (k : ℕ) (d : Pass T X E P g) → k < length passes → IsFree gate (slice_index_or passes k d) × ((view (slice_index_or passes k d)).seat ≡ k)

  -- the state is what a pass that made a turn has left, or the opening one where none made a turn
  abbrev pub IsLastLeft : X → X → List (Pass T X E P g) → Type 0
  IsLastLeft first now passes =
      ((now ≡ first) × All (λ p. (view p).turns ≡ 0) passes)
      ⊎ ((k : ℕ) × (p : Pass T X E P g) × (slice_get passes k ≡ Some p) × (0 < (view p).turns) × ((view p).left ≡ now))

-- the view after a wait: only `missed` may have risen
abbrev pub Waited : {X : Type 0} → View X → View X → Type 0
Waited v w = (m : ℕ) × (w ≡ record { keeper = v.keeper; live = v.live; seat = v.seat; left = v.left; turns = v.turns; missed = m; spent = v.spent; holds = v.holds; taken = v.taken; number = v.number; next = v.next; joined = v.joined })
