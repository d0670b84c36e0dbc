-- The rule of the gate's table, which holds between any two steps.
-- The word `turn` is 0, or one more than the number of the seat that has the turn. The word `count` is the number of turns so far. The slot has the value.
use Rattle.std.specs.Prelude.{ℕ, ◌≡◌, ◌≢◌, ◌+◌, ◌<◌, ◌≤◌, true, false, List, [], ◌∷◌, Option, Some, All, slice_get, ◌⊎◌}
use mathlib.Core.Option as maybe
use lib.ListN.{get_elem?}
use Rattle.atomic_table.specs.Table.{State}
use Rattle.turn_gate.specs.declared.view.View.{View}
use Rattle.turn_gate.specs.declared.view.Joined.{Joined}
use Rattle.turn_gate.specs.declared.view.Counted.{Counted}
use Rattle.turn_gate.specs.Turns.{Reached, ByOthers}

-- 2 ^ 64 - 1, where the count ends
abbrev pub last_number : ℕ
last_number = 18446744073709551615

abbrev pub At : {X : Type 0} → List (View X) → ℕ → View X → Type 0
At views j v = get_elem? views j ≡ maybe.some v

-- what holds of the view v of the seat j at the table
pub record FitsIn {X : Type 0} (Turns : ℕ → X → X → Type 0) (now : X) (turn count j : ℕ) (keeper v : View X) : Type 0 where
  -- the keeper is the first seat at the table
  pub keeper_first : v.keeper ≡ true → j ≡ 0
  -- the word names the seat that has the turn
  pub named : v.live ≡ true → v.holds ≡ true → turn ≡ v.seat + 1
  -- what was handed out is the current state, with the count
  pub taken_state : v.live ≡ true → v.holds ≡ true → v.taken ≡ now
  pub taken_number : v.live ≡ true → v.holds ≡ true → v.number ≡ count
  -- the end of the count was found only where the count is there
  pub spent_at_end : v.spent ≡ true → count ≡ last_number
  -- the current state is reached from what the seat left, by turns of other seats
  pub history : v.live ≡ true → ByOthers Turns v.seat v.left now
  -- its number was given out
  pub given_out : v.live ≡ true → v.seat < keeper.next
  -- no pass with its number was taken in
  pub not_joined : v.live ≡ true → All (λ o. o.seat ≢ v.seat) keeper.joined

-- The current state is the first one, and nobody made a turn; or it is what a seat that made a turn has left, or one that was taken in
abbrev pub IsCurrent : {X : Type 0} → X → X → List (View X) → List (Joined X) → Type 0
IsCurrent {X} first now views joined =
    ((now ≡ first) × ((j : ℕ) (v : View X) → At views j v → v.live ≡ true → v.turns ≡ 0) × All (λ o. o.turns ≡ 0) joined)
    ⊎ ((j : ℕ) × (v : View X) × At views j v × (v.live ≡ true) × (0 < v.turns) × (v.left ≡ now))
    ⊎ ((k : ℕ) × (o : Joined X) × (slice_get joined k ≡ Some o) × (0 < o.turns) × (o.left ≡ now))

pub record IsKept {T X : Type 0} (state : T → X) (Turns : ℕ → X → X → Type 0) (first : X) (seats : ℕ) (s : State (Option (Counted T)) (View X)) : Type 0 where
  pub now : X
  pub turn : ℕ
  pub count : ℕ
  pub keeper : View X
  pub words : s.words ≡ turn ∷ count ∷ []
  -- while nobody has the turn, the value is in the slot, in the current state and with the count beside it
  pub slot : turn ≡ 0 → (x : Counted T) × (s.homes ≡ maybe.some (Some x) ∷ []) × (state x.value ≡ now) × (x.count ≡ count)
  -- where the word names a seat, some live view has the turn
  pub holder : turn ≢ 0 → (j : ℕ) × (v : View X) × At s.views j v × (v.live ≡ true) × (v.holds ≡ true)
  pub keeper_at : At s.views 0 keeper
  pub keeper_idle : keeper.live ≡ false
  pub opening : keeper.left ≡ first
  -- no more seats are given out than there are
  pub enough : keeper.next ≤ seats
  pub each_view : (j : ℕ) (v : View X) → At s.views j v → FitsIn Turns now turn count j keeper v
  -- no two live passes have one number
  pub apart : (i j : ℕ) (u v : View X) → At s.views i u → At s.views j v → u.live ≡ true → v.live ≡ true → u.seat ≡ v.seat → i ≡ j
  -- the current state is reached from the first one by turns of seats that were given out
  pub history : Reached Turns (λ k. k < keeper.next) first now
  -- and from what each pass that was taken in had left, by turns of others
  pub joined_history : All (λ o. ByOthers Turns o.seat o.left now) keeper.joined
  pub current : IsCurrent first now s.views keeper.joined
