-- A gate that is closed: all passes are there, and each finds its seat in the last state.
use Rattle.std.proofs.Common.{◌≡◌, ℕ, ◌<◌, List, [], ◌∷◌, All, Some, length, slice_get, slice_index_or, inl, inr, arith, sym, ◌∙◌, subst}
use Rattle.std.proofs.lemmas.Option.{slice_get-get_or, slice_get_within}
use Rattle.atomic_table.specs.Seated.{TableId}
use Rattle.turn_gate.specs.declared.gate.Gate.{Gate}
use Rattle.turn_gate.specs.declared.grows.Grows.{Ghosts}
use Rattle.turn_gate.specs.declared.pass.Pass.{Pass}
use Rattle.turn_gate.specs.Passes.{AreInOrder, IsLastLeft, seats_of, view}
use Rattle.turn_gate.specs.Turns.{ByOthers}
use Rattle.shared_desk.proofs.Paths.{by_map}
use Rattle.shared_desk.proofs.Sharing.{found}
use Rattle.shared_desk.specs.Seen.{Found, OneHub, SeatTurn, Sight}
use Rattle.session_threads.specs.Held.{IsNamed}
use Rattle.session_threads.specs.Lent.{IsLast, IsPassHere}
use Rattle.session_threads.specs.Slots.{Rests_here, Whereabouts}

module _ {T X E P : Type 0} {g : Ghosts T X E P} (s : Sight X) (name : TableId) where
  -- the passes that were here, in the order of their seats, are all of the gate
  pub all_there : (gate : Gate T X E P) (slots : List (Whereabouts X)) (passes : List (Pass T X E P g)) → IsNamed name gate → length slots ≡ seats_of gate → length passes ≡ length slots
      → ((k : ℕ) (p : Pass T X E P g) → slice_get passes k ≡ Some p → IsPassHere s name slots k p) → AreInOrder gate passes
  all_there gate slots passes named seats all each = record {
    count = all ∙ seats;
    each = λ k d l.
        let p = slice_index_or passes k d in
        let here = each k p (slice_get-get_or passes k d l) in
        ((here.at_home.home gate named).free, here.at_home.seat_is);
  }

  -- the last state is one that a pass has left, or the first
  pub last_here : (slots : List (Whereabouts X)) (passes : List (Pass T X E P g)) (first last : X) → ((k : ℕ) (p : Pass T X E P g) → slice_get passes k ≡ Some p → IsPassHere s name slots k p) → IsLastLeft first last passes → IsLast first slots last
  last_here slots passes first last each (inl none) = inl none.0
  last_here slots passes first last each (inr (k, p, at, turned, left)) = inr (k, subst (λ x. slice_get slots k ≡ Some (Rests_here x)) left (each k p at).was)

  -- what the seat of a pass that was here finds in the last state
  pub finds : (Turn : ℕ → X → X → Type 0) → ((k : ℕ) (a b : X) → Turn k a b → SeatTurn s k a b) → OneHub s → (slots : List (Whereabouts X)) (passes : List (Pass T X E P g)) (last : X) → length passes ≡ length slots
      → ((k : ℕ) (p : Pass T X E P g) → slice_get passes k ≡ Some p → IsPassHere s name slots k p) → All (λ p. ByOthers Turn (view p).seat (view p).left last) passes
      → (k : ℕ) (left : X) → slice_get slots k ≡ Some (Rests_here left) → Found s k left last
  finds Turn turn one slots passes last all each by k left at =
      let within = slice_get_within slots k (Rests_here left) at in
      let d = some_of passes k (omega arith) in
      let p = slice_index_or passes k d in
      let here = each k p (slice_get-get_or passes k d (omega arith)) in
      let same : (view p).left ≡ left = (let e : Some (Rests_here (view p).left) ≡ Some (Rests_here left) = sym here.was ∙ at in cc) in
      let others : ByOthers Turn (view p).seat (view p).left last = by k d (omega arith) in
      subst (λ x. Found s k x last) same
      (subst (λ (i : ℕ). Found s i (view p).left last) here.at_home.seat_is
      (found s one (view p).seat (view p).left last (by_map Turn (SeatTurn s) turn (view p).seat (view p).left last others)))
    where
      some_of : (xs : List (Pass T X E P g)) (i : ℕ) → i < length xs → Pass T X E P g
      some_of [] i l = absurd (omega arith)
      some_of (x ∷ xs) i l = x
