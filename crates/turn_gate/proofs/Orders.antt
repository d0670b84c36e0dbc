-- Passes in the order of their seats.
use Rattle.std.proofs.Common.{◌≡◌, ℕ, zero, suc, ◌<◌, List, [], ◌∷◌, All, length, map, slice_index_or, ap, ◌∙◌, arith}
use Rattle.turn_gate.specs.declared.gate.Gate.{Gate}
use Rattle.turn_gate.specs.declared.grows.Grows.{Ghosts}
use Rattle.turn_gate.specs.declared.pass.Pass.{Pass}
use Rattle.turn_gate.specs.Passes.{AreAll, AreInOrder, view, seats_of}

get_map : {A : Type 0} (f : A → ℕ) (xs : List A) (k n : ℕ) (d : A) → k < length xs → slice_index_or (map f xs) k n ≡ f (slice_index_or xs k d)
get_map f [] k n d l = absurd (omega arith)
get_map f (x ∷ xs) zero n d l = λ i. f x
get_map f (x ∷ xs) (suc k) n d l = get_map f xs k n d (omega arith)

length_map : {A : Type 0} (f : A → ℕ) (xs : List A) → length (map f xs) ≡ length xs
length_map f [] = λ i. 0
length_map f (x ∷ xs) = ap suc (length_map f xs)

first_of : {A : Type 0} (xs : List A) (k : ℕ) → k < length xs → A
first_of [] k l = absurd (omega arith)
first_of (x ∷ xs) k l = x

module _ {T X E P : Type 0} {g : Ghosts T X E P} where
  -- passes in order are all passes
  pub in_order : (gate : Gate T X E P) (passes : List (Pass T X E P g)) → AreInOrder gate passes → AreAll gate passes
  in_order gate passes o = record {
    free = λ k d l. (o.each k d l).0;
    every_seat = λ k l.
        let c = o.count in
        let short : k < length passes = omega (arith, l, c) in
        let d = first_of passes k short in
        let n = length_map (λ (p : Pass T X E P g). (view p).seat) passes in
        (k, omega (arith, short, n), get_map (λ (p : Pass T X E P g). (view p).seat) passes k k d short ∙ (o.each k d short).1);
  }

  -- what holds of all passes holds of that of each seat
  pub at_seat : (gate : Gate T X E P) (passes : List (Pass T X E P g)) → AreInOrder gate passes → (R : Pass T X E P g → Type 0) → All R passes → (k : ℕ) → k < seats_of gate
      → (p : Pass T X E P g) × R p × ((view p).seat ≡ k)
  at_seat gate passes o R h k l =
      let c = o.count in
      let short : k < length passes = omega (arith, l, c) in
      let d = first_of passes k short in
      (slice_index_or passes k d, h k d short, (o.each k d short).1)
