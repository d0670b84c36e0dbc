-- Bytes that are read piece by piece.
use Rattle.std.proofs.Common.{◌≡◌, ℕ, ◌+◌, ◌-◌, ◌<◌, min, List, [], ◌++◌, length, take, drop, Option, Some, None, refl, sym, ◌∙◌, ap, subst, arith, length-take}
use Rattle.std.proofs.Math.Seq.{take-add}
use Rattle.std.proofs.lemmas.List.{take_all, take_min}
use Rattle.node_model.specs.StoreStates.{IfTold, Stored}

-- a front is as long as it is
own_length : (n : ℕ) (bytes : List ℕ) → take n bytes ≡ take (length (take n bytes)) bytes
own_length n bytes = sym (take_min n bytes) ∙ ap (λ (k : ℕ). take k bytes) (sym (length-take n bytes))

-- a front with the next piece is one
next_piece : (bytes front piece : List ℕ) (size : ℕ) → front ≡ take (length front) bytes → piece ≡ take size (drop (length front) bytes) → front ++ piece ≡ take (length front + size) bytes
next_piece bytes front piece size is at = (λ i. is i ++ at i) ∙ sym (take-add (length front) size bytes)

pub front_more : (bytes front piece : List ℕ) (size : ℕ) → front ≡ take (length front) bytes → piece ≡ take size (drop (length front) bytes) → front ++ piece ≡ take (length (front ++ piece)) bytes
front_more bytes front piece size is at =
    let next = next_piece bytes front piece size is at in
    next ∙ own_length (length front + size) bytes ∙ ap (λ (l : List ℕ). take (length l) bytes) (sym next)

-- the last piece ends the bytes
pub all_read : (bytes front piece : List ℕ) (size count : ℕ) → front ≡ take (length front) bytes → piece ≡ take size (drop (length front) bytes) → count ≡ min size (length bytes - length front) → count < size → front ++ piece ≡ bytes
all_read bytes front piece size count is at fits short =
    next_piece bytes front piece size is at ∙ take_all (length front + size) bytes (omega (arith, fits, short))

-- The same where bytes are told.

pub told_none : (o : Option Stored) (bytes_in : Stored → List ℕ) (front : List ℕ) → front ≡ [] → IfTold o (λ a. front ≡ take (length front) (bytes_in a))
told_none None bytes_in front is = tt
told_none (Some a) bytes_in front is = subst (λ (l : List ℕ). l ≡ take (length l) (bytes_in a)) (sym is) refl

pub told_more : (o : Option Stored) (bytes_in : Stored → List ℕ) (front piece all : List ℕ) (at size : ℕ) → at ≡ length front → all ≡ front ++ piece → IfTold o (λ a. front ≡ take (length front) (bytes_in a)) → IfTold o (λ a. piece ≡ take size (drop at (bytes_in a)))
    → IfTold o (λ a. all ≡ take (length all) (bytes_in a))
told_more None bytes_in front piece all at size here is before more = tt
told_more (Some a) bytes_in front piece all at size here is before more =
    subst (λ (l : List ℕ). l ≡ take (length l) (bytes_in a)) (sym is) (front_more (bytes_in a) front piece size before (more ∙ ap (λ (n : ℕ). take size (drop n (bytes_in a))) here))

pub told_all : (o : Option Stored) (bytes_in : Stored → List ℕ) (front piece all : List ℕ) (at size count : ℕ) → at ≡ length front → all ≡ front ++ piece → count < size → IfTold o (λ a. front ≡ take (length front) (bytes_in a)) → IfTold o (λ a. piece ≡ take size (drop at (bytes_in a)))
    → IfTold o (λ a. count ≡ min size (length (bytes_in a) - at)) → IfTold o (λ a. all ≡ bytes_in a)
told_all None bytes_in front piece all at size count here is short before more fits = tt
told_all (Some a) bytes_in front piece all at size count here is short before more fits =
    is ∙ all_read (bytes_in a) front piece size count before (more ∙ ap (λ (n : ℕ). take size (drop n (bytes_in a))) here) (fits ∙ ap (λ (n : ℕ). min size (length (bytes_in a) - n)) here) short
