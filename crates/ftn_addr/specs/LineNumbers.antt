-- The numbers of the lines of a text, and faults that are told with them (own).
use Rattle.std.specs.Prelude.{ℕ, ◌+◌, min, Result, Ok, Err}
use Rattle.ftn_addr.specs.declared.limits.TheConstants.{MAX_NUMBER}

-- the number of the next line; the greatest stands for all from there on
abbrev pub next_line : ℕ → ℕ
next_line number = min (number + 1) MAX_NUMBER

-- a cause is told as the fault that it makes
abbrev pub or_fault : {A B C F : Type 0} → (C → F) → Result A C → (A → Result B F) → Result B F
or_fault fault (Ok x) f = f x
or_fault fault (Err cause) f = Err (fault cause)
