-- What one end of a line in memory tells, and what carrying bytes from end to end does (own).
use Rattle.std.specs.Prelude.{◌≡◌, ℕ, zero, suc, Bool, true, false, min, List, [], ◌++◌, length, take, drop, option_map}
use Rattle.binkp_link.specs.Lines.{LineState, LineBytes}
use Rattle.binkp_link.specs.MemLines.{new_line}
use Rattle.binkp_link.specs.declared.link.ReadAnswer.{ReadAnswer}
use Rattle.binkp_link.specs.declared.link.ReadAnswer.TheVariants as R
use Rattle.binkp_link.specs.declared.link.WriteAnswer.{WriteAnswer}
use Rattle.binkp_link.specs.declared.link.WriteAnswer.TheVariants as W

-- one end: the line, the bytes written on it that weren't carried to the other end yet, and whether it is cut
pub record Pipe : Type 0 where
  pub line : LineState
  pub waiting : List ℕ
  pub cut : Bool

-- an end on which nothing came or was written
abbrev pub new_pipe : Pipe
new_pipe = record { line = new_line []; waiting = []; cut = false }

-- With these bytes behind those still to come.
abbrev pub coming_too : List ℕ → LineState → LineState
coming_too more line =
    record line { bytes = option_map (λ (bytes : LineBytes). record bytes { coming = bytes.coming ++ more }) line.bytes }

-- What a read finds to which so many bytes come: these; else nothing yet, where it doesn't wait; else the end, where the
-- line is cut.
abbrev pub pipe_finds : Bool → Bool → ℕ → ReadAnswer
pipe_finds wait cut (suc n) = R.Came (suc n)
pipe_finds false cut zero = R.NotYet
pipe_finds true true zero = R.End
pipe_finds true false zero = R.Quiet

-- A write takes all bytes, but none after a cut, or where no memory is left for them.
abbrev pub PipeWrites : (cut : Bool) → WriteAnswer → List ℕ → Type 0
PipeWrites false (W.Wrote n) bytes = n ≡ length bytes
PipeWrites true (W.Wrote n) bytes = ⊥
PipeWrites cut W.Quiet bytes = ⊥
PipeWrites cut W.Failed bytes = Unit {0}

-- the first n bytes that wait at one end, at most so many and no fewer than there are, are behind those to come at the other
pub record Carries (most n : ℕ) (near far near' far' : Pipe) : Type 0 where
  pub many : n ≡ min most (length near.waiting)
  pub near_is : near' ≡ record near { waiting = drop n near.waiting }
  pub far_is : far' ≡ record far { line = coming_too (take n near.waiting) far.line }
