-- What a line over a reader and a writer of the system tells (own).
use Rattle.std.specs.Prelude.{ℕ, ◌<◌, ◌≤◌, List, [], length, take, Option, None}
use Rattle.std.specs.Io.KnownBytes.{Keeps, Appends, Consumes, IsAtEnd}
use Rattle.binkp_link.specs.Lines.{LineState}
use Rattle.binkp_link.specs.Tallies.{counted, nothing_counted}
use Rattle.binkp_link.specs.declared.counting.Tally.{Tally}
use Rattle.binkp_link.specs.declared.link.ReadAnswer.{ReadAnswer}
use Rattle.binkp_link.specs.declared.link.ReadAnswer.TheVariants as R
use Rattle.binkp_link.specs.declared.link.WriteAnswer.{WriteAnswer}
use Rattle.binkp_link.specs.declared.link.WriteAnswer.TheVariants as W

-- its counts, and nothing of its bytes
abbrev pub system_line : Tally → LineState
system_line tally = counted tally None

abbrev pub new_system_line : LineState
new_system_line = system_line nothing_counted

-- one read of what has come: bytes, the end, nothing yet, or a failure
abbrev pub HasCome : ReadAnswer → List ℕ → Type 0
HasCome (R.Came n) buffer = (0 < n) × (n ≤ length buffer)
HasCome R.End buffer = Unit {0}
HasCome R.NotYet buffer = Unit {0}
HasCome R.Quiet buffer = ⊥
HasCome R.Failed buffer = Unit {0}

-- What a reader that tells its bytes lost: none where none came.
abbrev pub HasRead : ReadAnswer → List ℕ → Option (List ℕ) → Option (List ℕ) → Type 0
HasRead (R.Came n) buffer old new = Consumes old new (take n buffer)
HasRead R.End buffer old new = Consumes old new [] × IsAtEnd new
HasRead R.NotYet buffer old new = Keeps old new
HasRead R.Quiet buffer old new = Keeps old new
HasRead R.Failed buffer old new = Keeps old new

-- And what a writer that does got: a front of the bytes, or none.
abbrev pub HasWritten : WriteAnswer → List ℕ → Option (List ℕ) → Option (List ℕ) → Type 0
HasWritten (W.Wrote n) bytes old new = Appends old new (take n bytes)
HasWritten W.Quiet bytes old new = Keeps old new
HasWritten W.Failed bytes old new = Keeps old new
