-- Calls of desks that tell their counts alone.
use Rattle.std.proofs.Common.{ℕ, true, [], Option, refl, le_refl}
use Rattle.node_model.specs.Calls.{Call, Answer, Counts_alone, Counts, SeatCounts, SeatCounted, Caused, StandBeside, Made_row}
use Rattle.node_model.specs.Images.{Kept}
use Rattle.session_recv.specs.Counted.{counted}

abbrev pub counts : ℕ → ℕ → Option ℕ → Counts
counts faults fulls broken = record { faults = faults; fulls = fulls; broken = broken }

abbrev pub seat_counts : ℕ → ℕ → Option ℕ → ℕ → SeatCounts
seat_counts faults fulls broken reads = record { store = counts faults fulls broken; busy = 0; reads = reads }

pub kept_counted : (faults fulls : ℕ) (broken : Option ℕ) (reads faults' fulls' : ℕ) (broken' : Option ℕ) (reads' : ℕ) (call : Call) (answer : Answer) → StandBeside call [] [] → Caused (counts faults fulls broken) call answer (counts faults' fulls' broken') → SeatCounted (seat_counts faults fulls broken reads) answer (seat_counts faults' fulls' broken' reads') → Kept true (counted faults fulls broken reads) call answer (counted faults' fulls' broken' reads')
kept_counted faults fulls broken reads faults' fulls' broken' reads' call answer beside caused seated =
    let old = Counts_alone (seat_counts faults fulls broken reads) in
    let new = Counts_alone (seat_counts faults' fulls' broken' reads') in
    record {
      rows_before = [];
      rows_after = [];
      made = record { seat = refl; mid = old; drift = refl; rows = record { beside = beside; asks = old; before = refl; answers = new; own = Made_row tt caused seated; after = refl } };
      later = le_refl 0;
      before = λ k d at i. i;
      since = λ k d after at i. absurd i;
      now = λ settles all whole d i. absurd i;
    }
