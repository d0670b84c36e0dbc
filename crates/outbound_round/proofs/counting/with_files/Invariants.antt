use Rattle.std.proofs.Common.{◌≡◌, take}
use Rattle.std.specs.List.{flat_map}
use Rattle.outbound_round.specs.Counts.{counts_with, fates_of}
use Rattle.outbound_round.proofs.counting.with_files.Given as goal

abbrev pub invariant-loop-file : goal.invariant-loop-file
invariant-loop-file l = l.more ≡ counts_with (flat_map fates_of (take l.file-index l.files)) l.fn.counts
