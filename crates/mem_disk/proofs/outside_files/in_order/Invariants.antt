use Rattle.std.proofs.Common.{◌≡◌, ◌++◌, length, map}
use Rattle.mem_disk.proofs.outside_files.in_order.Given as goal

abbrev pub invariant-loop-name : goal.invariant-loop-name
invariant-loop-name l = map (λ name. name.list) l.names.items ++ l.found.keys ≡ l.initial.found.keys

abbrev pub decreases-loop-name : goal.decreases-loop-name
decreases-loop-name l = length l.found.keys
