use Rattle.std.proofs.Common.{◌≡◌, take}
use Rattle.node_store.specs.Opening.{greatest as greatest_of}
use Rattle.node_store.proofs.opening.numbers.greatest.Given as goal

abbrev pub invariant-loop-number : goal.invariant-loop-number
invariant-loop-number l = l.most ≡ greatest_of (take l.number-index l.numbers)
