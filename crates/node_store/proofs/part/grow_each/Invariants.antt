use Rattle.std.proofs.Common.{◌≡◌, ◌++◌, map, take, drop}
use Rattle.node_store.specs.Stored.{grown}
use Rattle.node_store.proofs.part.grow_each.Given as goal

abbrev pub invariant-loop-part : goal.invariant-loop-part
invariant-loop-part l =
    l.parts ≡ map (grown l.number l.more) (take l.part-index l.initial.parts) ++ drop l.part-index l.initial.parts
