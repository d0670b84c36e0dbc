use Rattle.std.proofs.Common.{◌≡◌, ◌++◌, map, take, drop}
use Rattle.node_store.specs.Takes.{noted}
use Rattle.node_store.proofs.takes.note_each.Given as goal

abbrev pub invariant-loop-standing : goal.invariant-loop-standing
invariant-loop-standing l =
    l.left ≡ map (noted l.take) (take l.standing-index l.initial.left) ++ drop l.standing-index l.initial.left
