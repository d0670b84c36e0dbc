use Rattle.std.proofs.Common.{◌≡◌, ◌++◌, drop, map}
use Rattle.node_model.specs.StoreWords.{slot_of}
use Rattle.outbound_take.specs.Plans.{fates_in}
use Rattle.outbound_take.proofs.lines.fates_of.Given as goal

abbrev pub invariant-loop-line : goal.invariant-loop-line
invariant-loop-line l = fates_in l.fn.lines (map slot_of l.fn.slots) ≡ l.fates.items ++ fates_in (drop l.line-index l.lines) (map slot_of l.rest)
