use Rattle.std.proofs.Common.{◌≡◌, ◌++◌, length, map}
use Rattle.flow_file.specs.Item.{flow_items}
use Rattle.flow_file.specs.Views.{item}
use Rattle.flow_file.proofs.reading.read_flow.Given as goal

abbrev pub invariant-loop-line : goal.invariant-loop-line
invariant-loop-line l = map item l.items.items ++ flow_items l.rest ≡ flow_items l.bytes

abbrev pub decreases-loop-line : goal.decreases-loop-line
decreases-loop-line l = length l.rest
