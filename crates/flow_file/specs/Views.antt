-- The items of the code, without where they lie in memory.
use Rattle.std.specs.Prelude.{ℕ, List}
use Rattle.std.specs.Borrow.{Bor}
use Rattle.ftn_addr.specs.declared.source_file.Action.{Action}
use Rattle.flow_file.specs.Item.{FlowItem, Send, Passed}
use Rattle.flow_file.specs.declared.item.FlowLine.{FlowLine}
use Rattle.flow_file.specs.declared.item.FlowLine.TheVariants as code

abbrev pub sent : Action × Bor (List ℕ) → Action × List ℕ
sent (action, path) = (action, path.now)

abbrev pub item : FlowLine → FlowItem
item (code.Send action path) = Send action path.list
item code.Passed = Passed
