use Rattle.std.proofs.Common.{◌≡◌, ◌++◌, map, take}
use Rattle.std.specs.List.{flat_map}
use Rattle.ledger_rec.specs.Items.{entry}
use Rattle.outbound_lines.specs.Listing.{live_line}
use Rattle.outbound_lines.proofs.listing.push_queue.Given as goal

abbrev pub invariant-loop-item : goal.invariant-loop-item
invariant-loop-item l = l.lines.list ≡ l.fn.lines.list ++ flat_map live_line (map entry (take l.item-index l.queue))
