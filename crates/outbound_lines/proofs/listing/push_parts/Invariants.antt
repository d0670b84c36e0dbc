use Rattle.std.proofs.Common.{◌≡◌, ◌++◌, map, take}
use Rattle.std.specs.List.{flat_map}
use Rattle.ledger_rec.specs.Items.{part_mark}
use Rattle.outbound_lines.specs.Listing.{part_line}
use Rattle.outbound_lines.proofs.listing.push_parts.Given as goal

abbrev pub invariant-loop-item : goal.invariant-loop-item
invariant-loop-item l = l.lines.list ≡ l.fn.lines.list ++ flat_map part_line (map part_mark (take l.item-index l.marks))
