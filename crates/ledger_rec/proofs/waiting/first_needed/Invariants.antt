use Rattle.std.proofs.Common.{map, take}
use Rattle.ftn_addr.specs.Address.{address}
use Rattle.file_index.specs.Turns.{NextTurn}
use Rattle.ledger_rec.specs.Items.{entry}
use Rattle.ledger_rec.specs.Waiting.{is_needed}
use Rattle.ledger_rec.proofs.waiting.first_needed.Given as goal

abbrev pub invariant-loop-item : goal.invariant-loop-item
invariant-loop-item l = NextTurn (is_needed l.need (map entry (take l.item-index l.queue)) (address l.dest)) l.after l.first
