use Rattle.std.proofs.Common.{map, take}
use Rattle.ledger_rec.specs.Items.{entry}
use Rattle.outbound_places.specs.Outbound.{Adds, Grows, OneOf}
use Rattle.outbound_addresses.specs.Own.{IsActionFor}
use Rattle.outbound_addresses.proofs.own.note_actions.Given as goal

abbrev pub invariant-loop-item : goal.invariant-loop-item
invariant-loop-item l = record {
  grows : Grows l.fn.found l.found;
  adds : Adds (OneOf (IsActionFor l.domain.list) (map entry (take l.item-index l.queue))) l.fn.found l.found;
}
