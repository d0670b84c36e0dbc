use Rattle.std.proofs.Common.{take}
use Rattle.outbound_places.specs.Outbound.{Adds, Grows, OneOf}
use Rattle.outbound_addresses.specs.Own.{IsTakeOf}
use Rattle.outbound_addresses.proofs.own.note_takes.Given as goal

abbrev pub invariant-loop-taken : goal.invariant-loop-taken
invariant-loop-taken l = record {
  grows : Grows l.fn.found l.found;
  adds : Adds (OneOf IsTakeOf (take l.taken-index l.takes)) l.fn.found l.found;
}
