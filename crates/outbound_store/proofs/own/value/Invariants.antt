use Rattle.std.proofs.Common.{◌≡◌, ◌<◌, ◌^◌, take}
use Rattle.outbound_model.specs.OwnNames.{value_behind}
use Rattle.outbound_store.proofs.own.value.Given as goal

abbrev pub invariant-loop-digit : goal.invariant-loop-digit
invariant-loop-digit l = record {
  read : value_behind 0 (take l.digit-index l.digits) ≡ l.value;
  low : l.value < 256 ^ l.digit-index;
}
