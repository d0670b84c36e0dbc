use Rattle.std.proofs.Common.{◌≡◌, ◌<◌, ◌^◌, drop}
use Rattle.node_store.specs.Names.{hex_value, value_from}
use Rattle.node_store.proofs.digits.value.Given as goal

abbrev pub invariant-loop-byte : goal.invariant-loop-byte
invariant-loop-byte l =
    (l.value < 16 ^ l.byte-index) × (value_from l.value (drop l.byte-index l.digits) ≡ hex_value l.digits)
