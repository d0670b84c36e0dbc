use Rattle.std.proofs.Common.{arith}
use Rattle.node_store.proofs.HexDigits.{digits_fit}
use Rattle.node_store.proofs.digits.value.Goals as goal

pub overflow_mul-value : goal.overflow_mul-value
overflow_mul-value c =
    omega (arith, digits_fit c.loop-byte.byte-index c.loop-byte.value (omega arith) c.loop-byte.invariant.0)

pub overflow_add-value : goal.overflow_add-value
overflow_add-value c =
    omega (arith, digits_fit c.loop-byte.byte-index c.loop-byte.value (omega arith) c.loop-byte.invariant.0, c.in-Some.ensures.small)
