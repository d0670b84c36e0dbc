use Rattle.std.proofs.Common.{◌∙◌, ◌+◌, ◌*◌, ap, arith, get_or, sym, ℕ}
use Rattle.outbound_model.specs.OwnNames.{digit_value}
use Rattle.outbound_store.proofs.OwnLemmas.{value_fits, value_low, value_more}
use Rattle.outbound_store.proofs.own.value.Goals as goal

pub overflow_mul-value : goal.overflow_mul-value
overflow_mul-value c =
    let fits = value_fits c.loop-digit.digit-index c.loop-digit.value 0 (omega (arith, c.loop-digit-test.true, c.requires)) c.loop-digit.invariant.low (omega arith) in
    omega (arith, fits)

pub overflow_add-value : goal.overflow_add-value
overflow_add-value c =
    let fits = value_fits c.loop-digit.digit-index c.loop-digit.value c.digit_value.result (omega (arith, c.loop-digit-test.true, c.requires)) c.loop-digit.invariant.low c.digit_value.ensures.low in
    omega (arith, fits)

pub loop-digit-preserved : goal.loop-digit-preserved
loop-digit-preserved c = record {
  read = value_more c.args.digits.now c.loop-digit.digit-index 0 c.loop-digit-test.true ∙ (ap (λ (v : ℕ). v * 16 + digit_value (get_or c.args.digits.now c.loop-digit.digit-index 0)) c.loop-digit.invariant.read ∙ ap (λ (d : ℕ). c.loop-digit.value * 16 + d) (sym c.digit_value.ensures.value));
  low = value_low c.loop-digit.digit-index c.loop-digit.value c.digit_value.result c.loop-digit.invariant.low c.digit_value.ensures.low;
}
