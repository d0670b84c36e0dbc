use Rattle.std.proofs.Common.{◌≡◌, ◌-◌, ◌<◌, false, length, refl, sym, ap, ◌∙◌, arith}
use Rattle.std.specs.Prelude.{Some, slice_get}
use Rattle.std.specs.Ordering.{is_gt}
use Rattle.std.proofs.lemmas.Option.{slice_get_read, slice_get_within}
use Rattle.call_sched.specs.Tries.{try_order}
use Rattle.call_sched.proofs.Searching.{rises_more}
use Rattle.call_sched.proofs.tries.is_rising.Goals as goal

pub loop-place-preserved : goal.loop-place-preserved
loop-place-preserved c =
    let tries = c.args.tries.now in
    let place = c.loop-place.place in
    let s = c.index-tries-place.result in
    let t = c.index-tries-place-in-loop-place.result in
    let within : place < length tries = omega (arith, c.loop-place-test.true) in
    let before : slice_get tries (place - 1) ≡ Some s = slice_get_read tries (length tries) (place - 1) s refl (omega arith) c.index-tries-place.is in
    let here : slice_get tries place ≡ Some t = slice_get_read tries (length tries) place t refl within c.index-tries-place-in-loop-place.is in
    let up : is_gt (try_order s t) ≡ false = ap is_gt (sym c.order.ensures) ∙ sym c.is_gt.ensures ∙ c.if-is_gt.false in
    rises_more tries place s t (omega (arith, c.loop-place.auto.place)) before here up c.loop-place.invariant

pub returns : goal.returns
returns c = λ _ i k s t lower one two.
    let within = slice_get_within c.args.tries.now k t two in
    c.loop-place.invariant i k s t lower (omega (arith, c.loop-place-test.false)) one two
