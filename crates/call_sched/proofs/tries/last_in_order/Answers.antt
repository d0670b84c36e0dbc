use Rattle.std.proofs.Common.{◌≡◌, ◌+◌, ◌-◌, ◌/◌, ◌<◌, length, refl, sym, ap, subst, ◌∙◌, arith}
use Rattle.std.specs.Prelude.{Some, slice_get}
use Rattle.std.specs.Ordering.{is_gt}
use Rattle.std.proofs.lemmas.Option.{slice_get_read}
use Rattle.ftn_addr.specs.Address.{address}
use Rattle.call_sched.proofs.Searching.{IsPast, IsUpTo, all_past, all_up_to, last_there, none_at_all, none_there}
use Rattle.call_sched.proofs.tries.last_in_order.Goals as goal

pub loop-low-preserved-then-is_gt : goal.loop-low-preserved-then-is_gt
loop-low-preserved-then-is_gt c =
    let tries = c.args.tries.now in
    let a = address c.args.addr.now in
    let middle = c.loop-low.low + (c.loop-low.high - c.loop-low.low) / 2 in
    let m = c.index-tries-middle.result in
    let within : middle < length tries = omega (arith, c.loop-low-test.true, c.loop-low.invariant.within) in
    let here : slice_get tries middle ≡ Some m = slice_get_read tries (length tries) middle m refl within c.index-tries-middle.is in
    let past : IsPast a m = subst (IsPast a) (sym c.index-tries-middle.is) (ap is_gt (sym c.address_order.ensures) ∙ sym c.is_gt.ensures ∙ c.if-is_gt.true) in
    record {
      below = c.loop-low.invariant.below;
      above = λ k t from there. all_past tries a c.requires middle m here past k t from there;
      order = omega (arith, c.loop-low-test.true);
      within = omega (arith, c.loop-low.invariant.within);
    }

pub loop-low-preserved : goal.loop-low-preserved
loop-low-preserved c =
    let tries = c.args.tries.now in
    let a = address c.args.addr.now in
    let middle = c.loop-low.low + (c.loop-low.high - c.loop-low.low) / 2 in
    let m = c.index-tries-middle.result in
    let within : middle < length tries = omega (arith, c.loop-low-test.true, c.loop-low.invariant.within) in
    let here : slice_get tries middle ≡ Some m = slice_get_read tries (length tries) middle m refl within c.index-tries-middle.is in
    let up : IsUpTo a m = subst (IsUpTo a) (sym c.index-tries-middle.is) (ap is_gt (sym c.address_order.ensures) ∙ sym c.is_gt.ensures ∙ c.if-is_gt.false) in
    record {
      below = λ k t inside there. all_up_to tries a c.requires middle m here up k t inside there;
      above = c.loop-low.invariant.above;
      order = omega (arith, c.loop-low-test.true);
      within = c.loop-low.invariant.within;
    }

pub returns-then-low-eq0 : goal.returns-then-low-eq0
returns-then-low-eq0 c =
    none_at_all c.args.tries.now (address c.args.addr.now) (λ k t there. c.loop-low.invariant.above k t (omega (arith, c.loop-low-test.false, c.if-low-eq0.true)) there)

pub returns-then-is_same_address : goal.returns-then-is_same_address
returns-then-is_same_address c =
    let tries = c.args.tries.now in
    let low = c.loop-low.low in
    let m = c.index-tries-low.result in
    let positive : 0 < low = omega (arith, c.if-low-eq0.false) in
    let here : slice_get tries (low - 1) ≡ Some m = slice_get_read tries (length tries) (low - 1) m refl (omega (arith, c.loop-low.invariant.order, c.loop-low.invariant.within)) c.index-tries-low.is in
    last_there tries (address c.args.addr.now) c.requires low m positive here
    (λ k t from there. c.loop-low.invariant.above k t (omega (arith, c.loop-low-test.false)) there) (sym c.is_same_address.ensures ∙ c.if-is_same_address.true)

pub returns-else-is_same_address : goal.returns-else-is_same_address
returns-else-is_same_address c =
    let tries = c.args.tries.now in
    let low = c.loop-low.low in
    let m = c.index-tries-low.result in
    let positive : 0 < low = omega (arith, c.if-low-eq0.false) in
    let here : slice_get tries (low - 1) ≡ Some m = slice_get_read tries (length tries) (low - 1) m refl (omega (arith, c.loop-low.invariant.order, c.loop-low.invariant.within)) c.index-tries-low.is in
    none_there tries (address c.args.addr.now) c.requires low m positive here (c.loop-low.invariant.below (low - 1) m (omega arith) here)
    (λ k t from there. c.loop-low.invariant.above k t (omega (arith, c.loop-low-test.false)) there) (sym c.is_same_address.ensures ∙ c.if-is_same_address.false)
