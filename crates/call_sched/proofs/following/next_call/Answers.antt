use Rattle.std.proofs.Common.{◌≡◌, List, take, subst, arith}
use Rattle.std.proofs.lemmas.List.{take_all}
use Rattle.call_sched.specs.NextCall.{IsNext}
use Rattle.call_sched.specs.declared.words.Try.{Try}
use Rattle.call_sched.specs.declared.words.Wanted.{Wanted}
use Rattle.call_sched.proofs.following.next_call.Goals as goal

pub returns : goal.returns
returns c =
    let whole : take c.loop-place.place c.args.wanted.now ≡ c.args.wanted.now = take_all c.loop-place.place c.args.wanted.now (omega (arith, c.loop-place-test.false)) in
    subst (λ (all : List Wanted). IsNext c.args.now all c.args.tries.now c.loop-place.next) whole
    (subst (λ (tries : List Try). IsNext c.args.now (take c.loop-place.place c.args.wanted.now) tries c.loop-place.next) c.new-tries.ensures c.loop-place.invariant)
