use Rattle.std.proofs.Common.{◌≡◌, ℕ, suc, ◌<◌, take, sym, subst, arith}
use Rattle.std.specs.Prelude.{min}
use Rattle.call_sched.specs.NextCall.{IsNext, IsWait, last_call}
use Rattle.call_sched.specs.Tries.{free_from}
use Rattle.call_sched.specs.declared.words.Next.{Next}
use Rattle.call_sched.specs.declared.words.Next.TheVariants.{WaitUntil}
use Rattle.call_sched.proofs.Joining.{counted, item_at, joins, waits_alone, waits_behind, waits_beside}
use Rattle.call_sched.proofs.following.with_waiting.Goals as goal

pub returns-in-Call : goal.returns-in-Call
returns-in-Call c =
    let all = c.args.wanted.now in
    let tries = c.args.tries.now.list.now in
    let it = item_at all c.args.place c.requires.place in
    let facts = c.requires.counts it.0 it.1 in
    let moment = facts.1 in
    let later : c.args.now < free_from (last_call tries it.0) = omega (arith, c.requires.later) in
    let was = subst (λ (n : Next). IsNext c.args.now (take c.args.place all) tries n) c.in-Call.is c.requires.before in
    counted c.args.now c.args.place all tries c.args.before
    (subst (λ (n : Next). IsNext c.args.now (take (suc c.args.place) all) tries n) (sym c.in-Call.is) (waits_behind c.args.now tries (joins all c.args.place it.0 it.1) later c.in-Call.field-0 was))

pub returns-in-WaitUntil : goal.returns-in-WaitUntil
returns-in-WaitUntil c =
    let all = c.args.wanted.now in
    let tries = c.args.tries.now.list.now in
    let it = item_at all c.args.place c.requires.place in
    let facts = c.requires.counts it.0 it.1 in
    let moment = facts.1 in
    let later : c.args.now < free_from (last_call tries it.0) = omega (arith, c.requires.later) in
    let was = subst (λ (n : Next). IsNext c.args.now (take c.args.place all) tries n) c.in-WaitUntil.is c.requires.before in
    let least : min c.in-WaitUntil.least (free_from (last_call tries it.0)) ≡ c.min.result = omega (arith, c.min.ensures) in
    counted c.args.now c.args.place all tries (WaitUntil c.min.result)
    (subst (λ (n : ℕ). IsWait c.args.now (take (suc c.args.place) all) tries n) least (waits_beside c.args.now tries (joins all c.args.place it.0 it.1) facts.0 later c.in-WaitUntil.least was))

pub returns-in-Nothing : goal.returns-in-Nothing
returns-in-Nothing c =
    let all = c.args.wanted.now in
    let tries = c.args.tries.now.list.now in
    let it = item_at all c.args.place c.requires.place in
    let facts = c.requires.counts it.0 it.1 in
    let moment = facts.1 in
    let later : c.args.now < free_from (last_call tries it.0) = omega (arith, c.requires.later) in
    let was = subst (λ (n : Next). IsNext c.args.now (take c.args.place all) tries n) c.in-Nothing.is c.requires.before in
    counted c.args.now c.args.place all tries (WaitUntil c.args.moment)
    (subst (λ (n : ℕ). IsWait c.args.now (take (suc c.args.place) all) tries n) moment (waits_alone c.args.now tries (joins all c.args.place it.0 it.1) facts.0 later was))
