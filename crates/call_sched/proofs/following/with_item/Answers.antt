use Rattle.std.proofs.Common.{◌≡◌, ◌≤◌, length, refl, sym, ap, subst, ◌∙◌, arith}
use Rattle.std.specs.Prelude.{Some, slice_get}
use Rattle.std.proofs.lemmas.Option.{slice_get_read}
use Rattle.call_sched.specs.NextCall.{Counts, MayCall, last_call}
use Rattle.call_sched.specs.Tries.{free_from}
use Rattle.call_sched.specs.declared.words.Wanted.{Wanted}
use Rattle.call_sched.proofs.Joining.{counted, joins, uncounted}
use Rattle.call_sched.proofs.LastTry.{some_is}
use Rattle.call_sched.proofs.following.with_item.Goals as goal

pub returns-then-not-counts : goal.returns-then-not-counts
returns-then-not-counts c =
    let all = c.args.wanted.now in
    let tries = c.args.tries.now.list.now in
    let item = c.index-wanted-place.result in
    let there : slice_get all c.args.place ≡ Some item = slice_get_read all (length all) c.args.place item refl c.requires.place c.index-wanted-place.is in
    counted c.args.now c.args.place all tries c.args.before (uncounted c.args.now tries (joins all c.args.place item there) (c.counts.ensures.no c.if-not-counts.true) c.args.before c.requires.before)

pub with_free-requires-clause-may : goal.with_free-requires-clause-may
with_free-requires-clause-may c = λ item there.
    let all = c.args.wanted.now in
    let tries = c.args.tries.now.list.now in
    let one = c.index-wanted-place.result in
    let here : slice_get all c.args.place ≡ Some one = slice_get_read all (length all) c.args.place one refl c.requires.place c.index-wanted-place.is in
    let counts = c.counts.ensures.yes c.if-not-counts.false in
    let moment : c.free_from-moment.result ≡ free_from (last_call tries one) = c.free_from-moment.ensures ∙ ap free_from c.last.ensures in
    let free : free_from (last_call tries one) ≤ c.args.now = omega (arith, c.if-moment-now.true) in
    subst (MayCall c.args.now tries) (some_is (sym here ∙ there)) (counts.0, counts.1, free)

pub with_waiting-requires-clause-counts : goal.with_waiting-requires-clause-counts
with_waiting-requires-clause-counts c = λ item there.
    let all = c.args.wanted.now in
    let tries = c.args.tries.now.list.now in
    let one = c.index-wanted-place.result in
    let here : slice_get all c.args.place ≡ Some one = slice_get_read all (length all) c.args.place one refl c.requires.place c.index-wanted-place.is in
    let counts = c.counts.ensures.yes c.if-not-counts.false in
    let moment : c.free_from-moment.result ≡ free_from (last_call tries one) = c.free_from-moment.ensures ∙ ap free_from c.last.ensures in
    let P : Wanted → Type 0 = λ x. Counts x × (free_from (last_call tries x) ≡ c.free_from-moment.result) in
    subst P (some_is (sym here ∙ there)) (counts, sym moment)
