use Rattle.std.proofs.Common.{◌≡◌, true, false, length, take, refl, sym, subst, ◌∙◌}
use Rattle.std.specs.Prelude.{Some, slice_get}
use Rattle.std.specs.Ordering.{is_lt}
use Rattle.std.proofs.lemmas.Option.{slice_get_read, slice_get_within}
use Rattle.call_sched.specs.NextCall.{IsFirst, IsNext, item_order}
use Rattle.call_sched.specs.declared.words.Next.{Next}
use Rattle.call_sched.specs.declared.words.Next.TheVariants.{Call}
use Rattle.call_sched.specs.declared.words.Wanted.{Wanted}
use Rattle.call_sched.proofs.Joining.{counted, goes_first, in_all, is_only, item_at, joins, stays_before}
use Rattle.call_sched.proofs.LastTry.{some_is}
use Rattle.call_sched.proofs.following.with_free.Goals as goal

pub returns-else-is_before : goal.returns-else-is_before
returns-else-is_before c =
    let all = c.args.wanted.now in
    let tries = c.args.tries.now.list.now in
    let item = c.index-wanted-place.result in
    let there : slice_get all c.args.place ≡ Some item = slice_get_read all (length all) c.args.place item refl c.requires.place c.index-wanted-place.is in
    let was : IsFirst c.args.now (take c.args.place all) tries c.in-Call.first = subst (λ (n : Next). IsNext c.args.now (take c.args.place all) tries n) c.in-Call.is c.requires.before in
    let at = in_all c.args.place c.in-Call.first all was.item was.there in
    let inside = slice_get_within all c.in-Call.first was.item at in
    let same : c.index-wanted-first.result ≡ was.item = some_is (sym (slice_get_read all (length all) c.in-Call.first c.index-wanted-first.result refl inside c.index-wanted-first.is) ∙ at) in
    let not : is_lt (item_order tries item was.item) ≡ false =
    subst (λ (x : Wanted). is_lt (item_order tries item x) ≡ false) same (sym c.is_before.ensures ∙ c.if-is_before.false) in
    counted c.args.now c.args.place all tries (Call c.in-Call.first) (stays_before c.args.now tries (joins all c.args.place item there) c.in-Call.first was not)

pub returns-then-is_before : goal.returns-then-is_before
returns-then-is_before c =
    let all = c.args.wanted.now in
    let tries = c.args.tries.now.list.now in
    let item = c.index-wanted-place.result in
    let there : slice_get all c.args.place ≡ Some item = slice_get_read all (length all) c.args.place item refl c.requires.place c.index-wanted-place.is in
    let was : IsFirst c.args.now (take c.args.place all) tries c.in-Call.first = subst (λ (n : Next). IsNext c.args.now (take c.args.place all) tries n) c.in-Call.is c.requires.before in
    let at = in_all c.args.place c.in-Call.first all was.item was.there in
    let inside = slice_get_within all c.in-Call.first was.item at in
    let same : c.index-wanted-first.result ≡ was.item = some_is (sym (slice_get_read all (length all) c.in-Call.first c.index-wanted-first.result refl inside c.index-wanted-first.is) ∙ at) in
    let before : is_lt (item_order tries item was.item) ≡ true =
    subst (λ (x : Wanted). is_lt (item_order tries item x) ≡ true) same (sym c.is_before.ensures ∙ c.if-is_before.true) in
    counted c.args.now c.args.place all tries (Call c.args.place) (goes_first c.args.now tries (joins all c.args.place item there) (c.requires.may item there) c.in-Call.first was before)

pub returns-in-WaitUntil : goal.returns-in-WaitUntil
returns-in-WaitUntil c =
    let all = c.args.wanted.now in
    let tries = c.args.tries.now.list.now in
    let it = item_at all c.args.place c.requires.place in
    let was = subst (λ (n : Next). IsNext c.args.now (take c.args.place all) tries n) c.in-WaitUntil.is c.requires.before in
    counted c.args.now c.args.place all tries (Call c.args.place) (is_only c.args.now tries (joins all c.args.place it.0 it.1) (c.requires.may it.0 it.1) was.none)

pub returns-in-Nothing : goal.returns-in-Nothing
returns-in-Nothing c =
    let all = c.args.wanted.now in
    let tries = c.args.tries.now.list.now in
    let it = item_at all c.args.place c.requires.place in
    let was = subst (λ (n : Next). IsNext c.args.now (take c.args.place all) tries n) c.in-Nothing.is c.requires.before in
    counted c.args.now c.args.place all tries (Call c.args.place)
    (is_only c.args.now tries (joins all c.args.place it.0 it.1) (c.requires.may it.0 it.1) (λ k o at m. was k o at (m.0, m.1)))
