use Rattle.std.proofs.Common.{◌∙◌, [], Some, Ok, Err, refl, sym, ap}
use Rattle.ftn_addr.specs.Address.{address}
use Rattle.outbound_take.specs.Calls.{with_take}
use Rattle.outbound_take.proofs.EndLemmas.{absent_done, absent_told, done_same, is_moved, only_over, only_same, only_took, overs_same, overs_taken, taken_done, taken_in}
use Rattle.outbound_take.proofs.LeftLemmas.{has_from, names_none, names_some}
use Rattle.outbound_take.proofs.OurLemmas.{match_none, our_calm, our_on, our_same, our_silent, our_take, queued_none, queued_some}
use Rattle.outbound_take.proofs.OverLemmas.{overs_more}
use Rattle.outbound_take.proofs.RuledLemmas.{ruled_call, ruled_on}
use Rattle.outbound_take.proofs.WorkLemmas.{same_told}
use Rattle.outbound_take.proofs.moving.take_found.Goals as goal

pub can_take-requires : goal.can_take-requires
can_take-requires g c = c.requires.whole

pub returns-in-Ok-false-clause-works : goal.returns-in-Ok-false-clause-works
returns-in-Ok-false-clause-works g c = our_same _ _ _ _ _ c.in-Ok-false.ensures.kept

pub returns-in-Ok-false-clause-whole : goal.returns-in-Ok-false-clause-whole
returns-in-Ok-false-clause-whole g c = λ u. (c.in-Ok-false.ensures.memory tt).broken

pub returns-in-Ok-false-clause-left : goal.returns-in-Ok-false-clause-left
returns-in-Ok-false-clause-left g c = λ over h. only_same _ over _ _ (c.in-Ok-false.ensures.memory tt).left h

pub returns-in-Ok-false-clause-over : goal.returns-in-Ok-false-clause-over
returns-in-Ok-false-clause-over g c = λ over h. overs_same _ over _ _ (same_told _ _ _ c.in-Ok-false.ensures.kept tt) h

pub returns-in-Ok-false-clause-done : goal.returns-in-Ok-false-clause-done
returns-in-Ok-false-clause-done g c = done_same _ _ _ _ (same_told _ _ _ c.in-Ok-false.ensures.kept tt) (c.in-Ok-false.ensures.done c.in-Ok-false.field-0-test)

pub returns-in-Err-clause-works : goal.returns-in-Err-clause-works
returns-in-Err-clause-works g c = ([], our_same _ _ _ _ _ c.in-Err.ensures.kept)

pub returns-in-Err-clause-whole : goal.returns-in-Err-clause-whole
returns-in-Err-clause-whole g c = λ u. (c.in-Err.ensures.memory u).broken

pub next_take-requires : goal.next_take-requires
next_take-requires g c = (c.in-Ok-true.ensures.memory tt).broken

pub returns-in-Err-next_take-clause-works : goal.returns-in-Err-next_take-clause-works
returns-in-Err-next_take-clause-works g c = (_, our_on _ _ _ _ _ _ _ _ _ (our_same _ _ _ _ _ c.in-Ok-true.ensures.kept) tt (our_same _ _ _ _ _ c.in-Err-next_take.ensures.kept))

pub returns-in-Err-next_take-clause-whole : goal.returns-in-Err-next_take-clause-whole
returns-in-Err-next_take-clause-whole g c = λ u. (c.in-Err-next_take.ensures.err u).broken

pub take_file-requires-clause-whole : goal.take_file-requires-clause-whole
take_file-requires-clause-whole g c = c.in-Ok.ensures.drawn.broken

pub take_file-requires-clause-drawn : goal.take_file-requires-clause-drawn
take_file-requires-clause-drawn g c = c.in-Ok.ensures.drawn.drawn ∙ sym (ap Some c.own_name-own.ensures.number)

pub returns-in-Ok-Absent-clause-works : goal.returns-in-Ok-Absent-clause-works
returns-in-Ok-Absent-clause-works g c = our_on _ _ _ _ _ _ _ _ _ (our_on _ _ _ _ _ _ _ _ _ (our_same _ _ _ _ _ c.in-Ok-true.ensures.kept) tt (our_same _ _ _ _ _ c.in-Ok.ensures.kept)) tt (our_take _ _ c.args.path.now.list _ (Ok c.in-Ok-Absent.field-0) _ _ c.own_name-own.ensures.named.addressed c.in-Ok-Absent.ensures.kept)

pub returns-in-Ok-Absent-clause-whole : goal.returns-in-Ok-Absent-clause-whole
returns-in-Ok-Absent-clause-whole g c = λ u. (c.in-Ok-Absent.ensures.absent c.in-Ok-Absent.field-0-is).broken

pub returns-in-Ok-Absent-clause-left : goal.returns-in-Ok-Absent-clause-left
returns-in-Ok-Absent-clause-left g c = λ over h. only_same _ over _ _ ((c.in-Ok-Absent.ensures.absent c.in-Ok-Absent.field-0-is).left ∙ (c.in-Ok.ensures.drawn.left ∙ (c.in-Ok-true.ensures.memory tt).left)) h

pub returns-in-Ok-Absent-clause-over : goal.returns-in-Ok-Absent-clause-over
returns-in-Ok-Absent-clause-over g c = λ over h. overs_same _ over _ _ (absent_told c.args.path.now.list c.own_name-own.result _ _ _ c.in-Ok-Absent.field-0-is c.in-Ok-Absent.ensures.kept ∙ (same_told _ _ _ c.in-Ok.ensures.kept tt ∙ same_told _ _ _ c.in-Ok-true.ensures.kept tt)) h

pub returns-in-Ok-Absent-clause-done : goal.returns-in-Ok-Absent-clause-done
returns-in-Ok-Absent-clause-done g c = absent_done c.args.path.now.list c.own_name-own.result _ _ _ _ c.in-Ok-Absent.field-0-is c.in-Ok-Absent.ensures.kept

pub returns-in-Err-take_file-clause-works : goal.returns-in-Err-take_file-clause-works
returns-in-Err-take_file-clause-works g c = (_, our_on _ _ _ _ _ _ _ _ _ (our_on _ _ _ _ _ _ _ _ _ (our_same _ _ _ _ _ c.in-Ok-true.ensures.kept) tt (our_same _ _ _ _ _ c.in-Ok.ensures.kept)) tt (our_take _ _ c.args.path.now.list _ (Err c.in-Err-take_file.fault) _ _ c.own_name-own.ensures.named.addressed c.in-Err-take_file.ensures.kept))

pub returns-in-Err-take_file-clause-whole : goal.returns-in-Err-take_file-clause-whole
returns-in-Err-take_file-clause-whole g c = λ u. (c.in-Err-take_file.ensures.err u).broken

pub take_one-requires-clause-whole : goal.take_one-requires-clause-whole
take_one-requires-clause-whole g c = (c.in-Ok-Done.ensures.done c.in-Ok-Done.field-0-is).broken

pub take_one-requires-clause-calm : goal.take_one-requires-clause-calm
take_one-requires-clause-calm g c = our_calm (address c.args.dest.now) c.args.now _ _ _ _ (our_on _ _ _ _ _ _ _ _ _ (our_on _ _ _ _ _ _ _ _ _ (our_same _ _ _ _ _ c.in-Ok-true.ensures.kept) tt (our_same _ _ _ _ _ c.in-Ok.ensures.kept)) tt (our_take _ _ c.args.path.now.list _ (Ok c.in-Ok-Done.field-0) _ _ c.own_name-own.ensures.named.addressed c.in-Ok-Done.ensures.kept)) tt

pub take_one-requires-clause-address : goal.take_one-requires-clause-address
take_one-requires-clause-address g c = c.requires.address

pub take_one-requires-clause-named : goal.take_one-requires-clause-named
take_one-requires-clause-named g c = c.own_name-own.ensures.named

pub take_one-requires-clause-left : goal.take_one-requires-clause-left
take_one-requires-clause-left g c = has_from _ _ _ (c.in-Ok-Done.ensures.done c.in-Ok-Done.field-0-is).left

pub returns-in-Ok-Some-clause-works : goal.returns-in-Ok-Some-clause-works
returns-in-Ok-Some-clause-works g c = our_on _ _ _ _ _ _ _ _ _ (our_on _ _ _ _ _ _ _ _ _ (our_on _ _ _ _ _ _ _ _ _ (our_same _ _ _ _ _ c.in-Ok-true.ensures.kept) tt (our_same _ _ _ _ _ c.in-Ok.ensures.kept)) tt (our_take _ _ c.args.path.now.list _ (Ok c.in-Ok-Done.field-0) _ _ c.own_name-own.ensures.named.addressed c.in-Ok-Done.ensures.kept)) tt (queued_some _ _ _ c.args.kind _ _ _ _ c.in-Ok-Some.field-0-is c.in-Ok-Some.ensures.works)

pub returns-in-Ok-Some-clause-whole : goal.returns-in-Ok-Some-clause-whole
returns-in-Ok-Some-clause-whole g c = λ u. c.in-Ok-Some.ensures.whole tt

pub returns-in-Ok-Some-clause-left : goal.returns-in-Ok-Some-clause-left
returns-in-Ok-Some-clause-left g c = λ over h. only_took _ over c.own_name-own.result _ _ _ ((c.in-Ok-Done.ensures.done c.in-Ok-Done.field-0-is).left ∙ ap (with_take c.own_name-own.result) (c.in-Ok.ensures.drawn.left ∙ (c.in-Ok-true.ensures.memory tt).left)) (names_some c.own_name-own.result _ _ _ _ c.in-Ok-Some.field-0-is c.in-Ok-Some.ensures.left) h

pub returns-in-Ok-Some-clause-over : goal.returns-in-Ok-Some-clause-over
returns-in-Ok-Some-clause-over g c = λ over h. overs_taken _ c.own_name-own.result over (g.S.Outgoing.stand c.args.store.now) _ (our_silent _ _ _ _ _ _ (our_on _ _ _ _ _ _ _ _ _ (our_on _ _ _ _ _ _ _ _ _ (our_on _ _ _ _ _ _ _ _ _ (our_same _ _ _ _ _ c.in-Ok-true.ensures.kept) tt (our_same _ _ _ _ _ c.in-Ok.ensures.kept)) tt (our_take _ _ c.args.path.now.list _ (Ok c.in-Ok-Done.field-0) _ _ c.own_name-own.ensures.named.addressed c.in-Ok-Done.ensures.kept)) tt (queued_some _ _ _ c.args.kind _ _ _ _ c.in-Ok-Some.field-0-is c.in-Ok-Some.ensures.works))) (taken_in _ _ _ _ _ _ (same_told _ _ _ c.in-Ok.ensures.kept tt ∙ same_told _ _ _ c.in-Ok-true.ensures.kept tt) (is_moved _ _ _ _ _ c.in-Ok-Done.field-0-is c.in-Ok-Done.ensures.kept) c.in-Ok-Some.ensures.spares) h

pub returns-in-Ok-Some-clause-done : goal.returns-in-Ok-Some-clause-done
returns-in-Ok-Some-clause-done g c = taken_done _ _ _ _ _ _ _ _ _ _ (is_moved _ _ _ _ _ c.in-Ok-Done.field-0-is c.in-Ok-Done.ensures.kept) c.in-Ok-Some.ensures.works tt

pub returns-in-Ok-None-clause-works : goal.returns-in-Ok-None-clause-works
returns-in-Ok-None-clause-works g c = our_on _ _ _ _ _ _ _ _ _ (our_on _ _ _ _ _ _ _ _ _ (our_on _ _ _ _ _ _ _ _ _ (our_same _ _ _ _ _ c.in-Ok-true.ensures.kept) tt (our_same _ _ _ _ _ c.in-Ok.ensures.kept)) tt (our_take _ _ c.args.path.now.list _ (Ok c.in-Ok-Done.field-0) _ _ c.own_name-own.ensures.named.addressed c.in-Ok-Done.ensures.kept)) tt (queued_none _ _ _ c.args.kind _ _ _ c.in-Ok-None.field-0-is c.in-Ok-None.ensures.works)

pub returns-in-Ok-None-clause-whole : goal.returns-in-Ok-None-clause-whole
returns-in-Ok-None-clause-whole g c = λ u. c.in-Ok-None.ensures.whole tt

pub returns-in-Ok-None-clause-left : goal.returns-in-Ok-None-clause-left
returns-in-Ok-None-clause-left g c = λ over h. only_over _ over c.own_name-own.result _ _ _ _ ((c.in-Ok-Done.ensures.done c.in-Ok-Done.field-0-is).left ∙ ap (with_take c.own_name-own.result) (c.in-Ok.ensures.drawn.left ∙ (c.in-Ok-true.ensures.memory tt).left)) (names_none c.own_name-own.result _ _ _ c.in-Ok-None.field-0-is c.in-Ok-None.ensures.left) c.own_name-own.ensures.number h

pub returns-in-Ok-None-clause-over : goal.returns-in-Ok-None-clause-over
returns-in-Ok-None-clause-over g c = λ over h. overs_more _ over _ c.own_name-own.result c.args.kind _ _ c.own_name-own.ensures.named c.own_name-own.ensures.number (match_none _ _ _ c.in-Ok-None.field-0-is c.in-Ok-None.ensures.over) refl (overs_taken _ c.own_name-own.result over (g.S.Outgoing.stand c.args.store.now) _ (our_silent _ _ _ _ _ _ (our_on _ _ _ _ _ _ _ _ _ (our_on _ _ _ _ _ _ _ _ _ (our_on _ _ _ _ _ _ _ _ _ (our_same _ _ _ _ _ c.in-Ok-true.ensures.kept) tt (our_same _ _ _ _ _ c.in-Ok.ensures.kept)) tt (our_take _ _ c.args.path.now.list _ (Ok c.in-Ok-Done.field-0) _ _ c.own_name-own.ensures.named.addressed c.in-Ok-Done.ensures.kept)) tt (queued_none _ _ _ c.args.kind _ _ _ c.in-Ok-None.field-0-is c.in-Ok-None.ensures.works))) (taken_in _ _ _ _ _ _ (same_told _ _ _ c.in-Ok.ensures.kept tt ∙ same_told _ _ _ c.in-Ok-true.ensures.kept tt) (is_moved _ _ _ _ _ c.in-Ok-Done.field-0-is c.in-Ok-Done.ensures.kept) c.in-Ok-None.ensures.spares) h)

pub returns-in-Ok-None-clause-done : goal.returns-in-Ok-None-clause-done
returns-in-Ok-None-clause-done g c = taken_done _ _ _ _ _ _ _ _ _ _ (is_moved _ _ _ _ _ c.in-Ok-Done.field-0-is c.in-Ok-Done.ensures.kept) c.in-Ok-None.ensures.works tt

pub returns-in-Err-take_one-clause-works : goal.returns-in-Err-take_one-clause-works
returns-in-Err-take_one-clause-works g c = (_, our_on _ _ _ _ _ _ _ _ _ (our_on _ _ _ _ _ _ _ _ _ (our_on _ _ _ _ _ _ _ _ _ (our_same _ _ _ _ _ c.in-Ok-true.ensures.kept) tt (our_same _ _ _ _ _ c.in-Ok.ensures.kept)) tt (our_take _ _ c.args.path.now.list _ (Ok c.in-Ok-Done.field-0) _ _ c.own_name-own.ensures.named.addressed c.in-Ok-Done.ensures.kept)) tt c.in-Err-take_one.ensures.works.1)

pub returns-in-Err-take_one-clause-whole : goal.returns-in-Err-take_one-clause-whole
returns-in-Err-take_one-clause-whole g c = c.in-Err-take_one.ensures.whole

pub returns-in-Err-next_take-clause-ruled : goal.returns-in-Err-next_take-clause-ruled
returns-in-Err-next_take-clause-ruled g c = ruled_call _ _ _ _ c.in-Ok-true.ensures.ruled c.in-Err-next_take.ensures.rule

pub returns-in-Ok-Absent-clause-ruled : goal.returns-in-Ok-Absent-clause-ruled
returns-in-Ok-Absent-clause-ruled g c = ruled_call _ _ _ _ (ruled_call _ _ _ _ c.in-Ok-true.ensures.ruled c.in-Ok.ensures.rule) c.in-Ok-Absent.ensures.rule

pub returns-in-Err-take_file-clause-ruled : goal.returns-in-Err-take_file-clause-ruled
returns-in-Err-take_file-clause-ruled g c = ruled_call _ _ _ _ (ruled_call _ _ _ _ c.in-Ok-true.ensures.ruled c.in-Ok.ensures.rule) c.in-Err-take_file.ensures.rule

pub returns-in-Ok-Some-clause-ruled : goal.returns-in-Ok-Some-clause-ruled
returns-in-Ok-Some-clause-ruled g c = ruled_on _ _ _ _ (ruled_call _ _ _ _ (ruled_call _ _ _ _ c.in-Ok-true.ensures.ruled c.in-Ok.ensures.rule) c.in-Ok-Done.ensures.rule) c.in-Ok-Some.ensures.ruled

pub returns-in-Ok-None-clause-ruled : goal.returns-in-Ok-None-clause-ruled
returns-in-Ok-None-clause-ruled g c = ruled_on _ _ _ _ (ruled_call _ _ _ _ (ruled_call _ _ _ _ c.in-Ok-true.ensures.ruled c.in-Ok.ensures.rule) c.in-Ok-Done.ensures.rule) c.in-Ok-None.ensures.ruled

pub returns-in-Err-take_one-clause-ruled : goal.returns-in-Err-take_one-clause-ruled
returns-in-Err-take_one-clause-ruled g c = ruled_on _ _ _ _ (ruled_call _ _ _ _ (ruled_call _ _ _ _ c.in-Ok-true.ensures.ruled c.in-Ok.ensures.rule) c.in-Ok-Done.ensures.rule) c.in-Err-take_one.ensures.ruled
