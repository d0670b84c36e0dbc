use Rattle.std.proofs.Common.{◌∙◌, Ok, Err}
use Rattle.outbound_take.proofs.OurLemmas.{our_on, our_last, our_calm, our_drop, queued_none, queued_some, match_none}
use Rattle.outbound_take.proofs.LeftLemmas.{has_noted, left_one, has_in, names_noted_none, noted_some}
use Rattle.outbound_take.proofs.RuledLemmas.{ruled_call, ruled_on}
use Rattle.outbound_take.proofs.SpareLemmas.{drop_behind, others_so, spare_on}
use Rattle.outbound_take.proofs.taking.take_one.Goals as goal

pub do_actions-requires-clause-calm : goal.do_actions-requires-clause-calm
do_actions-requires-clause-calm g c = our_calm _ _ _ _ _ _ (queued_some _ _ _ c.args.kind _ _ _ _ c.in-Ok-Some.field-0-is c.in-Ok-Some.ensures.works) tt

pub finish_take-requires-clause-recorded : goal.finish_take-requires-clause-recorded
finish_take-requires-clause-recorded g c = has_in c.args.own.now _ _ (c.in-Ok.ensures.left tt ∙ noted_some c.args.own.now _ _ _ _ c.in-Ok-Some.field-0-is c.in-Ok-Some.ensures.noted) (has_noted c.args.own.now _ c.requires.left)

pub returns-in-Err-clause-works : goal.returns-in-Err-clause-works
returns-in-Err-clause-works g c = (c.in-Err.ensures.works.0, c.in-Err.ensures.works.1)

pub returns-in-Ok-None-clause-works : goal.returns-in-Ok-None-clause-works
returns-in-Ok-None-clause-works g c = queued_none _ _ _ _ _ _ _ c.in-Ok-None.field-0-is c.in-Ok-None.ensures.works

pub returns-in-Ok-None-clause-spares : goal.returns-in-Ok-None-clause-spares
returns-in-Ok-None-clause-spares g c = others_so c.args.own.now _ _ c.in-Ok-None.ensures.spares

pub returns-in-Err-do_actions-clause-works : goal.returns-in-Err-do_actions-clause-works
returns-in-Err-do_actions-clause-works g c = (_, our_on _ _ _ _ _ _ _ _ _ (queued_some _ _ _ c.args.kind _ _ _ _ c.in-Ok-Some.field-0-is c.in-Ok-Some.ensures.works) tt c.in-Err-do_actions.ensures.works.1)

pub returns-in-Ok-finish_take-clause-works : goal.returns-in-Ok-finish_take-clause-works
returns-in-Ok-finish_take-clause-works g c = our_last _ _ _ _ _ _ _ _ (our_last _ _ _ _ _ _ _ _ (queued_some _ _ _ c.args.kind _ _ _ _ c.in-Ok-Some.field-0-is c.in-Ok-Some.ensures.works) tt c.in-Ok.ensures.works) tt (our_drop _ _ c.args.own.now (Ok tt) _ _ c.requires.named.addressed c.in-Ok-finish_take.ensures.kept)

pub returns-in-Err-finish_take-clause-works : goal.returns-in-Err-finish_take-clause-works
returns-in-Err-finish_take-clause-works g c = (_, our_last _ _ _ _ _ _ _ _ (our_last _ _ _ _ _ _ _ _ (queued_some _ _ _ c.args.kind _ _ _ _ c.in-Ok-Some.field-0-is c.in-Ok-Some.ensures.works) tt c.in-Ok.ensures.works) tt (our_drop _ _ c.args.own.now (Err c.in-Err-finish_take.fault) _ _ c.requires.named.addressed c.in-Err-finish_take.ensures.kept))

pub returns-in-Ok-finish_take-clause-left : goal.returns-in-Ok-finish_take-clause-left
returns-in-Ok-finish_take-clause-left g c = left_one c.args.own.now _ _ _ (c.in-Ok.ensures.left tt ∙ noted_some c.args.own.now _ _ _ _ c.in-Ok-Some.field-0-is c.in-Ok-Some.ensures.noted) c.in-Ok-finish_take.ensures.memory.left

pub returns-in-Ok-finish_take-clause-spares : goal.returns-in-Ok-finish_take-clause-spares
returns-in-Ok-finish_take-clause-spares g c = drop_behind c.args.own.now _ _ _ _ _ _
    (our_last _ _ _ _ _ _ _ _ (queued_some _ _ _ c.args.kind _ _ _ _ c.in-Ok-Some.field-0-is c.in-Ok-Some.ensures.works) tt c.in-Ok.ensures.works)
    (spare_on _ _ _ _ _ _ c.in-Ok-Some.ensures.works c.in-Ok-Some.ensures.spares c.in-Ok.ensures.spares)
    c.in-Ok-finish_take.ensures.kept

pub returns-in-Ok-None-clause-left : goal.returns-in-Ok-None-clause-left
returns-in-Ok-None-clause-left g c = names_noted_none c.args.own.now _ _ _ c.in-Ok-None.field-0-is c.in-Ok-None.ensures.noted

pub returns-in-Ok-None-clause-over : goal.returns-in-Ok-None-clause-over
returns-in-Ok-None-clause-over g c = match_none _ _ _ c.in-Ok-None.field-0-is c.in-Ok-None.ensures.over

pub returns-in-Err-do_actions-clause-ruled : goal.returns-in-Err-do_actions-clause-ruled
returns-in-Err-do_actions-clause-ruled g c = ruled_on _ _ _ _ c.in-Ok-Some.ensures.ruled c.in-Err-do_actions.ensures.ruled

pub returns-in-Ok-finish_take-clause-ruled : goal.returns-in-Ok-finish_take-clause-ruled
returns-in-Ok-finish_take-clause-ruled g c = ruled_call _ _ _ _ (ruled_on _ _ _ _ c.in-Ok-Some.ensures.ruled c.in-Ok.ensures.ruled) c.in-Ok-finish_take.ensures.rule

pub returns-in-Err-finish_take-clause-ruled : goal.returns-in-Err-finish_take-clause-ruled
returns-in-Err-finish_take-clause-ruled g c = ruled_call _ _ _ _ (ruled_on _ _ _ _ c.in-Ok-Some.ensures.ruled c.in-Ok.ensures.ruled) c.in-Err-finish_take.ensures.rule
