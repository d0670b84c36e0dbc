use Rattle.std.proofs.Common.{Bool, Ok, Err, length, refl, ap, sym, subst, arith}
use Rattle.outbound_take.specs.Calls.{Has}
use Rattle.outbound_take.specs.Ours.{all_took}
use Rattle.outbound_take.proofs.OurLemmas.{our_on, our_last, our_none, our_calm, our_drop, our_files, queued_none, queued_some, match_none}
use Rattle.outbound_take.proofs.LeftLemmas.{took_more, fewer_without, fewer_names, names_gone, names_none, names_some}
use Rattle.outbound_take.proofs.OverLemmas.{below_more, each_none, only_told, overs_below, overs_more, told_more, told_none, told_removed, first_great}
use Rattle.outbound_take.proofs.RuledLemmas.{ruled_call, ruled_none, ruled_on}
use Rattle.outbound_take.proofs.SpareLemmas.{drop_so}
use Rattle.outbound_take.proofs.resting.take_rest.Goals as goal

pub takes-init : goal.takes-init
takes-init g c = record {
  works = our_files _ _ _ _ _ _ _ (sym (ap all_took c.new-files.ensures.items)) (our_none _ _ _ (g.S.Outgoing.stand c.args.store.now) c.requires.calm);
  whole = c.requires.whole;
  told_so = told_none _ _ _;
  below = each_none _ _ c.new-over.ensures.items;
  overs = λ s tells. each_none _ _ c.new-over.ensures.items;
  ruled = ruled_none _ _ _ refl;
}

pub returns-in-None-clause-left : goal.returns-in-None-clause-left
returns-in-None-clause-left g c = only_told _ _ _ _ c.in-None.ensures c.takes.invariant.told_so

pub finish_take-requires-clause-recorded : goal.finish_take-requires-clause-recorded
finish_take-requires-clause-recorded g c = subst (λ (b : Bool). Has c.in-Some.take.own b (g.S.Outgoing.stand c.takes.store).memory.left) c.if-take.true c.in-Some.ensures.stands

pub returns-in-Err-clause-works : goal.returns-in-Err-clause-works
returns-in-Err-clause-works g c = (_, our_last _ _ _ _ _ _ _ _ c.takes.invariant.works tt (our_drop _ _ c.in-Some.take.own (Err c.in-Err.fault) _ _ c.in-Some.ensures.named.addressed c.in-Err.ensures.kept))

pub take_one-requires-clause-calm : goal.take_one-requires-clause-calm
take_one-requires-clause-calm g c = our_calm _ _ _ _ _ _ c.takes.invariant.works tt

pub take_one-requires-clause-left : goal.take_one-requires-clause-left
take_one-requires-clause-left g c = subst (λ (b : Bool). Has c.in-Some.take.own b (g.S.Outgoing.stand c.takes.store).memory.left) c.if-take.false c.in-Some.ensures.stands

pub returns-in-Err-take_one-clause-works : goal.returns-in-Err-take_one-clause-works
returns-in-Err-take_one-clause-works g c = (_, our_on _ _ _ _ _ _ _ _ _ c.takes.invariant.works tt c.in-Err-take_one.ensures.works.1)

pub returns-in-Err-push-clause-works : goal.returns-in-Err-push-clause-works
returns-in-Err-push-clause-works g c = (_, our_on _ _ _ _ _ _ _ _ _ c.takes.invariant.works tt c.in-Ok-Some.ensures.works)

pub returns-in-Err-push-2-clause-works : goal.returns-in-Err-push-2-clause-works
returns-in-Err-push-2-clause-works g c = (_, our_on _ _ _ _ _ _ _ _ _ c.takes.invariant.works tt c.in-Ok-None.ensures.works)

pub takes-preserved-in-Ok : goal.takes-preserved-in-Ok
takes-preserved-in-Ok g c = record {
  works = our_last _ _ _ _ _ _ _ _ c.takes.invariant.works tt (our_drop _ _ c.in-Some.take.own (Ok tt) _ _ c.in-Some.ensures.named.addressed c.in-Ok.ensures.kept);
  whole = c.in-Ok.ensures.memory.broken;
  told_so = told_removed _ _ _ c.in-Some.take.own _ _ (names_gone c.in-Some.take.own _ _ c.in-Ok.ensures.memory.left) c.takes.invariant.told_so;
  below = c.takes.invariant.below;
  overs = overs_below _ _ _ c.in-Some.take.own _ _ c.in-Ok.ensures.kept.silent (drop_so _ _ _ c.in-Ok.ensures.kept) (first_great _ _ _ _ c.in-Some.ensures) c.takes.invariant.below c.takes.invariant.overs;
  ruled = ruled_call _ _ _ _ c.takes.invariant.ruled c.in-Ok.ensures.rule;
}

pub takes-preserved-in_default : goal.takes-preserved-in_default
takes-preserved-in_default g c = record {
  works = our_files _ _ _ _ _ _ _ (took_more _ _ _ c.in_default.ensures.items) (our_on _ _ _ _ _ _ _ _ _ c.takes.invariant.works tt (queued_some _ _ _ c.in-Some.take.kind _ _ _ _ c.in-Ok-Some.field-0-is c.in-Ok-Some.ensures.works));
  whole = c.in-Ok-Some.ensures.whole tt;
  told_so = told_removed _ _ _ c.in-Some.take.own _ _ (names_some c.in-Some.take.own _ _ _ _ c.in-Ok-Some.field-0-is c.in-Ok-Some.ensures.left) c.takes.invariant.told_so;
  below = c.takes.invariant.below;
  overs = overs_below _ _ _ c.in-Some.take.own _ _ c.in-Ok-Some.ensures.works.silent c.in-Ok-Some.ensures.spares (first_great _ _ _ _ c.in-Some.ensures) c.takes.invariant.below c.takes.invariant.overs;
  ruled = ruled_on _ _ _ _ c.takes.invariant.ruled c.in-Ok-Some.ensures.ruled;
}

pub takes-preserved : goal.takes-preserved
takes-preserved g c = record {
  works = our_last _ _ _ _ _ _ _ _ c.takes.invariant.works tt (queued_none _ _ _ c.in-Some.take.kind _ _ _ c.in-Ok-None.field-0-is c.in-Ok-None.ensures.works);
  whole = c.in-Ok-None.ensures.whole tt;
  told_so = told_more _ _ _ _ c.in-Some.take _ _ c.in-Some.ensures (names_none c.in-Some.take.own _ _ _ c.in-Ok-None.field-0-is c.in-Ok-None.ensures.left) c.in_default-push.ensures.items c.takes.invariant.told_so;
  below = below_more _ _ _ _ c.in-Some.ensures.above c.in_default-push.ensures.items c.takes.invariant.below;
  overs = overs_more _ _ _ c.in-Some.take.own c.in-Some.take.kind _ _ c.in-Some.ensures.named c.in-Some.ensures.numbered (match_none _ _ _ c.in-Ok-None.field-0-is c.in-Ok-None.ensures.over) c.in_default-push.ensures.items
      (overs_below _ _ _ c.in-Some.take.own _ _ c.in-Ok-None.ensures.works.silent c.in-Ok-None.ensures.spares (first_great _ _ _ _ c.in-Some.ensures) c.takes.invariant.below c.takes.invariant.overs);
  ruled = ruled_on _ _ _ _ c.takes.invariant.ruled c.in-Ok-None.ensures.ruled;
}

pub takes-smaller-in-Ok : goal.takes-smaller-in-Ok
takes-smaller-in-Ok g c = let less = fewer_without c.in-Some.take.own c.in-Some.take.recorded _ _ c.in-Some.ensures.stands c.in-Ok.ensures.memory.left in omega (arith, less)

pub takes-smaller-in_default : goal.takes-smaller-in_default
takes-smaller-in_default g c = let less = fewer_names c.in-Some.take.own c.in-Some.take.recorded _ _ c.in-Some.ensures.stands (names_some c.in-Some.take.own _ _ _ _ c.in-Ok-Some.field-0-is c.in-Ok-Some.ensures.left) in omega (arith, less)

pub takes-smaller : goal.takes-smaller
takes-smaller g c = let same = ap length (names_none c.in-Some.take.own _ _ _ c.in-Ok-None.field-0-is c.in-Ok-None.ensures.left) in omega (arith, same, c.in-Some.ensures.above, c.in-Some.ensures.within)
