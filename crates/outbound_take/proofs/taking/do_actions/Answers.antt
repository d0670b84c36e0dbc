use Rattle.std.proofs.Common.{◌∙◌, [], refl}
use Rattle.outbound_take.proofs.OurLemmas.{our_on, our_none, our_actions}
use Rattle.outbound_take.proofs.RuledLemmas.{ruled_call, ruled_none}
use Rattle.outbound_take.proofs.SpareLemmas.{so_none, spare_on, works_spare}
use Rattle.outbound_take.proofs.taking.do_actions.Goals as goal

pub acts-init : goal.acts-init
acts-init g c = record {
  works = our_none _ _ _ _ c.requires.calm;
  left = refl;
  whole = c.requires.whole;
  spares = so_none _ _ refl;
  ruled = ruled_none _ _ _ refl;
}

pub acts-preserved : goal.acts-preserved
acts-preserved g c = record {
  works = our_on _ _ _ _ _ _ _ _ _ c.acts.invariant.works tt (our_actions _ _ _ _ _ c.in-Ok-Some.ensures.works);
  left = c.in-Ok-Some.ensures.left tt ∙ c.acts.invariant.left;
  whole = c.in-Ok-Some.ensures.whole tt;
  spares = spare_on _ _ _ _ _ _ c.acts.invariant.works c.acts.invariant.spares (works_spare _ _ _ c.in-Ok-Some.ensures.works tt);
  ruled = ruled_call _ _ _ _ c.acts.invariant.ruled c.in-Ok-Some.ensures.rule;
}

pub returns-in-Ok-None-clause-works : goal.returns-in-Ok-None-clause-works
returns-in-Ok-None-clause-works g c = our_on _ _ _ _ _ _ _ _ _ c.acts.invariant.works tt (our_actions _ _ _ _ _ c.in-Ok-None.ensures.works)

pub returns-in-Err-clause-works : goal.returns-in-Err-clause-works
returns-in-Err-clause-works g c = ([], our_on _ _ _ _ _ _ _ _ _ c.acts.invariant.works tt (our_actions _ _ _ _ _ c.in-Err.ensures.works))

pub returns-in-Ok-None-clause-spares : goal.returns-in-Ok-None-clause-spares
returns-in-Ok-None-clause-spares g c = spare_on _ _ _ _ _ _ c.acts.invariant.works c.acts.invariant.spares (works_spare _ _ _ c.in-Ok-None.ensures.works tt)
