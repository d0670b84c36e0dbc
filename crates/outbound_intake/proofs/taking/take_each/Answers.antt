use Rattle.std.proofs.Common.{List, ℕ, sym, subst}
use Rattle.ftn_addr.specs.Address.{address}
use Rattle.outbound_take.specs.Ours.{AreOver, OnlyFor}
use Rattle.outbound_take.specs.Stand.{told}
use Rattle.outbound_take.proofs.OurLemmas.{our_calm, our_on}
use Rattle.outbound_take.proofs.SpareLemmas.{files_spared}
use Rattle.outbound_take.proofs.RuledLemmas.{ruled_on}
use Rattle.outbound_intake.proofs.TakeLemmas.{more_done, took_behind}
use Rattle.outbound_intake.proofs.taking.take_each.Goals as goal

pub take_found-requires-clause-calm : goal.take_found-requires-clause-calm
take_found-requires-clause-calm g c = our_calm _ _ _ _ _ _ c.loop-file.invariant.works.2 tt

pub returns-in-Err-clause-works : goal.returns-in-Err-clause-works
returns-in-Err-clause-works g c = (c.loop-file.invariant.works.0, tt, (_, our_on _ _ _ _ _ _ _ _ _ c.loop-file.invariant.works.2 tt c.in-Err.ensures.works.1))

pub returns-in-Err-add_end-clause-works : goal.returns-in-Err-add_end-clause-works
returns-in-Err-add_end-clause-works g c = (c.loop-file.invariant.works.0, tt, (_, our_on _ _ _ _ _ _ _ _ _ c.loop-file.invariant.works.2 tt c.in-Ok.ensures.works))

pub loop-file-preserved : goal.loop-file-preserved
loop-file-preserved g c = record {
  ruled = ruled_on _ _ _ _ c.loop-file.invariant.ruled c.in-Ok.ensures.ruled;
  works = (_, took_behind _ _ _ _ _ c.in_default.ensures.files c.loop-file.invariant.works.1, our_on _ _ _ _ _ _ _ _ _ c.loop-file.invariant.works.2 tt c.in-Ok.ensures.works);
  whole = c.in-Ok.ensures.whole tt;
  left = subst (λ (over : List ℕ). OnlyFor (address c.args.dest.now) over (g.S.Outgoing.stand c.take_found.new.store).memory.left) (sym c.in_default.ensures.over) (c.in-Ok.ensures.left _ c.loop-file.invariant.left);
  overs = subst (λ (over : List ℕ). AreOver (address c.args.dest.now) over (told (g.S.Outgoing.stand c.take_found.new.store))) (sym c.in_default.ensures.over) (c.in-Ok.ensures.over _ c.loop-file.invariant.overs);
  done = more_done _ _ _ _ _ c.loop-file-test.true c.file-item.is c.in-Ok.ensures.works.silent (files_spared _ _ _ _ _ _ c.in-Ok.ensures.works tt) c.loop-file.invariant.done c.in-Ok.ensures.done;
}

pub returns-in-Err-clause-ruled : goal.returns-in-Err-clause-ruled
returns-in-Err-clause-ruled g c = ruled_on _ _ _ _ c.loop-file.invariant.ruled c.in-Err.ensures.ruled

pub returns-in-Err-add_end-clause-ruled : goal.returns-in-Err-add_end-clause-ruled
returns-in-Err-add_end-clause-ruled g c = ruled_on _ _ _ _ c.loop-file.invariant.ruled c.in-Ok.ensures.ruled
