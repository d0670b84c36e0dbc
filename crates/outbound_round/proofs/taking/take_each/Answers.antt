use Rattle.std.proofs.Common.{List, drop, map, subst, sym, ◌+◌}
use Rattle.ftn_addr.specs.Address.{Address, address}
use Rattle.outbound_intake.proofs.FileLemmas.{taken_more, there_at}
use Rattle.outbound_store.proofs.GoesOnLemmas.{goes_on_then}
use Rattle.outbound_store.specs.Held.{seen_on}
use Rattle.outbound_take.proofs.RuledLemmas.{ruled_on}
use Rattle.outbound_round.specs.Round.{TakesThem, told_of}
use Rattle.outbound_round.proofs.RoundLemmas.{around_at, takes_last, takes_more}
use Rattle.outbound_round.proofs.taking.take_each.Goals as goal

pub take_next-requires-clause-address : goal.take_next-requires-clause-address
take_next-requires-clause-address g c = c.requires.within _ (there_at address c.args.found.now c.loop-dest.dest-index c.dest-item.result c.loop-dest-test.true c.dest-item.is)

pub returns-in-Some-clause-takes : goal.returns-in-Some-clause-takes
returns-in-Some-clause-takes g c =
    let xs = c.args.found.now in
    let i = c.loop-dest.dest-index in
    let takes = c.take_next.ensures.takes in
    subst
    (λ (l : List Address). TakesThem (seen_on g.D.Disk.tells g.D.Disk.content g.D.Disk.fault_count g.D.Disk.moment g.D.Disk.images) c.args.telling c.args.outbound.now.base.now.list c.args.outbound.now.zone (address c.args.outbound.now.home.now) c.args.now l (told_of c.take_next.new.round) c.args.taking.now.store c.take_next.new.taking.store)
    (sym (around_at address xs i _ (taken_more address xs i c.dest-item.result c.loop-dest-test.true c.dest-item.is)))
    (takes_last _ _ _ _ _ _ _ _ takes.0 _ _ _ _ _ c.loop-dest.invariant.fault c.loop-dest.invariant.them takes.1 takes.2 c.in-Some.field-0 (map address (drop (i + 1) xs)) c.in-Some.is)

pub returns-in-Some-clause-ruled : goal.returns-in-Some-clause-ruled
returns-in-Some-clause-ruled g c = ruled_on _ _ _ _ c.loop-dest.invariant.ruled c.take_next.ensures.ruled

pub returns-in-Some-clause-goes_on : goal.returns-in-Some-clause-goes_on
returns-in-Some-clause-goes_on g c = goes_on_then _ _ _ c.loop-dest.invariant.goes c.take_next.ensures.goes_on

pub loop-dest-preserved : goal.loop-dest-preserved
loop-dest-preserved g c =
    let xs = c.args.found.now in
    let i = c.loop-dest.dest-index in
    let takes = c.take_next.ensures.takes in
    record {
      them = subst
          (λ (l : List Address). TakesThem (seen_on g.D.Disk.tells g.D.Disk.content g.D.Disk.fault_count g.D.Disk.moment g.D.Disk.images) c.args.telling c.args.outbound.now.base.now.list c.args.outbound.now.zone (address c.args.outbound.now.home.now) c.args.now l (told_of c.take_next.new.round) c.args.taking.now.store c.take_next.new.taking.store)
          (sym (taken_more address xs i c.dest-item.result c.loop-dest-test.true c.dest-item.is))
          (takes_more _ _ _ _ _ _ _ _ takes.0 _ _ _ _ _ c.loop-dest.invariant.fault c.loop-dest.invariant.them takes.1 takes.2 c.in-None.is);
      fault = c.in-None.is;
      ruled = ruled_on _ _ _ _ c.loop-dest.invariant.ruled c.take_next.ensures.ruled;
      goes = goes_on_then _ _ _ c.loop-dest.invariant.goes c.take_next.ensures.goes_on;
    }
