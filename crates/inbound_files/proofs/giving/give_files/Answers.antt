use Rattle.std.proofs.Common.{ℕ, arith, sym, subst, Result}
use Rattle.node_model.specs.Stores.{StoreKept, Give_next, Gave_so}
use Rattle.node_model.specs.declared.store.Gave.{Gave}
use Rattle.node_model.specs.declared.store.StoreFault.{StoreFault}
use Rattle.inbound_files.specs.Giving.{Deals_with, GivesFiles, None_yet, One_more, All_dealt_with, None_left, One_refused}
use Rattle.inbound_files.proofs.Kept.{none_keeps, one_keeps, keeps_then, still_whole, dealt, refused_so}
use Rattle.inbound_files.proofs.giving.give_files.Goals as goal

pub loop-init : goal.loop-init
loop-init g c = (None_yet, omega arith, c.requires.whole, none_keeps _)

pub loop-preserved : goal.loop-preserved
loop-preserved g c =
    let kept = c.in_ok-give_next.ensures in
    (One_more c.loop.invariant.0 c.in_ok-give_next.field-0 (dealt c.in_ok-give_next.field-0 c.in-Given.is) kept, omega (arith, c.loop-test.true), still_whole _ _ _ _ _ kept.made c.loop.invariant.2, keeps_then _ _ _ c.loop.invariant.3 (one_keeps _ _ _ _ _ kept))

pub returns-in-Nothing-clause-gives : goal.returns-in-Nothing-clause-gives
returns-in-Nothing-clause-gives g c =
    None_left c.loop.invariant.0 c.loop-test.true
    (subst (λ (gave : Gave). StoreKept (g.S.Store.stand c.loop.store) (Give_next c.args.inbound.now.list c.args.nonsecure.now.list) (Gave_so gave) (g.S.Store.stand c.give_next.new.self)) c.in-Nothing.is c.in_ok-give_next.ensures)

pub returns-in_err-give_next-clause-gives : goal.returns-in_err-give_next-clause-gives
returns-in_err-give_next-clause-gives g c =
    subst (λ (r : Result (Unit {0}) StoreFault). GivesFiles g.S.Store.stand c.args.inbound.now.list c.args.nonsecure.now.list c.args.files c.args.store.now r c.give_next.new.self)
    (sym (refused_so c.from_residual.result c.in_err-give_next.field-0.0 c.from_residual.ensures.0 c.from_residual.ensures.1))
    (One_refused c.loop.invariant.0 c.loop-test.true c.in_err-give_next.field-0.0 c.in_err-give_next.ensures)

pub returns-in_err-give_next-clause-keeps : goal.returns-in_err-give_next-clause-keeps
returns-in_err-give_next-clause-keeps g c = keeps_then _ _ _ c.loop.invariant.3 (one_keeps _ _ _ _ _ c.give_next.ensures)

pub returns-clause-gives : goal.returns-clause-gives
returns-clause-gives g c =
    All_dealt_with (subst (λ (n : ℕ). Deals_with g.S.Store.stand c.args.inbound.now.list c.args.nonsecure.now.list c.args.store.now n c.loop.store) (omega (arith, c.loop.auto.counter-end, c.loop-test.false)) c.loop.invariant.0)
