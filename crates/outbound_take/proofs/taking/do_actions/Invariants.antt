use Rattle.std.proofs.Common.{◌≡◌, [], None}
use Rattle.ftn_addr.specs.Address.{address}
use Rattle.outbound_take.specs.Ours.{OurWorks}
use Rattle.outbound_take.specs.Ruled.{Ruled}
use Rattle.outbound_take.specs.Spares.{SparesTakes, TellsSo}
use Rattle.outbound_take.proofs.taking.do_actions.Given as goal

abbrev pub invariant-acts : goal.invariant-acts
invariant-acts g l = record {
  works : OurWorks (address l.dest) l.now (Unit {0}) [] (g.S.Outgoing.stand l.initial.store) (g.S.Outgoing.stand l.store);
  left : (g.S.Outgoing.stand l.store).memory.left ≡ (g.S.Outgoing.stand l.initial.store).memory.left;
  whole : (g.S.Outgoing.stand l.store).memory.broken ≡ None;
  spares : TellsSo SparesTakes (g.S.Outgoing.stand l.initial.store) (g.S.Outgoing.stand l.store);
  ruled : Ruled g.S.Outgoing.rule l.initial.store l.store;
}

abbrev pub decreases-acts : goal.decreases-acts
decreases-acts g l = (g.S.Outgoing.stand l.store).memory.undone
