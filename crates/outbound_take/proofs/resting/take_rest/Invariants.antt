use Rattle.std.proofs.Common.{◌≡◌, ◌+◌, ◌-◌, ◌<◌, None, length}
use Rattle.ftn_addr.specs.Address.{address}
use Rattle.node_model.specs.Lists.{Each}
use Rattle.outbound_take.specs.Calls.{next_above, owns}
use Rattle.outbound_take.specs.Ours.{AreOver, OurWorks, all_took}
use Rattle.outbound_take.specs.Ruled.{Ruled}
use Rattle.outbound_take.specs.Stand.{told}
use Rattle.outbound_take.proofs.OverLemmas.{ToldBelow}
use Rattle.outbound_take.proofs.resting.take_rest.Given as goal

abbrev pub invariant-takes : goal.invariant-takes
invariant-takes g l = record {
  works : OurWorks (address l.dest) l.now (Unit {0}) (all_took l.files.items) (g.S.Outgoing.stand l.initial.store) (g.S.Outgoing.stand l.store);
  whole : (g.S.Outgoing.stand l.store).memory.broken ≡ None;
  told_so : ToldBelow (address l.dest) (next_above l.above) l.over.items (owns (g.S.Outgoing.stand l.store).memory.left);
  below : Each (λ n. n < next_above l.above) l.over.items;
  overs : AreOver (address l.dest) l.over.items (told (g.S.Outgoing.stand l.store));
  ruled : Ruled g.S.Outgoing.rule l.initial.store l.store;
}

abbrev pub decreases-takes : goal.decreases-takes
decreases-takes g l = length (owns (g.S.Outgoing.stand l.store).memory.left) + (4294967296 - next_above l.above)
