use Rattle.std.proofs.Common.{◌≡◌, [], Some, map}
use Rattle.ftn_addr.specs.Address.{address}
use Rattle.flow_file.specs.Views.{item}
use Rattle.node_model.specs.StoreWords.{entry_of}
use Rattle.outbound_model.specs.Fates.{unless_mark}
use Rattle.outbound_model.specs.Outbound.{Outbound}
use Rattle.outbound_take.specs.Calls.{AreNew, IsLike, bodies_of}
use Rattle.outbound_take.specs.Plans.{Planned}
use Rattle.outbound_take.specs.Ours.{OurWorks}
use Rattle.outbound_take.specs.Ruled.{Ruled}
use Rattle.outbound_take.specs.Stand.{told}
use Rattle.outbound_take.proofs.lines.plan_lines.Given as goal

abbrev pub invariant-loop-line : goal.invariant-loop-line
invariant-loop-line g l = record {
  works : OurWorks (address l.dest) l.now (Unit {0}) [] (g.S.Outgoing.stand l.initial.store) (g.S.Outgoing.stand l.store);
  told_same : told (g.S.Outgoing.stand l.store) ≡ told (g.S.Outgoing.stand l.initial.store);
  memory : IsLike (g.S.Outgoing.stand l.initial.store).memory (g.S.Outgoing.stand l.store).memory;
  staged : AreNew (map entry_of l.plans.files.items) (g.S.Outgoing.stand l.store).memory;
  planned : (s : Outbound) → told (g.S.Outgoing.stand l.initial.store) ≡ Some s → Planned (address l.dest) l.flavour s.outside (bodies_of (g.S.Outgoing.stand l.store).content) (map unless_mark (map item l.yielded)) l.plans.lines.items (map entry_of l.plans.files.items);
  ruled : Ruled g.S.Outgoing.rule l.initial.store l.store;
}
