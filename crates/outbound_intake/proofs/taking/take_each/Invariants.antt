use Rattle.std.proofs.Common.{◌≡◌, ◌++◌, None, take}
use Rattle.ftn_addr.specs.Address.{address}
use Rattle.outbound_take.specs.Ours.{AreOver, OnlyFor, OurWorks, all_took}
use Rattle.outbound_take.specs.Ruled.{Ruled}
use Rattle.outbound_take.specs.Stand.{told}
use Rattle.outbound_intake.proofs.TakeLemmas.{EachDone}
use Rattle.outbound_intake.proofs.taking.take_each.Given as goal

abbrev pub invariant-loop-file : goal.invariant-loop-file
invariant-loop-file g l = record {
  works : (more : _) × (all_took l.taken.files.items ≡ all_took l.initial.taken.files.items ++ more) × OurWorks (address l.dest) l.now (Unit {0}) more (g.S.Outgoing.stand l.initial.store) (g.S.Outgoing.stand l.store);
  whole : (g.S.Outgoing.stand l.store).memory.broken ≡ None;
  left : OnlyFor (address l.dest) l.taken.over.items (g.S.Outgoing.stand l.store).memory.left;
  overs : AreOver (address l.dest) l.taken.over.items (told (g.S.Outgoing.stand l.store));
  done : EachDone (take l.file-index l.found) (told (g.S.Outgoing.stand l.store));
  ruled : Ruled g.S.Outgoing.rule l.initial.store l.store;
}
