use Rattle.std.proofs.Common.{◌≡◌, [], Some, map, take}
use Rattle.ftn_addr.specs.Address.{address}
use Rattle.node_model.specs.Lists.{Member}
use Rattle.outbound_model.specs.Outbound.{Outbound}
use Rattle.outbound_places.specs.Outbound.{IsNamed}
use Rattle.outbound_take.specs.Ruled.{Ruled}
use Rattle.outbound_take.specs.Stand.{told}
use Rattle.outbound_intake.specs.Asks.{Asks}
use Rattle.outbound_intake.specs.Files.{AreFor, FindsFor, IsInOne, StandsSo, files_of}
use Rattle.outbound_intake.proofs.finding.found_files.Given as goal

abbrev pub invariant-loop-folder : goal.invariant-loop-folder
invariant-loop-folder g l = record {
  asks : Asks (Unit {0}) (g.S.Outgoing.stand l.initial.store) (g.S.Outgoing.stand l.store);
  finds : (s : Outbound) → told (g.S.Outgoing.stand l.initial.store) ≡ Some s → ((folder : _) → Member folder (map (λ folder. folder.list) l.folder-items) → IsNamed folder)
      → FindsFor l.outbound.base.now.list l.outbound.zone l.outbound.home.now.domain.list (address l.dest) (StandsSo s.outside (IsInOne (map (λ folder. folder.list) (take l.folder-index l.folder-items)))) [] (files_of l.found.items);
  only : AreFor l.outbound.base.now.list l.outbound.zone l.outbound.home.now.domain.list (address l.dest) (files_of l.found.items);
  ruled : Ruled g.S.Outgoing.rule l.initial.store l.store;
}
