use Rattle.std.proofs.Common.{map, take}
use Rattle.ftn_addr.specs.Address.{address}
use Rattle.outbound_places.specs.Outbound.{IsAmong}
use Rattle.outbound_intake.specs.Files.{AddsFor, FindsFor, files_of}
use Rattle.outbound_intake.proofs.listing.add_names.Given as goal

abbrev pub invariant-loop-name : goal.invariant-loop-name
invariant-loop-name l = record {
  finds : FindsFor l.outbound.base.now.list l.outbound.zone l.outbound.home.now.domain.list (address l.dest) (IsAmong l.folder.list (map (λ name. name.list) (take l.name-index l.names))) (files_of l.initial.found.items) (files_of l.found.items);
  only : AddsFor l.outbound.base.now.list l.outbound.zone l.outbound.home.now.domain.list (address l.dest) (files_of l.initial.found.items) (files_of l.found.items);
}
