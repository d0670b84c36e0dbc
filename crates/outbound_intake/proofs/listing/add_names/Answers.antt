use Rattle.std.proofs.Common.{List, ℕ, map, sym, subst, take}
use Rattle.ftn_addr.specs.Address.{address}
use Rattle.outbound_places.specs.Outbound.{IsAmong}
use Rattle.outbound_intake.specs.Files.{FindsFor, files_of}
use Rattle.outbound_intake.proofs.FileLemmas.{adds_on, finds_more, taken_more}
use Rattle.outbound_intake.proofs.listing.add_names.Goals as goal

pub loop-name-preserved : goal.loop-name-preserved
loop-name-preserved c = record {
  finds = subst (λ (l : List (List ℕ)). FindsFor c.args.outbound.now.base.now.list c.args.outbound.now.zone c.args.outbound.now.home.now.domain.list (address c.args.dest.now) (IsAmong c.args.folder.now.list l) (files_of c.args.found.now.items) (files_of c.add_file.new.found.items))
      (sym (taken_more (λ name. name.list) c.args.names.now c.loop-name.name-index c.name-item.result c.loop-name-test.true c.name-item.is))
      (finds_more c.args.outbound.now.base.now.list c.args.outbound.now.zone c.args.outbound.now.home.now.domain.list (address c.args.dest.now) c.args.folder.now.list (map (λ name. name.list) (take c.loop-name.name-index c.args.names.now)) c.name-item.result.list (files_of c.args.found.now.items) (files_of c.loop-name.found.items) (files_of c.add_file.new.found.items) c.loop-name.invariant.finds c.in_ok-add_file.ensures.finds);
  only = adds_on c.args.outbound.now.base.now.list c.args.outbound.now.zone c.args.outbound.now.home.now.domain.list (address c.args.dest.now) (files_of c.args.found.now.items) (files_of c.loop-name.found.items) (files_of c.add_file.new.found.items) c.loop-name.invariant.only c.in_ok-add_file.ensures.only;
}
