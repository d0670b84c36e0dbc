use Rattle.std.proofs.Common.{List, map, subst}
use Rattle.ftn_addr.specs.Address.{address}
use Rattle.ftn_addr.specs.declared.byte_list.Bytes.{Bytes}
use Rattle.outbound_places.specs.Outbound.{IsAmong}
use Rattle.outbound_intake.specs.Files.{FindsFor, files_of}
use Rattle.outbound_intake.proofs.AskLemmas.{asks_one}
use Rattle.outbound_intake.proofs.FileLemmas.{finds_folder}
use Rattle.outbound_intake.proofs.listing.add_files.Goals as goal

pub returns-in-Err-clause-asks : goal.returns-in-Err-clause-asks
returns-in-Err-clause-asks g c = asks_one _ _ _ c.in-Err.ensures.kept c.in-Err.ensures.memory

pub returns-in-Ok-add_names-clause-asks : goal.returns-in-Ok-add_names-clause-asks
returns-in-Ok-add_names-clause-asks g c = asks_one _ _ _ c.in-Ok.ensures.kept c.in-Ok.ensures.memory

pub returns-in-Ok-add_names-clause-finds : goal.returns-in-Ok-add_names-clause-finds
returns-in-Ok-add_names-clause-finds g c = λ s tells named.
    finds_folder c.args.outbound.now.base.now.list c.args.outbound.now.zone c.args.outbound.now.home.now.domain.list (address c.args.dest.now) s.outside c.args.folder.now.list (map (λ name. name.list) c.in-Ok.names.items) (files_of c.args.found.now.items) (files_of c.add_names.new.found.items) named (c.in-Ok.ensures.told s tells)
    (subst (λ (l : List Bytes). FindsFor c.args.outbound.now.base.now.list c.args.outbound.now.zone c.args.outbound.now.home.now.domain.list (address c.args.dest.now) (IsAmong c.args.folder.now.list (map (λ name. name.list) l)) (files_of c.args.found.now.items) (files_of c.add_names.new.found.items)) c.as_slice.ensures.value c.in-Ok-add_names.ensures.finds)

pub returns-clause-asks : goal.returns-clause-asks
returns-clause-asks g c = asks_one _ _ _ c.in-Ok.ensures.kept c.in-Ok.ensures.memory
