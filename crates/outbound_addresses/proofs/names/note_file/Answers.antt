use Rattle.std.proofs.Common.{Bool, subst}
use Rattle.std.proofs.lemmas.Result.{on_ok_weaker}
use Rattle.ftn_addr.specs.Address.{address}
use Rattle.node_model.specs.StoreStates.{IfTold}
use Rattle.node_store.specs.Stored.{stand_of}
use Rattle.outbound_addresses.specs.Asking.{StandsSo}
use Rattle.outbound_addresses.proofs.Noting.{present}
use Rattle.outbound_addresses.proofs.names.note_file.Goals as goal

pub returns-in-Ok-true-clause-finds : goal.returns-in-Ok-true-clause-finds
returns-in-Ok-true-clause-finds g c =
    let told = subst (λ (b : Bool). IfTold (stand_of g.D.Disk.tells g.D.Disk.content g.D.Disk.fault_count g.D.Disk.moment g.D.Disk.images c.args.store.now).state.content (λ s. StandsSo b (s.outside c.args.file.now.path.list))) c.in-Ok-true.field-0-test c.in-Ok-true.ensures.told in
    on_ok_weaker c.note.result
    (λ added. present c.args.outbound.base.now.list c.args.outbound.zone _ c.args.file.now.path.list c.args.found.now c.note.new.found c.args.file.now.place (address c.args.outbound.home.now) c.requires.home c.requires.is_for added told)
    c.note.ensures.added
