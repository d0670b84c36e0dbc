use Rattle.std.proofs.Common.{◌≡◌, ◌++◌, ◌∷◌, List, ℕ, sym, subst}
use Rattle.std.specs.Prelude.{OnOk}
use Rattle.node_model.specs.StoreStates.{IfTold}
use Rattle.node_store.specs.Stored.{stand_of}
use Rattle.outbound_places.specs.Files.{FileIn, IsFor}
use Rattle.outbound_places.specs.Outbound.{Finds}
use Rattle.outbound_places.proofs.Search.{for_nobody}
use Rattle.outbound_addresses.proofs.Walk.{always_told}
use Rattle.outbound_addresses.proofs.names.note_name.Goals as goal

pub returns-in-Ok-None-clause-finds : goal.returns-in-Ok-None-clause-finds
returns-in-Ok-None-clause-finds g c =
    always_told _ _ (λ s. for_nobody c.args.outbound.base.now.list c.args.outbound.zone s.outside (c.args.folder.now.list ++ 47 ∷ c.args.name.now.list) c.args.found.now (subst (FileIn c.args.outbound.base.now.list c.args.outbound.zone (c.args.folder.now.list ++ 47 ∷ c.args.name.now.list)) c.in-Ok-None.field-0-is c.in-Ok-None.ensures))

pub note_file-requires-clause-is_for : goal.note_file-requires-clause-is_for
note_file-requires-clause-is_for g c =
    let f = subst (FileIn c.args.outbound.base.now.list c.args.outbound.zone (c.args.folder.now.list ++ 47 ∷ c.args.name.now.list)) c.in-Ok-Some.field-0-is c.in-Ok-Some.ensures in
    subst (λ (l : List ℕ). IsFor c.args.outbound.base.now.list c.args.outbound.zone l c.in-Ok-Some.file.place) (sym f.0) f.1

pub returns-in-Ok-Some-clause-finds : goal.returns-in-Ok-Some-clause-finds
returns-in-Ok-Some-clause-finds g c =
    let f = subst (FileIn c.args.outbound.base.now.list c.args.outbound.zone (c.args.folder.now.list ++ 47 ∷ c.args.name.now.list)) c.in-Ok-Some.field-0-is c.in-Ok-Some.ensures in
    subst (λ (l : List ℕ). OnOk c.note_file.result (IfTold (stand_of g.D.Disk.tells g.D.Disk.content g.D.Disk.fault_count g.D.Disk.moment g.D.Disk.images c.args.store.now).state.content (λ s. Finds c.args.outbound.base.now.list c.args.outbound.zone s.outside (λ q. q ≡ l) c.args.found.now c.note_file.new.found))) f.0 c.note_file.ensures.finds
