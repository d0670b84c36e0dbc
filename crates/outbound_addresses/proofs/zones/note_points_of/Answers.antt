use Rattle.std.proofs.Common.{◌≡◌, false, ap, rules, subst, ◌∙◌, List, ℕ, Option, is_some}
use Rattle.std.proofs.lemmas.Result.{on_ok_weaker}
use Rattle.node_model.specs.Outside.{path_in}
use Rattle.node_store.specs.Stored.{stand_of}
use Rattle.bso_outbound.specs.Names.{point_folder}
use Rattle.bso_outbound.specs.Reading.{IsNode, Reads}
use Rattle.outbound_addresses.proofs.NotedZones.{none_read, points_noted, points_passed}
use Rattle.outbound_addresses.proofs.zones.note_points_of.Goals as goal

pub returns-then-is_none-clause-finds : goal.returns-then-is_none-clause-finds
returns-then-is_none-clause-finds g c =
    let start = stand_of g.D.Disk.tells g.D.Disk.content g.D.Disk.fault_count g.D.Disk.moment g.D.Disk.images c.args.store.now in
    let none : is_some c.point_folder_of.result ≡ false = grind rules in
    let read = subst (λ (l : List ℕ). Reads IsNode point_folder l c.point_folder_of.result) c.as_slice.ensures c.point_folder_of.ensures in
    points_passed c.args.outbound.base.now.list c.args.outbound.zone start.state.content c.args.folder.now.list c.args.name.now.list c.args.found.now
    (none_read c.point_folder_of.result (λ (o : Option (ℕ × ℕ)). Reads IsNode point_folder c.args.name.now.list o) none read)

pub returns-in-Ok-clause-finds : goal.returns-in-Ok-clause-finds
returns-in-Ok-clause-finds g c =
    let start = stand_of g.D.Disk.tells g.D.Disk.content g.D.Disk.fault_count g.D.Disk.moment g.D.Disk.images c.args.store.now in
    let is : c.in-Ok.points.list ≡ path_in c.args.folder.now.list c.args.name.now.list =
    c.in-Ok.ensures ∙ ap (λ (l : List ℕ). path_in l c.as_slice-3.result.now) c.as_slice-2.ensures ∙ ap (path_in c.args.folder.now.list) c.as_slice-3.ensures in
    on_ok_weaker c.note_folder.result
    (points_noted c.args.outbound.base.now.list c.args.outbound.zone start.state.content c.args.folder.now.list c.args.name.now.list c.in-Ok.points.list c.args.found.now c.note_folder.new.found is)
    c.note_folder.ensures.finds
