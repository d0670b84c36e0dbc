use Rattle.std.proofs.Common.{Some, ◌∙◌, ap}
use Rattle.node_model.specs.Outside.{put_at}
use Rattle.mem_store.specs.ListStates.{ListState}
use Rattle.mem_store.specs.Outsiders.{Placed, outside_of, with_file, without_path}
use Rattle.mem_store.proofs.Outsiding.{outside_put, outside_without}
use Rattle.mem_store.proofs.list_store.ListStore.put_out.Goals as goal

pub returns-clause-told : goal.returns-clause-told
returns-clause-told c =
    let files = c.self.inside.outside.items in
    let f : Placed = record { path = c.args.path.now.list; file = record { bytes = c.args.bytes.now; time = c.args.time } } in
    ap outside_of (c.put_file.ensures ∙ (λ j. with_file (c.in_ok-file.ensures j) (c.make_room.ensures.items j)))
    ∙ (outside_put files (without_path f.path files) f (outside_without f.path files)
    ∙ ap (λ (s : ListState). put_at f.path (Some f.file) (outside_of s.outside)) c.self.view_is)
