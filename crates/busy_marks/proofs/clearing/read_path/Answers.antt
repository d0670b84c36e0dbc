use Rattle.std.proofs.Common.{rules, ◌≡◌, length, drop, ◌∙◌}
use Rattle.std.proofs.lemmas.List.{take_at}
use Rattle.busy_marks.proofs.NoteLemmas.{path_read}
use Rattle.busy_marks.proofs.clearing.read_path.Goals as goal

pub returns-in-Ok-from_slice-clause-path : goal.returns-in-Ok-from_slice-clause-path
returns-in-Ok-from_slice-clause-path g c =
    let size : length c.deref_mut.result.now ≡ c.args.len = search rules in
    let long : length c.read_at.new.out ≡ c.in-Ok.bytes.len = search rules in
    let same : c.deref.result.now ≡ c.read_at.new.out = c.deref.ensures.value ∙ take_at c.read_at.new.out (drop (length c.read_at.new.out) c.in-Ok.bytes.items) c.in-Ok.bytes.len long in
    path_read (g.D.Disk.files c.args.disk.now) c.args.own.now c.args.len (length c.deref_mut.result.now) c.read_at.new.out c.in-Ok-from_slice.path.list size (c.in-Ok-from_slice.ensures ∙ same) c.requires c.in-Ok-read_at.ensures.told
