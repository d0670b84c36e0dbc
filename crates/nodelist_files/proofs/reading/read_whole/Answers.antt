use Rattle.std.proofs.Common.{rules, ◌≡◌, length, drop, Some, sym, ap, ◌∙◌}
use Rattle.std.proofs.lemmas.List.{take_at}
use Rattle.nodelist_files.proofs.Whole.{read_all}
use Rattle.nodelist_files.proofs.reading.read_whole.Goals as goal

pub returns-clause-bytes : goal.returns-clause-bytes
returns-clause-bytes g c =
    let size : length c.deref_mut.result.now ≡ c.args.len = search rules in
    let long : length c.read_at.new.out ≡ c.in_ok-bytes.bytes.len = search rules in
    λ w read. read_all w c.args.name.now c.args.len (length c.deref_mut.result.now) c.read_at.new.out size (c.requires w read) (c.in_ok-read_at.ensures.told w read) ∙ ap Some (sym (take_at c.read_at.new.out (drop (length c.read_at.new.out) c.in_ok-bytes.bytes.items) c.in_ok-bytes.bytes.len long))
