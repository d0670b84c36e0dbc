use Rattle.std.proofs.Common.{rules, ◌≡◌, length, drop, Some, sym, ap, ◌∙◌}
use Rattle.std.proofs.lemmas.List.{take_at}
use Rattle.command_base.proofs.ReadOnly.{read_whole}
use Rattle.command_base.proofs.settings.read_text.Goals as goal

pub returns-clause-text : goal.returns-clause-text
returns-clause-text g c =
    let size : length c.deref_mut.result.now ≡ c.args.len = search rules in
    let long : length c.read_at.new.out ≡ c.in_ok-bytes.bytes.len = search rules in
    λ w read. read_whole w c.settings_name-name.result c.args.len (length c.deref_mut.result.now) c.read_at.new.out c.settings_name-name.ensures size (c.requires w read) (c.in_ok-read_at.ensures.told w read) ∙ ap Some (sym (take_at c.read_at.new.out (drop (length c.read_at.new.out) c.in_ok-bytes.bytes.items) c.in_ok-bytes.bytes.len long))
