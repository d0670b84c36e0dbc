use Rattle.std.proofs.Common.{◌≡◌, map, length, nat_le, true, ap, ◌∙◌, sym, arith}
use Rattle.std.specs.Char.{to_ascii_lowercase}
use Rattle.file_request.proofs.FilesByName.{added_new}
use Rattle.file_request.proofs.files.add_file.Goals as goal

pub returns-in_ok-insert : goal.returns-in_ok-insert
returns-in_ok-insert c =
    let key : c.in_ok-key.key.list ≡ map to_ascii_lowercase c.args.file.name.now.list = c.in_ok-key.ensures ∙ ap (map to_ascii_lowercase) c.as_slice.ensures in
    let short : nat_le (length c.args.file.name.now.list) 200 ≡ true = grind (arith, c.len.ensures, c.if-len-gt-MAX_NAME.false) in
    added_new c.args.files.now c.insert.new.self c.in_ok-key.key c.args.file key short (sym c.contains_key.ensures ∙ c.if-not-contains_key.true) c.in_ok-insert.ensures.updates.0
