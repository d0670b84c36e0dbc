use Rattle.std.proofs.Common.{◌≡◌, [], false, rules}
use Rattle.std.specs.Str.{bytes_eq}
use Rattle.std.specs.List.{list_any}
use Rattle.mem_disk.specs.Holding.{is_named}
use Rattle.mem_disk.proofs.FolderLemmas.{name_added}
use Rattle.mem_disk.proofs.outside_files.add_name.Goals as goal

pub returns-clause-names : goal.returns-clause-names
returns-clause-names c = λ q.
    let some : bytes_eq c.args.name.now [] ≡ false = search rules in
    name_added q c.args.name.now c.in_ok-from_slice.field-0 (list_any (is_named q) c.args.found.now.keys) (list_any (is_named q) c.insert.new.self.keys) c.in_ok-from_slice.ensures some (c.in_ok-insert.ensures.updates.0 q)
