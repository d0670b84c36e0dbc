use Rattle.std.proofs.Common.{rules, ◌≡◌, true, refl}
use Rattle.disk_model.specs.Name.{is_name}
use Rattle.disk_model.proofs.NameLemmas.{kept_of}
use Rattle.disk_model.proofs.name.Name.new.Goals as goal

pub invariant_of-result : goal.invariant_of-result
invariant_of-result c =
    let valid : is_name c.args.bytes.now ≡ true = search rules in
    kept_of c.args.bytes.now c.copy_from_slice.new.self _ (search rules) refl valid
