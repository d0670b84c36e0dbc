use Rattle.std.proofs.Common.{rules, ◌≡◌, length, map, arith}
use Rattle.std.proofs.lemmas.List.{length-map}
use Rattle.nodelist_comp.specs.Views.{listed}
use Rattle.nodelist_files.proofs.Limits.{few_nodes}
use Rattle.nodelist_files.proofs.staging.prepare.Goals as goal

pub overflow_cast-result : goal.overflow_cast-result
overflow_cast-result c =
    let few = few_nodes c.args.text.now (map listed c.in-Ok.nodes.items) c.in-Ok.ensures in
    let long : length (map listed c.in-Ok.nodes.items) ≡ length c.in-Ok.nodes.items = length-map c.in-Ok.nodes.items listed in
    let many : c.len.result ≡ length c.in-Ok.nodes.items = search rules in
    omega (arith, few, long, many)
