use Rattle.std.proofs.Common.{not, rules}
use Rattle.std.specs.Str.{bytes_eq}
use Rattle.std.proofs.lemmas.Fn.{filter_same}
use Rattle.mem_store.specs.Outsiders.{Placed}
use Rattle.mem_store.proofs.outside.remove_file.Goals as goal

pub returns-clause-items : goal.returns-clause-items
returns-clause-items c =
    filter_same _ (λ (f : Placed). not (bytes_eq c.args.path.now f.path)) _ (λ x b f' k. search rules) _ _ c.retain.ensures.filtered
