use Rattle.std.proofs.Common.{not, rules}
use Rattle.std.proofs.lemmas.Fn.{filter_same}
use Rattle.ftn_addr.specs.Address.{address}
use Rattle.ftn_addr.specs.Files.{is_same}
use Rattle.ftn_addr.specs.Key.{key_of}
use Rattle.mem_store.specs.Comings.{Coming}
use Rattle.mem_store.proofs.open_part.close_file.Goals as goal

pub returns-clause-items : goal.returns-clause-items
returns-clause-items c =
    filter_same _ (λ (p : Coming). not (is_same (address c.args.from.now) (key_of c.args.key.now) p.from p.key)) _ (λ x b f' k. search rules) _ _ c.retain.ensures.filtered
