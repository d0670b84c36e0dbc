use Rattle.std.proofs.Common.{List, ap, ◌∙◌}
use Rattle.std.specs.Prelude.{slice_get}
use Rattle.node_store.specs.declared.takes.TakeName.{TakeName}
use Rattle.mem_node.specs.Left.{told_state}
use Rattle.mem_node.proofs.Lefts.{first_is}
use Rattle.mem_node.proofs.finishing.first_left.Goals as goal

pub returns : goal.returns
returns c =
    first_is c.args.store.now.takes (told_state c.args.store.now) _ (c.takes_left.ensures.all c.requires)
    (c.copied.ensures ∙ c.first.ensures.value ∙ ap (λ (xs : List TakeName). slice_get xs 0) c.takes_left.ensures.left)
