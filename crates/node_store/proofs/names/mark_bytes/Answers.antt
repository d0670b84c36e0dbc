use Rattle.std.proofs.Common.{refl}
use Rattle.node_store.specs.Names.{mark_name, place_digits, four_digits}
use Rattle.node_store.proofs.FileNames.{mark_items}
use Rattle.node_store.proofs.names.mark_bytes.Goals as goal

pub returns-clause-bytes : goal.returns-clause-bytes
unfolding mark_name place_digits four_digits
returns-clause-bytes c = rw (c.place-p.ensures.digits, c.ending_of_mark-e.ensures, mark_items c.args.kind) refl
