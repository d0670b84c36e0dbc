use Rattle.std.proofs.Common.{refl}
use Rattle.node_store.specs.Names.{take_name, eight_digits, place_digits, four_digits}
use Rattle.node_store.proofs.FileNames.{take_items}
use Rattle.node_store.proofs.names.take_bytes.Goals as goal

pub returns-clause-bytes : goal.returns-clause-bytes
unfolding take_name eight_digits place_digits four_digits
returns-clause-bytes c = rw (c.eight-d.ensures, c.place-p.ensures.digits, c.ending_of_take-e.ensures, take_items c.args.kind) refl
