use Rattle.std.proofs.Common.{map, ap, ◌∙◌, rules}
use Rattle.ftn_addr.specs.Address.{address}
use Rattle.ftn_addr.specs.Key.{key_of}
use Rattle.ledger_rec.proofs.Holds.{removed_at, none_removed}
use Rattle.ledger_rec.specs.Items.{hold}
use Rattle.ledger_rec.proofs.folded.release.Goals as goal

pub returns-in-Some : goal.returns-in-Some
returns-in-Some c = ap (map hold) c.remove.ensures.items ∙ removed_at (address c.args.from.now) (key_of c.args.key.now) c.args.holds.now.items c.in-Some.i c.remove.result (search rules)

pub returns-in_default : goal.returns-in_default
returns-in_default c = none_removed (address c.args.from.now) (key_of c.args.key.now) c.args.holds.now.items (search rules)
