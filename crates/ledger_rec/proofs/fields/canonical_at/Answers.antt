use Rattle.ftn_addr.specs.Address.{address}
use Rattle.ledger_rec.proofs.Canonical.{limits_of}
use Rattle.ledger_rec.proofs.fields.canonical_at.Goals as goal

pub returns-in-Ok-clause-limits : goal.returns-in-Ok-clause-limits
returns-in-Ok-clause-limits c =
    let told = c.if_canonical.ensures in
    limits_of c.args.text.now (address c.args.home.now) c.in-Ok.addr c.if_canonical.result c.in-Ok.ensures.reads told.same told.spelled told.short
