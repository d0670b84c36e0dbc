use Rattle.std.proofs.Common.{inl, inr, refl, [], ◌∷◌}
use Rattle.ledger_rec.specs.Items.{receipt}
use Rattle.node_store.proofs.Kept.{bad_receipt}
use Rattle.node_store.proofs.opening.own_files.keep_receipt.Goals as goal

pub returns-in-Err-clause-bad : goal.returns-in-Err-clause-bad
returns-in-Err-clause-bad g c =
    let r = receipt c.args.item.now in
    inr (bad_receipt (g.D.Disk.files c.keep_if_there.new.disk) r (r ∷ []) c.in_file.result c.in_file.ensures (inl refl) c.in-Err.fault c.in-Err.ensures.bad)
