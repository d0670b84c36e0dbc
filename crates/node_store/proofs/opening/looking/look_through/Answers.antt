use Rattle.std.proofs.Common.{◌≡◌, ◌⊎◌, subst}
use Rattle.disk_model.specs.Changes.{Every}
use Rattle.ledger_rec.specs.Fold.{Folding}
use Rattle.node_store.specs.Keeping.{Beside, Finds, IsKeptState}
use Rattle.node_store.specs.Worlds.{IsBadFile}
use Rattle.node_store.specs.declared.opening.fault.StoreOpenFault.TheVariants.{NoMemory}
use Rattle.node_store.proofs.Looked.{tended_kept}
use Rattle.node_store.proofs.opening.looking.look_through.Goals as goal

pub returns-in-Ok-clause-tended : goal.returns-in-Ok-clause-tended
returns-in-Ok-clause-tended g c =
    tended_kept g.D.Disk.files g.D.Disk.moment g.D.Disk.images g.met.D.Disk.as_read c.args.books.now.payloads c.args.books.now.folding.state c.args.disk.now c.keep_files.new.disk c.requires.books.folds c.requires.durable c.requires.near c.keep_files.ensures.untouched
    (subst (λ (f : Folding). Beside g.D.Disk.files g.D.Disk.moment g.D.Disk.images (IsKeptState f.state) c.keep_files.new.disk) c.folded.ensures c.in-Ok.ensures.kept)

pub returns-in-Err-clause-bad : goal.returns-in-Err-clause-bad
returns-in-Err-clause-bad g c =
    subst (λ (f : Folding). (c.in-Err.fault ≡ NoMemory) ⊎ Finds (λ name. Every (g.D.Disk.files c.keep_files.new.disk) (λ w. IsBadFile f.state w name)) c.in-Err.fault) c.folded.ensures c.in-Err.ensures.bad
