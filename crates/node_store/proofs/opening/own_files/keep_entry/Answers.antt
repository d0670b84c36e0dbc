use Rattle.std.proofs.Common.{rules}
use Rattle.ledger_rec.specs.Items.{entry}
use Rattle.node_store.proofs.Kept.{kept_live, bad_live}
use Rattle.node_store.proofs.opening.own_files.keep_entry.Goals as goal

pub returns-clause-kept : goal.returns-clause-kept
returns-clause-kept g c = kept_live g.D.Disk.files g.D.Disk.moment g.D.Disk.images (entry c.args.item.now) c.out_file.result c.out_file.ensures c.keep_whole.new.disk c.keep_whole.result c.keep_whole.ensures.kept

pub returns-clause-bad : goal.returns-clause-bad
returns-clause-bad g c =
    bad_live g.D.Disk.files g.D.Disk.moment g.D.Disk.images (entry c.args.item.now) c.out_file.result c.out_file.ensures c.keep_whole.new.disk c.keep_whole.result (search rules) c.keep_whole.ensures.bad
