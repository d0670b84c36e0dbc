use Rattle.ledger_rec.specs.Items.{part_mark}
use Rattle.node_store.proofs.Cutting.{part_stands, tended_cut, cutting_stop, cutting_read}
use Rattle.node_store.proofs.opening.parts.cut_part.Goals as goal

pub cut-requires : goal.cut-requires
cut-requires g c = part_stands g.D.Disk.files g.D.Disk.moment g.D.Disk.images g.met.D.Disk.as_read c.args.books.now.payloads c.args.books.now.folding.state (part_mark c.args.mark.now) c.requires.there c.args.disk.now c.requires.tended c.in_file.result c.in_file.ensures

pub returns-in_err-cut-clause-stop : goal.returns-in_err-cut-clause-stop
returns-in_err-cut-clause-stop g c = cutting_stop g.D.Disk.files g.D.Disk.moment g.D.Disk.images g.met.D.Disk.as_read c.args.books.now.payloads c.args.books.now.folding.state (part_mark c.args.mark.now) c.requires.there c.args.disk.now c.requires.tended c.in_file.result c.in_file.ensures c.cut.new.self c.cut.ensures.stop

pub returns-in_err-cut-clause-read : goal.returns-in_err-cut-clause-read
returns-in_err-cut-clause-read g c = cutting_read g.D.Disk.files g.D.Disk.moment g.D.Disk.images g.met.D.Disk.as_read c.args.books.now.payloads c.args.books.now.folding.state (part_mark c.args.mark.now) c.requires.there c.args.disk.now c.requires.tended c.in_file.result c.in_file.ensures c.cut.new.self c.cut.ensures.read

pub returns-clause-stop : goal.returns-clause-stop
returns-clause-stop g c = cutting_stop g.D.Disk.files g.D.Disk.moment g.D.Disk.images g.met.D.Disk.as_read c.args.books.now.payloads c.args.books.now.folding.state (part_mark c.args.mark.now) c.requires.there c.args.disk.now c.requires.tended c.in_file.result c.in_file.ensures c.cut.new.self c.cut.ensures.stop

pub returns-clause-read : goal.returns-clause-read
returns-clause-read g c = cutting_read g.D.Disk.files g.D.Disk.moment g.D.Disk.images g.met.D.Disk.as_read c.args.books.now.payloads c.args.books.now.folding.state (part_mark c.args.mark.now) c.requires.there c.args.disk.now c.requires.tended c.in_file.result c.in_file.ensures c.cut.new.self c.cut.ensures.read

pub returns-clause-tended : goal.returns-clause-tended
returns-clause-tended g c = tended_cut g.D.Disk.files g.D.Disk.moment g.D.Disk.images g.met.D.Disk.as_read c.args.books.now.payloads c.args.books.now.folding.state (part_mark c.args.mark.now) c.requires.there c.args.disk.now c.requires.tended c.in_file.result c.in_file.ensures c.cut.new.self c.in_ok-cut.ensures.cut c.in_ok-cut.ensures.stop
