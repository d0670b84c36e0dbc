use Rattle.std.proofs.Common.{subst}
use Rattle.ledger_rec.specs.Fold.{Folding}
use Rattle.node_store.specs.Strays.{IsStray}
use Rattle.node_store.proofs.Recovering.{restores-refl, leaves-refl}
use Rattle.node_store.proofs.Tended.{tended_removed, removing_stop, removing_read}
use Rattle.node_store.proofs.opening.strays.remove_if_stray.Goals as goal

pub returns-then-not-is_stray-clause-stop : goal.returns-then-not-is_stray-clause-stop
returns-then-not-is_stray-clause-stop g c = leaves-refl g.D.Disk.moment g.D.Disk.images c.args.disk.now

pub returns-then-not-is_stray-clause-read : goal.returns-then-not-is_stray-clause-read
returns-then-not-is_stray-clause-read g c = λ f read. (f, read, restores-refl f)

pub returns-in_err-remove-clause-stop : goal.returns-in_err-remove-clause-stop
returns-in_err-remove-clause-stop g c =
    let stray = subst (λ (f : Folding). IsStray f.state c.args.name.now) c.folded.ensures (c.is_stray.ensures.0 c.if-not-is_stray.false) in
    removing_stop g.D.Disk.files g.D.Disk.moment g.D.Disk.images g.met.D.Disk.as_read c.args.books.now.payloads c.args.books.now.folding.state c.args.disk.now c.requires.tended c.args.name.now stray c.remove.new.self c.remove.result c.remove.ensures.stop

pub returns-in_err-remove-clause-read : goal.returns-in_err-remove-clause-read
returns-in_err-remove-clause-read g c =
    let stray = subst (λ (f : Folding). IsStray f.state c.args.name.now) c.folded.ensures (c.is_stray.ensures.0 c.if-not-is_stray.false) in
    removing_read g.D.Disk.files g.D.Disk.moment g.D.Disk.images g.met.D.Disk.as_read c.args.books.now.payloads c.args.books.now.folding.state c.args.disk.now c.requires.tended c.args.name.now stray c.remove.new.self c.remove.result c.remove.ensures.read

pub returns-clause-stop : goal.returns-clause-stop
returns-clause-stop g c =
    let stray = subst (λ (f : Folding). IsStray f.state c.args.name.now) c.folded.ensures (c.is_stray.ensures.0 c.if-not-is_stray.false) in
    removing_stop g.D.Disk.files g.D.Disk.moment g.D.Disk.images g.met.D.Disk.as_read c.args.books.now.payloads c.args.books.now.folding.state c.args.disk.now c.requires.tended c.args.name.now stray c.remove.new.self c.remove.result c.remove.ensures.stop

pub returns-clause-read : goal.returns-clause-read
returns-clause-read g c =
    let stray = subst (λ (f : Folding). IsStray f.state c.args.name.now) c.folded.ensures (c.is_stray.ensures.0 c.if-not-is_stray.false) in
    removing_read g.D.Disk.files g.D.Disk.moment g.D.Disk.images g.met.D.Disk.as_read c.args.books.now.payloads c.args.books.now.folding.state c.args.disk.now c.requires.tended c.args.name.now stray c.remove.new.self c.remove.result c.remove.ensures.read

pub returns-clause-tended : goal.returns-clause-tended
returns-clause-tended g c =
    let stray = subst (λ (f : Folding). IsStray f.state c.args.name.now) c.folded.ensures (c.is_stray.ensures.0 c.if-not-is_stray.false) in
    tended_removed g.D.Disk.files g.D.Disk.moment g.D.Disk.images g.met.D.Disk.as_read c.args.books.now.payloads c.args.books.now.folding.state c.args.disk.now c.requires.tended c.args.name.now stray c.remove.new.self c.in_ok-remove.ensures.read c.in_ok-remove.ensures.stop
