use Rattle.std.proofs.Common.{◌≡◌, length, sym, ◌∙◌, ap, arith}
use Rattle.node_model.proofs.Lists.{some_inj}
use Rattle.node_store.proofs.CopyPieces.{front_more, front_stands, piece_stop, same_front}
use Rattle.node_store.proofs.copying.copy_piece.Goals as goal

pub write_at-requires : goal.write_at-requires
write_at-requires g c = λ w read.
    let was = c.read_some.ensures.read w read in
    front_stands c.args.from.now c.args.to.now c.requires.apart c.args.size c.args.at w (c.requires.stands w was) c.requires.inside (c.requires.begun w was)

pub returns-in_err-write_at-clause-stop : goal.returns-in_err-write_at-clause-stop
returns-in_err-write_at-clause-stop g c = piece_stop g.D.Disk.moment g.D.Disk.images c.args.to.now _ c.args.disk.now c.read_some.new.disk c.write_at.new.self c.read_some.ensures.stop c.write_at.ensures.stop

pub returns-clause-copied : goal.returns-clause-copied
returns-clause-copied g c = λ w read.
    let n = c.in_ok-count.count in
    let p = c.in_ok-write_at.ensures.written w read in
    let was = c.read_some.ensures.read p.0 p.1 in
    let has = c.requires.stands p.0 was in
    front_more c.args.from.now c.args.to.now c.requires.apart c.args.size c.args.at n _ p.0 w has (omega (arith, c.in_ok-count.ensures.length, c.requires.inside)) (c.requires.begun p.0 was) (λ b is. let long : length b ≡ c.args.size = ap length (some_inj (sym is ∙ has.1)) ∙ has.2 in c.in_ok-count.ensures.told p.0 was b is long ∙ same_front _ n c.args.size c.args.at b long c.in_ok-count.ensures.length) p.2

pub returns-clause-stop : goal.returns-clause-stop
returns-clause-stop g c = piece_stop g.D.Disk.moment g.D.Disk.images c.args.to.now _ c.args.disk.now c.read_some.new.disk c.write_at.new.self c.read_some.ensures.stop c.write_at.ensures.stop
