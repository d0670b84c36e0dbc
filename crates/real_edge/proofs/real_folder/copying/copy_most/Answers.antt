use Rattle.std.proofs.Common.{◌≡◌, Ok, IfSome, subst, arith}
use Rattle.std.specs.Io.{ReadsAtMost}
use Rattle.std.specs.Io.KnownBytes.{ReadConsumes}
use Rattle.real_edge.proofs.CopyLemmas.{copied_more}
use Rattle.real_edge.proofs.real_folder.copying.copy_most.Goals as goal

pub loop-preserved : goal.loop-preserved
loop-preserved g c =
    let left = g.S.Read.remaining c.loop.source in
    let rest = g.S.Read.remaining c.read.new.self in
    let is = subst (λ o. IfSome o (λ n. c.read.result ≡ Ok n)) c.in-Some.is c.in_ok-came.ensures.came in
    let came = subst (λ r. ReadConsumes left rest r c.read.new.buf) is c.read.ensures.bytes in
    let fits = subst (λ r. ReadsAtMost r c.read.new.buf) is c.read.ensures.bound in (
      c.if-size-most.true,
      copied_more (g.S.Read.remaining c.args.source.now) left rest (g.F.Write.contents c.args.file.now) (g.F.Write.contents c.loop.file) (g.F.Write.contents c.write_all.new.file)
          c.loop.copied c.in-Some.came c.in-Some-checked_add.size c.read.new.buf c.loop.invariant.1 came.0 c.in_ok-write_all.ensures (omega (arith, fits)) c.in-Some-checked_add.ensures.1,
    )
