use Rattle.std.proofs.Common.{ap, arith, length}
use Rattle.outbound_store.proofs.OwnLemmas.{kind_behind, kind_short}
use Rattle.outbound_store.proofs.own.kind_of.Goals as goal

pub returns-then-bytes-lt26 : goal.returns-then-bytes-lt26
returns-then-bytes-lt26 c =
    let same = ap length c.as_slice-bytes.ensures.bytes in
    kind_short c.args.own.now (omega (arith, c.if-bytes-lt26.true, same))

pub returns : goal.returns
returns c = kind_behind c.as_slice-bytes.result.now c.args.own.now c.split_at.result.1.now c.kind_ending.result c.as_slice-bytes.ensures.bytes c.split_at.ensures.back c.kind_ending.ensures
