use Rattle.std.proofs.Common.{arith}
use Rattle.bso_outbound.proofs.SpotNames.{high_not_0, point_0, point_is, unread_point}
use Rattle.bso_outbound.proofs.spot.point_file_of.Goals as goal

pub returns-in_err-high : goal.returns-in_err-high
returns-in_err-high c = rw c.from_residual.ensures (unread_point c.args.name.now c.in_err-high.ensures)

pub returns-then-high-ne0 : goal.returns-then-high-ne0
returns-then-high-ne0 c =
    let h = c.in_ok-high.ensures in
    high_not_0 c.args.name.now c.in_ok-high.high c.in_ok-high.point c.in_ok-high.kind h.0 h.1 c.if-high-ne0.true

pub returns-then-point-eq0 : goal.returns-then-point-eq0
returns-then-point-eq0 c =
    let h = c.in_ok-high.ensures in
    point_0 c.args.name.now c.in_ok-high.high c.in_ok-high.point c.in_ok-high.kind h.0 h.1 c.if-point-eq0.true

pub returns : goal.returns
returns c =
    let h = c.in_ok-high.ensures in
    point_is c.args.name.now c.in_ok-high.high c.in_ok-high.point c.in_ok-high.kind h.0 h.1 c.if-high-ne0.false (omega arith)
