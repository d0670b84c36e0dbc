use Rattle.std.proofs.Common.{◌≤◌, ◌^◌, arith}
use Rattle.std.proofs.Math.Nat.{pow-le-pow_right}
use Rattle.mem_disk.proofs.stop.picks_of.Goals as goal

pub pow-requires : goal.pow-requires
pow-requires c =
    let few : c.args.changed ≤ 31 = omega (arith, c.if-changed-gt31.false) in
    let most : 4 ^ c.args.changed ≤ 4 ^ 31 = pow-le-pow_right {n = 4} (omega arith) few in
    omega (arith, most)
