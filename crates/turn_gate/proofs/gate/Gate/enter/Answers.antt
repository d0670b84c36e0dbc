use Rattle.std.proofs.Common.{refl}
use Rattle.turn_gate.proofs.gate.Gate.enter.Goals as goal

pub loop-init : goal.loop-init
loop-init g c = (tt, tt, c.requires.free, (c.args.pass.now.token.me.0.missed, refl))
