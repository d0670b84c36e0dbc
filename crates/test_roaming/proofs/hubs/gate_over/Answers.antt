use Rattle.std.proofs.Common.{◌≡◌, length, rules}
use Rattle.outbound_desk.specs.Roaming.{line_sight}
use Rattle.test_roaming.proofs.Seats.{all_fresh}
use Rattle.test_roaming.proofs.hubs.gate_over.Goals as goal

pub returns-in-Ok : goal.returns-in-Ok
returns-in-Ok g c =
    let two : length c.in-Ok.made.1.items ≡ 2 = search rules in
    all_fresh (line_sight g.D.Disk.tells g.D.Disk.content g.D.Disk.fault_count g.D.Disk.moment g.D.Disk.images) _ _ _ c.in-Ok.ensures.gate.0 c.requires.rests two c.in-Ok.ensures.passes.1
