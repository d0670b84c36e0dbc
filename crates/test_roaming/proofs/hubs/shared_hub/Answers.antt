use Rattle.std.proofs.Common.{Some, sym, ◌∙◌, subst, IfSome}
use Rattle.std.proofs.lemmas.List.Elements.{All-pop}
use Rattle.outbound_desk.specs.Roaming.{line_sight}
use Rattle.test_roaming.specs.Resting.{IsFresh}
use Rattle.test_roaming.proofs.hubs.shared_hub.Goals as goal

pub returns : goal.returns
returns g c =
    let P = IsFresh (line_sight g.D.Disk.tells g.D.Disk.content g.D.Disk.fault_count g.D.Disk.moment g.D.Disk.images) c.in_ok-gate.gate in
    let second = All-pop P c.in_ok-gate.passes.items c.pop.new.self.items (Some c.in_ok-second.second) c.in_ok-second.ensures.items c.in_ok-gate.ensures in
    let first = All-pop P c.pop.new.self.items c.pop-2.new.self.items (Some c.in_ok-first.first) c.in_ok-first.ensures.items second.0 in
    (first.1, second.1)
