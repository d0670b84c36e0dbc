use Rattle.std.proofs.Common.{map, take}
use Rattle.outbound_intake.specs.Files.{AddsFolders, NamesPoints}
use Rattle.outbound_intake.proofs.folders.add_points.Given as goal

abbrev pub invariant-loop-name : goal.invariant-loop-name
invariant-loop-name l = AddsFolders l.zone.list (NamesPoints (l.dest.net, l.dest.node)) (map (λ name. name.list) (take l.name-index l.names)) (map (λ folder. folder.list) l.initial.folders.items) (map (λ folder. folder.list) l.folders.items)
