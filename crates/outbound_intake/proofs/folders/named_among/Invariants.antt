use Rattle.std.proofs.Common.{[], map, take}
use Rattle.outbound_intake.specs.Files.{AddsFolders, NamesSo}
use Rattle.outbound_intake.proofs.folders.named_among.Given as goal

abbrev pub invariant-loop-name : goal.invariant-loop-name
invariant-loop-name l = AddsFolders l.above.list (NamesSo l.whole.list) (map (λ name. name.list) (take l.name-index l.names)) [] (map (λ folder. folder.list) l.folders.items)
