use Rattle.std.proofs.Common.{[], IfOk, List, ℕ, map, subst}
use Rattle.outbound_intake.specs.Files.{AddsFolders, NamesSo}
use Rattle.outbound_intake.proofs.folders.zones_among.Goals as goal

pub returns : goal.returns
returns c =
    subst (λ (l : List ℕ). IfOk c.named_among.result (λ folders. AddsFolders c.args.above.now.list (NamesSo l) (map (λ name. name.list) c.args.names.now) [] (map (λ folder. folder.list) folders.items))) c.in_ok-whole.ensures c.named_among.ensures
