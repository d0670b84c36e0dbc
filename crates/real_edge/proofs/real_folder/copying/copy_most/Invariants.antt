use Rattle.std.proofs.Common.{◌≤◌}
use Rattle.real_edge.specs.Copying.{Copied}
use Rattle.real_edge.proofs.real_folder.copying.copy_most.Given as goal

abbrev pub invariant-loop : goal.invariant-loop
invariant-loop g l =
    (l.copied ≤ l.most) × Copied (g.S.Read.remaining l.initial.source) (g.S.Read.remaining l.source) (g.F.Write.contents l.initial.file) (g.F.Write.contents l.file) l.copied
