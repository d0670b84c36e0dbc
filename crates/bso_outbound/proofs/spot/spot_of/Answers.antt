use Rattle.std.proofs.Common.{◌∷◌, ◌++◌, ℕ, List, Option, None, sym, subst, option_map}
use Rattle.bso_outbound.specs.declared.kind.Kind.{Kind}
use Rattle.bso_outbound.specs.declared.spot.Spot.{Spot}
use Rattle.bso_outbound.specs.Reading.{Reads, at_point, name_at}
use Rattle.bso_outbound.proofs.SpotNames.{SpotFile, node_spot, point_spot}
use Rattle.bso_outbound.proofs.spot.spot_of.Goals as goal

pub returns-in_err-node_file_of-in-None : goal.returns-in_err-node_file_of-in-None
returns-in_err-node_file_of-in-None c =
    rw c.from_residual.ensures (node_spot c.args.name.now None c.in-None.ensures c.in_err-node_file_of-in-None.ensures)

pub returns-in_err-zip-in-Some : goal.returns-in_err-zip-in-Some
returns-in_err-zip-in-Some c =
    let cut = c.in-Some.ensures in
    let read = point_spot c.in-Some.folder.now c.in-Some.file.now c.point_folder_of.result c.point_file_of.result cut.1 c.point_folder_of.ensures c.point_file_of.ensures in
    let none : Reads SpotFile name_at (c.in-Some.folder.now ++ 47 ∷ c.in-Some.file.now) None = subst (λ (z : Option ((ℕ × ℕ) × (ℕ × Kind))). Reads SpotFile name_at (c.in-Some.folder.now ++ 47 ∷ c.in-Some.file.now) (option_map at_point z)) (sym c.in_err-zip-in-Some.ensures) read in
    rw c.from_residual-in_err-zip-in-Some.ensures (subst (λ (l : List ℕ). Reads {A = Spot × Kind} SpotFile name_at l None) (sym cut.0) none)
