use Rattle.std.proofs.Common.{ℕ, List, sym, subst}
use Rattle.bso_outbound.specs.declared.kind.Kind.{Kind}
use Rattle.bso_outbound.specs.declared.spot.Spot.{Spot}
use Rattle.bso_outbound.specs.Reading.{Reads, name_below}
use Rattle.bso_outbound.proofs.Bases.{FileBelow, file_in_zone, no_file}
use Rattle.bso_outbound.proofs.reading.file_below.Goals as goal

pub returns-in_err-folder : goal.returns-in_err-folder
returns-in_err-folder c = rw c.from_residual.ensures (no_file c.args.base.now c.args.path.now c.args.default c.in_err-folder.ensures)

pub returns : goal.returns
returns c =
    let cut = c.in_ok-folder.ensures in
    subst (λ (l : List ℕ). Reads {A = ℕ × (Spot × Kind)} FileBelow (name_below c.args.base.now c.args.default) l c.zip.result) (sym cut.0)
    (file_in_zone c.args.base.now c.in_ok-folder.folder.now c.in_ok-folder.name.now c.args.default c.zone_of.result c.spot_of.result c.zip.result c.requires cut.1 c.zone_of.ensures c.spot_of.ensures c.zip.ensures)
