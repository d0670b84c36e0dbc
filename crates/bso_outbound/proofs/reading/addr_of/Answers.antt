use Rattle.std.proofs.Common.{◌++◌, ◌∷◌, ◌∙◌}
use Rattle.bso_outbound.proofs.Bases.{no_address_of}
use Rattle.bso_outbound.proofs.reading.addr_of.Goals as goal

pub returns-in-None : goal.returns-in-None
returns-in-None c =
    no_address_of c.args.base.now.list c.args.home.now.domain.list (c.args.folder.now ++ 47 ∷ c.args.name.now) c.as_slice-2.result.now c.as_slice.result.now c.args.zone c.as_slice-2.ensures (c.as_slice.ensures ∙ c.in_ok-path.ensures) c.in-None.ensures
