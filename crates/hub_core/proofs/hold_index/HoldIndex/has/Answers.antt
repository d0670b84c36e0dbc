use Rattle.std.proofs.Common.{◌∙◌, ap}
use Rattle.std.specs.Prelude.{is_some}
use Rattle.hub_core.proofs.Holding.{get-holder, get_in}
use Rattle.hub_core.proofs.hold_index.HoldIndex.has.Goals as goal

pub returns-in-Some : goal.returns-in-Some
returns-in-Some c =
    c.contains_key.ensures ∙ ap is_some (ap (λ found. get_in found c.args.from.now) c.in-Some.ensures.value ∙ get-holder c.args.self.now.seats c.args.key.now c.args.from.now)

pub returns-in-None : goal.returns-in-None
returns-in-None c =
    ap is_some (ap (λ found. get_in found c.args.from.now) c.in-None.ensures.value ∙ get-holder c.args.self.now.seats c.args.key.now c.args.from.now)
