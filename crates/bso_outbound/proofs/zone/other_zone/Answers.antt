use Rattle.std.proofs.Common.{sym, ◌∙◌}
use Rattle.bso_outbound.proofs.Numbers.{one_zone}
use Rattle.bso_outbound.proofs.zone.other_zone.Goals as goal

pub returns-then-zone-default : goal.returns-then-zone-default
returns-then-zone-default c =
    let h = c.in_ok-zone.ensures in
    λ zone fits is. fits.1 (one_zone zone c.in_ok-zone.zone fits.0 h.0 (sym is ∙ h.1) ∙ c.if-zone-default.true)
