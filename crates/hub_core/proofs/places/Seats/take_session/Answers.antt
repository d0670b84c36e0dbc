use Rattle.std.proofs.Common.{◌∙◌, ap, option_map}
use Rattle.hub_core.specs.Hubs.{sitting_of, hub_state}
use Rattle.hub_core.proofs.Sittings.{seats_after}
use Rattle.hub_core.proofs.places.Seats.take_session.Goals as goal

pub returns-clause-after : goal.returns-clause-after
returns-clause-after c =
    let p = c.index_mut-place.result.now in
    seats_after c.args.self.now c.args.seat p c.take.new.self c.requires c.index_mut-place.ensures.value
    ∙ ap (λ o. Rattle.hub_core.specs.Hubs.with_sitting c.args.seat (option_map sitting_of o) (hub_state c.args.self.now)) c.take.ensures.after
