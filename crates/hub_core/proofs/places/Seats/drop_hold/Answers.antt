use Rattle.std.proofs.Common.{◌<◌, Option, None, length, option_map, sym, ◌∙◌, ap, subst}
use Rattle.hub_core.specs.Hubs.{Sitting, HubState, hub_state, dropped_sitting, sitting_at, with_sitting}
use Rattle.hub_core.proofs.Sittings.{sit_twice, given_still}
use Rattle.hub_core.proofs.places.Seats.drop_hold.Goals as goal

pub put_session-requires : goal.put_session-requires
put_session-requires c =
    subst (λ (k : HubState). c.args.seat < length k.chairs) (sym c.take_session-session.ensures.after) (given_still (hub_state c.args.self.now) c.args.seat None c.requires)

pub returns : goal.returns
returns c =
    let h = hub_state c.args.self.now in
    let o = option_map dropped_sitting (sitting_at h c.args.seat) in
    c.put_session.ensures
    ∙ (ap (λ (p : Option Sitting). with_sitting c.args.seat p (hub_state c.take_session-session.new.self)) (c.dropped.ensures ∙ ap (option_map dropped_sitting) c.take_session-session.ensures.session)
    ∙ (ap (with_sitting c.args.seat o) c.take_session-session.ensures.after ∙ sit_twice h c.args.seat o None))
