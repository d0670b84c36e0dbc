use Rattle.std.proofs.Common.{◌≡◌, ◌<◌, ◌++◌, List, length, map, take, drop, get_or, set, sym, ◌∙◌, ap, subst, arith}
use Rattle.hub_core.specs.Anew.{chair_anew}
use Rattle.hub_core.specs.Hubs.{Chair, chair_of}
use Rattle.hub_core.specs.declared.places.Place.{Place}
use Rattle.hub_core.proofs.Anew.{get_seen, length_seen, seam, set_seam, set_seen}
use Rattle.hub_core.proofs.seats.look_anew_at.Goals as goal

pub loop-place-preserved : goal.loop-place-preserved
loop-place-preserved c =
    let chairs : List Chair = map chair_of c.args.places.now in
    let i = c.loop-place.place-index in
    let x = c.place-item.result in
    let within : i < length c.args.places.now = omega arith in
    let lt : i < length chairs = subst (λ n. i < n) (sym (length_seen chair_of c.args.places.now)) within in
    let there : chair_of x ≡ get_or chairs i (chair_of x) =
    ap chair_of c.place-item.is ∙ sym (get_seen chair_of c.loop-place.places i x) ∙ ap (λ (l : List Chair). get_or l i (chair_of x)) c.loop-place.invariant ∙ seam chair_anew chairs i (chair_of x) lt in
    set_seen chair_of c.loop-place.places i c.look_anew.new.self
    ∙ ap (λ (l : List Chair). set l i (chair_of c.look_anew.new.self)) c.loop-place.invariant
    ∙ ap (set (map chair_anew (take i chairs) ++ drop i chairs) i) (c.look_anew.ensures ∙ ap (λ (p : Place). chair_anew (chair_of p)) (sym c.place-item.is))
    ∙ set_seam chair_anew chairs i (chair_of x) lt there
