use Rattle.std.proofs.Common.{take, drop, ap, arith, length, length-take, length-drop}
use Rattle.bso_outbound.proofs.Readings.{other_length}
use Rattle.outbound_places.specs.Places.{IsPlace, digits_of}
use Rattle.outbound_places.proofs.Spelled.{length-halves}
use Rattle.outbound_addresses.proofs.own.take_place.Goals as goal

pub returns-then-name-lt26 : goal.returns-then-name-lt26
returns-then-name-lt26 c =
    let own = c.args.taken.now.own in
    let short = ap length c.as_slice-name.ensures.bytes in
    let lt = c.if-name-lt26.true in
    other_length IsPlace digits_of (take 16 (drop 10 own)) (λ p fits is. omega (arith, is, length-halves ((p.zone, p.net), (p.node, p.point)), length-take 16 (drop 10 own), length-drop 10 own, short, lt))
