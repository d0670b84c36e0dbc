-- An address is read among others number by number.
use Rattle.std.proofs.Common.{◌≡◌, ℕ, ◌≤◌, Bool, true, false, ◌&&◌, cond, eqb, refl, arith}
use Rattle.std.proofs.lemmas.Bool.{eqb-true, eqb-false}
use Rattle.nodelist_find.specs.Cursor.{Span}
use Rattle.nodelist_find.specs.Nodes.{Bounds, IsAmong, IsBounds, IsSpot, SpotAt, nets_in, nodes_in, ordinal, zones_in}

abbrev pub Within : Span → ℕ → Type 0
Within span n = (span.low ≤ n) × (n ≤ span.high)

low_side : (b s : SpotAt) → IsSpot b → b.zone ≤ s.zone → cond (eqb s.zone b.zone) b.net 0 ≤ s.net → cond (eqb s.zone b.zone && eqb s.net b.net) b.node 0 ≤ s.node → ordinal b ≤ ordinal s
low_side b s is zone net node = go (eqb s.zone b.zone) (eqb s.net b.net) refl refl net node
  where
    go : (p q : Bool) → eqb s.zone b.zone ≡ p → eqb s.net b.net ≡ q → cond p b.net 0 ≤ s.net → cond (p && q) b.node 0 ≤ s.node → ordinal b ≤ ordinal s
    go false q e f n d = let differ = eqb-false s.zone b.zone e in let x : b.net ≤ 32767 = is.net in let y : b.node ≤ 32767 = is.node in omega (arith, differ, zone, x, y)
    go true false e f n d = let same = eqb-true s.zone b.zone e in let differ = eqb-false s.net b.net f in let y : b.node ≤ 32767 = is.node in omega (arith, same, differ, n, y)
    go true true e f n d = let same = eqb-true s.zone b.zone e in let same_net = eqb-true s.net b.net f in omega (arith, same, same_net, d)

most : (b : SpotAt) (zone net : ℕ) (p : Bool) → b.net ≤ 32767 → net ≤ cond p b.net 32767 → net ≤ 32767
most b zone net true is on = omega (arith, is, on)
most b zone net false is on = on

most_node : (node bound : ℕ) (p : Bool) → bound ≤ 32767 → node ≤ cond p bound 32767 → node ≤ 32767
most_node node bound true is on = omega (arith, is, on)
most_node node bound false is on = on

high_side : (b s : SpotAt) → IsSpot s → s.zone ≤ b.zone → s.net ≤ cond (eqb s.zone b.zone) b.net 32767 → s.node ≤ cond (eqb s.zone b.zone && eqb s.net b.net) b.node 32767 → ordinal s ≤ ordinal b
high_side b s is zone net node = go (eqb s.zone b.zone) (eqb s.net b.net) refl refl net node
  where
    go : (p q : Bool) → eqb s.zone b.zone ≡ p → eqb s.net b.net ≡ q → s.net ≤ cond p b.net 32767 → s.node ≤ cond (p && q) b.node 32767 → ordinal s ≤ ordinal b
    go false q e f n d = let differ = eqb-false s.zone b.zone e in let x : s.net ≤ 32767 = is.net in let y : s.node ≤ 32767 = is.node in omega (arith, differ, zone, x, y)
    go true false e f n d = let same = eqb-true s.zone b.zone e in let differ = eqb-false s.net b.net f in let y : s.node ≤ 32767 = is.node in omega (arith, same, differ, n, y)
    go true true e f n d = let same = eqb-true s.zone b.zone e in let same_net = eqb-true s.net b.net f in omega (arith, same, same_net, d)

-- numbers that are read so are those of an address among these
pub among : (b : Bounds) (s : SpotAt) → IsBounds b → Within (zones_in b) s.zone → Within (nets_in b s.zone) s.net → Within (nodes_in b s.zone s.net) s.node → IsAmong b s
among b s is zone net node =
    let top : b.high.zone ≤ 32767 = is.high.zone in
    let good : IsSpot s = record {
      zone = omega (arith, zone.1, top);
      net = most_node s.net b.high.net (eqb s.zone b.high.zone) is.high.net net.1;
      node = most_node s.node b.high.node (eqb s.zone b.high.zone && eqb s.net b.high.net) is.high.node node.1;
    } in
    record { is = good; low = low_side b.low s is.low zone.0 net.0 node.0; high = high_side b.high s good zone.1 net.1 node.1 }

low_net : (b s : SpotAt) (p : Bool) → eqb s.zone b.zone ≡ p → IsSpot b → IsSpot s → ordinal b ≤ ordinal s → cond p b.net 0 ≤ s.net
low_net b s true e is good on = let same = eqb-true s.zone b.zone e in let x : b.node ≤ 32767 = is.node in let y : s.node ≤ 32767 = good.node in omega (arith, same, on, x, y)
low_net b s false e is good on = omega arith

low_node : (b s : SpotAt) (p q : Bool) → eqb s.zone b.zone ≡ p → eqb s.net b.net ≡ q → ordinal b ≤ ordinal s → cond (p && q) b.node 0 ≤ s.node
low_node b s true true e f on = let same = eqb-true s.zone b.zone e in let same_net = eqb-true s.net b.net f in omega (arith, same, same_net, on)
low_node b s true false e f on = omega arith
low_node b s false q e f on = omega arith

high_net : (b s : SpotAt) (p : Bool) → eqb s.zone b.zone ≡ p → IsSpot b → IsSpot s → ordinal s ≤ ordinal b → s.net ≤ cond p b.net 32767
high_net b s true e is good on = let same = eqb-true s.zone b.zone e in let x : b.node ≤ 32767 = is.node in let y : s.node ≤ 32767 = good.node in omega (arith, same, on, x, y)
high_net b s false e is good on = good.net

high_node : (b s : SpotAt) (p q : Bool) → eqb s.zone b.zone ≡ p → eqb s.net b.net ≡ q → IsSpot s → ordinal s ≤ ordinal b → s.node ≤ cond (p && q) b.node 32767
high_node b s true true e f good on = let same = eqb-true s.zone b.zone e in let same_net = eqb-true s.net b.net f in omega (arith, same, same_net, on)
high_node b s true false e f good on = good.node
high_node b s false q e f good on = good.node

ordered_zone : (a b : SpotAt) → IsSpot a → IsSpot b → ordinal a ≤ ordinal b → a.zone ≤ b.zone
ordered_zone a b x y on =
    let an : a.net ≤ 32767 = x.net in let ad : a.node ≤ 32767 = x.node in
    let bn : b.net ≤ 32767 = y.net in let bd : b.node ≤ 32767 = y.node in
    omega (arith, on, an, ad, bn, bd)

pub zone_within : (b : Bounds) (s : SpotAt) → IsBounds b → IsAmong b s → Within (zones_in b) s.zone
zone_within b s is at = (ordered_zone b.low s is.low at.is at.low, ordered_zone s b.high at.is is.high at.high)

pub net_within : (b : Bounds) (s : SpotAt) → IsBounds b → IsAmong b s → Within (nets_in b s.zone) s.net
net_within b s is at = (low_net b.low s (eqb s.zone b.low.zone) refl is.low at.is at.low, high_net b.high s (eqb s.zone b.high.zone) refl is.high at.is at.high)

pub node_within : (b : Bounds) (s : SpotAt) → IsBounds b → IsAmong b s → Within (nodes_in b s.zone s.net) s.node
node_within b s is at =
    (low_node b.low s (eqb s.zone b.low.zone) (eqb s.net b.low.net) refl refl at.low, high_node b.high s (eqb s.zone b.high.zone) (eqb s.net b.high.net) refl refl at.is at.high)
