-- The address with a number has that number.
use Rattle.std.proofs.Common.{◌≡◌, ℕ, ◌+◌, ◌-◌, ◌^◌, ◌<◌, ◌≤◌, arith}
use Rattle.nodelist_find.specs.Nodes.{IsBounds, IsSpot, bounds_for, ordinal, spot_at}

pub ordinal-spot_at : (n : ℕ) → ordinal (spot_at n) ≡ n
ordinal-spot_at n = omega arith

pub is_spot : (n : ℕ) → n < 2 ^ 45 → IsSpot (spot_at n)
is_spot n small = record { zone = omega (arith, small); net = omega arith; node = omega arith }

pub is_bounds : (next left : ℕ) → 0 < left → next + left ≤ 2 ^ 45 → IsBounds (bounds_for next left)
is_bounds next left some room = record { low = is_spot next (omega (arith, some, room)); high = is_spot (2 ^ 45 - left) (omega (arith, some, room)) }
