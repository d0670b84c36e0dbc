-- A seat with a session is one that was given.
use Rattle.std.proofs.Common.{◌≡◌, ◌<◌, ℕ, zero, suc, List, [], ◌∷◌, Some, option_map, length, arith}
use Rattle.ftn_addr.specs.Address.{Address}
use Rattle.hub_core.specs.Hubs.{Chair, HubState, chair_in, sitting_at}
use Rattle.hub_core.specs.Opening.{shown}

pub seated_given : (h : HubState) (seat : ℕ) (y : Address × ℕ) → option_map shown (sitting_at h seat) ≡ Some y → seat < length h.chairs
seated_given h seat y is = go h.chairs seat is
  where
    go : (cs : List Chair) (k : ℕ) → option_map shown (chair_in cs k).sitting ≡ Some y → k < length cs
    go [] k is = absurd (cc)
    go (c ∷ cs) zero is = omega arith
    go (c ∷ cs) (suc k) is = omega (arith, go cs k is)
