use Rattle.std.proofs.Common.{◌≡◌, ◌∙◌, ℕ, Option, Some, None, option_map, sym, refl, subst}
use Rattle.std.specs.Option.{ForSome}
use Rattle.hub_core.specs.declared.places.Claimed.{Claimed}
use Rattle.hub_core.specs.Hubs.{claim_of}
use Rattle.hub_core.specs.Sending.{number_of}
use Rattle.hub_core.specs.Skips.{HasRoom}
use Rattle.hub_core.proofs.places.Open.skip.Goals as goal

-- what holds of the claimed entry's number
of_claimed : (P : ℕ → Type 0) (o : Option Claimed) (n : ℕ) → option_map number_of (option_map claim_of o) ≡ Some n → ForSome o (λ c. P c.number) → P n
of_claimed P None n is all = absurd (cc)
of_claimed P (Some c) n is all = subst P (same is) (all c refl)
  where
    same : {m n : ℕ} → Some m ≡ Some n → m ≡ n
    same e = cc

pub add-requires : goal.add-requires
add-requires c =
    let offers = c.args.self.now.offers in
    of_claimed (λ (n : ℕ). HasRoom n offers.skips.noted offers.skips.list) offers.claim c.in-Some.number (sym c.claimed.ensures ∙ c.in-Some.is) offers.room
