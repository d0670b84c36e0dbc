use Rattle.std.proofs.Common.{◌≡◌, ◌<◌, ℕ, zero, suc, List, [], ◌∷◌, Some, length, option_map, sym, ◌∙◌, ap, arith}
use Rattle.ftn_addr.specs.Address.{Address, address}
use Rattle.hub_core.specs.Hubs.{Chair, chair_in, hub_state}
use Rattle.hub_core.specs.Opening.{shown}
use Rattle.test_desk.proofs.seats.is_given.Goals as goal

-- a seat with a session is one of the seats
seated_given : (chairs : List Chair) (seat : ℕ) (y : Address × ℕ) → option_map shown (chair_in chairs seat).sitting ≡ Some y → seat < length chairs
seated_given [] seat y is = absurd (cc)
seated_given (c ∷ chairs) zero y is = omega arith
seated_given (c ∷ chairs) (suc seat) y is = omega (arith, seated_given chairs seat y is)

pub returns-in-Some : goal.returns-in-Some
returns-in-Some g c = λ t. seated_given (hub_state c.args.desk.now.desk.hub.seats).chairs c.args.seat _ (sym c.session.ensures ∙ ap (option_map (λ s. (address s.0.now, s.1))) c.in-Some.is)
