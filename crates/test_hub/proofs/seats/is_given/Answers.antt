use Rattle.std.proofs.Common.{option_map, sym, ◌∙◌, ap}
use Rattle.ftn_addr.specs.Address.{address}
use Rattle.hub_core.specs.Hubs.{hub_state}
use Rattle.test_hub.proofs.Given.{seated_given}
use Rattle.test_hub.proofs.seats.is_given.Goals as goal

pub returns-in-Some : goal.returns-in-Some
returns-in-Some c = λ t. seated_given (hub_state c.args.desk.now.hub.seats) c.args.seat _ (sym c.session.ensures ∙ ap (option_map (λ s. (address s.0.now, s.1))) c.in-Some.is)
