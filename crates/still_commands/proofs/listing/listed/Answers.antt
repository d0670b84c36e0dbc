use Rattle.std.proofs.Common.{ap, inl, ℕ, List}
use Rattle.command_base.specs.Statuses.{Done}
use Rattle.still_commands.proofs.listing.listed.Goals as goal

pub returns-in-Ok : goal.returns-in-Ok
returns-in-Ok c = inl (ap (λ (l : List ℕ). record { lines = l; status = Done }) c.in-Ok.ensures)
