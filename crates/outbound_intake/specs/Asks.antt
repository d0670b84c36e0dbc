-- Calls that only ask (own).
use Rattle.std.specs.Prelude.{[]}
use Rattle.outbound_model.specs.Steps.{Step}
use Rattle.outbound_take.specs.Calls.{IsLike}
use Rattle.outbound_take.specs.Stand.{TakeStand, Works}

abbrev pub IsNoStep : Step → Type 0
IsNoStep e = ⊥

-- nothing that is told changes, nor do the takes
pub record Asks (settles : Type 0) (old new : TakeStand) : Type 0 where
  pub works : Works IsNoStep settles [] old new
  pub memory : settles → IsLike old.memory new.memory
