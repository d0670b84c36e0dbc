-- Where the passes of a gate are while sessions run (own).
use Rattle.std.specs.Prelude.{ℕ}
use Rattle.binkp_link.specs.Lines.{LineState}
use Rattle.session_core.specs.Stages.{Setting}

-- a session that runs: at which place its line was given, what it is lent, the line as it was then, and the state that its pass had left
pub record Running (X : Type 0) : Type 0 where
  pub place : ℕ
  pub setting : Setting
  pub line : LineState
  pub from : X

-- where the pass of a seat is: taken out; here, with the state that it left; or with a session
pub data Whereabouts (X : Type 0) : Type 0 where
  Taken_out : Whereabouts X
  Rests_here : (left : X) → Whereabouts X
  Is_with : (session : Running X) → Whereabouts X
