use Rattle.shared_desk.proofs.Sharing.{found}
use Rattle.shared_desk.proofs.laws.turns_of_others_are_steps_of_others.Goals as goal

pub returns : goal.returns
returns g c = λ k a b by. found g.V.Roams.sight g.met.V.Roams.one_hub k a b by
