use Rattle.node_model.proofs.CallsLive.{turns_sound}
use Rattle.node_model.proofs.laws.sound_along_calls.Goals as goal

pub returns : goal.returns
returns c = λ alone a es b old chain tells s. turns_sound alone a es b old chain tells s
