use Rattle.session_core.proofs.Writings.{no_more, some_many}
use Rattle.session_core.proofs.saying.turn_away.Goals as goal

pub returns-in-Err : goal.returns-in-Err
returns-in-Err c = no_more _ _ _ _ some_many c.in-Err.ensures.err
