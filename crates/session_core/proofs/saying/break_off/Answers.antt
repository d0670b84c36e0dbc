use Rattle.session_core.proofs.Writings.{no_more, some_cause}
use Rattle.session_core.proofs.saying.break_off.Goals as goal

pub returns-in-Err : goal.returns-in-Err
returns-in-Err c = no_more _ _ _ _ (some_cause c.args.cause) c.in-Err.ensures.err
