use Rattle.session_auth.proofs.LoginLaws.{keeps_some}
use Rattle.session_auth.proofs.laws.addresses_stay_in_order.Goals as goal

pub returns : goal.returns
returns c = keeps_some
