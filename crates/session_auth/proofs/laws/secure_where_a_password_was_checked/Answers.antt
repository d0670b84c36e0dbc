use Rattle.session_auth.proofs.LoginLaws.{lets_in_by}
use Rattle.session_auth.proofs.laws.secure_where_a_password_was_checked.Goals as goal

pub returns : goal.returns
returns c = lets_in_by
