use Rattle.session_auth.proofs.LoginLaws.{sent_where_secure, secure_stays}
use Rattle.session_auth.proofs.laws.secure_where_a_password_was_sent.Goals as goal

pub returns-clause-sent : goal.returns-clause-sent
returns-clause-sent c = sent_where_secure

pub returns-clause-kept : goal.returns-clause-kept
returns-clause-kept c = secure_stays
