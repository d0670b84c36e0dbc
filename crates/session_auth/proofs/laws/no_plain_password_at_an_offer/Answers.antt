use Rattle.session_auth.proofs.LoginLaws.{hidden, offer_stays}
use Rattle.session_auth.proofs.laws.no_plain_password_at_an_offer.Goals as goal

pub returns-clause-hidden : goal.returns-clause-hidden
returns-clause-hidden c = hidden

pub returns-clause-kept : goal.returns-clause-kept
returns-clause-kept c = offer_stays
