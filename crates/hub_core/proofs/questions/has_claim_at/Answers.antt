use Rattle.std.proofs.Common.{ap, ◌∙◌, option_map}
use Rattle.hub_core.specs.Hubs.{sitting_of, claim_of, sitting_part}
use Rattle.hub_core.proofs.questions.has_claim_at.Goals as goal

pub returns-in-Some-claim : goal.returns-in-Some-claim
returns-in-Some-claim c = λ _. record {
  claim = claim_of c.in-Some-claim._claim;
  is = ap (λ o. (sitting_part (option_map sitting_of o)).claim) c.in-Some.is ∙ ap (λ o. option_map claim_of o) c.in-Some-claim.is;
}
