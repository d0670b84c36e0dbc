use Rattle.std.proofs.Common.{rules}
use Rattle.std.proofs.lemmas.List.Sorted.{IsNonDecreasingBy-from_sort_by_key}
use Rattle.outbound_intake.specs.declared.words.Found.{Found}
use Rattle.outbound_intake.specs.Orders.{rank_of}
use Rattle.outbound_intake.proofs.finding.put_in_order.Goals as goal

pub returns-clause-order : goal.returns-clause-order
returns-clause-order c = IsNonDecreasingBy-from_sort_by_key (λ (f : Found). rank_of f.kind) _ c.in_ok-sort_by_key.ensures.sorted (λ a r q k. search rules)
