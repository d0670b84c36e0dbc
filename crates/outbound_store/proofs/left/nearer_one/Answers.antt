use Rattle.std.proofs.Common.{Option, arith, subst}
use Rattle.outbound_take.specs.Calls.{FirstFor}
use Rattle.outbound_take.specs.declared.outgoing.TakeLeft.{TakeLeft}
use Rattle.outbound_store.proofs.OwnLemmas.{near_nearer, none_other, other_nearer}
use Rattle.outbound_store.proofs.left.nearer_one.Goals as goal

pub returns-in-None : goal.returns-in-None
returns-in-None c = λ dest from left more a b. none_other dest from c.args.near left more a (subst (λ (o : Option TakeLeft). FirstFor dest from o more) c.in-None.is b)

pub returns-then-more-near : goal.returns-then-more-near
returns-then-more-near c = λ dest from left more a b. other_nearer dest from c.args.near c.in-Some.more left more c.if-more-near.true a (subst (λ (o : Option TakeLeft). FirstFor dest from o more) c.in-Some.is b)

pub returns-else-more-near : goal.returns-else-more-near
returns-else-more-near c = λ dest from left more a b. near_nearer dest from c.args.near c.in-Some.more left more (omega (arith, c.if-more-near.false)) a (subst (λ (o : Option TakeLeft). FirstFor dest from o more) c.in-Some.is b)
