use Rattle.std.proofs.Common.{Option, subst}
use Rattle.outbound_take.specs.Calls.{FirstFor}
use Rattle.outbound_take.specs.declared.outgoing.TakeLeft.{TakeLeft}
use Rattle.outbound_store.proofs.OwnLemmas.{none_first}
use Rattle.outbound_store.proofs.left.nearer.Goals as goal

pub returns-in-None : goal.returns-in-None
returns-in-None c = λ dest from left more a b. none_first dest from c.args.other left more (subst (λ (o : Option TakeLeft). FirstFor dest from o left) c.in-None.is a) b

pub returns-in-Some : goal.returns-in-Some
returns-in-Some c = λ dest from left more a b. c.nearer_one.ensures dest from left more (subst (λ (o : Option TakeLeft). FirstFor dest from o left) c.in-Some.is a) b
