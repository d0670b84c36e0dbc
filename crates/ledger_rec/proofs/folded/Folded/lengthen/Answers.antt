use Rattle.ledger_rec.proofs.Lengthening.{order_longer, waits_longer}
use Rattle.ledger_rec.specs.Lists.{state_of}
use Rattle.ledger_rec.specs.Record.{mark}
use Rattle.ledger_rec.specs.declared.waiting.Need.TheVariants.{Sending, Action}
use Rattle.ledger_rec.proofs.folded.Folded.lengthen.Goals as goal

pub invariant_of-self : goal.invariant_of-self
invariant_of-self c =
    let old = state_of c.self.inside.lists in
    let new = state_of c.put.new.lists in
    let r = mark c.args.rec.now in
    let step = c.put.ensures.step in
    (c.put.ensures.room c.self.inside.room c.self.invariant.0, c.put.ensures.agrees, order_longer c.put.result r old new step c.self.invariant.2, waits_longer Sending c.self.inside.waiting c.put.result r old new step c.self.invariant.2 c.self.invariant.3, waits_longer Action c.self.inside.acting c.put.result r old new step c.self.invariant.2 c.self.invariant.4)
