use Rattle.std.proofs.Common.{ap, subst, sym, rules}
use Rattle.ledger_rec.proofs.Folding.{step_kept}
use Rattle.ledger_rec.proofs.OrderFold.{order_step}
use Rattle.ledger_rec.proofs.Waits.{indexed_step, turns_same}
use Rattle.ledger_rec.specs.Fold.{State, fold_step}
use Rattle.ledger_rec.specs.Lists.{state_of}
use Rattle.ledger_rec.specs.Order.{IsOrderly}
use Rattle.ledger_rec.specs.Record.{record_of}
use Rattle.ledger_rec.specs.Waiting.{WasIndexed}
use Rattle.ledger_rec.specs.declared.waiting.Need.TheVariants.{Sending, Action}
use Rattle.ledger_rec.specs.declared.waiting.Wait.{Wait}
use Rattle.ledger_rec.proofs.folded.Folded.add_owned.Goals as goal

pub invariant_of-self : goal.invariant_of-self
invariant_of-self c =
    let old = state_of c.self.inside.lists in
    let new = state_of c.add.new.lists in
    let kept = step_kept _ (fold_step old (record_of c.args.rec)) old new c.in_err-add.ensures.step in
    let queue = ap (λ (s : State). s.queue) (sym kept) in
    (c.in_err-add.ensures.kept c.self.inside.room c.self.invariant.0, c.in_err-add.ensures.agrees, subst IsOrderly (sym kept) c.self.invariant.2, turns_same Sending c.self.inside.waiting old.queue new.queue queue c.self.invariant.3, turns_same Action c.self.inside.acting old.queue new.queue queue c.self.invariant.4)

pub invariant_of-self-2 : goal.invariant_of-self-2
invariant_of-self-2 c =
    (search rules, c.in_ok-add.ensures.agrees, order_step (state_of c.self.inside.lists) (record_of c.args.rec) (state_of c.add.new.lists) c.in_ok-add.ensures.step c.self.invariant.2, c.note.ensures, c.note-2.ensures)

pub note-requires-clause-was : goal.note-requires-clause-was
note-requires-clause-was c =
    subst (λ (w : Wait). WasIndexed Sending w c.self.inside.waiting (state_of c.add.new.lists).queue) (sym c.change-waits.ensures)
    (indexed_step Sending c.self.inside.waiting (state_of c.self.inside.lists) (record_of c.args.rec) (state_of c.add.new.lists) c.in_ok-add.ensures.step c.self.invariant.2 c.self.invariant.3)

pub note-requires-2-clause-was : goal.note-requires-2-clause-was
note-requires-2-clause-was c =
    subst (λ (w : Wait). WasIndexed Action w c.self.inside.acting (state_of c.add.new.lists).queue) (sym c.change-acts.ensures)
    (indexed_step Action c.self.inside.acting (state_of c.self.inside.lists) (record_of c.args.rec) (state_of c.add.new.lists) c.in_ok-add.ensures.step c.self.invariant.2 c.self.invariant.4)
