use Rattle.std.proofs.Common.{ℕ, ap, subst, sym, rules}
use Rattle.ledger_rec.proofs.Agreeing.{agrees_same}
use Rattle.ledger_rec.proofs.Folding.{room_for_both}
use Rattle.ledger_rec.proofs.Waits.{turns_same}
use Rattle.ledger_rec.specs.Fold.{State}
use Rattle.ledger_rec.specs.Lists.{HasRoom, state_of}
use Rattle.ledger_rec.specs.Order.{IsOrderly}
use Rattle.ledger_rec.specs.declared.waiting.Need.TheVariants.{Sending, Action}
use Rattle.ledger_rec.proofs.folded.Folded.reserve.Goals as goal

pub invariant_of-self : goal.invariant_of-self
invariant_of-self c =
    let made = c.make_room.ensures in
    let old = c.self.inside.lists in
    let new = c.make_room.new.lists in
    let queue = ap (λ (s : State). s.queue) (sym made.state) in
    (made.kept c.self.inside.room c.self.invariant.0, agrees_same old.index new.index (state_of old) (state_of new) made.index made.state c.self.invariant.1, subst IsOrderly (sym made.state) c.self.invariant.2, turns_same Sending c.self.inside.waiting (state_of old).queue (state_of new).queue queue c.self.invariant.3, turns_same Action c.self.inside.acting (state_of old).queue (state_of new).queue queue c.self.invariant.4)

pub invariant_of-self-2 : goal.invariant_of-self-2
invariant_of-self-2 c =
    let made = c.make_room.ensures in
    let old = c.self.inside.lists in
    let new = c.make_room.new.lists in
    let queue = ap (λ (s : State). s.queue) (sym made.state) in
    let both = room_for_both c.self.inside.room c.args.n new (made.kept c.self.inside.room c.self.invariant.0) (search rules) in
    (subst (λ (n : ℕ). HasRoom n new) (search rules) both, agrees_same old.index new.index (state_of old) (state_of new) made.index made.state c.self.invariant.1, subst IsOrderly (sym made.state) c.self.invariant.2, turns_same Sending c.self.inside.waiting (state_of old).queue (state_of new).queue queue c.self.invariant.3, turns_same Action c.self.inside.acting (state_of old).queue (state_of new).queue queue c.self.invariant.4)
