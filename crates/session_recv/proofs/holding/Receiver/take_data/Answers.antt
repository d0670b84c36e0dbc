use Rattle.std.proofs.Common.{[], refl, sym, ap, ◌∙◌}
use Rattle.node_model.specs.Talk.{on, ends, Too_much, Nothing_held, Drops, Exceeds}
use Rattle.session_recv.specs.Replies.{held_in}
use Rattle.session_recv.proofs.Takes.{did_plain, held_as}
use Rattle.session_recv.proofs.holding.Receiver.take_data.Goals as goal

pub returns-then-held-bytes-clause-row : goal.returns-then-held-bytes-clause-row
returns-then-held-bytes-clause-row g c = λ t.
    let was = sym c.in-Taking.is ∙ c.replace.ensures.value in
    held_as _ _ _ _ _ _ _ _ _ (sym (ap held_in was)) (did_plain _ (ends t Too_much) _ _ _ _ _ _ (Exceeds _ (sym (ap held_in was)) refl c.if-held-bytes.true refl refl) refl refl)

pub returns-in-Idle-clause-row : goal.returns-in-Idle-clause-row
returns-in-Idle-clause-row g c = λ t.
    let was = sym c.in-Idle.is ∙ c.replace.ensures.value in
    held_as _ _ _ _ _ _ _ _ _ (sym (ap held_in was) ∙ sym (ap held_in c.replace.ensures.after)) (did_plain _ (on t []) _ _ _ _ _ _ (Nothing_held (sym (ap held_in was)) refl refl) refl refl)

pub returns-in-Dropping-clause-row : goal.returns-in-Dropping-clause-row
returns-in-Dropping-clause-row g c = λ t.
    let was = sym c.in-Dropping.is ∙ c.replace.ensures.value in
    held_as _ _ _ _ _ _ _ _ _ (sym (ap held_in was)) (did_plain _ (on t []) _ _ _ _ _ _ (Drops _ (sym (ap held_in was)) refl refl refl) refl refl)
