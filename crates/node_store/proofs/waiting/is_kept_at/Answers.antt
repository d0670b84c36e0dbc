use Rattle.std.proofs.Common.{Option, ℕ, Some, None, ◌∙◌, subst}
use Rattle.file_index.specs.Sets.{NextNumber}
use Rattle.node_store.specs.Giving.{is_kept}
use Rattle.node_store.proofs.WaitingFiles.{found_next, found_none, kept_there}
use Rattle.node_store.proofs.waiting.is_kept_at.Goals as goal

pub returns-in-Some-Some : goal.returns-in-Some-Some
returns-in-Some-Some c = λ inbox kept there.
    let p = is_kept c.args.given.now inbox in
    let h = subst (λ (o : Option ℕ). NextNumber p c.number_before.result o) c.in-Some-Some.field-0-is (c.in-Some-Some.ensures p kept) in
    found_next p c.args.number c.in-Some-Some.least (subst (λ (o : Option ℕ). NextNumber p o (Some c.in-Some-Some.least)) c.number_before.ensures h)
    ∙ kept_there c.args.given.now inbox c.args.number there

pub returns-in-Some-None : goal.returns-in-Some-None
returns-in-Some-None c = λ inbox kept there.
    let p = is_kept c.args.given.now inbox in
    let h = subst (λ (o : Option ℕ). NextNumber p c.number_before.result o) c.in-Some-None.field-0-is (c.in-Some-None.ensures p kept) in
    found_none p c.args.number (subst (λ (o : Option ℕ). NextNumber p o None) c.number_before.ensures h)
    ∙ kept_there c.args.given.now inbox c.args.number there
