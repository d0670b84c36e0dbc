use Rattle.std.proofs.Common.{ℕ, Option, sym, ◌∙◌, subst, arith}
use Rattle.file_index.specs.Sets.{LeastAbove, NextNumber}
use Rattle.node_store.specs.Giving.{NextLeft, is_kept}
use Rattle.node_store.specs.Seeking.{is_sought}
use Rattle.node_store.proofs.Walked.{kept_number, passed_end, passed_found, passed_more, walk_smaller}
use Rattle.node_store.proofs.round.next_left.Goals as goal

pub returns-in_err-number : goal.returns-in_err-number
returns-in_err-number c =
    let given = c.args.given.now in
    let inbox = c.args.folded.now.state.inbox in
    let none = subst (λ (o : Option ℕ). NextNumber (is_kept given inbox) c.loop-next.passed o) c.in_err-number.was (c.in-Some.ensures (is_kept given inbox) c.requires.kept) in
    subst (NextLeft (is_sought c.args.sought) given inbox c.args.after) (sym c.from_residual.ensures) (passed_end (is_sought c.args.sought) given inbox c.args.after c.loop-next.passed c.loop-next.invariant none)

pub is_sought_at-requires-clause-there : goal.is_sought_at-requires-clause-there
is_sought_at-requires-clause-there c =
    let is_in = is_kept c.args.given.now c.args.folded.now.state.inbox in
    let least : LeastAbove is_in c.loop-next.passed c.in_ok-number.number =
    subst (λ (o : Option ℕ). NextNumber is_in c.loop-next.passed o) c.in_ok-number.was (c.in-Some.ensures is_in c.requires.kept) in
    kept_number (is_sought c.args.sought) c.args.given.now c.args.folded.now.state.inbox c.in_ok-number.number least.is

pub returns-then-is_sought_at : goal.returns-then-is_sought_at
returns-then-is_sought_at c =
    let given = c.args.given.now in
    let inbox = c.args.folded.now.state.inbox in
    let least : LeastAbove (is_kept given inbox) c.loop-next.passed c.in_ok-number.number =
    subst (λ (o : Option ℕ). NextNumber (is_kept given inbox) c.loop-next.passed o) c.in_ok-number.was (c.in-Some.ensures (is_kept given inbox) c.requires.kept) in
    passed_found (is_sought c.args.sought) given inbox c.args.after c.loop-next.passed c.loop-next.invariant c.in_ok-number.number least (λ r there is. sym (c.is_sought_at.ensures r there is) ∙ c.if-is_sought_at.true)

pub loop-next-smaller : goal.loop-next-smaller
loop-next-smaller c =
    let given = c.args.given.now in
    let inbox = c.args.folded.now.state.inbox in
    let least : LeastAbove (is_kept given inbox) c.loop-next.passed c.in_ok-number.number =
    subst (λ (o : Option ℕ). NextNumber (is_kept given inbox) c.loop-next.passed o) c.in_ok-number.was (c.in-Some.ensures (is_kept given inbox) c.requires.kept) in
    walk_smaller c.loop-next.passed c.in_ok-number.number (omega arith) least.above

pub loop-next-preserved : goal.loop-next-preserved
loop-next-preserved c =
    let given = c.args.given.now in
    let inbox = c.args.folded.now.state.inbox in
    let least : LeastAbove (is_kept given inbox) c.loop-next.passed c.in_ok-number.number =
    subst (λ (o : Option ℕ). NextNumber (is_kept given inbox) c.loop-next.passed o) c.in_ok-number.was (c.in-Some.ensures (is_kept given inbox) c.requires.kept) in
    passed_more (is_sought c.args.sought) given inbox c.args.after c.loop-next.passed c.loop-next.invariant c.in_ok-number.number least (λ r there is. sym (c.is_sought_at.ensures r there is) ∙ c.if-is_sought_at.false)
