use Rattle.std.proofs.Common.{◌≡◌, true, not, map, sym, ap, ◌∙◌, arith, rules}
use Rattle.std.specs.Prelude.{◌||◌, nat_lt}
use Rattle.std.proofs.lemmas.Bool.Decides.{nat_tests}
use Rattle.ledger_rec.proofs.Planning.{takes_at}
use Rattle.ledger_rec.specs.Fold.{new_entry}
use Rattle.ledger_rec.specs.Indexed.{is_queued}
use Rattle.ledger_rec.specs.Lists.{state_of}
use Rattle.ledger_rec.specs.Record.{new_file}
use Rattle.ledger_rec.proofs.planned.Planned.takes.Goals as goal
use Rattle.ledger_rec.proofs.planned.Planned.takes.Goals.{then-is_queued, else-is_queued}

pub returns-after-is_queued : goal.returns-after-is_queued
returns-after-is_queued c = λ those plans.
    let r = new_file c.args.file.now in
    let known : c.if-is_queued.result ≡ (c.is_queued.result || c.in-Some.planned) = elim c.if-is_queued.branch [ then-is_queued w ↦ search rules | else-is_queued w ↦ search rules ] in
    let numbered : nat_lt 0 c.args.file.now.number ≡ true = (let some = c.if-file-gt0.true in grind (arith, nat_tests)) in
    ap not known ∙ takes_at c.args.self.now those r (state_of c.args.lists.now) c.in-Some.planned c.is_queued.result plans (c.in-Some.ensures (λ dest key. is_queued dest key (map new_entry those)) plans.files) c.is_queued.ensures numbered (sym c.if-is_above.ensures)
