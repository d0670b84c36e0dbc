use Rattle.std.proofs.Common.{◌<◌, length, Err, inr, ◌∙◌, ap, arith}
use Rattle.node_store.proofs.Folds.{fold_next}
use Rattle.node_store.proofs.opening.folding.fold_ledger.Goals as goal

pub returns-in-Err-BadFold-clause-bad : goal.returns-in-Err-BadFold-clause-bad
returns-in-Err-BadFold-clause-bad c =
    let within : c.loop-i.i < length c.args.ledger.now.payloads = omega (arith, c.count-i-end.ensures) in
    let next = fold_next c.args.ledger.now.payloads c.loop-i.i c.payload.result.now c.loop-i.folded.state within c.payload.ensures c.loop-i.invariant.folds in
    inr (record { index = c.loop-i.i; within = within; state = c.loop-i.folded.state; folds = c.loop-i.invariant.folds; bad = next ∙ c.in-Err-BadFold.ensures.bad (ap Err c.in-Err-BadFold.field-0-is); at = c.place.ensures })

pub loop-i-preserved : goal.loop-i-preserved
loop-i-preserved c =
    let within : c.loop-i.i < length c.args.ledger.now.payloads = omega (arith, c.count-i-end.ensures) in
    let next = fold_next c.args.ledger.now.payloads c.loop-i.i c.payload.result.now c.loop-i.folded.state within c.payload.ensures c.loop-i.invariant.folds in
    record { folds = next ∙ c.in-Ok.ensures.ok; holds = c.fold_payload.ensures.holds ∙ c.loop-i.invariant.holds }
