use Rattle.std.proofs.Common.{◌≡◌, [], take, Some}
use Rattle.ledger_rec.specs.Payloads.{fold_of}
use Rattle.node_store.proofs.opening.folding.fold_ledger.Given as goal

abbrev pub invariant-loop-i : goal.invariant-loop-i
invariant-loop-i l = record { folds : fold_of (take l.i l.ledger.payloads) ≡ Some l.folded.state; holds : l.folded.holds ≡ [] }
