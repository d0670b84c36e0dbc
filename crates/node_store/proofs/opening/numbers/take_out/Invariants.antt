use Rattle.std.proofs.Common.{ℕ, Bool, ◌&&◌, not, take}
use Rattle.file_index.specs.Sets.{Kept}
use Rattle.ledger_rec.specs.Fold.{is_among}
use Rattle.node_store.proofs.opening.numbers.take_out.Given as goal

abbrev pub invariant-loop-number : goal.invariant-loop-number
invariant-loop-number l = (p : ℕ → Bool) → Kept l.fn.numbers p → Kept l.numbers (λ n. p n && not (is_among n (take l.number-index l.given)))
