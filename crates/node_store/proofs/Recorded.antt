-- One record more in the books.
use Rattle.std.proofs.Common.{◌≡◌, ℕ, ◌+◌, ◌-◌, ◌≤◌, List, [], ◌∷◌, ◌++◌, length, Option, Some, Result, Ok, ◌∙◌, ap, arith, length-append}
use Rattle.ledger_rec.specs.Fold.{State, fold_step}
use Rattle.ledger_rec.specs.Payloads.{record_in, step_by, stepped, fold_of}
use Rattle.ledger_rec.specs.Record.{RecordText}
use Rattle.ledger_rec.specs.declared.fault.RecFault.{RecFault}
use Rattle.ledger_rec.proofs.FoldMore.{fold_more}
use Rattle.node_store.specs.Books.{Books, IsBooks}

-- the fold of one payload more
pub fold_recorded : (ps : List (List ℕ)) (p : List ℕ) (r : RecordText) (s t : State) → fold_of ps ≡ Some s → record_in p ≡ Ok r → fold_step s r ≡ Some t → fold_of (ps ++ p ∷ []) ≡ Some t
fold_recorded ps p r s t so_far reads step =
    fold_more ps p ∙ ap (λ (o : Option State). stepped o p) so_far ∙ ap (λ (x : Result RecordText RecFault). step_by s x) reads ∙ step

pub recorded_books : (b c : Books) (p : List ℕ) (r : RecordText) (seat : ℕ) → IsBooks b → record_in p ≡ Ok r → fold_step b.folding.state r ≡ Some c.folding.state
    → c.payloads ≡ b.payloads ++ p ∷ [] → c.opened ≡ b.opened → c.seats ≡ b.seats ++ seat ∷ [] → c.reserved ≡ b.reserved - 1 → b.folding.room ≤ c.folding.room + 1 → IsBooks c
recorded_books b c p r seat is reads step payloads opened seats places room = record {
  folds = ap fold_of payloads ∙ fold_recorded b.payloads p r b.folding.state c.folding.state is.folds reads step;
  room = omega (arith, is.room, places, room);
  since = omega (arith, is.since, opened, ap length seats, length-append b.seats (seat ∷ []), ap length payloads, length-append b.payloads (p ∷ []));
}
