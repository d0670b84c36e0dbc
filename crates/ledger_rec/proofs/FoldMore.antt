-- The fold of one payload more.
use Rattle.std.proofs.Common.{◌≡◌, ℕ, List, [], ◌∷◌, ◌++◌, Option, Some, refl}
use Rattle.ledger_rec.specs.Fold.{State, nothing_folded}
use Rattle.ledger_rec.specs.Payloads.{stepped, fold_from, fold_of}

pub fold_from-append : (s : Option State) (ps : List (List ℕ)) (p : List ℕ) → fold_from s (ps ++ p ∷ []) ≡ stepped (fold_from s ps) p
fold_from-append s [] p = refl
fold_from-append s (q ∷ ps) p = fold_from-append (stepped s q) ps p

pub fold_more : (ps : List (List ℕ)) (p : List ℕ) → fold_of (ps ++ p ∷ []) ≡ stepped (fold_of ps) p
fold_more ps p = fold_from-append (Some nothing_folded) ps p
