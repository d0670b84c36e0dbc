-- The fold of the first payloads of a ledger, one more at a time.
use Rattle.std.proofs.Common.{◌≡◌, ℕ, ◌+◌, ◌<◌, List, [], ◌∷◌, ◌++◌, length, take, Option, Some, ◌∙◌, ap}
use Rattle.std.specs.List.{slice_get}
use Rattle.std.proofs.lemmas.List.{take_more}
use Rattle.std.proofs.lemmas.Option.{get_or_from_slice_get}
use Rattle.ledger_rec.specs.Fold.{State}
use Rattle.ledger_rec.specs.Payloads.{stepped, fold_of}
use Rattle.ledger_rec.proofs.FoldMore.{fold_more}

take_next : (ps : List (List ℕ)) (i : ℕ) (p : List ℕ) → i < length ps → slice_get ps i ≡ Some p → take (i + 1) ps ≡ take i ps ++ p ∷ []
take_next ps i p lt there = take_more ps i p lt ∙ ap (λ (y : List ℕ). take i ps ++ y ∷ []) (get_or_from_slice_get ps i p p there)

pub fold_next : (ps : List (List ℕ)) (i : ℕ) (p : List ℕ) (s : State) → i < length ps → slice_get ps i ≡ Some p → fold_of (take i ps) ≡ Some s → fold_of (take (i + 1) ps) ≡ stepped (Some s) p
fold_next ps i p s lt there so_far = ap fold_of (take_next ps i p lt there) ∙ fold_more (take i ps) p ∙ ap (λ (o : Option State). stepped o p) so_far
