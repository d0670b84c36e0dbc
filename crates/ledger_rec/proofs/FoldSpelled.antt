-- The fold of records that are spelled behind others.
use Rattle.std.proofs.Common.{◌≡◌, ℕ, List, [], ◌∷◌, ◌++◌, map, Option, Some, None, refl, ap, ◌∙◌}
use Rattle.ledger_rec.proofs.FoldAll.{then_all}
use Rattle.ledger_rec.proofs.ReadBack.{record_of_payload}
use Rattle.ledger_rec.specs.Fold.{State, nothing_folded, fold_step}
use Rattle.ledger_rec.specs.Payloads.{nowhere, step_by, stepped, fold_from, fold_of}
use Rattle.ledger_rec.specs.Record.{RecordText}
use Rattle.ledger_rec.specs.Spelling.{AreRecords, spelling}

from_both : (o : Option State) (ps qs : List (List ℕ)) → fold_from o (ps ++ qs) ≡ fold_from (fold_from o ps) qs
from_both o [] qs = refl
from_both o (p ∷ ps) qs = from_both (stepped o p) ps qs

from_spelled : (o : Option State) (rs : List RecordText) → AreRecords rs → fold_from o (map spelling rs) ≡ then_all rs o
from_spelled None [] all = refl
from_spelled (Some s) [] all = refl
from_spelled None (r ∷ rs) (here, rest) = from_spelled None rs rest
from_spelled (Some s) (r ∷ rs) (here, rest) =
    ap (λ read. fold_from (step_by s read) (map spelling rs)) (record_of_payload nowhere (spelling r) r here.0 (record { text = refl; fits = here.1 })) ∙ from_spelled (fold_step s r) rs rest

pub fold_spelled : (ps : List (List ℕ)) (rs : List RecordText) → AreRecords rs → fold_of (ps ++ map spelling rs) ≡ then_all rs (fold_of ps)
fold_spelled ps rs all = from_both (Some nothing_folded) ps (map spelling rs) ∙ from_spelled (fold_of ps) rs all
