-- How many records the log has.
use Rattle.std.proofs.Common.{◌≡◌, ℕ, zero, suc, List, [], ◌∷◌, ◌++◌, length, drop, Option, Some, None, Result, Ok, Err, refl, sym, ◌∙◌, ap, arith, length-drop}
use Rattle.std.specs.List.{AllByRecursion}
use Rattle.ledger_rec.specs.Fold.{State, nothing_folded}
use Rattle.ledger_rec.specs.Payloads.{record_in, step_by, fold_from}
use Rattle.ledger_rec.specs.Record.{RecordText}
use Rattle.ledger_rec.specs.declared.fault.RecFault.{RecFault}
use Rattle.node_model.proofs.Lists.{none_some}
use Rattle.node_store.specs.Books.{Books, IsBooks}
use Rattle.node_store.specs.Logs.{logged, log_of}

-- it spells a record
abbrev IsRead : List ℕ → Type 0
IsRead payload = (r : RecordText) × (record_in payload ≡ Ok r)

none_after : (ps : List (List ℕ)) → fold_from None ps ≡ None
none_after [] = refl
none_after (p ∷ ps) = none_after ps

-- each payload of a fold does
all_read : (s : State) (ps : List (List ℕ)) (t : State) → fold_from (Some s) ps ≡ Some t → AllByRecursion IsRead ps
all_read s [] t is = tt
all_read s (p ∷ ps) t is = go (record_in p) refl is (λ u. all_read u ps t)
  where
    go : (read : Result RecordText RecFault) → record_in p ≡ read → fold_from (step_by s read) ps ≡ Some t → ((u : State) → fold_from (Some u) ps ≡ Some t → AllByRecursion IsRead ps) → AllByRecursion IsRead (p ∷ ps)
    go (Err e) was is rest = none_some (sym (none_after ps) ∙ is)
    go (Ok r) was is rest = ((r, was), step (step_by s (Ok r)) is rest)
      where
        step : (o : Option State) → fold_from o ps ≡ Some t → ((u : State) → fold_from (Some u) ps ≡ Some t → AllByRecursion IsRead ps) → AllByRecursion IsRead ps
        step None is rest = none_some (sym (none_after ps) ∙ is)
        step (Some u) is rest = rest u is

all_dropped : {A : Type 0} (P : A → Type 0) (n : ℕ) (xs : List A) → AllByRecursion P xs → AllByRecursion P (drop n xs)
all_dropped P zero xs all = all
all_dropped P (suc n) [] all = tt
all_dropped P (suc n) (x ∷ xs) all = all_dropped P n xs all.1

length_log : (seats : List ℕ) (ps : List (List ℕ)) → length seats ≡ length ps → AllByRecursion IsRead ps → length (log_of seats ps) ≡ length seats
length_log [] ps same all = refl
length_log (seat ∷ seats) [] same all = absurd (omega (arith, same))
length_log (seat ∷ seats) (p ∷ ps) same all =
    ap (λ (x : Result RecordText RecFault). length (logged seat x ++ log_of seats ps)) all.0.1 ∙ ap suc (length_log seats ps (omega (arith, same)) all.1)

-- the log has a record for each seat
pub appended_is : (b : Books) → IsBooks b → length (log_of b.seats (drop b.opened b.payloads)) ≡ length b.seats
appended_is b is =
    length_log b.seats (drop b.opened b.payloads) (omega (arith, is.since, length-drop b.opened b.payloads)) (all_dropped IsRead b.opened b.payloads (all_read nothing_folded b.payloads b.folding.state is.folds))
