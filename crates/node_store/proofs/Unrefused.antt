-- A world that opens isn't refused.
use Rattle.std.proofs.Common.{◌≡◌, inl, inr, ℕ, ◌+◌, List, [], ◌∷◌, ◌++◌, take, drop, Option, Some, None, Ok, Err, refl, sym, ◌∙◌, ap, subst}
use Rattle.std.proofs.lemmas.List.{take-append-drop}
use Rattle.disk_model.specs.World.{World}
use Rattle.ledger_file.specs.declared.fault.OpenFault.{OpenFault}
use Rattle.ledger_file.specs.Reading.{Reads, Refuses}
use Rattle.ledger_file.proofs.ReadingLaw.{one_reading}
use Rattle.ledger_rec.specs.Fold.{State, nothing_folded}
use Rattle.ledger_rec.specs.Payloads.{stepped, fold_from, fold_of}
use Rattle.node_model.specs.StoreStates.{Shelf}
use Rattle.node_model.proofs.Lists.{some_inj, none_some}
use Rattle.ledger_rec.specs.Items.{Receipt}
use Rattle.node_store.specs.Names.{in_name}
use Rattle.node_store.specs.Opening.{IsReady, IsRefused}
use Rattle.node_store.specs.Worlds.{LedgerOf, OpensAs, HasFiles}
use Rattle.node_store.specs.declared.opening.fault.StoreOpenFault.{StoreOpenFault}
use Rattle.node_store.specs.declared.opening.fault.StoreOpenFault.TheVariants.{Disk, LedgerBad, FileBad, NoMemory}
use Rattle.node_store.proofs.Fitting.{no_bad}
use Rattle.node_store.proofs.Openings.{one_list}
use Rattle.node_store.proofs.Removing.{all_free}

none_from : (ps : List (List ℕ)) → fold_from None ps ≡ None
none_from [] = refl
none_from (p ∷ ps) = none_from ps

from_append : (s : Option State) (ps qs : List (List ℕ)) → fold_from s (ps ++ qs) ≡ fold_from (fold_from s ps) qs
from_append s [] qs = refl
from_append s (p ∷ ps) qs = from_append (stepped s p) ps qs

bad_fold : (ps : List (List ℕ)) (i : ℕ) → fold_of (take i ps) ≡ None → fold_of ps ≡ None
bad_fold ps i bad =
    ap fold_of (sym (take-append-drop i ps)) ∙ from_append (Some nothing_folded) (take i ps) (drop i ps) ∙ ap (λ (o : Option State). fold_from o (drop i ps)) bad ∙ none_from (drop i ps)

read_not_refused : (ps : List (List ℕ)) (fault : OpenFault) (w : World) → LedgerOf ps w → Refuses fault w → ⊥
read_not_refused ps fault w (inr none) h = none_some (sym none.0 ∙ h.1)
read_not_refused ps fault w (inl ledger) h =
    let same : h.0 ≡ ledger.0 = some_inj (sym h.1 ∙ ledger.1) in
    off (one_reading (Ok ps) (Err fault) ledger.0 ledger.2 (subst (Reads (Err fault)) same h.2))
  where
    off : Ok ps ≡ Err fault → ⊥
    off e = cc

pub not_refused : (w : World) (shelf : Shelf) (fault : StoreOpenFault) → OpensAs w shelf → IsRefused fault w → ⊥
not_refused w shelf Disk opens refused = refused
not_refused w shelf (LedgerBad place) opens (inl h) = read_not_refused opens.payloads h.0 w opens.ledger h.1
not_refused w shelf (LedgerBad place) opens (inr h) =
    let same = one_list w h.0 opens.payloads (inl h.1) opens.ledger in
    none_some (sym (bad_fold h.0 (h.2.index + 1) h.2.bad) ∙ ap fold_of same ∙ opens.folds)
not_refused w shelf (FileBad name) opens h =
    let same = one_list w h.payloads opens.payloads (inl h.ledger) opens.ledger in
    let state : opens.state ≡ h.state = some_inj (sym opens.folds ∙ ap fold_of (sym same) ∙ h.folds) in
    no_bad w h.state name (subst (λ (s : State). HasFiles s w) state opens.files) h.bad
not_refused w shelf NoMemory opens refused = refused

-- what is read agrees with itself
pub ready_read : (w : World) → IsReady w w
ready_read w = record {
  takes = λ name take is. refl;
  outside = refl;
  gifts = refl;
  given = λ payloads s ledger folds. all_free (λ (r : Receipt). w.own (in_name r.number) ≡ None → w.own (in_name r.number) ≡ None) (λ r gone. gone) s.inbox;
  fresh = λ none. inr (none, refl);
}
