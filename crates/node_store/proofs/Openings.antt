-- A world opens to one shelf at most.
use Rattle.std.proofs.Common.{◌≡◌, inl, inr, ℕ, List, Option, Some, None, Result, Ok, refl, sym, ◌∙◌, ap, subst}
use Rattle.disk_model.specs.World.{World}
use Rattle.ledger_file.specs.declared.fault.OpenFault.{OpenFault}
use Rattle.ledger_file.specs.Text.{Spells}
use Rattle.ledger_file.specs.Ledger.{LedgerIs}
use Rattle.ledger_file.proofs.ReadingLaw.{one_reading}
use Rattle.ledger_rec.specs.Payloads.{fold_of}
use Rattle.node_model.specs.StoreStates.{Shelf}
use Rattle.node_model.specs.Stores.{OpensShelf}
use Rattle.node_model.proofs.Lists.{some_inj, none_some}
use Rattle.node_store.specs.Worlds.{shelf_in, LedgerOf, OpensAs, Opens}

one_ok : (a b : Result (List (List ℕ)) OpenFault) (ps qs : List (List ℕ)) → a ≡ Ok ps → b ≡ Ok qs → a ≡ b → ps ≡ qs
one_ok a b ps qs x y is = cc (x, y, is)

-- one list of payloads at most
pub one_ledger : (w : World) (ps qs : List (List ℕ)) → LedgerIs ps w → LedgerIs qs w → ps ≡ qs
one_ledger w ps qs x y =
    let same : y.0 ≡ x.0 = some_inj (sym y.1 ∙ x.1) in
    one_ok (Ok ps) (Ok qs) ps qs refl refl (one_reading (Ok ps) (Ok qs) x.0 x.2 (subst (Spells qs) same y.2))

pub one_list : (w : World) (ps qs : List (List ℕ)) → LedgerOf ps w → LedgerOf qs w → ps ≡ qs
one_list w ps qs (inl x) (inl y) = one_ledger w ps qs x y
one_list w ps qs (inl x) (inr y) = none_some (sym y.0 ∙ x.1)
one_list w ps qs (inr x) (inl y) = none_some (sym x.0 ∙ y.1)
one_list w ps qs (inr x) (inr y) = x.1 ∙ sym y.1

pub one_shelf : (w : World) (d e : Shelf) → OpensAs w d → OpensAs w e → e ≡ d
one_shelf w d e x y =
    let payloads = one_list w x.payloads y.payloads x.ledger y.ledger in
    let state : y.state ≡ x.state = some_inj (sym y.folds ∙ ap fold_of (sym payloads) ∙ x.folds) in
    y.is ∙ ap (shelf_in w) state ∙ sym x.is

-- an image that opens to such a shelf opens to nothing else
pub opens_to : (P : Shelf → Type 0) (w : World) (d : Shelf) → OpensAs w d → P d → (o : Option Shelf) → Opens w o → OpensShelf P o
opens_to P w d x holds None none = none d x
opens_to P w d x holds (Some e) y = subst P (sym (one_shelf w d e x y)) holds

pub opens_weaker : (P Q : Shelf → Type 0) → ((d : Shelf) → P d → Q d) → (o : Option Shelf) → OpensShelf P o → OpensShelf Q o
opens_weaker P Q f None none = none
opens_weaker P Q f (Some d) holds = f d holds
