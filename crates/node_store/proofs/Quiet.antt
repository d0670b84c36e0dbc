-- Calls of the disk that leave the ledger and the files that the fold speaks of.
use Rattle.std.proofs.Common.{◌≡◌, ℕ, List, Some, Bool, true, sym, ◌∙◌, ap, subst, arith}
use Rattle.disk_model.specs.World.{World}
use Rattle.disk_model.specs.Changes.{Every}
use Rattle.disk_model.specs.Moments.{Now, Steps}
use Rattle.ledger_file.specs.Ledger.{LedgerIs}
use Rattle.ledger_rec.specs.Fold.{State}
use Rattle.ledger_rec.specs.Payloads.{fold_of}
use Rattle.node_model.specs.StoreStates.{shelf_of}
use Rattle.node_model.specs.Stores.{StoreCall, StoreAnswer, StoreMade, StoreKept, StorePasses, OpensShelf, IsShelf}
use Rattle.node_store.specs.Stored.{Memory, stored_in, state_of, IsKept}
use Rattle.node_store.specs.Worlds.{shelf_in, HasFiles}
use Rattle.node_store.proofs.Alike.{AreAlike, alike_shelf, alike_files}
use Rattle.node_store.proofs.Calls.{standing, is_told, kept_opens, settled}
use Rattle.node_store.proofs.Openings.{opens_to, opens_weaker}

-- such a step leaves the ledger and those files
abbrev pub IsQuiet : (World → World → Type 0) → List (List ℕ) → State → Type 0
IsQuiet step payloads s = (d c : World) → LedgerIs payloads d → HasFiles s d → step d c → LedgerIs payloads c × AreAlike s d c

module _ (tells : Bool) (told : World) (m : Memory) where
  -- of a disk that tells, or that doesn't
  pub quiet_kept : (step : World → World → Type 0) → ((d c : World) → LedgerIs m.books.payloads d → step d c → LedgerIs m.books.payloads c) → (tells ≡ true → IsQuiet step m.books.payloads m.books.folding.state)
      → (d c : World) → IsKept tells told m d → step d c → IsKept tells told m c
  quiet_kept step ledger quiet d c kept made = record {
    ledger = ledger d c kept.ledger made;
    files = λ t. alike_files m.books.folding.state d c (kept.files t) (quiet t d c kept.ledger (kept.files t) made).1;
    same = λ t. alike_shelf m.books.folding.state d c (kept.files t) (quiet t d c kept.ledger (kept.files t) made).1 ∙ kept.same t;
  }

-- the same of another told world that is one of those, and of a memory that tells the same
pub retold : (tells : Bool) (told told' : World) (m m' : Memory) → m'.books ≡ m.books → (tells ≡ true → shelf_of (stored_in told' m') ≡ shelf_of (stored_in told m))
    → (w : World) → IsKept tells told m w → IsKept tells told' m' w
retold tells told told' m m' books same w kept = record {
  ledger = ap_ledger (sym books) kept.ledger;
  files = λ t. subst (λ (b : _). HasFiles b.folding.state w) (sym books) (kept.files t);
  same = λ t. ap (λ (b : _). shelf_in w b.folding.state) books ∙ kept.same t ∙ sym (same t);
}
  where
    ap_ledger : m.books ≡ m'.books → LedgerIs m.books.payloads w → LedgerIs m'.books.payloads w
    ap_ledger e h = subst (λ (b : _). LedgerIs b.payloads w) e h

module _ {D : Type 0} (tells : Bool) (content : D → World) (faults : D → ℕ) (moment : D → ℕ) (images : D → ℕ → World → Type 0) where
  module _ (step : World → World → Type 0) (old new : D) (m m' : Memory) (folds : fold_of m.books.payloads ≡ Some m.books.folding.state) (kept : Every (Now moment images old) (IsKept tells (content old) m))
      (stays : (d c : World) → IsKept tells (content old) m d → step d c → IsKept tells (content old) m c) (call : Steps moment images step old new) where
    -- what a stop now may leave
    pub quiet_now : Every (Now moment images new) (IsKept tells (content old) m)
    quiet_now c image = let was = call.now c image in stays was.0 c (kept was.0 was.1) was.2

    -- at each moment of the call a stop leaves what was told before it, and so it does at its end
    pub quiet_call : (asked : StoreCall) (answer : StoreAnswer) → (tells ≡ true → shelf_of (stored_in (content new) m') ≡ shelf_of (stored_in (content old) m))
        → StoreMade (state_of tells (content old) (faults old) m) asked answer (state_of tells (content new) (faults new) m')
        → StoreKept (standing tells content faults moment images old m) asked answer (standing tells content faults moment images new m')
    quiet_call asked answer same made = record {
      made = made;
      later = call.grew.later;
      before = λ k o le left. (left.0, left.1, call.grew.before k left.1 le left.2, left.3);
      since = λ k o from to left.
          let at : k ≡ moment new = omega (arith, from, to, call.next) in
          let now = kept_opens tells left.0 (content old) m folds left.1 (quiet_now left.1 (subst (λ (i : ℕ). images new i left.1) at left.2)) in
          opens_to (StorePasses (state_of tells (content old) (faults old) m) asked) left.1 (shelf_in left.1 m.books.folding.state) now.0
          (Rattle.node_model.specs.Stores.Before_it (is_told tells left.0 (content old) (faults old) m (shelf_in left.1 m.books.folding.state) now.1)) o left.3;
      now = λ whole o left.
          opens_weaker (λ d. d ≡ shelf_of (stored_in (content old) m)) (IsShelf (state_of tells (content new) (faults new) m').content)
          (λ d is. is_told tells left.0 (content new) (faults new) m' d (is ∙ sym (same left.0))) o
          (settled tells content faults moment images new (content old) m folds quiet_now o left);
    }
