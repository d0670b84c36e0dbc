-- Calls that change nothing that outlives a stop.
use Rattle.std.proofs.Common.{◌≡◌, inl, ℕ, Option, Some, None, Bool, true, false, refl, sym, ◌∙◌, arith}
use Rattle.disk_model.specs.World.{World}
use Rattle.disk_model.specs.Changes.{Every}
use Rattle.disk_model.specs.Moments.{Now}
use Rattle.ledger_rec.specs.Payloads.{fold_of}
use Rattle.node_model.specs.StoreStates.{Shelf, shelf_of, StoreStand}
use Rattle.node_model.specs.Stores.{StoreCall, StoreAnswer, StoreMade, StoreKept, OpensShelf, IsShelf}
use Rattle.node_model.proofs.Lists.{off}
use Rattle.node_store.specs.Takes.{no_takes}
use Rattle.node_store.specs.Worlds.{shelf_in, OpensAs}
use Rattle.node_store.specs.Stored.{Memory, stored_in, state_of, stand_of, left_of, IsKept}
use Rattle.node_store.proofs.Openings.{opens_to, opens_weaker}

-- the told shelf is told
pub is_told : (tells : Bool) → tells ≡ true → (w : World) (faults : ℕ) (m : Memory) (d : Shelf) → d ≡ shelf_of (stored_in w m) → IsShelf (state_of tells w faults m).content d
is_told true t w faults m d is = is
is_told false t w faults m d is = off (sym t)

-- what a kept world opens to
pub kept_opens : (tells : Bool) → tells ≡ true → (told : World) (m : Memory) → fold_of m.books.payloads ≡ Some m.books.folding.state → (w : World) → IsKept tells told m w
    → OpensAs w (shelf_in w m.books.folding.state) × (shelf_in w m.books.folding.state ≡ shelf_of (stored_in told m))
kept_opens tells t told m folds w kept =
    (record { payloads = m.books.payloads; ledger = inl kept.ledger; state = m.books.folding.state; folds = folds; files = kept.files t; is = refl }, kept.same t)

module _ {D : Type 0} (tells : Bool) (content : D → World) (faults : D → ℕ) (moment : D → ℕ) (images : D → ℕ → World → Type 0) where
  abbrev pub standing : D → Memory → StoreStand
  standing disk m = stand_of tells content faults moment images (record { disk = disk; takes = no_takes; memory = m })

  -- what a stop now leaves is what is told
  pub settled : (disk : D) (told : World) (m : Memory) → fold_of m.books.payloads ≡ Some m.books.folding.state → Every (Now moment images disk) (IsKept tells told m)
      → (o : Option Shelf) → left_of tells (images disk) (moment disk) o → OpensShelf (λ d. d ≡ shelf_of (stored_in told m)) o
  settled disk told m folds kept o (t, w, image, opens) =
      let now = kept_opens tells t told m folds w (kept w image) in
      opens_to (λ d. d ≡ shelf_of (stored_in told m)) w (shelf_in w m.books.folding.state) now.0 now.1 o opens

  -- and it is what the store keeps
  pub now_told : (disk : D) (m : Memory) → fold_of m.books.payloads ≡ Some m.books.folding.state → Every (Now moment images disk) (IsKept tells (content disk) m)
      → (o : Option Shelf) → left_of tells (images disk) (moment disk) o → OpensShelf (IsShelf (state_of tells (content disk) (faults disk) m).content) o
  now_told disk m folds kept o left =
      opens_weaker (λ d. d ≡ shelf_of (stored_in (content disk) m)) (IsShelf (state_of tells (content disk) (faults disk) m).content)
      (λ d is. is_told tells left.0 (content disk) (faults disk) m d is) o
      (settled disk (content disk) m folds kept o left)

  -- a call without a call of the disk, after which the same is told
  pub still_call : (disk : D) (m m' : Memory) (call : StoreCall) (answer : StoreAnswer)
      → fold_of m.books.payloads ≡ Some m.books.folding.state → (m'.broken ≡ None → Every (Now moment images disk) (IsKept tells (content disk) m))
      → shelf_of (stored_in (content disk) m') ≡ shelf_of (stored_in (content disk) m)
      → StoreMade (state_of tells (content disk) (faults disk) m) call answer (state_of tells (content disk) (faults disk) m')
      → StoreKept (standing disk m) call answer (standing disk m')
  still_call disk m m' call answer folds kept same made = record {
    made = made;
    later = omega arith;
    before = λ k o le left. left;
    since = λ k o from to left. absurd (omega (arith, from, to));
    now = λ whole o left.
        opens_weaker (λ d. d ≡ shelf_of (stored_in (content disk) m)) (IsShelf (state_of tells (content disk) (faults disk) m').content)
        (λ d is. is_told tells left.0 (content disk) (faults disk) m' d (is ∙ sym same)) o
        (settled disk (content disk) m folds (kept whole) o left);
  }
