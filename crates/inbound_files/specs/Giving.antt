-- A round of giving: calls of a store that give received files, one behind another (own).
use Rattle.std.specs.Prelude.{ℕ, ◌+◌, ◌≤◌, ◌<◌, List, Option, Result, Ok, Err}
use Rattle.ftn_addr.specs.Counts.{CountGrew}
use Rattle.node_model.specs.Durable.{Durable}
use Rattle.node_model.specs.Receipts.{HasOnce, SettledStays}
use Rattle.node_model.specs.Stores.{Shelf, StoreStand, StoreKept, IfTold, TellsOn, OpensShelf, Give_next, Gave_so, Refuses}
use Rattle.node_model.specs.declared.store.Gave.{Gave}
use Rattle.node_model.specs.declared.store.Gave.TheVariants.{Given, Held, Nothing}
use Rattle.node_model.specs.declared.store.StoreFault.{StoreFault}

-- a file was given, or stays since both its names are in use
abbrev pub DealsWithOne : Gave → Type 0
DealsWithOne (Given receipt) = Unit {0}
DealsWithOne (Held receipt) = Unit {0}
DealsWithOne Nothing = ⊥

module _ {S : Type 0} (stand : S → StoreStand) (inbound nonsecure : List ℕ) where
  -- so many give calls, each of which dealt with one file
  pub data Deals_with (old : S) : ℕ → S → Type 0 where
    None_yet : Deals_with old 0 old
    One_more : {n : ℕ} {mid new : S} → Deals_with old n mid → (gave : Gave) → DealsWithOne gave → StoreKept (stand mid) (Give_next inbound nonsecure) (Gave_so gave) (stand new) → Deals_with old (n + 1) new

  -- A round for so many files: each was dealt with; or there was nothing left to give; or a call was refused.
  pub data GivesFiles (files : ℕ) (old : S) : Result (Unit {0}) StoreFault → S → Type 0 where
    All_dealt_with : {new : S} → Deals_with old files new → GivesFiles files old (Ok tt) new
    None_left : {n : ℕ} {mid new : S} → Deals_with old n mid → n < files → StoreKept (stand mid) (Give_next inbound nonsecure) (Gave_so Nothing) (stand new) → GivesFiles files old (Ok tt) new
    One_refused : {n : ℕ} {mid new : S} → Deals_with old n mid → n < files → (fault : StoreFault) → StoreKept (stand mid) (Give_next inbound nonsecure) (Refuses fault) (stand new) → GivesFiles files old (Err fault) new

-- this has each receipt and each refusal of that, and two receipts of a sender and key only where that has
pub record StillHas (old new : Durable) : Type 0 where
  pub stays : SettledStays old new
  pub once : HasOnce old → HasOnce new

-- What is received stays so, at each moment since too. What a stop at an earlier moment may have left is no more than before, and
-- no count of faults falls.
pub record KeepsReceived (old new : StoreStand) : Type 0 where
  pub told : TellsOn (λ a b. StillHas a.stock.state b.stock.state) old.state.content new.state.content
  pub later : old.moment ≤ new.moment
  pub before : (k : ℕ) (e : Option Shelf) → k ≤ old.moment → new.images k e → old.images k e
  pub since : IfTold old.state.content (λ a. (k : ℕ) (e : Option Shelf) → old.moment < k → k ≤ new.moment → new.images k e → OpensShelf (λ s. StillHas a.stock.state s.state) e)
  pub faults : CountGrew old.state.counts.faults new.state.counts.faults
