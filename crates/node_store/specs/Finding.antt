-- What an opening has made of a disk (own).
use Rattle.std.specs.Prelude.{◌≡◌, ℕ, Bool, true, List, Result, Ok, Err}
use Rattle.disk_model.specs.Changes.{Every}
use Rattle.disk_model.specs.World.{World}
use Rattle.node_store.specs.Books.{Books}
use Rattle.node_store.specs.Clearing.{HasNoNote}
use Rattle.node_store.specs.Keeping.{AreReceipts, given_in}
use Rattle.node_model.specs.StoreStates.{Shelf, shelf_of}
use Rattle.node_store.specs.Opening.{IsNewBooks, IsTidied, opened_memory}
use Rattle.node_store.specs.Stored.{Holding, Memory, stored_in}
use Rattle.node_store.specs.Standing.{StandSo}
use Rattle.node_store.specs.Strays.{HasNoStray}
use Rattle.node_store.specs.Takes.{Takes}
use Rattle.node_store.specs.Tending.{HasCutParts, IsTended}
use Rattle.node_store.specs.Worlds.{OpensAs, shelf_in}

-- The books, the receipts whose files were given, and the takes that stand: the disk read so before, and reads so now, with no
-- stray and no part longer than its mark.
pub record IsFound {D : Type 0} (files : D → World → Type 0) (moment : D → ℕ) (images : D → ℕ → World → Type 0) (tells : Bool) (content : D → World) (b : Books) (given : List ℕ) (takes : Takes) (old new : D) : Type 0 where
  pub books : IsNewBooks b
  pub tended : IsTended files moment images b.payloads b.folding.state new
  pub are_given : Every (files new) (λ f. given ≡ given_in f b.folding.state.inbox)
  pub receipts : AreReceipts given b.folding.state.inbox
  pub opened : tells ≡ true → OpensAs (content old) (shelf_in (content old) b.folding.state)
  pub strays : Every (files new) (HasNoStray b.folding.state)
  pub parts : Every (files new) (HasCutParts b.folding.state)
  pub standing : StandSo (files new) b.folding.state takes

-- The store that was opened: what the disk read before opened to what it tells now, but for recorded takes and marks; no stray
-- is left and no note of a mark, and each part has the length of its mark.
pub record IsOpened (before now : World) (m : Memory) : Type 0 where
  pub shelf : Shelf
  pub opens : OpensAs before shelf
  pub tidied : IsTidied shelf (shelf_of (stored_in now m))
  pub strays : HasNoStray m.books.folding.state now
  pub parts : HasCutParts m.books.folding.state now
  pub notes : HasNoNote now

-- the disk that is left, in a store or beside a fault
abbrev pub disk_left : {D R F : Type 0} → Result (Holding D × R) (D × F) → D
disk_left (Ok x) = x.0.disk
disk_left (Err x) = x.0

-- a memory that was just made
abbrev pub IsNewMemory : Memory → Type 0
IsNewMemory m = (b : Books) × (given : List ℕ) × IsNewBooks b × (m ≡ opened_memory b given)
