-- The opening of a store, as a command meets it (own).
use Rattle.std.specs.Prelude.{◌≡◌, ◌⊎◌, ℕ, Bool, true}
use Rattle.disk_model.specs.Moments.{Leaves}
use Rattle.disk_model.specs.World.{World}
use Rattle.ftn_addr.specs.Counts.{Increased}
use Rattle.node_store.specs.Aside.{SameAside}
use Rattle.node_store.specs.Finding.{IsNewMemory, IsOpened}
use Rattle.node_store.specs.Opening.{IsRefused, Recovers}
use Rattle.node_store.specs.Stored.{Holding}
use Rattle.node_store.specs.declared.opening.fault.StoreOpenFault.{StoreOpenFault}
use Rattle.node_store.specs.declared.opening.fault.StoreOpenFault.TheVariants as F

module _ {D : Type 0} (tells : Bool) (content : D → World) (faults : D → ℕ) (moment : D → ℕ) (images : D → ℕ → World → Type 0) where
  -- A store was opened: nothing is open in it, the disk read what it tells, and at each moment a stop left what opens as before,
  -- and so does the end. Own files that aren't the store's are the same, then and now.
  pub record HasOpened (disk : D) (opened : Holding D) : Type 0 where
    pub memory : IsNewMemory opened.memory
    pub told : tells ≡ true → IsOpened (content disk) (content opened.disk) opened.memory
    pub stop : tells ≡ true → Leaves moment images Recovers disk opened.disk
    pub read : tells ≡ true → Recovers (content disk) (content opened.disk)
    pub aside_stop : tells ≡ true → Leaves moment images SameAside disk opened.disk
    pub aside_read : tells ≡ true → SameAside (content disk) (content opened.disk)
    pub calm : faults opened.disk ≡ faults disk

  -- None was opened: the disk failed, or there was no memory, or the world that it reads is refused. At each moment a stop left
  -- what opens as before, and so does the end. Own files that aren't the store's are the same, then and now.
  pub record HasRefused (fault : StoreOpenFault) (disk disk' : D) : Type 0 where
    pub why : (fault ≡ F.Disk) ⊎ ((fault ≡ F.NoMemory) ⊎ (tells ≡ true → IsRefused fault (content disk)))
    pub failed : fault ≡ F.Disk → Increased (faults disk) (faults disk')
    pub stop : tells ≡ true → Leaves moment images Recovers disk disk'
    pub read : tells ≡ true → Recovers (content disk) (content disk')
    pub aside_stop : tells ≡ true → Leaves moment images SameAside disk disk'
    pub aside_read : tells ≡ true → SameAside (content disk) (content disk')
