-- A call of many moments that changes what is around a store.
use Rattle.std.proofs.Common.{◌≡◌, ℕ, ◌≤◌, Option, Some, None, Result, Ok, Err, Bool, true, refl, sym}
use Rattle.std.specs.Prelude.{IfOk}
use Rattle.ftn_addr.specs.Counts.{Increased}
use Rattle.ftn_addr.specs.Moments.{MomentsGrew}
use Rattle.disk_model.specs.World.{World}
use Rattle.disk_model.specs.Moments.{Now}
use Rattle.node_model.specs.declared.store.StoreFault.{StoreFault}
use Rattle.node_model.specs.declared.store.StoreFault.TheVariants.{Disk}
use Rattle.node_model.proofs.Lists.{none_some}
use Rattle.node_store.specs.Stored.{Memory, IsSound, state_of, stored_in}
use Rattle.node_store.specs.Takes as Lists
use Rattle.node_store.specs.Takes.{AreTakesOf}
use Rattle.node_store.specs.Taking.{Around, MadeOf, Takes, made_so}
use Rattle.node_store.specs.Worlds.{takes_in}
use Rattle.node_store.proofs.Calls.{standing}
use Rattle.node_store.proofs.HeldTakes.{same_takes}
use Rattle.node_store.proofs.TakeCall.{TakesOne, takes_done, takes_failed, takes_many, takes_sound}

-- What such a call made: what is read and what a stop leaves agree on it, and at each moment since it began all of it was made, or
-- what its answer allows.
pub record MakesAround {D T : Type 0} (tells : Bool) (content : D → World) (moment : D → ℕ) (images : D → ℕ → World → Type 0) (does : T → Around → Around) (result : Result T StoreFault) (old new : D) : Type 0 where
  pub made : Option T
  pub answered : IfOk result (λ answer. made ≡ Some answer)
  pub read : tells ≡ true → TakesOne tells (made_so does made) (content old) (content new)
  pub takes : tells ≡ true → takes_in (content new) ≡ takes_in (content old)
  pub left : (c : World) → Now moment images new c → (d : World) × Now moment images old d × TakesOne tells (made_so does made) d c
  pub grew : MomentsGrew (moment old) (images old) (moment new) (images new)
  pub each : (k : ℕ) (c : World) → moment old ≤ k → k ≤ moment new → images new k c → (d : World) × Now moment images old d × ((o : Option T) × MadeOf result o × TakesOne tells (made_so does o) d c)

module _ {D T : Type 0} (tells : Bool) (content : D → World) (faults moment : D → ℕ) (images : D → ℕ → World → Type 0) (old new : D) (m : Memory) (sound : IsSound tells content moment images old m) (whole : m.broken ≡ None) (does : T → Around → Around) where
  module _ (result : Result T StoreFault) (call : MakesAround tells content moment images does result old new) where
    abbrev allowed : Option T → Type 0
    allowed o = o ≡ call.made

    left : (c : World) → Now moment images new c → (d : World) × Now moment images old d × ((o : Option T) × allowed o × TakesOne tells (made_so does o) d c)
    left c image = let x = call.left c image in (x.0, x.1, (call.made, refl, x.2))

    pub around_sound : IsSound tells content moment images new m
    around_sound = takes_sound tells content faults moment images old new m sound whole does call.made call.read call.grew allowed left (λ o is. is)

    pub around_takes : (t : Lists.Takes) → AreTakesOf t (state_of tells (content old) (faults old) m) → AreTakesOf t (state_of tells (content new) (faults new) m)
    around_takes t are = same_takes t tells (content old) (content new) (faults old) (faults new) m (state_of tells (content new) (faults new) m) (stored_in (content new) m) refl refl refl call.takes are

  pub around_done : (answer : T) → MakesAround tells content moment images does (Ok answer) old new → faults new ≡ faults old
      → Takes does (Ok answer) (standing tells content faults moment images old m) (standing tells content faults moment images new m)
  around_done answer call calm =
      takes_many tells content faults moment images old new m sound whole does call.made call.read call.grew (allowed (Ok answer) call) (left (Ok answer) call) (Ok answer) m call.each (λ still o is. is) (λ t. refl)
      (takes_done tells content faults moment images old new m sound whole does call.made call.read answer call.answered calm)

  pub around_failed : MakesAround tells content moment images does (Err Disk) old new → Increased (faults old) (faults new)
      → Takes does (Err Disk) (standing tells content faults moment images old m) (standing tells content faults moment images new (record m { broken = Some (faults new) }))
  around_failed call rose =
      takes_many tells content faults moment images old new m sound whole does call.made call.read call.grew (allowed (Err Disk) call) (left (Err Disk) call) (Err Disk) (record m { broken = Some (faults new) }) call.each (λ still. none_some (sym still)) (λ t. refl)
      (takes_failed tells content faults moment images old new m sound whole does call.made call.read rose)
