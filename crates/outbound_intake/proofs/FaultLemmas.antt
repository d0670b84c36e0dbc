-- Which faults leave a broken store.
use Rattle.std.proofs.Common.{◌≡◌, ◌≢◌, Result, Err, None, subst}
use Rattle.node_model.specs.declared.store.StoreFault.{StoreFault}
use Rattle.node_model.specs.declared.store.StoreFault.TheVariants.{Disk, Read}
use Rattle.outbound_take.specs.declared.words.TakeFault.{TakeFault}
use Rattle.outbound_take.specs.declared.words.TakeFault.TheVariants as TF
use Rattle.outbound_take.specs.Ours.{FaultSettles}
use Rattle.outbound_take.specs.Stand.{Breaks, TakeStand}
use Rattle.outbound_intake.specs.Answers.{FaultBreaks}

-- a fault that settles breaks nothing
pub settled_breaks : (fault : TakeFault) (s : TakeStand) → FaultSettles fault → FaultBreaks fault s
settled_breaks TF.Disk s none = absurd none
settled_breaks (TF.Marked name) s settles = tt
settled_breaks TF.Full s settles = tt
settled_breaks TF.NoMemory s settles = tt

-- a failing disk does
pub broke_at : (T : Type 0) (fault : StoreFault) (s : TakeStand) → fault ≡ Disk → Breaks (let r : Result T StoreFault = Err fault in r) s → s.memory.broken ≢ None
broke_at T fault s is breaks = subst (λ (f : StoreFault). Breaks (let r : Result T StoreFault = Err f in r) s) is breaks

-- no call answers Read
pub never_read : (T : Type 0) (fault : StoreFault) (s : TakeStand) → fault ≡ Read → Breaks (let r : Result T StoreFault = Err fault in r) s → ⊥
never_read T fault s is breaks = subst (λ (f : StoreFault). Breaks (let r : Result T StoreFault = Err f in r) s) is breaks
