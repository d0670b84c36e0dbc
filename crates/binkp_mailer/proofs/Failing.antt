-- Whether a round of giving failed.
use Rattle.std.proofs.Common.{◌≡◌, ℕ, true, false, Result, Ok, Err, refl}
use Rattle.std.specs.Result.{result_eq}
use Rattle.std.specs.contracts.prelude.UnitPartialEq.TheImpl.{eq-value as unit_eq}
use Rattle.node_model.specs.contracts.store.StoreFaultPartialEq.TheImpl.{eq-value as fault_eq}
use Rattle.node_model.specs.declared.store.StoreFault.{StoreFault}
use Rattle.node_model.specs.declared.store.StoreFault.TheVariants.{Disk, Read, Full, NoMemory}
use Rattle.binkp_mailer.specs.Inbound.{status_behind}
use Rattle.command_base.specs.Statuses.{Status, DiskFault}

pub failed_so : (result : Result (Unit {0}) StoreFault) (was : Status) (faults : ℕ) → result_eq unit_eq.it fault_eq.it result (Err Disk) ≡ true → status_behind result was faults ≡ DiskFault faults
failed_so (Ok done) was faults is = absurd (let clash : false ≡ true = is in cc)
failed_so (Err Disk) was faults is = refl
failed_so (Err Read) was faults is = absurd (let clash : false ≡ true = is in cc)
failed_so (Err Full) was faults is = absurd (let clash : false ≡ true = is in cc)
failed_so (Err NoMemory) was faults is = absurd (let clash : false ≡ true = is in cc)

pub went_so : (result : Result (Unit {0}) StoreFault) (was : Status) (faults : ℕ) → result_eq unit_eq.it fault_eq.it result (Err Disk) ≡ false → status_behind result was faults ≡ was
went_so (Ok done) was faults is = refl
went_so (Err Disk) was faults is = absurd (let clash : true ≡ false = is in cc)
went_so (Err Read) was faults is = refl
went_so (Err Full) was faults is = refl
went_so (Err NoMemory) was faults is = refl
