-- What becomes of received files behind a session of a call (own).
use Rattle.std.specs.Prelude.{◌≡◌, ◌⊎◌, ℕ, Bool, Option, None, Result, Err, IsSome}
use Rattle.disk_model.specs.World.{World}
use Rattle.inbound_files.specs.Giving.{GivesFiles}
use Rattle.mail_conf.specs.Conf.{ConfText}
use Rattle.node_model.specs.declared.store.StoreFault.{StoreFault}
use Rattle.node_model.specs.declared.store.StoreFault.TheVariants.{Disk}
use Rattle.node_store.specs.Stored.{Holding, stand_of}
use Rattle.session_run.specs.Reports.{ReportText}
use Rattle.command_base.specs.Statuses.{Status, DiskFault}
pub use Rattle.binkp_serve.specs.Rests.{waiting}

-- a disk that fails turns the status of a call into its own
abbrev pub status_behind : Result (Unit {0}) StoreFault → Status → (faults : ℕ) → Status
status_behind (Err Disk) was faults = DiskFault faults
status_behind result was faults = was

module _ {D : Type 0} (tells : Bool) (content : D → World) (faults : D → ℕ) (moment : D → ℕ) (images : D → ℕ → World → Type 0) where
  -- Where no session was held, or the store is broken, nothing is given. Else there is one round for all files that may be given, to
  -- the folders of the settings.
  pub data Gives_behind (conf : ConfText) (told : Option ReportText) (was had : Status) (old new : Holding D) : Type 0 where
    Gives_none : (told ≡ None) ⊎ IsSome old.memory.broken → had ≡ was → new ≡ old → Gives_behind conf told was had old new
    Gives_round : IsSome told → (result : Result (Unit {0}) StoreFault)
        → GivesFiles (stand_of tells content faults moment images) conf.inbound conf.inbound_nonsecure (waiting (stand_of tells content faults moment images old)) old result new
        → had ≡ status_behind result was (faults new.disk) → Gives_behind conf told was had old new
