-- The settings of a disk: its own file `binkp.conf` (own).
use Rattle.std.specs.Prelude.{◌≡◌, ◌≢◌, ℕ, Bool, true, List, codes, Option, Some, None, Result, Ok, Err}
use Rattle.disk_model.specs.Changes.{Same}
use Rattle.disk_model.specs.Moments.{Leaves}
use Rattle.disk_model.specs.World.{World}
use Rattle.ftn_addr.specs.Counts.{Increased}
use Rattle.mail_conf.specs.Conf.{ConfText, conf_of}
use Rattle.mail_conf.specs.declared.cause.ConfCause.TheVariants as C
use Rattle.mail_conf.specs.declared.cause.ConfFault.{ConfFault}
use Rattle.command_base.specs.declared.settings.SettingsFault.{SettingsFault}
use Rattle.command_base.specs.declared.settings.SettingsFault.TheVariants as U
use Rattle.command_base.specs.Statuses as S
use Rattle.command_base.specs.Statuses.{Status}

abbrev pub settings_name : List ℕ
settings_name = codes "binkp.conf"

-- the settings that a text spells, or the first fault; of no text that it isn't there
abbrev pub settings_at : Option (List ℕ) → Result ConfText ConfFault
settings_at None = Err (record { line = 0; cause = C.NoText })
settings_at (Some text) = conf_of text

-- a text is refused with that fault, or there was no memory
abbrev pub Unspelled : Option (List ℕ) → SettingsFault → Type 0
Unspelled text (U.Refused fault) = (fault.cause ≢ C.NoMemory) × (settings_at text ≡ Err fault)
Unspelled text U.Disk = ⊥
Unspelled text U.NoMemory = Unit {0}

abbrev pub settings_in : World → Result ConfText ConfFault
settings_in w = settings_at (w.own settings_name)

module _ {D : Type 0} (tells : Bool) (content : D → World) (faults : D → ℕ) (moment : D → ℕ) (images : D → ℕ → World → Type 0) where
  -- these are the disk's settings, where it tells its content; else some text spells them
  pub record HasSettings (disk : D) (conf : ConfText) : Type 0 where
    pub text : List ℕ
    pub spells : conf_of text ≡ Ok conf
    pub stands : tells ≡ true → (content disk).own settings_name ≡ Some text

  -- a disk was read only: it tells what it told, and each moment since left what one at the beginning leaves
  pub record OnlyRead (disk disk' : D) : Type 0 where
    pub same : tells ≡ true → content disk' ≡ content disk
    pub stop : Leaves moment images Same disk disk'

  -- The settings weren't read: they are refused, or the disk failed, or there was no memory.
  pub data NoSettings (disk disk' : D) (had : Status) : Type 0 where
    Is_refused : (fault : ConfFault) → had ≡ S.ConfBad fault → fault.cause ≢ C.NoMemory → (tells ≡ true → settings_in (content disk) ≡ Err fault) → NoSettings disk disk' had
    Has_failed : had ≡ S.DiskFault (faults disk') → Increased (faults disk) (faults disk') → NoSettings disk disk' had
    Had_no_memory : had ≡ S.NoMemory → NoSettings disk disk' had
