-- Readings that may be refused.
use Rattle.std.specs.Prelude.{◌≡◌, ℕ, Result, Ok, Err}
use Rattle.ftn_addr.specs.LineNumbers.{or_fault}
use Rattle.ftn_addr.specs.Outcomes.{GivesUnless}
use Rattle.mail_conf.specs.declared.cause.ConfCause.{ConfCause}
use Rattle.mail_conf.specs.declared.cause.ConfCause.TheVariants.{NoMemory}
use Rattle.mail_conf.specs.declared.cause.ConfFault.{ConfFault}

-- What was returned, seen by view, is what is read, unless memory ran out.
abbrev pub GivesAt : {X Y : Type 0} → (X → Y) → Result X ConfFault → Result Y ConfFault → Type 0
GivesAt view result read = GivesUnless (λ fault. fault.cause ≡ NoMemory) view result read

-- a cause, told with its line
abbrev pub on_line : {A B : Type 0} → ℕ → Result A ConfCause → (A → Result B ConfFault) → Result B ConfFault
on_line number read f = or_fault (λ cause. record { line = number; cause = cause }) read f
