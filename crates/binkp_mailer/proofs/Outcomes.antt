-- Over a broken store a call may have failed.
use Rattle.std.proofs.Common.{◌≡◌, ℕ, Option, Some, refl, sym, subst}
use Rattle.std.specs.Prelude.{IsSome}
use Rattle.binkp_mailer.specs.declared.report.Outcome.{Outcome}
use Rattle.binkp_mailer.specs.declared.report.Outcome.TheVariants as O
use Rattle.binkp_mailer.specs.Reports.{FailedIsBroken}

pub broken_failed : (outcome : Outcome) (broken : Option ℕ) (count : ℕ) → broken ≡ Some count → FailedIsBroken outcome broken
broken_failed (O.Ungiven report faults) broken count is = subst (λ (b : Option ℕ). IsSome b) (sym is) refl
broken_failed O.Usage broken count is = tt
broken_failed O.NoMemory broken count is = tt
broken_failed O.NotFound broken count is = tt
broken_failed (O.Unindexed fault faults) broken count is = tt
broken_failed (O.Unset fault faults) broken count is = tt
broken_failed (O.Unopened fault faults) broken count is = tt
broken_failed (O.Marked name) broken count is = tt
broken_failed O.NoCaller broken count is = tt
broken_failed O.NoLine broken count is = tt
broken_failed (O.Unmarked faults) broken count is = tt
broken_failed (O.Held report) broken count is = tt
