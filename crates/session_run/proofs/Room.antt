-- Each turn moves a byte or is one Quiet more.
use Rattle.std.proofs.Common.{◌≡◌, ◌+◌, ◌<◌, ◌∙◌, ◌&&◌, ℕ, List, [], length, refl, sym, ap, arith, true, false, Bool, Option, Some, None}
use Rattle.std.specs.Prelude.{nat_le, ◌==◌, if◌then◌else◌, IfNone}
use Rattle.std.proofs.lemmas.Bool.{leb-false}
use Rattle.std.proofs.lemmas.List.{length-take-le}
use Rattle.session_run.specs.declared.run.Run.{Run}
use Rattle.binkp_link.specs.declared.link.WriteAnswer.{WriteAnswer}
use Rattle.binkp_link.specs.declared.link.WriteAnswer.TheVariants as W
use Rattle.binkp_link.specs.declared.link.ReadAnswer.{ReadAnswer}
use Rattle.binkp_link.specs.declared.link.ReadAnswer.TheVariants as R
use Rattle.session_core.specs.declared.ending.End.{End as EndCode}
use Rattle.session_core.specs.Ends.{End}
use Rattle.session_core.specs.Ends as E
use Rattle.binkp_link.specs.Lines.{LineState, IsRead, IsWrite, came, went}
use Rattle.session_run.specs.Machine.{Phase, Over, Taking, Reading, after_write, after_read}
use Rattle.session_run.specs.Runs.{Wrote, Came, Advances, InLimit, over_or}

-- what goes on didn't reach a limit
went_on : (limit bytes : ℕ) (end : End) (goal : Phase) → ((e : End) → goal ≡ Over e → ⊥) → goal ≡ (if nat_le limit bytes then Over end else goal) → bytes < limit
went_on limit bytes end goal never e = go (nat_le limit bytes) refl e
  where
    go : (b : Bool) → nat_le limit bytes ≡ b → goal ≡ (if b then Over end else goal) → bytes < limit
    go true t e = absurd (never end e)
    go false t e = leb-false limit bytes t

writes_advance : (limit : ℕ) (run run' : Run) (l l' : LineState) (waits : Bool) (answer : WriteAnswer) → InLimit limit run l.calm → IsWrite l answer run.out l' → Wrote run run' (went answer run.out) → Reading waits ≡ after_write answer limit (run.taken + run'.wrote) l'.calm (Reading waits) → Advances limit run run' l.calm l'.calm (0 < length run.out)
writes_advance limit run run' l l' waits (W.Wrote n) within is did to =
    let on = went_on limit (run.taken + run'.wrote) E.Endless (Reading waits) (λ e h. cc) to in
    let moved_on = length-take-le n run.out is.may.1 in
    record {
      within = record { below = omega (arith, on, did.taken); quiet = omega (arith, is.calm) };
      no_more = omega (arith, is.calm, did.taken, did.wrote, moved_on, is.may.0, on, within.below);
      less = λ some. omega (arith, is.calm, did.taken, did.wrote, moved_on, is.may.0, on, within.below);
    }
writes_advance limit run run' l l' waits W.Quiet within is did to =
    let on = went_on 60 l'.calm E.Quiet (Reading waits) (λ e h. cc) to in
    let still : run'.wrote ≡ run.wrote = omega (arith, did.wrote) in
    record {
      within = record { below = omega (arith, did.taken, still, within.below); quiet = on };
      no_more = omega (arith, is.calm, did.taken, still, on, within.quiet);
      less = λ some. omega (arith, is.calm, did.taken, still, on, within.quiet);
    }
writes_advance limit run run' l l' waits W.Failed within is did to = absurd (let clash : Reading waits ≡ Over E.LineFault = to in cc)

pub write_advanced : (limit : ℕ) (run run' : Run) (l l' : LineState) (waits : Bool) (answer : WriteAnswer) (result : Option EndCode) → InLimit limit run l.calm → IsWrite l answer run.out l' → Wrote run run' (went answer run.out) → over_or result (Reading waits) ≡ after_write answer limit (run.taken + run'.wrote) l'.calm (Reading waits) → IfNone result (Advances limit run run' l.calm l'.calm (0 < length run.out))
write_advanced limit run run' l l' waits answer None within is did to = writes_advance limit run run' l l' waits answer within is did to
write_advanced limit run run' l l' waits answer (Some end) within is did to = tt

reads_advance : (limit : ℕ) (run run' : Run) (l l' : LineState) (wait : Bool) (answer : ReadAnswer) (buffer : List ℕ) → InLimit limit run l.calm → IsRead wait l answer buffer l' → Came run run' (came answer buffer) → Taking ≡ after_read answer limit (run'.taken + run.wrote) l'.calm → Advances limit run run' l.calm l'.calm (wait ≡ true)
reads_advance limit run run' l l' wait (R.Came n) buffer within is did to =
    let on = went_on limit (run'.taken + run.wrote) E.Endless Taking (λ e h. cc) to in
    let moved_on = length-take-le n buffer is.may.1 in
    record {
      within = record { below = omega (arith, on, did.wrote); quiet = omega (arith, is.calm) };
      no_more = omega (arith, is.calm, did.taken, did.wrote, moved_on, is.may.0, on, within.below);
      less = λ some. omega (arith, is.calm, did.taken, did.wrote, moved_on, is.may.0, on, within.below);
    }
reads_advance limit run run' l l' wait R.Quiet buffer within is did to =
    let on = went_on 60 l'.calm E.Quiet Taking (λ e h. cc) to in
    let still : run'.taken ≡ run.taken = omega (arith, did.taken) in
    record {
      within = record { below = omega (arith, did.wrote, still, within.below); quiet = on };
      no_more = omega (arith, is.calm, did.wrote, still, on, within.quiet);
      less = λ some. omega (arith, is.calm, did.wrote, still, on, within.quiet);
    }
reads_advance limit run run' l l' wait R.NotYet buffer within is did to =
    let still : run'.taken ≡ run.taken = omega (arith, did.taken) in
    record {
      within = record { below = omega (arith, did.wrote, still, within.below); quiet = omega (arith, is.calm, within.quiet) };
      no_more = omega (arith, is.calm, did.wrote, still);
      less = λ waited. absurd (let clash : true ≡ false = sym waited ∙ is.may in cc);
    }
reads_advance limit run run' l l' wait R.End buffer within is did to = absurd (let clash : Taking ≡ Over E.Dropped = to in cc)
reads_advance limit run run' l l' wait R.Failed buffer within is did to = absurd (let clash : Taking ≡ Over E.LineFault = to in cc)

pub read_advanced : (limit : ℕ) (run run' : Run) (l l' : LineState) (waits : Bool) (answer : ReadAnswer) (buffer : List ℕ) (result : Option EndCode) → InLimit limit run l.calm → IsRead (waits && (length run.out == 0)) l answer buffer l' → Came run run' (came answer buffer) → over_or result Taking ≡ after_read answer limit (run'.taken + run.wrote) l'.calm → IfNone result (Advances limit run run' l.calm l'.calm ((waits ≡ true) × (run.out ≡ [])))
read_advanced limit run run' l l' waits answer buffer None within is did to =
    let a = reads_advance limit run run' l l' (waits && (length run.out == 0)) answer buffer within is did to in
    record { within = a.within; no_more = a.no_more; less = λ h. a.less (ap (λ (b : Bool). b && (length run.out == 0)) h.0 ∙ ap (λ (xs : List ℕ). true && (length xs == 0)) h.1) }
read_advanced limit run run' l l' waits answer buffer (Some end) within is did to = tt
