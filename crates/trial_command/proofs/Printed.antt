-- The status of a trial whose lines were put.
use Rattle.std.proofs.Common.{◌≡◌, ◌⊎◌, ◌∙◌, inl, inr, ℕ, List}
use Rattle.binkp_link.specs.Lines.{SinkState}
use Rattle.command_base.specs.Printing.{PrintsLines, lines_put, no_room, all_put, put_failed}
use Rattle.command_base.specs.Statuses.{Status, Done, NoMemory}
use Rattle.trial_command.specs.Trial.{IsTrialStatus}

-- it was held, or there was no memory for it
pub printed_status : (lines : List ℕ) (had status : Status) (out out' : SinkState) → PrintsLines lines had status out out' → (had ≡ Done) ⊎ (had ≡ NoMemory) → IsTrialStatus status
printed_status lines had status out out' (lines_put (all_put is puts)) (inl done) = inl (is ∙ done)
printed_status lines had status out out' (lines_put (all_put is puts)) (inr none) = inr (inl (is ∙ none))
printed_status lines had status out out' (lines_put (put_failed is puts)) was = inr (inr is)
printed_status lines had status out out' (no_room (all_put is puts)) was = inr (inl is)
printed_status lines had status out out' (no_room (put_failed is puts)) was = inr (inr is)
