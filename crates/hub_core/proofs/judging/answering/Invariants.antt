use Rattle.std.proofs.Common.{◌≡◌, ◌≤◌, count_by, take}
use Rattle.hub_core.specs.Steps.{place_answers}
use Rattle.hub_core.proofs.judging.answering.Given as goal

abbrev pub invariant-loop-place : goal.invariant-loop-place
invariant-loop-place l = (l.count ≡ count_by place_answers (take l.place-index l.places)) × (l.count ≤ l.place-index)
