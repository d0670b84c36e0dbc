use Rattle.std.proofs.Common.{◌≡◌, ◌++◌, map, take, drop}
use Rattle.hub_core.specs.Anew.{chair_anew}
use Rattle.hub_core.specs.Hubs.{chair_of}
use Rattle.hub_core.proofs.seats.look_anew_at.Given as goal

abbrev pub invariant-loop-place : goal.invariant-loop-place
invariant-loop-place l =
    map chair_of l.places ≡ map chair_anew (take l.place-index (map chair_of l.initial.places)) ++ drop l.place-index (map chair_of l.initial.places)
