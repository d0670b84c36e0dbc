-- A source of lines that gave none yet has them all back.
use Rattle.std.proofs.Common.{ℕ, arith, List, [], ◌∷◌, ◌++◌, Option, Some, None, option_map, length, ap}
use Rattle.binkp_link.specs.Lines.{LineState}
use Rattle.binkp_link.specs.LineSources.{LinesState, LinesTold, listening}
use Rattle.binkp_mailer.specs.OverLines.{IsFresh, NoneHanded}
use Rattle.binkp_serve.specs.Serving.{AreBack, AreBackTold, HasPlaces}

places_none : (told : Option LinesTold) → NoneHanded told → HasPlaces 0 told
places_none None none = tt
places_none (Some t) none = ap (λ (l : List (Option LineState)). length l) none

back_none : (told : Option LinesTold) → AreBackTold 0 told
back_none None = tt
back_none (Some t) = λ place within. absurd (omega (arith, within))

pub fresh_back : (lines : LinesState) → IsFresh lines → AreBack 0 lines
fresh_back lines fresh = record { count = fresh.given; places = places_none lines.told fresh.told; back = back_none lines.told }

-- Where a port is listened on the same lines are back.

listening_places : (n port : ℕ) (told : Option LinesTold) → HasPlaces n told → HasPlaces n (option_map (λ (t : LinesTold). record t { ports = t.ports ++ port ∷ [] }) told)
listening_places n port None places = tt
listening_places n port (Some t) places = places

listening_told : (n port : ℕ) (told : Option LinesTold) → AreBackTold n told → AreBackTold n (option_map (λ (t : LinesTold). record t { ports = t.ports ++ port ∷ [] }) told)
listening_told n port None back = tt
listening_told n port (Some t) back = back

pub listening_back : (n port : ℕ) (lines : LinesState) → AreBack n lines → AreBack n (listening port lines)
listening_back n port lines back = record { count = back.count; places = listening_places n port lines.told back.places; back = listening_told n port lines.told back.back }
