-- The searches of a hub's sessions for what they offer next, begun anew (own).
use Rattle.std.specs.Prelude.{◌≡◌, ℕ, Some, None, map, option_map}
use Rattle.hub_core.specs.Hubs.{Sitting, Chair, HubState, sitting_at}

-- its search goes on from no place
abbrev pub from_start : Sitting → Sitting
from_start x = record x { passed = None }

abbrev pub chair_anew : Chair → Chair
chair_anew c = record c { sitting = option_map from_start c.sitting }

-- each session looks for what it offers next from the start
abbrev pub anew : HubState → HubState
anew h = record h { chairs = map chair_anew h.chairs }

-- no session has a place that its search goes on from
abbrev pub LooksAnew : HubState → Type 0
LooksAnew h = (k : ℕ) (x : Sitting) → sitting_at h k ≡ Some x → x.passed ≡ None
