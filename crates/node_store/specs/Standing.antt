-- The takes that an opening finds standing (own).
use Rattle.std.specs.Prelude.{ℕ, ◌≤◌, List, fold, Option, Some, None, if◌then◌else◌}
use Rattle.std.specs.List.{AllByRecursion}
use Rattle.disk_model.specs.Changes.{Every, SameAt}
use Rattle.disk_model.specs.World.{World}
use Rattle.ledger_rec.specs.Fold.{State, is_among}
use Rattle.node_store.specs.Names.{AreDistinct, take_number}
use Rattle.node_store.specs.Opening.{greatest}
use Rattle.node_store.specs.Takes.{AreStanding, IsLeft, Takes, no_takes, own_names, with_found}
use Rattle.node_store.specs.Worlds.{takes_in}
use Rattle.node_store.specs.declared.takes.TakeName.{TakeName}

-- a take of that number stands under the name, where the number isn't recorded
abbrev pub found_as : List ℕ → List ℕ → Option ℕ → Takes → Takes
found_as recorded name None t = t
found_as recorded name (Some take) t = if is_among take recorded then t else with_found take name t

abbrev pub found_under : List ℕ → List ℕ → Takes → Takes
found_under recorded name t = found_as recorded name (take_number name) t

-- numbers go on behind those that are recorded
abbrev pub behind : List ℕ → Takes
behind recorded = record no_takes { last = greatest recorded }

-- the takes among these names whose numbers aren't recorded
abbrev pub found_takes : List ℕ → List (List ℕ) → Takes
found_takes recorded names = fold (λ t name. found_under recorded name t) (behind recorded) names

-- a stop leaves of each what is read
abbrev pub AreKept : Takes → World → World → Type 0
AreKept t f c = AllByRecursion (λ (x : TakeName). SameAt x.own f c) t.left

-- These are the takes of a fold, and in each world that is read they are all that stand.
pub record StandSo (read : World → Type 0) (s : State) (t : Takes) : Type 0 where
  pub recorded : AllByRecursion (λ n. n ≤ t.last) s.takes
  pub left : AllByRecursion (IsLeft t.last s.takes) t.left
  pub apart : Every read (λ w. AreDistinct (own_names t.left))
  pub standing : Every read (λ w. AreStanding (own_names t.left) (takes_in w))
