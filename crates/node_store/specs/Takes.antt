-- The takes that stand in the own folder, as a store has them in memory (own).
use Rattle.std.specs.Prelude.{◌≡◌, ℕ, ◌+◌, ◌≤◌, ◌==◌, ◌||◌, max, not, Bool, true, false, List, [], ◌∷◌, ◌++◌, map, filter, Option, Some, None, Result, Ok, Err, IsSome}
use Rattle.std.specs.List.{AllByRecursion}
use Rattle.disk_model.specs.declared.answers.Moved.{Moved}
use Rattle.disk_model.specs.declared.answers.Moved.TheVariants.{Done, Absent}
use Rattle.ledger_rec.specs.Fold.{is_among}
use Rattle.node_model.specs.declared.store.StoreFault.{StoreFault}
use Rattle.node_model.specs.Lists.{Member}
use Rattle.node_model.specs.StoreStates.{StoreState, IfTold}
use Rattle.node_store.specs.Names.{AreDistinct, is_one, take_number}
use Rattle.node_store.specs.declared.takes.TakeName.{TakeName}

-- the takes that stand; the greatest number of one that stands or is recorded; and whether the next number was drawn
pub record Takes : Type 0 where
  pub left : List TakeName
  pub last : ℕ
  pub drawn : Bool

-- none stands, and none is recorded
abbrev pub no_takes : Takes
no_takes = record { left = []; last = 0; drawn = false }

-- their own names
abbrev pub own_names : List TakeName → List (List ℕ)
own_names left = map (λ (t : TakeName). t.own) left

-- these are the own names of all takes that stand
abbrev pub AreStanding : List (List ℕ) → (List ℕ → Option (List ℕ)) → Type 0
AreStanding names takes = (name : List ℕ) → (Member name names → IsSome (takes name)) × (IsSome (takes name) → Member name names)

-- It has the number that its own name says, and is told as recorded exactly where that number is.
pub record IsLeft (last : ℕ) (recorded : List ℕ) (t : TakeName) : Type 0 where
  pub named : take_number t.own ≡ Some t.take
  pub below : t.take ≤ last
  pub noted : t.recorded ≡ is_among t.take recorded

-- These are the takes of a store: no number above the last is recorded, and each has its number. Where the store tells what it
-- keeps, each has a name of its own, and they are all that stand.
pub record AreTakesOf (t : Takes) (s : StoreState) : Type 0 where
  pub recorded : AllByRecursion (λ n. n ≤ t.last) s.recorded
  pub left : AllByRecursion (IsLeft t.last s.recorded) t.left
  pub standing : IfTold s.content (λ a. AreDistinct (own_names t.left) × AreStanding (own_names t.left) a.takes)

-- the name of a take with the number that was drawn
pub record IsNext (own : List ℕ) (t : Takes) : Type 0 where
  pub drawn : t.drawn ≡ true
  pub named : take_number own ≡ Some (t.last + 1)

-- the number behind the last is drawn
abbrev pub with_drawn : Takes → Takes
with_drawn t = record t { drawn = true }

-- one more stands, which isn't recorded
abbrev pub with_found : ℕ → List ℕ → Takes → Takes
with_found take own t = record { left = t.left ++ record { take = take; own = own; recorded = false } ∷ []; last = max t.last take; drawn = false }

-- a file was taken under that name, which has the number drawn; where none was there, nothing changed
abbrev pub with_moved : List ℕ → Moved → Takes → Takes
with_moved own Done t = record { left = t.left ++ record { take = t.last + 1; own = own; recorded = false } ∷ []; last = t.last + 1; drawn = false }
with_moved own Absent t = t

abbrev pub MovedSo : List ℕ → Result Moved StoreFault → Takes → Takes → Type 0
MovedSo own (Ok moved) old new = new ≡ with_moved own moved old
MovedSo own (Err fault) old new = new ≡ old

-- the take of that name is removed
abbrev pub without_take : List ℕ → Takes → Takes
without_take own t = record t { left = filter (λ (x : TakeName). not (is_one x.own own)) t.left }

abbrev pub RemovedSo : List ℕ → Result (Unit {0}) StoreFault → Takes → Takes → Type 0
RemovedSo own (Ok done) old new = new ≡ without_take own old
RemovedSo own (Err fault) old new = new ≡ old

-- a take is recorded
abbrev pub noted : ℕ → TakeName → TakeName
noted take t = record t { recorded = t.recorded || take == t.take }

abbrev pub with_noted : Option ℕ → Takes → Takes
with_noted None t = t
with_noted (Some take) t = record { left = map (noted take) t.left; last = max t.last take; drawn = false }

abbrev pub NotedSo : {T : Type 0} → Option ℕ → Result T StoreFault → Takes → Takes → Type 0
NotedSo take (Ok slots) old new = new ≡ with_noted take old
NotedSo take (Err fault) old new = new ≡ old
