-- A disk in memory: what a read gives, and what a stop may leave after so many of its calls (own).
use Rattle.std.specs.Prelude.{◌≡◌, ◌⊎◌, ℕ, List, [], ◌∷◌, ◌++◌, ◌+◌, length, take, Some, None, Contains, Result, Ok, Err, MatchResult, IsErr}
use Rattle.ftn_addr.specs.Counts.{next_count}
use Rattle.ftn_addr.specs.declared.refusals.NoMemory.{NoMemory}
use Rattle.disk_model.specs.World.{World}
use Rattle.disk_model.specs.Changes.{OnOwn, OnOutside, Rewrites, Torn, Cut, Puts, PutsPart, Renames, Moves, Gives}
use Rattle.mem_disk.specs.Holding.{Holding, calls_in, in_part, first_calls, play, shown}
use Rattle.disk_model.specs.Causes.{Outcome}
use Rattle.disk_model.specs.Causes.Outcome.{Succeeds, Fails, HasNoMemory}
use Rattle.mem_disk.specs.declared.call.Call.{Call}
use Rattle.mem_disk.specs.declared.call.Call.TheVariants.{Nothing, Wrote, Shortened, Synced, Created, Removed, Renamed, Placed, PutOut, LostOut, Moved, Copied, Given}
use Rattle.mem_disk.specs.declared.disk.MemDisk.{MemDisk}

-- What a stop may make of an image d in a call, where `read` was read before it: a write, a cut or a copy may be done in
-- part, after a sync the file is as it was read, and all else is done as a whole. Where a file isn't there nothing moves.
abbrev pub may : Call → World → World → World → Type 0
may Nothing read d c = c ≡ d
may (Wrote name at bytes) read d c = OnOwn (Rewrites name (Torn at (length bytes))) d c
may (Shortened name len) read d c = OnOwn (Rewrites name (Cut len)) d c
may (Synced name) read d c = (c ≡ d) × (c.own name ≡ read.own name)
may (Created name) read d c = OnOwn (Puts name (Some [])) d c
may (Removed name) read d c = OnOwn (Puts name None) d c
may (Renamed from to) read d c = ((read.own from ≡ None) × (c ≡ d)) ⊎ OnOwn (Renames from to) d c
may (Placed path bytes time) read d c = OnOutside (Puts path (Some (record { bytes = bytes; time = time }))) d c
may (PutOut path bytes time) read d c = OnOutside (Puts path (Some (record { bytes = bytes; time = time }))) d c
may (LostOut path) read d c = OnOutside (Puts path None) d c
may (Moved path name) read d c = ((read.outside path ≡ None) × (c ≡ d)) ⊎ Moves path name d c
may (Copied name bytes) read d c = OnOwn (PutsPart name (length bytes)) d c
may (Given own folder name path) read d c = ((read.own own ≡ None) × (c ≡ d)) ⊎ Gives own folder name path 0 d c

-- what a stop may have left after these calls, from these images and what was kept before them
abbrev pub run : (World → Type 0) → Holding → List Call → World → Type 0
run images h [] c = images c
run images h (x ∷ xs) c = run (λ after. (d : World) × images d × may x (shown h) d after) (play x h) xs c

-- and from the first on: a stop before any call leaves what was kept
abbrev pub left : Holding → List Call → World → Type 0
left first calls c = run (λ w. w ≡ shown first) first calls c

abbrev pub mem_files : MemDisk → World → Type 0
mem_files d w = w ≡ shown d.held

-- it tells its content
abbrev pub Tells : MemDisk → Type 0
Tells d = (w : World) × mem_files d w

abbrev pub mem_moment : MemDisk → ℕ
mem_moment d = length d.log.items

abbrev pub mem_images : MemDisk → ℕ → World → Type 0
mem_images d k w = left d.first (take k d.log.items) w

-- the moment after so many calls
abbrev pub moment_after : ℕ → MemDisk → ℕ
moment_after n d = length (first_calls n d.log.items)

-- the change was noted and made
pub record Added (x : Call) (old new : MemDisk) : Type 0 where
  pub log : new.log.items ≡ old.log.items ++ x ∷ []
  pub held : new.held ≡ play x old.held
  pub first : new.first ≡ old.first

pub record Unnoted (old new : MemDisk) : Type 0 where
  pub log : new.log.items ≡ old.log.items
  pub held : new.held ≡ old.held
  pub first : new.first ≡ old.first

-- the call was noted and made; or it failed and was made in part, or there was no memory to note it
abbrev pub Noted : {T E : Type 0} → Result T E → Call → MemDisk → MemDisk → Type 0
Noted result x old new = MatchResult result (λ _. Added x old new) (λ _. Added (in_part x) old new ⊎ Unnoted old new)

-- the same of a call for which there may have been no memory
abbrev pub NotedAs : {T E : Type 0} → Result Call NoMemory → Result T E → MemDisk → MemDisk → Type 0
NotedAs (Ok x) result old new = Noted result x old new
NotedAs (Err e) result old new = IsErr result × Unnoted old new

-- the step of such a call of which nothing is left where it fails
abbrev pub Plays : {T E : Type 0} → Result Call NoMemory → Result T E → World → World → World → Type 0
Plays (Ok x) result read d c = MatchResult result (λ _. may x read d c) (λ _. c ≡ d)
Plays (Err e) result read d c = MatchResult result (λ _. ⊥) (λ _. c ≡ d)

-- a call took its number, and the calls that are to fail are the same
pub record Numbered (old new : MemDisk) : Type 0 where
  pub calls : calls_in new.log.items ≡ calls_in old.log.items + 1
  pub failing : new.failing.items ≡ old.failing.items

-- a call took no number
pub record Unnumbered (old new : MemDisk) : Type 0 where
  pub calls : calls_in new.log.items ≡ calls_in old.log.items
  pub failing : new.failing.items ≡ old.failing.items

-- whether the next call is one of those that are to fail
abbrev pub IsToFail : MemDisk → Type 0
IsToFail d = Contains d.failing.items (next_count (calls_in d.log.items))

-- A call whose number is one of those that are to fail fails. Another fails only for want of memory, and then it takes no
-- number. Each failure is one fault more, and a call that finds no memory for its answer is none.
abbrev pub FailsAsSet : Outcome → MemDisk → MemDisk → Type 0
FailsAsSet Succeeds old new = (IsToFail old → ⊥) × Numbered old new × (new.faults ≡ old.faults)
FailsAsSet Fails old new = ((IsToFail old × Numbered old new) ⊎ Unnumbered old new) × (new.faults ≡ next_count old.faults)
FailsAsSet HasNoMemory old new = Unnumbered old new × (new.faults ≡ old.faults)
