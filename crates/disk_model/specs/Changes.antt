-- What a call of a disk may do to the world (own).
use Rattle.std.specs.Prelude.{◌≡◌, ◌≢◌, ◌⊎◌, ℕ, ◌+◌, ◌≤◌, min, max, List, [], ◌∷◌, ◌++◌, length, take, drop, Option, Some, None, Result, MatchResult}
use Rattle.disk_model.specs.World.{Files, OutFile, World}

-- each of these worlds has P. Of a disk that doesn't tell there are none.
abbrev pub Every : (World → Type 0) → (World → Type 0) → Type 0
Every worlds P = (w : World) → worlds w → P w

-- each new world is an old one after a step
abbrev pub Follows : (World → World → Type 0) → (World → Type 0) → (World → Type 0) → Type 0
Follows step old new = (c : World) → new c → (d : World) × old d × step d c

-- nothing changed
abbrev pub Same : World → World → Type 0
Same old new = new ≡ old

-- The step that the answer names was made at Ok. Else the step of one of the answers was made, or none: wholly or not at all.
abbrev pub AtOnce : {T E : Type 0} → Result T E → (T → World → World → Type 0) → World → World → Type 0
AtOnce {T} result step old new = MatchResult result (λ answer. step answer old new) (λ _. (new ≡ old) ⊎ ((answer : T) × step answer old new))

-- the own file stands, with at least that many bytes
abbrev pub Stands : List ℕ → ℕ → World → Type 0
Stands name n w = (b : List ℕ) × (w.own name ≡ Some b) × (n ≤ length b)

-- no own file has the name
abbrev pub IsFree : List ℕ → World → Type 0
IsFree name w = w.own name ≡ None

-- the same under this name
abbrev pub SameAt : List ℕ → World → World → Type 0
SameAt name d c = c.own name ≡ d.own name

-- the own files changed so, and nothing else did
pub record OnOwn (step : Files → Files → Type 0) (old new : World) : Type 0 where
  pub own : step old.own new.own
  pub outside : new.outside ≡ old.outside
  pub gifts : new.gifts ≡ old.gifts

-- the outside files changed so, and nothing else did
pub record OnOutside (step : (List ℕ → Option OutFile) → (List ℕ → Option OutFile) → Type 0) (old new : World) : Type 0 where
  pub own : new.own ≡ old.own
  pub outside : step old.outside new.outside
  pub gifts : new.gifts ≡ old.gifts

-- the same under all other names, and outside
pub record Only (name : List ℕ) (old new : World) : Type 0 where
  pub others : (n : List ℕ) → n ≢ name → new.own n ≡ old.own n
  pub outside : new.outside ≡ old.outside
  pub gifts : new.gifts ≡ old.gifts

-- the bytes of one name change by R, and nothing else
pub record Rewrites (name : List ℕ) (R : List ℕ → List ℕ → Type 0) (old new : Files) : Type 0 where
  pub file : (b : List ℕ) → old name ≡ Some b → (c : List ℕ) × (new name ≡ Some c) × R b c
  pub absent : old name ≡ None → new name ≡ None
  pub others : (n : List ℕ) → n ≢ name → new n ≡ old n

-- one name has this now, and nothing else changed
pub record Puts {X : Type 0} (name : List ℕ) (file : Option X) (old new : List ℕ → Option X) : Type 0 where
  pub here : new name ≡ file
  pub others : (n : List ℕ) → n ≢ name → new n ≡ old n

-- what stood under one name stands under another
pub record Renames (from to : List ℕ) (old new : Files) : Type 0 where
  pub moved : new to ≡ old from
  pub gone : from ≢ to → new from ≡ None
  pub others : (n : List ℕ) → n ≢ from → n ≢ to → new n ≡ old n

-- the name is free, or as before, or has any bytes, at most n
pub record PutsPart (name : List ℕ) (n : ℕ) (old new : Files) : Type 0 where
  pub here : (new name ≡ None) ⊎ (new name ≡ old name) ⊎ ((b : List ℕ) × (new name ≡ Some b) × (length b ≤ n))
  pub others : (m : List ℕ) → m ≢ name → new m ≡ old m

-- new is old with these bytes at this place
abbrev pub Holds : ℕ → List ℕ → List ℕ → List ℕ → Type 0
Holds at bytes old new = new ≡ take at old ++ bytes ++ drop (at + length bytes) old

-- after a write of n bytes that is not synced: any bytes in the range and past the old end, the same elsewhere
pub record Torn (at n : ℕ) (old new : List ℕ) : Type 0 where
  pub before : take at new ≡ take at old
  pub after : drop (at + n) new ≡ drop (at + n) old
  pub no_shorter : length old ≤ length new
  pub no_longer : length new ≤ max (length old) (at + n)

-- after a cut that is not synced: some length between
pub record Cut (n : ℕ) (old new : List ℕ) : Type 0 where
  pub no_shorter : min n (length old) ≤ length new
  pub front : new ≡ take (length new) old

-- an outside file became an own file
pub record Moves (path name : List ℕ) (old new : World) : Type 0 where
  pub file : OutFile
  pub was : old.outside path ≡ Some file
  pub gone : Puts path None old.outside new.outside
  pub own : Puts name (Some file.bytes) old.own new.own
  pub gifts : new.gifts ≡ old.gifts

-- an own file became an outside file of that time, and is a gift
pub record Gives (own folder name path : List ℕ) (time : ℕ) (old new : World) : Type 0 where
  pub bytes : List ℕ
  pub was : old.own own ≡ Some bytes
  pub gone : Puts own None old.own new.own
  pub outside : Puts path (Some (record { bytes = bytes; time = time })) old.outside new.outside
  pub gifts : new.gifts ≡ old.gifts ++ record { own = own; folder = folder; name = name; bytes = bytes } ∷ []
