-- The course of a session after login: the session's rows, with what the law of two nodes tells of it (own; FTS-1026 for
-- the rows).
use Rattle.std.specs.Prelude.{◌≡◌, ℕ, Bool, true, false, ◌<◌, List, [], ◌∷◌, ◌++◌, None}
use Rattle.ftn_addr.specs.Key.{Key}
use Rattle.node_model.specs.declared.words.Role.{Role}
use Rattle.node_model.specs.Node.{Node}
use Rattle.node_model.specs.Calls.{Answer, Refused, Disk, Offered, Event, NodeStep}
use Rattle.node_model.specs.Talk.{Message, Skip, Talk, first_words, Outcome, Goes_on, Waits, Ends, Verdict, part_at, TakeRow, TurnRow}

-- what the session knows now; and, for the law, the keys of the files that it offered with their entries' numbers, the
-- last first, and whether a Skip was taken
pub record Course : Type 0 where
  pub now : Talk
  pub offered : List Key
  pub numbers : List ℕ
  pub met_skip : Bool

-- a session that begins
abbrev pub first_course : Role → Course
first_course role = record { now = first_words role; offered = []; numbers = []; met_skip = false }

-- these calls of a seat with these answers, one step of the node behind another
abbrev pub Makes : ℕ → Node → List Event → Node → Type 0
Makes seat old [] new = new ≡ old
Makes seat old (e ∷ es) new = (mid : Node) × NodeStep seat old e.call e.answer mid × Makes seat mid es new

-- the keys of the files that these calls answered
abbrev pub offered_by : Answer → List Key → List Key
offered_by (Offered number key) rest = key ∷ rest
offered_by _ rest = rest

abbrev pub offered_in : List Event → List Key
offered_in [] = []
offered_in (e ∷ es) = offered_by e.answer (offered_in es)

-- the numbers of their entries
abbrev pub number_by : Answer → List ℕ → List ℕ
number_by (Offered number key) rest = number ∷ rest
number_by _ rest = rest

abbrev pub numbers_in : List Event → List ℕ
numbers_in [] = []
numbers_in (e ∷ es) = number_by e.answer (numbers_in es)

-- whether a Skip was taken, once this message is
abbrev pub skipped : Message → Bool → Bool
skipped (Skip key) was = true
skipped _ was = was

-- a course after a row that made these calls
abbrev pub course_after : Course → List Event → Bool → Talk → Course
course_after c es skip now = record { now = now; offered = offered_in es ++ c.offered; numbers = numbers_in es ++ c.numbers; met_skip = skip }

-- the row doesn't end the session
abbrev pub StaysOpen : Outcome → Type 0
StaysOpen Goes_on = Unit {0}
StaysOpen Waits = Unit {0}
StaysOpen (Ends end) = ⊥

-- the answer says that the disk failed
abbrev pub is_disk : Answer → Bool
is_disk (Refused (Disk count)) = true
is_disk _ = false

-- of these calls none breaks the store; one that is broken already answers so and does nothing
abbrev pub BreaksNone : Node → List Event → Node → Type 0
BreaksNone old [] new = Unit {0}
BreaksNone old (e ∷ es) new = (is_disk e.answer ≡ true → new ≡ old) × BreaksNone old es new

-- the last of these calls found that the disk failed
abbrev pub HasDisk : List Event → Type 0
HasDisk [] = ⊥
HasDisk (e ∷ []) = is_disk e.answer ≡ true
HasDisk (e ∷ f ∷ es) = HasDisk (f ∷ es)

-- an end takes a message, and its session stays open
pub record TakeMade (seat : ℕ) (old : Node) (was : Course) (new : Node) (course : Course) (sent : List Message) (message : Message) : Type 0 where
  pub events : List Event
  pub verdict : Verdict
  pub row : TakeRow (part_at old seat) was.now message events verdict
  pub chain : Makes seat old events new
  pub open_still : StaysOpen verdict.outcome
  pub said : sent ≡ verdict.said
  pub after : course ≡ course_after was events (skipped message was.met_skip) verdict.after

-- an end makes its own turn, and its session stays open
pub record TurnMade (seat : ℕ) (old : Node) (was : Course) (new : Node) (course : Course) (sent : List Message) : Type 0 where
  pub block : ℕ
  pub some : 0 < block
  pub events : List Event
  pub verdict : Verdict
  pub row : TurnRow block (part_at old seat) was.now events verdict
  pub chain : Makes seat old events new
  pub open_still : StaysOpen verdict.outcome
  pub said : sent ≡ verdict.said
  pub after : course ≡ course_after was events was.met_skip verdict.after

-- an end takes a message and says nothing more: the row ended the session, or there is no memory for what it says
pub record TakeLast (seat : ℕ) (old : Node) (was : Course) (new : Node) (message : Message) : Type 0 where
  pub events : List Event
  pub verdict : Verdict
  pub row : TakeRow (part_at old seat) was.now message events verdict
  pub chain : Makes seat old events new
  pub breaks_none : BreaksNone old events new

-- an end takes a message, and the store breaks in the call that this makes
pub record TakeBreaks (seat : ℕ) (old : Node) (was : Course) (new : Node) (message : Message) : Type 0 where
  pub unbroken : old.broken ≡ None
  pub events : List Event
  pub verdict : Verdict
  pub row : TakeRow (part_at old seat) was.now message events verdict
  pub chain : Makes seat old events new
  pub disk : HasDisk events

-- an end makes its own turn and says nothing more; that may finish the session
pub record TurnLast (seat : ℕ) (old : Node) (was : Course) (new : Node) : Type 0 where
  pub block : ℕ
  pub some : 0 < block
  pub events : List Event
  pub verdict : Verdict
  pub row : TurnRow block (part_at old seat) was.now events verdict
  pub chain : Makes seat old events new
  pub breaks_none : BreaksNone old events new
