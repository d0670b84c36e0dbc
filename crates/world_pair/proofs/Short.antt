-- A row after login makes one call at most.
use Rattle.std.proofs.Common.{◌≡◌, ℕ, List, [], Option}
use Rattle.node_model.specs.Calls.{Call, Offer_call, Read_call, Got_call, Skip_call, File_call, Data_call, Answer, Event, one}
use Rattle.node_model.specs.Talk.{Message, File, Data, Got, Get, Skip, End, Part, Talk, Verdict, Nothing_held, Drops, Exceeds, Fits, Settles, Passes_got, Skips, Passes_skip, Resends, Passes_get, TakeRow, Reads, Fills, Awaits, Asks, TurnRow, Finishes, Rests, Gives}

-- the calls of an open session
abbrev pub InSession : Call → Type 0
InSession Offer_call = Unit {0}
InSession (Read_call place room) = Unit {0}
InSession (Got_call number) = Unit {0}
InSession (Skip_call number) = Unit {0}
InSession (File_call key offset) = Unit {0}
InSession (Data_call bytes) = Unit {0}
InSession call = ⊥

-- no call, or one
pub data Short (es : List Event) : Type 0 where
  No_call : es ≡ [] → Short es
  One_call : (call : Call) (answer : Answer) → InSession call → es ≡ one call answer → Short es

pub take_short : (part : Option Part) (t : Talk) (message : Message) (es : List Event) (v : Verdict) → TakeRow part t message es v → Short es
take_short part t (File key offset) es v r = One_call (File_call key offset) r.answer tt r.asks
take_short part t (Data bytes) es v (Nothing_held a b c) = No_call b
take_short part t (Data bytes) es v (Drops p a d b c) = No_call b
take_short part t (Data bytes) es v (Exceeds a b c d e f) = No_call e
take_short part t (Data bytes) es v (Fits a b c d answer e f) = One_call (Data_call bytes) answer tt e
take_short part t (Got key) es v (Settles s b c answer d e) = One_call (Got_call s.number) answer tt d
take_short part t (Got key) es v (Passes_got a b c) = No_call b
take_short part t (Skip key) es v (Skips s b c answer d e) = One_call (Skip_call s.number) answer tt d
take_short part t (Skip key) es v (Passes_skip a b c) = No_call b
take_short part t (Get key offset) es v (Resends a b c d e f) = No_call e
take_short part t (Get key offset) es v (Passes_get a b c) = No_call b
take_short part t End es v r = No_call r.0

pub turn_short : (block : ℕ) (part : Option Part) (t : Talk) (es : List Event) (v : Verdict) → TurnRow block part t es v → Short es
turn_short block part t es v (Finishes a none b) = No_call none
turn_short block part t es v (Rests a b none c) = No_call none
turn_short block part t es v (Gives own w (Reads s a b answer asks c) after) = One_call (Read_call s.place block) answer tt asks
turn_short block part t es v (Gives own w (Fills s a b none c) after) = No_call none
turn_short block part t es v (Gives own w (Awaits s a d b none c) after) = No_call none
turn_short block part t es v (Gives own w (Asks a answer asks c) after) = One_call Offer_call answer tt asks
