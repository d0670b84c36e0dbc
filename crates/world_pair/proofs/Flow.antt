-- The messages under way to a receiver, and what their data are sections of.
use Rattle.std.proofs.Common.{None, ◌≡◌, ℕ, zero, suc, ◌+◌, Bool, true, false, List, [], ◌∷◌, ◌++◌, Option, length, take, refl}
use Rattle.ftn_addr.specs.Address.{Address}
use Rattle.ftn_addr.specs.Key.{Key}
use Rattle.world_pair.specs.Course.{Course}
use Rattle.node_model.specs.Talk.{Message, File, Data, Got, Get, Skip, End}
use Rattle.world_pair.specs.World.{GivenFile, with_sent}
use Rattle.world_pair.specs.Law.{WasQueued}
use Rattle.node_model.proofs.Lists.{Member-append, off, none_some}
use Rattle.world_pair.specs.Flow.{At, Flow, Front, GoesOn, HasFile, Idle, Mode, Section}

pub WasQueued-course_after : (files more : List GivenFile) (dests : List Address) (key : Key) (bytes : List ℕ) → WasQueued files dests key bytes → WasQueued (files ++ more) dests key bytes
WasQueued-course_after files more dests key bytes q = record { file = q.file; queued = Member-append q.file files more q.queued; dest = q.dest; key_is = q.key_is; bytes_are = q.bytes_are }

pub HasFile-course_after : (files more : List GivenFile) (dests : List Address) (key : Key) → HasFile files dests key → HasFile (files ++ more) dests key
HasFile-course_after files more dests key h = record { bytes = h.bytes; queued = WasQueued-course_after files more dests key h.bytes h.queued }

pub Section-course_after : (files more : List GivenFile) (dests : List Address) (key : Key) (place : ℕ) (part : List ℕ) → Section files dests key place part → Section (files ++ more) dests key place part
Section-course_after files more dests key place part h = record { bytes = h.bytes; queued = WasQueued-course_after files more dests key h.bytes h.queued; is = h.is }

pub Front-course_after : (files more : List GivenFile) (dests : List Address) (key : Key) (part : List ℕ) → Front files dests key part → Front (files ++ more) dests key part
Front-course_after files more dests key part h = record { bytes = h.bytes; queued = WasQueued-course_after files more dests key h.bytes h.queued; is = h.is }

pub flow_grows : (files more : List GivenFile) (dests : List Address) (fin : Mode → Type 0) (mode : Mode) (ms : List Message) → Flow files dests fin mode ms → Flow (files ++ more) dests fin mode ms
flow_grows files more dests fin mode [] h = h
flow_grows files more dests fin mode (File k o ∷ ms) h = (HasFile-course_after files more dests k h.0, flow_grows files more dests fin (At k o) ms h.1)
flow_grows files more dests fin (At k o) (Data b ∷ ms) h = (Section-course_after files more dests k o b h.0, flow_grows files more dests fin (At k (o + length b)) ms h.1)
flow_grows files more dests fin Idle (Data b ∷ ms) h = flow_grows files more dests fin Idle ms h
flow_grows files more dests fin mode (Got k ∷ ms) h = flow_grows files more dests fin mode ms h
flow_grows files more dests fin mode (Get k o ∷ ms) h = flow_grows files more dests fin mode ms h
flow_grows files more dests fin mode (Skip k ∷ ms) h = flow_grows files more dests fin mode ms h
flow_grows files more dests fin mode (End ∷ ms) h = flow_grows files more dests fin mode ms h

pub flow_weaker : (files : List GivenFile) (dests : List Address) (fin fin' : Mode → Type 0) → ((m : Mode) → fin m → fin' m) → (mode : Mode) (ms : List Message) → Flow files dests fin mode ms → Flow files dests fin' mode ms
flow_weaker files dests fin fin' w mode [] h = w mode h
flow_weaker files dests fin fin' w mode (File k o ∷ ms) h = (h.0, flow_weaker files dests fin fin' w (At k o) ms h.1)
flow_weaker files dests fin fin' w (At k o) (Data b ∷ ms) h = (h.0, flow_weaker files dests fin fin' w (At k (o + length b)) ms h.1)
flow_weaker files dests fin fin' w Idle (Data b ∷ ms) h = flow_weaker files dests fin fin' w Idle ms h
flow_weaker files dests fin fin' w mode (Got k ∷ ms) h = flow_weaker files dests fin fin' w mode ms h
flow_weaker files dests fin fin' w mode (Get k o ∷ ms) h = flow_weaker files dests fin fin' w mode ms h
flow_weaker files dests fin fin' w mode (Skip k ∷ ms) h = flow_weaker files dests fin fin' w mode ms h
flow_weaker files dests fin fin' w mode (End ∷ ms) h = flow_weaker files dests fin fin' w mode ms h

pub flow_append : (files : List GivenFile) (dests : List Address) (fin : Mode → Type 0) (mode : Mode) (ms ns : List Message) → Flow files dests (λ m. Flow files dests fin m ns) mode ms → Flow files dests fin mode (ms ++ ns)
flow_append files dests fin mode [] ns h = h
flow_append files dests fin mode (File k o ∷ ms) ns h = (h.0, flow_append files dests fin (At k o) ms ns h.1)
flow_append files dests fin (At k o) (Data b ∷ ms) ns h = (h.0, flow_append files dests fin (At k (o + length b)) ms ns h.1)
flow_append files dests fin Idle (Data b ∷ ms) ns h = flow_append files dests fin Idle ms ns h
flow_append files dests fin mode (Got k ∷ ms) ns h = flow_append files dests fin mode ms ns h
flow_append files dests fin mode (Get k o ∷ ms) ns h = flow_append files dests fin mode ms ns h
flow_append files dests fin mode (Skip k ∷ ms) ns h = flow_append files dests fin mode ms ns h
flow_append files dests fin mode (End ∷ ms) ns h = flow_append files dests fin mode ms ns h

-- a receiver that drops the data needs less
pub flow_idle : (files : List GivenFile) (dests : List Address) (fin : Mode → Type 0) → fin Idle → (mode : Mode) (ms : List Message) → Flow files dests fin mode ms → Flow files dests fin Idle ms
flow_idle files dests fin i mode [] h = i
flow_idle files dests fin i mode (File k o ∷ ms) h = h
flow_idle files dests fin i (At k o) (Data b ∷ ms) h = flow_idle files dests fin i (At k (o + length b)) ms h.1
flow_idle files dests fin i Idle (Data b ∷ ms) h = h
flow_idle files dests fin i mode (Got k ∷ ms) h = flow_idle files dests fin i mode ms h
flow_idle files dests fin i mode (Get k o ∷ ms) h = flow_idle files dests fin i mode ms h
flow_idle files dests fin i mode (Skip k ∷ ms) h = flow_idle files dests fin i mode ms h
flow_idle files dests fin i mode (End ∷ ms) h = flow_idle files dests fin i mode ms h

-- any front of the messages, with nothing said of the end
pub flow_cut : (files : List GivenFile) (dests : List Address) (fin fin' : Mode → Type 0) → ((m : Mode) → fin' m) → (n : ℕ) (mode : Mode) (ms : List Message) → Flow files dests fin mode ms → Flow files dests fin' mode (take n ms)
flow_cut files dests fin fin' w zero mode ms h = w mode
flow_cut files dests fin fin' w (suc n) mode [] h = w mode
flow_cut files dests fin fin' w (suc n) mode (File k o ∷ ms) h = (h.0, flow_cut files dests fin fin' w n (At k o) ms h.1)
flow_cut files dests fin fin' w (suc n) (At k o) (Data b ∷ ms) h = (h.0, flow_cut files dests fin fin' w n (At k (o + length b)) ms h.1)
flow_cut files dests fin fin' w (suc n) Idle (Data b ∷ ms) h = flow_cut files dests fin fin' w n Idle ms h
flow_cut files dests fin fin' w (suc n) mode (Got k ∷ ms) h = flow_cut files dests fin fin' w n mode ms h
flow_cut files dests fin fin' w (suc n) mode (Get k o ∷ ms) h = flow_cut files dests fin fin' w n mode ms h
flow_cut files dests fin fin' w (suc n) mode (Skip k ∷ ms) h = flow_cut files dests fin fin' w n mode ms h
flow_cut files dests fin fin' w (suc n) mode (End ∷ ms) h = flow_cut files dests fin fin' w n mode ms h

pub goes_lost : (talk : Option Course) (m : Mode) → GoesOn true talk m
goes_lost talk Idle = tt
goes_lost talk (At k o) = λ f. off f

pub goes_silent : (dropped : Bool) (m : Mode) → GoesOn dropped None m
goes_silent dropped Idle = tt
goes_silent dropped (At k o) = λ f t g e. none_some e

-- an end says something more
pub flow_says : (files : List GivenFile) (dests : List Address) (dropped : Bool) (old new : Option Course) (box sent : List Message) → (dropped ≡ false → (m : Mode) → GoesOn dropped old m → Flow files dests (GoesOn dropped new) m sent) → (mode : Mode) → Flow files dests (GoesOn dropped old) mode box → Flow files dests (GoesOn dropped new) mode (with_sent dropped box sent)
flow_says files dests true old new box sent next mode h = flow_weaker files dests (GoesOn true old) (GoesOn true new) (λ m _. goes_lost new m) mode box h
flow_says files dests false old new box sent next mode h = flow_append files dests (GoesOn false new) mode box sent (flow_weaker files dests (GoesOn false old) (λ m. Flow files dests (GoesOn false new) m sent) (next refl) mode box h)
