-- A pass that is taken out of its slot, and a session that is over (own).
use Rattle.std.specs.Prelude.{◌≡◌, ◌≢◌, ◌⊎◌, ℕ, false, List, Some, slice_get, slice_set}
use Rattle.atomic_table.specs.Seated.{TableId}
use Rattle.binkp_link.specs.Lines.{LineState}
use Rattle.node_model.specs.Calls.{counts_of}
use Rattle.session_run.specs.Courses.{IsFree}
use Rattle.session_run.specs.Laws.{IsSession}
use Rattle.session_run.specs.Reports.{report_text}
use Rattle.turn_gate.specs.declared.grows.Grows.{Ghosts}
use Rattle.turn_gate.specs.declared.pass.Pass.{Pass}
use Rattle.turn_gate.specs.Passes.{view}
use Rattle.shared_desk.specs.Seen.{Sight, stand}
use Rattle.session_threads.specs.declared.over.Over.{Over}
use Rattle.session_threads.specs.Held.{IsHomeAt}
use Rattle.session_threads.specs.Slots.{Is_with, Rests_here, Running, Taken_out, Whereabouts}

module _ {T X E P : Type 0} {g : Ghosts T X E P} where
  -- the pass of the seat was here, and is taken out
  pub record IsLent (s : Sight X) (name : TableId) (seat : ℕ) (old : List (Whereabouts X)) (p : Pass T X E P g) (new : List (Whereabouts X)) : Type 0 where
    pub at_home : IsHomeAt s name seat p
    pub was : slice_get old seat ≡ Some (Rests_here (view p).left)
    pub is : new ≡ slice_set old seat Taken_out

-- no pass of the seat is here
abbrev pub IsElsewhere : {X : Type 0} → List (Whereabouts X) → ℕ → Type 0
IsElsewhere {X} slots seat = (left : X) → slice_get slots seat ≢ Some (Rests_here left)

module _ {L X : Type 0} where
  -- The session that ran at the seat is over, and the pass is here again. The whole of it is told, from the state that its pass had left to
  -- the one that it has left now. No session is open at the seat, unless the store is broken.
  pub record IsOver (state : L → LineState) (s : Sight X) (seat : ℕ) (old : List (Whereabouts X)) (o : Over L) (new : List (Whereabouts X)) : Type 0 where
    pub session : Running X
    pub left : X
    pub was : slice_get old seat ≡ Some (Is_with session)
    pub is : new ≡ slice_set old seat (Rests_here left)
    pub place : o.place ≡ session.place
    pub whole : IsSession false session.setting session.line (stand s seat session.from) (report_text o.report) (state o.line) (stand s seat left)
    pub free : IsFree (counts_of (s.knows seat left)).broken (s.part seat left)

-- no session runs at the seat
abbrev pub IsIdle : {X : Type 0} → List (Whereabouts X) → ℕ → Type 0
IsIdle {X} slots seat = (session : Running X) → slice_get slots seat ≢ Some (Is_with session)

-- each pass is here
abbrev pub AllHere : {X : Type 0} → List (Whereabouts X) → Type 0
AllHere {X} slots = (k : ℕ) (w : Whereabouts X) → slice_get slots k ≡ Some w → (left : X) × (w ≡ Rests_here left)

-- the last state is that of a pass that is here, or the first
abbrev pub IsLast : {X : Type 0} → X → List (Whereabouts X) → X → Type 0
IsLast first slots last = (last ≡ first) ⊎ ((k : ℕ) × (slice_get slots k ≡ Some (Rests_here last)))

module _ {T X E P : Type 0} {g : Ghosts T X E P} where
  -- this is the pass of the seat, which was here
  pub record IsPassHere (s : Sight X) (name : TableId) (slots : List (Whereabouts X)) (k : ℕ) (p : Pass T X E P g) : Type 0 where
    pub at_home : IsHomeAt s name k p
    pub was : slice_get slots k ≡ Some (Rests_here (view p).left)
