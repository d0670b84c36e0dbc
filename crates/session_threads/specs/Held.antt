-- A session that a thread holds at a seat of a gate: when it may begin, and what is handed back (own).
use Rattle.std.specs.Prelude.{◌≡◌, ℕ, false, None}
use Rattle.atomic_table.specs.Seated.{TableId}
use Rattle.binkp_link.specs.Lines.{LineState}
use Rattle.mail_conf.specs.Conf.{ConfText}
use Rattle.mail_conf.specs.Limits.{KeepsLimits}
use Rattle.node_model.specs.Calls.{counts_of}
use Rattle.node_model.specs.Desks.{DeskPart}
use Rattle.session_auth.specs.Sides.{side_of}
use Rattle.session_core.specs.Stages.{setting_of}
use Rattle.session_run.specs.Courses.{IsFree}
use Rattle.session_run.specs.Laws.{IsSession}
use Rattle.session_run.specs.Reports.{report_text}
use Rattle.turn_gate.specs.declared.gate.Gate.{Gate}
use Rattle.turn_gate.specs.declared.grows.Grows.{Ghosts}
use Rattle.turn_gate.specs.declared.pass.Pass.{Pass}
use Rattle.turn_gate.specs.Passes.{view}
use Rattle.shared_desk.specs.AtGate.{IsAtGate}
use Rattle.shared_desk.specs.Seen.{Sight, stand}
use Rattle.session_threads.specs.declared.sessions.Begun.{Begun}
use Rattle.session_threads.specs.declared.sessions.Done.{Done}
use Rattle.session_threads.specs.Slots.{Running}

-- the part of a seat with no session
abbrev pub at_rest : DeskPart
at_rest = record { open_now = false; claim = None; held = None }

module _ {T X E P : Type 0} where
  -- this is the gate of that name
  abbrev pub IsNamed : TableId → Gate T X E P → Type 0
  IsNamed name gate = gate.table.shared.table_id ≡ name

module _ {T X E P : Type 0} {g : Ghosts T X E P} where
  -- Between two calls at the gate of that name: the pass has no turn, and its seat was ready in the state that it left.
  abbrev pub IsHome : Sight X → TableId → Pass T X E P g → Type 0
  IsHome s name p = (gate : Gate T X E P) → IsNamed name gate → IsAtGate s name gate p

  -- the same of the pass of that seat
  pub record IsHomeAt (s : Sight X) (name : TableId) (k : ℕ) (p : Pass T X E P g) : Type 0 where
    pub home : IsHome s name p
    pub seat_is : (view p).seat ≡ k

module _ {L T X E P : Type 0} {g : Ghosts T X E P} where
  -- A session may begin at its pass's seat, which has none, over a line that wasn't used.
  pub record MayBegin (state : L → LineState) (s : Sight X) (name : TableId) (b : Begun L T X E P g) : Type 0 where
    pub home : IsHome s name b.pass
    pub rests : s.part (view b.pass).seat (view b.pass).left ≡ at_rest
    pub calm : (state b.line).calm ≡ 0
    pub is_open : (state b.line).closed ≡ false

  -- So it may at a gate of that name, by settings that keep to their limits.
  pub record CanHold (state : L → LineState) (s : Sight X) (name : TableId) (gate : Gate T X E P) (conf : ConfText) (b : Begun L T X E P g) : Type 0 where
    pub named : IsNamed name gate
    pub keeps : KeepsLimits conf
    pub may : MayBegin state s name b

  -- The whole session was held at that seat, from the state that the pass had left to the one that it has left now. The line and the
  -- report are the session's, and the pass is one of the gate of that name. No session is open at its seat, unless the store is broken.
  pub record IsHeld (state : L → LineState) (s : Sight X) (name : TableId) (conf : ConfText) (b : Begun L T X E P g) (d : Done L T X E P g) : Type 0 where
    pub seat : (view d.pass).seat ≡ (view b.pass).seat
    pub home : IsHome s name d.pass
    pub session : IsSession false (setting_of (side_of b.side) conf b.challenge b.moment) (state b.line) (stand s (view b.pass).seat (view b.pass).left) (report_text d.report) (state d.line) (stand s (view d.pass).seat (view d.pass).left)
    pub free : IsFree (counts_of (s.knows (view d.pass).seat (view d.pass).left)).broken (s.part (view d.pass).seat (view d.pass).left)

  -- the session, as it is begun
  abbrev pub begun_so : (L → LineState) → ConfText → Begun L T X E P g → Running X
  begun_so state conf b = record { place = b.place; setting = setting_of (side_of b.side) conf b.challenge b.moment; line = state b.line; from = (view b.pass).left }
