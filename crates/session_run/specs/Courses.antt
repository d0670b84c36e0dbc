-- A session turn by turn, from its first words to its close.
use Rattle.std.specs.Prelude.{◌≡◌, ℕ, ◌+◌, ◌*◌, ◌^◌, ◌<◌, ◌≤◌, Bool, true, false, [], length, Option, None}
use Rattle.node_model.specs.Desks.{DeskPart}
use Rattle.node_model.specs.Images.{Stand}
use Rattle.binkp_link.specs.Lines.{LineState, shut}
use Rattle.session_core.specs.Ends.{end_text}
use Rattle.session_core.specs.Replies.{Sits, told_of, stage_in}
use Rattle.session_core.specs.Stages.{Setting}
use Rattle.session_run.specs.declared.run.Run.{Run}
use Rattle.session_run.specs.declared.turns.Going.{Going}
use Rattle.session_run.specs.declared.turns.Going.TheVariants as G
use Rattle.session_run.specs.declared.turns.Turn.{Turn}
use Rattle.session_run.specs.declared.turns.Turn.TheVariants as T
use Rattle.session_run.specs.declared.turns.Course.{Course}
use Rattle.session_run.specs.declared.unsent.TheConstants.{MOST_LEFT}
use Rattle.session_run.specs.Machine.{Phase, Starting, Taking, Draining, Closed}
use Rattle.session_run.specs.Reports.{Reports_told, report_text}
use Rattle.session_run.specs.declared.report.Report.{Report}
use Rattle.session_run.specs.Runs.{Spot, spot, Goes, Went, IsNew, InLimit, IsBounded, room, drain_room}

abbrev pub phase_of : Going → Phase
phase_of G.Starting = Starting
phase_of G.Talking = Taking
phase_of (G.Draining mute end) = Draining mute (end_text end)
phase_of G.Closed = Starting

-- its end isn't there yet
abbrev pub talks : Going → Bool
talks G.Starting = true
talks G.Talking = true
talks (G.Draining mute end) = false
talks G.Closed = false

-- its desk was left
abbrev pub IsLeft : Going → Type 0
IsLeft (G.Draining mute end) = Unit {0}
IsLeft going = ⊥

-- the desk has no session, unless its store is broken
abbrev pub IsFree : Option ℕ → DeskPart → Type 0
IsFree broken part = broken ≡ None → part.open_now ≡ false

-- a turn may be made of it: not once it is closed
abbrev pub MayTurn : (ready : Type 0) (part : DeskPart) (broken : Option ℕ) (calm : ℕ) (run : Run) → Going → Type 0
MayTurn ready part broken calm run G.Starting =
    IsNew run × (part ≡ record { open_now = false; claim = None; held = None }) × (0 < run.session.setting.limit) × (calm ≡ 0)
MayTurn ready part broken calm run G.Talking = Sits ready part (stage_in run.session) × InLimit run.session.setting.limit run calm × IsBounded run
MayTurn ready part broken calm run (G.Draining mute end) = IsFree broken part × (length run.out ≤ MOST_LEFT)
MayTurn ready part broken calm run G.Closed = ⊥

abbrev pub IfMore : Turn → Type 0 → Type 0
IfMore T.More P = P
IfMore (T.Ended report) P = Unit {0}

abbrev pub IfEnded : Turn → Type 0 → Type 0
IfEnded T.More P = Unit {0}
IfEnded (T.Ended report) P = P

-- what is reported of a run whose end is there
pub record Tells_run (report : Report) (run : Run) : Type 0 where
  pub told : Reports_told (report_text report) (told_of run.session)
  pub taken : report.taken ≡ run.taken
  pub wrote : report.wrote ≡ run.wrote
  pub stands : run.wrote < 2 ^ 64

-- from that spot its run goes on to where the turn leaves it, or to its close
abbrev pub TurnWent : (alone : Bool) (setting : Setting) (old : Stand) (a : Spot) (new : Stand) (course : Course) (line : LineState) → Turn → Type 0
TurnWent alone setting old a new course line T.More = Went alone setting old a new (spot course.run line new.state [] (phase_of course.going))
TurnWent alone setting old a new course line (T.Ended report) =
    (before : LineState) × (run : Run) × (shut before ≡ line) × Tells_run report run
    × Went alone setting old a new (spot run before new.state [] (Closed (end_text report.end)))

-- the same of a session that was left, which calls no desk
abbrev pub TurnGoes : (alone : Bool) (setting : Setting) (a : Spot) (course : Course) (line : LineState) → Turn → Type 0
TurnGoes alone setting a course line T.More = Goes alone setting a (spot course.run line a.desk [] a.phase)
TurnGoes alone setting a course line (T.Ended report) =
    (before : LineState) × (run : Run) × (shut before ≡ line) × Tells_run report run
    × Goes alone setting a (spot run before a.desk [] (Closed (end_text report.end)))

-- how much may still come before its end
abbrev pub talk_room : ℕ → Run → ℕ → Going → ℕ
talk_room limit run calm G.Starting = 64 * limit + 64
talk_room limit run calm G.Talking = room limit run calm
talk_room limit run calm (G.Draining mute end) = 0
talk_room limit run calm G.Closed = 0

-- each turn comes nearer to its end, and then to its close
abbrev pub Nearer : ℕ → (old : Course) (calm : ℕ) (new : Course) (calm' : ℕ) → Going → Type 0
Nearer limit old calm new calm' (G.Draining mute end) = (talks new.going ≡ false) × (drain_room new.run calm' < drain_room old.run calm)
Nearer limit old calm new calm' going = talk_room limit new.run calm' new.going < talk_room limit old.run calm going
