-- A session's turns, one behind another, are its machine's run.
use Rattle.std.proofs.Common.{◌≡◌, ◌<◌, ◌≤◌, ◌-◌, ◌^◌, min, length, ◌∙◌, ℕ, Bool, true, false, List, [], Option, Some, None, IfNone, IsSome, refl, sym, ap, subst, arith}
use Rattle.node_model.specs.Calls.{Turned}
use Rattle.node_model.specs.Images.{Stand, RanAt}
use Rattle.binkp_link.specs.Lines.{LineState, shut}
use Rattle.ftn_addr.specs.declared.limits.TheConstants.{MAX_FRAME_DATA}
use Rattle.session_core.specs.Stages.{Setting, Told, desk_part}
use Rattle.session_run.specs.Reports.{Reports_told, report_text}
use Rattle.session_run.specs.declared.run.Run.{Run}
use Rattle.session_run.specs.declared.turns.Course.{Course}
use Rattle.session_run.specs.declared.turns.Going.{Going}
use Rattle.session_run.specs.declared.turns.Going.TheVariants as G
use Rattle.session_run.specs.declared.turns.Turn.TheVariants as T
use Rattle.session_run.specs.declared.report.Report.{Report}
use Rattle.node_model.specs.Desks.{DeskPart}
use Rattle.session_core.specs.declared.ending.End.{End as EndCode}
use Rattle.mail_conf.specs.Conf.{ConfText}
use Rattle.session_core.specs.Replies.{Sits, setting_in, stage_in}
use Rattle.session_run.specs.Courses.{IsFree, IsLeft, MayTurn, Nearer, TurnWent, phase_of, talks, talk_room}
use Rattle.session_run.specs.Laws.{IsSession}
use Rattle.session_run.specs.Machine.{World, Starting, opening}
use Rattle.session_run.specs.Runs.{InLimit, IsBounded, IsNew, Went, drain_room, spot}
use Rattle.session_run.specs.declared.unsent.TheConstants.{MOST_LEFT}
use Rattle.session_run.proofs.Acknowledging.{all_written, acked_open}
use Rattle.session_run.proofs.Settling.{all_settled, settling_open}
use Rattle.session_run.proofs.Endings.{run_brought}
use Rattle.session_run.proofs.HeldKeys.{HoldsKnown}
use Rattle.session_run.proofs.Laws.{facts_on, facts_open}
use Rattle.session_run.proofs.Marked.{all_marked}
use Rattle.session_run.proofs.Openings.{at_opening}
use Rattle.session_run.proofs.Runs.{went_lent, went_then, went_nowhere}

-- a new run went on to where the course is
pub record CameTo (alone : Bool) (s : Setting) (old : Stand) (line : LineState) (new : Stand) (course : Course) (line' : LineState) : Type 0 where
  pub start : Run
  pub is_new : IsNew start
  pub went : Went alone s old (spot start line old.state [] Starting) new (spot course.run line' new.state [] (phase_of course.going))

pub came_new : (alone : Bool) (s : Setting) (desk : Stand) (line : LineState) (course : Course) → IsNew course.run → course.going ≡ G.Starting → CameTo alone s desk line desk course line
came_new alone s desk line course new going =
    record { start = course.run; is_new = new; went = subst (λ (x : Going). Went alone s desk (spot course.run line desk.state [] Starting) desk (spot course.run line desk.state [] (phase_of x))) (sym going) (went_nowhere alone s desk _) }

-- a turn more
pub came_on : (alone : Bool) (s r : Setting) (old mid new : Stand) (line : LineState) (course course' : Course) (line' line'' : LineState) → r ≡ s → CameTo alone s old line mid course line' → TurnWent alone r mid (spot course.run line' mid.state [] (phase_of course.going)) new course' line'' T.More → CameTo alone s old line new course' line''
came_on alone s r old mid new line course course' line' line'' lent c t = record { start = c.start; is_new = c.is_new; went = went_then c.went (went_lent lent t) }

stood_end : (wrote sent : ℕ) → wrote < 2 ^ 64 → min wrote (2 ^ 64 - 1) ≡ min sent (2 ^ 64 - 1) → wrote ≡ min sent (2 ^ 64 - 1)
stood_end wrote sent lt e = omega arith

-- the last turn
pub came_whole : (alone : Bool) (s r : Setting) (old mid new : Stand) (line : LineState) (course course' : Course) (line' line'' : LineState) (report : Report) → r ≡ s → CameTo alone s old line mid course line' → TurnWent alone r mid (spot course.run line' mid.state [] (phase_of course.going)) new course' line'' (T.Ended report) → s.block ≤ MAX_FRAME_DATA → HoldsKnown old.state.seat old.state.knows None → IsSession alone s line old (report_text report) line'' new
came_whole alone s r old mid new line course course' line' line'' report lent c t small none =
    let w : World = opening s line old.state in
    let g = went_then c.went (went_lent lent t.4) in
    let x = g.goes.goes w (at_opening alone s c.start line old.state c.is_new) in
    let run = t.1 in
    let tells = t.3 in
    record {
      whole = record {
        last = x.0;
        run = x.1;
        reports = record {
          told = subst (λ (t : Told). Reports_told (report_text report) t) x.2.tells.told tells.told;
          taken = tells.taken ∙ sym x.2.taken;
          wrote = tells.wrote ∙ stood_end run.wrote (length x.0.sent) tells.stands x.2.stood;
          closed = x.2.phase_is;
        };
        line_is = ap shut x.2.line_is ∙ t.2;
        desk_is = x.2.desk_is;
        facts = facts_on alone line old.state w x.0 (facts_open alone s line old.state) x.1;
        written = all_written alone old.state w x.0 x.1 (acked_open alone s line old.state small none);
        settled = all_settled alone old.state s w x.0 x.1 refl (settling_open alone s line old.state);
        brought = run_brought alone s line old.state x.0 x.1;
        marked = all_marked alone old.state x.0.events;
      };
      ran = subst (λ (es : List Turned). RanAt alone old es new) (sym x.3) g.ran;
    }

-- while its end isn't there, a turn comes nearer to that
pub nearer_end : (limit : ℕ) (old : Course) (calm : ℕ) (new : Course) (calm' : ℕ) (going : Going) → talks going ≡ true → Nearer limit old calm new calm' going → talk_room limit new.run calm' new.going < talk_room limit old.run calm going
nearer_end limit old calm new calm' G.Starting is n = n
nearer_end limit old calm new calm' G.Talking is n = n
nearer_end limit old calm new calm' (G.Draining mute end) is n = absurd (let clash : false ≡ true = is in cc)
nearer_end limit old calm new calm' G.Closed is n = absurd (let clash : false ≡ true = is in cc)

-- and then to its close
pub nearer_close : (limit : ℕ) (old : Course) (calm : ℕ) (new : Course) (calm' : ℕ) (going : Going) → talks going ≡ false → Nearer limit old calm new calm' going → (talks new.going ≡ false) × (drain_room new.run calm' < drain_room old.run calm)
nearer_close limit old calm new calm' G.Starting is n = absurd (let clash : true ≡ false = is in cc)
nearer_close limit old calm new calm' G.Talking is n = absurd (let clash : true ≡ false = is in cc)
nearer_close limit old calm new calm' (G.Draining mute end) is n = n
nearer_close limit old calm new calm' G.Closed is n = absurd (omega (arith, n))

-- a turn may be made of a new course
pub new_may : (ready : Type 0) (part : DeskPart) (broken : Option ℕ) (course : Course) (calm : ℕ) (conf : ConfText) (s : Setting) → IsNew course.run → course.going ≡ G.Starting → setting_in course.run.session conf ≡ s → part ≡ record { open_now = false; claim = None; held = None } → 0 < s.limit → calm ≡ 0 → MayTurn ready part broken calm course.run course.going
new_may ready part broken course calm conf s new going lent none some still =
    subst (MayTurn ready part broken calm course.run) (sym going) (new, none, subst (λ (x : Setting). 0 < x.limit) (sym lent) some, still)

-- and of one whose turn was settled
pub settled_may : (end : Option EndCode) (ready old : Type 0) (part was : DeskPart) (broken : Option ℕ) (calm limit : ℕ) (run before : Run) (going : Going) → ready → run ≡ before → IfNone end (going ≡ G.Talking) → IfNone end (part ≡ was) → (IsSome end → IsLeft going) → (IsSome end → IsFree broken part) → IfNone end (Sits old was (stage_in before.session)) → before.session.setting.limit ≡ limit → IfNone end (InLimit limit before calm) → IfNone end (IsBounded before) → length before.out ≤ MOST_LEFT → MayTurn ready part broken calm run going
settled_may None ready old part was broken calm limit run before going is same on still left free sits lent within bounded few =
    subst (MayTurn ready part broken calm run) (sym on) (
      record { is_ready = is; part_is = still ∙ sits.part_is ∙ ap (λ (r : Run). desk_part (stage_in r.session)) (sym same) },
      subst (λ (r : Run). InLimit r.session.setting.limit r calm) (sym same) (subst (λ (n : ℕ). InLimit n before calm) (sym lent) within),
      subst IsBounded (sym same) bounded,
    )
settled_may (Some end) ready old part was broken calm limit run before G.Starting is same on still left free sits lent within bounded few = absurd (left refl)
settled_may (Some end) ready old part was broken calm limit run before G.Talking is same on still left free sits lent within bounded few = absurd (left refl)
settled_may (Some end) ready old part was broken calm limit run before (G.Draining mute e) is same on still left free sits lent within bounded few = (free refl, subst (λ (r : Run). length r.out ≤ MOST_LEFT) (sym same) few)
settled_may (Some end) ready old part was broken calm limit run before G.Closed is same on still left free sits lent within bounded few = absurd (left refl)
