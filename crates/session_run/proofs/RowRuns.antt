-- A frame of the peer's is taken, and the own turn is made.
use Rattle.std.proofs.Common.{◌≡◌, ◌∙◌, ◌+◌, ◌-◌, ◌^◌, ◌<◌, ◌≤◌, min, ℕ, Bool, false, List, [], ◌∷◌, ◌++◌, length, Option, refl, sym, ap, subst, inl, inr, append_assoc}
use Rattle.std.proofs.lemmas.List.{append-nil}
use Rattle.ftn_addr.specs.Frames.{FrameText}
use Rattle.binkp_frame.specs.Stream.{Begins, Splits, Feeds}
use Rattle.node_model.specs.Calls.{DeskState, Event, asked_of}
use Rattle.node_model.specs.Images.{Stand, Drifted}
use Rattle.node_model.proofs.Rans.{absorbed}
use Rattle.session_core.specs.Ends.{End}
use Rattle.session_core.specs.Ends as E
use Rattle.session_core.specs.Takings.{Took}
use Rattle.session_core.specs.Takings as T
use Rattle.session_core.specs.Givings.{Gave}
use Rattle.session_core.specs.Givings as G
use Rattle.session_run.specs.declared.run.Run.{Run}
use Rattle.session_core.specs.declared.session.Session.{Session}
use Rattle.binkp_link.specs.Lines.{LineState}
use Rattle.session_core.specs.Stages.{Logs_in, Talks, Setting, Stage, Told, told_along}
use Rattle.session_core.specs.Sessions.{Row, Turn, GiveRow, frame_number}
use Rattle.session_core.specs.Replies.{Made, IfMore, IfOn, MadeRow, DidTurn, MadeTurn, told_of, stage_in}
use Rattle.node_model.specs.Talk as M
use Rattle.node_model.specs.Talk.{Sending, Talk, Part, Verdict, SendVerdict, SendRow, TurnRow, Finishes, Rests, Gives}
use Rattle.session_run.proofs.Runs.{gave_up_at, goes_drifts, stood_same, tells_as, tells_more}
use Rattle.session_run.proofs.Streams.{AddUp, begins_front, begins_more, next_number, stream_same}
use Rattle.session_run.specs.declared.unsent.TheConstants.{MOST_TO_TURN}
use Rattle.session_run.specs.Machine.{World, Taking, Writing, Over, here, next, TakesFrame, takes_frame, MakesTurn, makes_turn, PassesTurn, passes_turn, after_took, after_gave}
use Rattle.session_run.specs.Runs.{spot, Stream, Follows, Goes, Went}

-- the frames that a piece made whole are pending
pub fed_it : (alone : Bool) (s : Setting) (run run' : Run) (line : LineState) (desk : DeskState) (frames : List FrameText) → AddUp → Feeds [] (run.decoder ++ run.piece.list) frames run'.decoder → run'.session ≡ run.session → run'.piece.list ≡ [] → run'.out ≡ run.out → run'.taken ≡ run.taken → run'.wrote ≡ run.wrote → Goes alone s (spot run line desk [] Taking) (spot run' line desk frames Taking)
fed_it alone s run run' line desk frames law feeds session piece out taken wrote = record {
  goes = λ w at.
      let st : Stream run [] w = at.follows in
      let before : Feeds [] st.fed w.frames run.decoder = record { frames = w.frames; appended = refl; splits = subst (λ (fs : List FrameText). Splits st.fed fs run.decoder) (append-nil w.frames) st.splits } in
      let more : Feeds w.frames (run.decoder ++ run.piece.list) (w.frames ++ frames) run'.decoder = record { frames = feeds.frames; appended = ap (λ (fs : List FrameText). w.frames ++ fs) feeds.appended; splits = feeds.splits } in
      let all = law [] w.frames (w.frames ++ frames) st.fed run.piece.list run.decoder run'.decoder before more in
      let stream : Stream run' frames w = record {
        stage_is = st.stage_is ∙ ap stage_in (sym session);
        number_is = ap (λ (x : Session). x.frames) session ∙ st.number_is;
        fed = st.fed ++ run.piece.list;
        whole = st.whole ∙ sym (append-nil (st.fed ++ run.piece.list)) ∙ ap (λ (x : List ℕ). (st.fed ++ run.piece.list) ++ x) (sym piece);
        splits = subst (λ (fs : List FrameText). Splits (st.fed ++ run.piece.list) fs run'.decoder) (sym all.appended) all.splits;
      } in (
        w,
        here,
        record {
          setting_is = at.setting_is;
          line_is = at.line_is;
          desk_is = at.desk_is;
          phase_is = at.phase_is;
          unsent = at.unsent ∙ ap (λ (x : List ℕ). w.sent ++ x) (sym out);
          taken = at.taken ∙ sym taken;
          wrote = λ _. at.wrote tt ∙ sym wrote;
          stood = stood_same _ _ _ wrote at.stood;
          tells = tells_as session at.tells;
          follows = stream;
        },
        sym (append-nil w.events),
      );
}

follows_took : (took : Took) (run : Run) (pending : List FrameText) (v : World) → IfMore took (Stream run pending v) → Follows (after_took took) run pending v
follows_took T.More run pending v st = st
follows_took (T.Ended end) run pending v st = tt

if_more_map : (took : Took) (P Q : Type 0) → (P → Q) → IfMore took P → IfMore took Q
if_more_map T.More P Q f p = f p
if_more_map (T.Ended end) P Q f p = tt

-- the next pending frame is taken
took_row : (alone : Bool) (s : Setting) (run run' : Run) (line : LineState) (old new : Stand) (frame : FrameText) (more : List FrameText) (took : Took) → run'.session.frames ≡ min (run.session.frames + 1) (2 ^ 64 - 1) → Made (Row s run'.session.frames (stage_in run.session) frame) alone old new (told_of run.session) (told_of run'.session) (stage_in run'.session) run.out run'.out took → run'.decoder ≡ run.decoder → run'.piece.list ≡ run.piece.list → run'.taken ≡ run.taken → run'.wrote ≡ run.wrote → Went alone s old (spot run line old.state (frame ∷ more) Taking) new (spot run' line new.state more (after_took took))
took_row alone s run run' line old new frame more took number made decoder piece taken wrote = record {
  events = made.did.events;
  ran = made.did.ran;
  goes = record {
    goes = λ w at.
        let d = made.did in
        let st : Stream run (frame ∷ more) w = at.follows in
        let first = begins_front st.fed run.decoder w.frames frame more st.splits.begins in
        let whole : Begins w.taken (w.frames ++ frame ∷ []) (first.0 ++ run.piece.list) = subst (λ (x : List ℕ). Begins x (w.frames ++ frame ∷ []) (first.0 ++ run.piece.list)) (sym st.whole) (begins_more st.fed first.0 run.piece.list (w.frames ++ frame ∷ []) first.1) in
        let n : run'.session.frames ≡ frame_number (w.frames ++ frame ∷ []) = next_number w.frames frame run.session.frames run'.session.frames st.number_is number in
        let row1 = subst (λ (k : ℕ). Row s k (stage_in run.session) frame (asked_of d.events) d.reply) n d.row in
        let row2 = subst (λ (stage : Stage). Row s (frame_number (w.frames ++ frame ∷ [])) stage frame (asked_of d.events) d.reply) (sym st.stage_is) row1 in
        let row = subst (λ (x : Setting). Row x (frame_number (w.frames ++ frame ∷ [])) w.stage frame (asked_of d.events) d.reply) (sym at.setting_is) row2 in
        let z = absorbed alone w.desk old.state at.desk_is d.events d.ran.last d.ran.chain new.state d.ran.tail in
        let v : World = record w { desk = z.last; stage = d.reply.stage; phase = after_took took; frames = w.frames ++ frame ∷ []; last_stage = w.stage; last_calls = d.events; output = w.output ++ d.writes.written; events = w.events ++ d.events } in
        let step : TakesFrame alone w v = record {
          phase = at.phase_is;
          frame = frame;
          rest = first.0 ++ run.piece.list;
          next = whole;
          events = d.events;
          reply = d.reply;
          row = row;
          desk = z.last;
          chain = z.chain;
          output = d.writes.written;
          took = took;
          said = d.writes.said;
          is = refl;
        } in
        let stream : d.reply.stage ≡ stage_in run'.session → Stream run' more v = λ stage. record {
          stage_is = stage;
          number_is = n;
          fed = st.fed;
          whole = st.whole ∙ ap (λ (x : List ℕ). st.fed ++ x) (sym piece);
          splits = subst (λ (x : List ℕ). Splits st.fed ((w.frames ++ frame ∷ []) ++ more) x) (sym decoder) (subst (λ (fs : List FrameText). Splits st.fed fs run.decoder) (sym (append_assoc w.frames (frame ∷ []) more)) st.splits);
        } in (
          v,
          next here (takes_frame step),
          record {
            setting_is = at.setting_is;
            line_is = at.line_is;
            desk_is = z.tail;
            phase_is = refl;
            unsent = ap (λ (x : List ℕ). x ++ d.writes.written) at.unsent ∙ append_assoc w.sent run.out d.writes.written ∙ ap (λ (x : List ℕ). w.sent ++ x) (sym d.writes.grew);
            taken = at.taken ∙ sym taken;
            wrote = λ _. at.wrote tt ∙ sym wrote;
            stood = stood_same _ _ _ wrote at.stood;
            tells = tells_more run.session run'.session w.events d.events made.told_is at.tells;
            follows = follows_took took run' more v (if_more_map took (stage_in run'.session ≡ d.reply.stage) (Stream run' more v) (λ e. stream (sym e)) d.stage_is);
          },
          refl,
        );
  };
}

pub took_it : (alone : Bool) (s : Setting) (run run' : Run) (line : LineState) (old new : Stand) (frame : FrameText) (more : List FrameText) (took : Took) → run'.session.frames ≡ min (run.session.frames + 1) (2 ^ 64 - 1) → MadeRow (Row s run'.session.frames (stage_in run.session) frame) alone old new (told_of run.session) (told_of run'.session) (stage_in run'.session) run.out run'.out took → run'.decoder ≡ run.decoder → run'.piece.list ≡ run.piece.list → run'.taken ≡ run.taken → run'.wrote ≡ run.wrote → Went alone s old (spot run line old.state (frame ∷ more) Taking) new (spot run' line new.state more (after_took took))
took_it alone s run run' line old new frame more took number (inl d) decoder piece taken wrote = took_row alone s run run' line old new frame more took number d decoder piece taken wrote
took_it alone s run run' line old new frame more took number (inr g) decoder piece taken wrote =
    let over : Goes alone s (spot run line old.state (frame ∷ more) Taking) (spot run' line old.state more (Over E.NoMemory)) = gave_up_at alone s run run' line old.state (frame ∷ more) more Taking tt g.told_is g.out_is taken wrote in
    let here' = goes_drifts (subst (λ (x : DeskState). Drifted alone x new.state) g.ran.chain g.ran.tail) over in
    record { events = []; goes = subst (λ (k : Took). Goes alone s (spot run line old.state (frame ∷ more) Taking) (spot run' line new.state more (after_took k))) (sym g.is) here'; ran = g.ran }

if_on_map : (gave : Gave) (P Q : Type 0) → (P → Q) → IfOn gave P → IfOn gave Q
if_on_map G.Sent P Q f p = f p
if_on_map G.Waits P Q f p = f p
if_on_map (G.Ended end) P Q f p = tt

follows_gave : (gave : Gave) (run : Run) (v : World) → IfOn gave (Stream run [] v) → Follows (after_gave gave) run [] v
follows_gave G.Sent run v st = st
follows_gave G.Waits run v st = st
follows_gave (G.Ended end) run v st = tt

-- an own turn makes no login
send_told : (block : ℕ) (sending : Option Sending) (es : List Event) (v : SendVerdict) (login : Told) → SendRow block sending es v → told_along login es ≡ login
send_told block sending es v login (M.Reads s is some answer e a) = ap (told_along login) e
send_told block sending es v login (M.Fills s is bare e a) = ap (told_along login) e
send_told block sending es v login (M.Awaits s is bare all e a) = ap (told_along login) e
send_told block sending es v login (M.Asks none answer e a) = ap (told_along login) e

turn_told : (block : ℕ) (held : Option Part) (talk : Talk) (es : List Event) (v : Verdict) (login : Told) → TurnRow block held talk es v → told_along login es ≡ login
turn_told block held talk es v login (Finishes is e a) = ap (told_along login) e
turn_told block held talk es v login (Rests is own e a) = ap (told_along login) e
turn_told block held talk es v login (Gives own w row a) = send_told block talk.sending es w login row

quiet_told : (block : ℕ) (stage : Stage) (es : List Event) (t : Turn) (login : Told) → GiveRow block stage es t → told_along login es ≡ login
quiet_told block (Logs_in at) es t login row = ap (told_along login) row.0
quiet_told block (Talks talk held) es t login row = turn_told block held talk es row.verdict login row.row

-- no further frame is whole, where no piece is left to take
all_taken : (run : Run) (w : World) → run.piece.list ≡ [] → Stream run [] w → Splits w.taken w.frames run.decoder
all_taken run w empty st =
    let all : w.taken ≡ st.fed = st.whole ∙ ap (λ (l : List ℕ). st.fed ++ l) empty ∙ append-nil st.fed in
    subst (λ (l : List ℕ). Splits l w.frames run.decoder) (sym all) (subst (λ (fs : List FrameText). Splits st.fed fs run.decoder) (append-nil w.frames) st.splits)

-- too many bytes are left to write for an own turn
pub passes_turn_it : (alone : Bool) (s : Setting) (run : Run) (line : LineState) (desk : DeskState) → run.piece.list ≡ [] → MOST_TO_TURN < length run.out → Goes alone s (spot run line desk [] Taking) (spot run line desk [] (Writing false))
passes_turn_it alone s run line desk empty many = record {
  goes = λ w at.
      let st : Stream run [] w = at.follows in
      let v : World = record w { phase = Writing false } in
      let step : PassesTurn w v = record { phase = at.phase_is; rest = run.decoder; none = all_taken run w empty st; left = run.out; unsent = at.unsent; many = many; is = refl } in
      (v, next here (passes_turn step), record { setting_is = at.setting_is; line_is = at.line_is; desk_is = at.desk_is; phase_is = refl; unsent = at.unsent; taken = at.taken; wrote = at.wrote; stood = at.stood; tells = at.tells; follows = stream_same run run [] w v refl refl refl refl refl refl st }, sym (append-nil w.events));
}

-- the own turn
gave_row : (alone : Bool) (s : Setting) (run run' : Run) (line : LineState) (old new : Stand) (gave : Gave) → length run.out ≤ MOST_TO_TURN → run.piece.list ≡ [] → DidTurn (GiveRow s.block (stage_in run.session)) alone old new (stage_in run'.session) run.out run'.out gave → run'.session.frames ≡ run.session.frames → told_of run'.session ≡ told_of run.session → run'.decoder ≡ run.decoder → run'.piece.list ≡ run.piece.list → run'.taken ≡ run.taken → run'.wrote ≡ run.wrote → Went alone s old (spot run line old.state [] Taking) new (spot run' line new.state [] (after_gave gave))
gave_row alone s run run' line old new gave few empty d frames login decoder piece taken wrote = record {
  events = d.events;
  ran = d.ran;
  goes = record {
    goes = λ w at.
        let st : Stream run [] w = at.follows in
        let split : Splits w.taken w.frames run.decoder = all_taken run w empty st in
        let row1 = subst (λ (k : Stage). GiveRow s.block k (asked_of d.events) d.turn) (sym st.stage_is) d.row in
        let row = subst (λ (x : Setting). GiveRow x.block w.stage (asked_of d.events) d.turn) (sym at.setting_is) row1 in
        let z = absorbed alone w.desk old.state at.desk_is d.events d.ran.last d.ran.chain new.state d.ran.tail in
        let v : World = record w { desk = z.last; stage = d.turn.stage; phase = after_gave gave; output = w.output ++ d.writes.written; events = w.events ++ d.events } in
        let step : MakesTurn alone w v = record { phase = at.phase_is; rest = run.decoder; none = split; left = run.out; unsent = at.unsent; few = few; events = d.events; turn = d.turn; row = row; desk = z.last; chain = z.chain; output = d.writes.written; gave = gave; said = d.writes.said; is = refl } in
        let stream : d.turn.stage ≡ stage_in run'.session → Stream run' [] v = λ stage. record {
          stage_is = stage;
          number_is = frames ∙ st.number_is;
          fed = st.fed;
          whole = st.whole ∙ ap (λ (l : List ℕ). st.fed ++ l) (sym piece);
          splits = subst (λ (l : List ℕ). Splits st.fed (w.frames ++ []) l) (sym decoder) st.splits;
        } in (
          v,
          next here (makes_turn step),
          record {
            setting_is = at.setting_is;
            line_is = at.line_is;
            desk_is = z.tail;
            phase_is = refl;
            unsent = ap (λ (l : List ℕ). l ++ d.writes.written) at.unsent ∙ append_assoc w.sent run.out d.writes.written ∙ ap (λ (l : List ℕ). w.sent ++ l) (sym d.writes.grew);
            taken = at.taken ∙ sym taken;
            wrote = λ _. at.wrote tt ∙ sym wrote;
            stood = stood_same _ _ _ wrote at.stood;
            tells = tells_more run.session run'.session w.events d.events (login ∙ sym (quiet_told s.block (stage_in run.session) (asked_of d.events) d.turn (told_of run.session) d.row)) at.tells;
            follows = follows_gave gave run' v (if_on_map gave (stage_in run'.session ≡ d.turn.stage) (Stream run' [] v) (λ e. stream (sym e)) d.stage_is);
          },
          refl,
        );
  };
}

-- or none was made, for want of memory
pub gave_it : (alone : Bool) (s : Setting) (run run' : Run) (line : LineState) (old new : Stand) (gave : Gave) → length run.out ≤ MOST_TO_TURN → run.piece.list ≡ [] → MadeTurn (GiveRow s.block (stage_in run.session)) alone old new (stage_in run.session) (stage_in run'.session) run.out run'.out gave → run'.session.frames ≡ run.session.frames → told_of run'.session ≡ told_of run.session → run'.decoder ≡ run.decoder → run'.piece.list ≡ run.piece.list → run'.taken ≡ run.taken → run'.wrote ≡ run.wrote → Went alone s old (spot run line old.state [] Taking) new (spot run' line new.state [] (after_gave gave))
gave_it alone s run run' line old new gave few empty (inl d) frames login decoder piece taken wrote = gave_row alone s run run' line old new gave few empty d frames login decoder piece taken wrote
gave_it alone s run run' line old new gave few empty (inr g) frames login decoder piece taken wrote =
    let over : Goes alone s (spot run line old.state [] Taking) (spot run' line old.state [] (Over E.NoMemory)) = gave_up_at alone s run run' line old.state [] [] Taking tt login g.out_is taken wrote in
    let here' = goes_drifts (subst (λ (x : DeskState). Drifted alone x new.state) g.ran.chain g.ran.tail) over in
    record { events = []; goes = subst (λ (k : Gave). Goes alone s (spot run line old.state [] Taking) (spot run' line new.state [] (after_gave k))) (sym g.is) here'; ran = g.ran }
