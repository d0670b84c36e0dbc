-- What holds of every session, step by step.
use Rattle.std.proofs.Common.{◌≡◌, ◌∙◌, ℕ, Bool, true, false, List, [], ◌∷◌, ◌++◌, refl, sym, ap, subst, arith, append_assoc}
use Rattle.std.proofs.lemmas.List.{append-nil}
use Rattle.node_model.specs.Calls.{one, Counts, counts_of, DeskState, Turned, turned, asked_of, Turns, Knock_call, Leave_call}
use Rattle.session_core.specs.Ends.{End}
use Rattle.session_core.specs.Ends as E
use Rattle.session_core.specs.Takings.{Took}
use Rattle.session_core.specs.Takings as T
use Rattle.session_core.specs.Givings.{Gave}
use Rattle.session_core.specs.Givings as G
use Rattle.binkp_link.specs.declared.link.ReadAnswer.{ReadAnswer}
use Rattle.binkp_link.specs.declared.link.ReadAnswer.TheVariants as R
use Rattle.binkp_link.specs.declared.link.WriteAnswer.{WriteAnswer}
use Rattle.binkp_link.specs.declared.link.WriteAnswer.TheVariants as W
use Rattle.std.specs.Prelude.{nat_le, if◌then◌else◌}
use Rattle.binkp_link.specs.Lines.{LineState, Moves, came, went}
use Rattle.session_core.specs.Stages.{Setting}
use Rattle.session_core.specs.Sessions.{frame_number}
use Rattle.session_run.specs.Machine.{World, Phase, Starting, Taking, Writing, Reading, Over, Draining, Closed, MayGiveUp, Step, greets, takes_frame, makes_turn, passes_turn, writes, passes_write, reads, passes_read, gives_up, leaves, drains, closes, Reach, here, next, opening, after_took, after_gave, after_read, after_write, after_drain}
use Rattle.session_run.specs.Laws.{joined, Facts, OwnCauseAt, EndCountAt, LineCauseAt, WholeAt, AnswerCauseAt, DeskCause, DeskCauseAt, Since}
use Rattle.session_run.proofs.Causes.{Met, RowCause, TurnCause, no_frame, own_turn, met_by, said_by, row_cause, said_cause, knock_cause, turn_cause, gives_cause}
use Rattle.session_run.proofs.SinceCounts.{since_same, since_chain, row_desk}
use Rattle.session_run.proofs.AnswerCauses.{took_answer, gave_answer, drain_answer}
use Rattle.session_run.proofs.OwnCauses.{early_own, took_own, said_broke, gave_own, read_own, write_own, drain_own, leave_own}
use Rattle.session_run.proofs.LineLaws.{joined-last, moves_on, moves_not, took_ends, took_line, gave_ends, gave_line, read_ends, read_faults, read_line, write_ends, write_faults, write_line, leave_ends, leave_drain, leave_desk, drain_ends, drain_line, drain_whole, close_line, close_whole, rest_of, sent_on}

took_desk : (m : Met) (alone : Bool) (before : Counts) (a b : DeskState) (es : List Turned) (took : Took) → Since before (counts_of a.knows) → Turns alone a es b → RowCause m took (asked_of es) → DeskCauseAt (after_took took) before (counts_of b.knows)
took_desk m alone before a b es T.More s chain cause = tt
took_desk m alone before a b es (T.Ended end) s chain cause = row_desk alone m before a b es end s chain cause

gave_desk : (m : Met) (alone : Bool) (before : Counts) (a b : DeskState) (es : List Turned) (gave : Gave) → Since before (counts_of a.knows) → Turns alone a es b → TurnCause m gave (asked_of es) → DeskCauseAt (after_gave gave) before (counts_of b.knows)
gave_desk m alone before a b es G.Sent s chain cause = tt
gave_desk m alone before a b es G.Waits s chain cause = tt
gave_desk m alone before a b es (G.Ended end) s chain cause = row_desk alone m before a b es end s chain cause

took_whole : (took : Took) (before : ℕ) (line : LineState) (output sent : List ℕ) → WholeAt (after_took took) before line output sent
took_whole T.More before line output sent = tt
took_whole (T.Ended end) before line output sent = tt

gave_whole : (gave : Gave) (before : ℕ) (line : LineState) (output sent : List ℕ) → WholeAt (after_gave gave) before line output sent
gave_whole G.Sent before line output sent = tt
gave_whole G.Waits before line output sent = tt
gave_whole (G.Ended end) before line output sent = tt

early : (p : Phase) → MayGiveUp p → (before now : ℕ) → EndCountAt p before now → now ≡ before
early Starting m before now e = e
early Taking m before now e = e
early (Reading waits) m before now e = e
early (Writing waits) m before now e = absurd m
early (Over end) m before now e = absurd m
early (Draining mute end) m before now e = absurd m
early (Closed end) m before now e = absurd m

-- phases that a read and a write lead to
abbrev pub Is_on : Phase → Type 0
Is_on (Closed end) = ⊥
Is_on (Draining mute end) = ⊥
Is_on (Over E.LedgerFull) = ⊥
Is_on (Over (E.DiskFault count)) = ⊥
Is_on (Over E.TurnedAway) = ⊥
Is_on phase = Unit {0}

cond_on : (b : Bool) (p q : Phase) → Is_on p → Is_on q → Is_on (if b then p else q)
cond_on true p q x y = x
cond_on false p q x y = y

pub read_on : (answer : ReadAnswer) (limit bytes calm : ℕ) → Is_on (after_read answer limit bytes calm)
read_on (R.Came n) limit bytes calm = cond_on (nat_le limit bytes) (Over E.Endless) Taking tt tt
read_on R.End limit bytes calm = tt
read_on R.NotYet limit bytes calm = tt
read_on R.Quiet limit bytes calm = cond_on (nat_le 60 calm) (Over E.Quiet) Taking tt tt
read_on R.Failed limit bytes calm = tt

pub write_on : (answer : WriteAnswer) (limit bytes calm : ℕ) (waits : Bool) → Is_on (after_write answer limit bytes calm (Reading waits))
write_on (W.Wrote n) limit bytes calm waits = cond_on (nat_le limit bytes) (Over E.Endless) (Reading waits) tt tt
write_on W.Quiet limit bytes calm waits = cond_on (nat_le 60 calm) (Over E.Quiet) (Reading waits) tt tt
write_on W.Failed limit bytes calm waits = tt

on_whole : (p : Phase) (before : ℕ) (line : LineState) (output sent : List ℕ) → Is_on p → WholeAt p before line output sent
on_whole Starting before line output sent i = tt
on_whole Taking before line output sent i = tt
on_whole (Writing waits) before line output sent i = tt
on_whole (Reading waits) before line output sent i = tt
on_whole (Over end) before line output sent i = tt
on_whole (Draining mute end) before line output sent i = tt
on_whole (Closed end) before line output sent i = absurd i

on_desk : (p : Phase) (before now : Counts) → Is_on p → DeskCauseAt p before now
on_desk Starting before now i = tt
on_desk Taking before now i = tt
on_desk (Writing waits) before now i = tt
on_desk (Reading waits) before now i = tt
on_desk (Over E.Finished) before now i = tt
on_desk (Over (E.PeerError text)) before now i = tt
on_desk (Over E.PeerBusy) before now i = tt
on_desk (Over (E.BadPassword wanted given)) before now i = tt
on_desk (Over (E.Broke cause n)) before now i = tt
on_desk (Over E.Dropped) before now i = tt
on_desk (Over E.LineFault) before now i = tt
on_desk (Over (E.DiskFault count)) before now i = absurd i
on_desk (Over E.LedgerFull) before now i = absurd i
on_desk (Over E.Quiet) before now i = tt
on_desk (Over E.Endless) before now i = tt
on_desk (Over E.TurnedAway) before now i = absurd i
on_desk (Over E.NoMemory) before now i = tt
on_desk (Draining mute end) before now i = absurd i
on_desk (Closed end) before now i = absurd i

on_answer : (p : Phase) (es : List Turned) → Is_on p → AnswerCauseAt p es
on_answer Starting es i = tt
on_answer Taking es i = tt
on_answer (Writing waits) es i = tt
on_answer (Reading waits) es i = tt
on_answer (Over E.Finished) es i = tt
on_answer (Over (E.PeerError text)) es i = tt
on_answer (Over E.PeerBusy) es i = tt
on_answer (Over (E.BadPassword wanted given)) es i = tt
on_answer (Over (E.Broke cause n)) es i = tt
on_answer (Over E.Dropped) es i = tt
on_answer (Over E.LineFault) es i = tt
on_answer (Over (E.DiskFault count)) es i = absurd i
on_answer (Over E.LedgerFull) es i = absurd i
on_answer (Over E.Quiet) es i = tt
on_answer (Over E.Endless) es i = tt
on_answer (Over E.TurnedAway) es i = absurd i
on_answer (Over E.NoMemory) es i = tt
on_answer (Draining mute end) es i = absurd i
on_answer (Closed end) es i = absurd i

drain_desk : (answer : WriteAnswer) (end : End) (calm : ℕ) (before now : Counts) → DeskCause end before now → DeskCauseAt (after_drain answer calm end) before now
drain_desk (W.Wrote n) end calm before now d = d
drain_desk W.Quiet end calm before now d = go (nat_le 60 calm)
  where
    go : (b : Bool) → DeskCauseAt (if b then Closed end else Draining false end) before now
    go true = d
    go false = d
drain_desk W.Failed end calm before now d = d

pub keeps : (alone : Bool) (line : LineState) (desk : DeskState) (w v : World) → Facts alone line desk w → Step alone w v → Facts alone line desk v
keeps alone line desk w v f (greets s) =
    let e : Turned = turned (Knock_call s.role) s.answer s.rows_before s.rows_after in
    let chain : Turns alone w.desk (e ∷ []) s.desk = (s.desk, s.call, refl) in
    let m = no_frame w.setting w.stage in
    let cause = said_cause m s.reply.output s.reply.took s.output s.took _ (knock_cause m w.setting (Knock_call s.role) s.answer s.reply s.follows) s.said in
    subst (Facts alone line desk) (sym s.is) (record {
      pieces = f.pieces;
      moves = f.moves;
      left = f.left ++ s.output;
      front = ap (λ x. x ++ s.output) f.front ∙ append_assoc w.sent f.left s.output;
      whole = took_whole s.took _ _ _ _;
      faults = f.faults;
      ends = took_ends m s.took _ line.ends w.line.ends cause (subst (λ p. EndCountAt p line.ends w.line.ends) s.phase f.ends);
      line_cause = took_line m s.took _ _ _ _ cause;
      counts = since_chain alone _ w.desk s.desk (e ∷ []) f.counts chain;
      desk_cause = took_desk m alone _ w.desk s.desk (e ∷ []) s.took f.counts chain cause;
      answer_cause = took_answer m s.took w.events (e ∷ []) cause;
      own_cause = early_own w.setting w.stage s.took (one (Knock_call s.role) s.answer) s.reply.stage w.frames w.last_stage w.last_calls w.taken w.sent cause;
    })
keeps alone line desk w v f (takes_frame s) =
    let n = frame_number (w.frames ++ s.frame ∷ []) in
    let m = met_by w.setting n w.stage (said_by w.setting.home s.frame) in
    let cause = said_cause m s.reply.output s.reply.took s.output s.took (asked_of s.events) (row_cause w.setting n w.stage s.frame (asked_of s.events) s.reply s.row) s.said in
    subst (Facts alone line desk) (sym s.is) (record {
      pieces = f.pieces;
      moves = f.moves;
      left = f.left ++ s.output;
      front = ap (λ x. x ++ s.output) f.front ∙ append_assoc w.sent f.left s.output;
      whole = took_whole s.took _ _ _ _;
      faults = f.faults;
      ends = took_ends m s.took (asked_of s.events) line.ends w.line.ends cause (subst (λ p. EndCountAt p line.ends w.line.ends) s.phase f.ends);
      line_cause = took_line m s.took (asked_of s.events) _ _ _ cause;
      counts = since_chain alone _ w.desk s.desk s.events f.counts s.chain;
      desk_cause = took_desk m alone _ w.desk s.desk s.events s.took f.counts s.chain cause;
      answer_cause = took_answer m s.took w.events s.events cause;
      own_cause = took_own w.setting n w.stage s.reply.stage w.frames s.frame s.took s.events w.taken w.sent s.rest s.next (λ c e. record { rest = s.rest; begins = s.next; earlier = w.frames; frame = s.frame; last = refl; number = refl; reply = s.reply; row = s.row; took = said_broke s.reply.output s.reply.took s.output s.took c n s.said e }) cause;
    })
keeps alone line desk w v f (makes_turn s) =
    let m = own_turn w.setting s.turn.stage in
    let cause = gives_cause m s.turn.output s.turn.gave s.output s.gave (asked_of s.events) (turn_cause w.setting w.stage (asked_of s.events) s.turn s.row) s.said in
    subst (Facts alone line desk) (sym s.is) (record {
      pieces = f.pieces;
      moves = f.moves;
      left = f.left ++ s.output;
      front = ap (λ x. x ++ s.output) f.front ∙ append_assoc w.sent f.left s.output;
      whole = gave_whole s.gave _ _ _ _;
      faults = f.faults;
      ends = gave_ends m s.gave (asked_of s.events) line.ends w.line.ends cause (subst (λ p. EndCountAt p line.ends w.line.ends) s.phase f.ends);
      line_cause = gave_line m s.gave (asked_of s.events) _ _ _ cause;
      counts = since_chain alone _ w.desk s.desk s.events f.counts s.chain;
      desk_cause = gave_desk m alone _ w.desk s.desk s.events s.gave f.counts s.chain cause;
      answer_cause = gave_answer m s.gave w.events s.events cause;
      own_cause = gave_own w.setting s.turn.stage s.gave (asked_of s.events) w.frames w.last_stage w.last_calls w.taken w.sent cause;
    })
keeps alone line desk w v f (passes_turn s) = subst (Facts alone line desk) (sym s.is) (record {
  pieces = f.pieces;
  moves = f.moves;
  left = f.left;
  front = f.front;
  whole = tt;
  faults = f.faults;
  ends = subst (λ p. EndCountAt p line.ends w.line.ends) s.phase f.ends;
  line_cause = tt;
  counts = f.counts;
  desk_cause = tt;
  answer_cause = tt;
  own_cause = tt;
})
keeps alone line desk w v f (writes s) = subst (Facts alone line desk) (sym s.is) (record {
  pieces = f.pieces;
  moves = subst (λ x. Moves x (w.sent ++ went s.answer s.left) line.bytes s.line.bytes) (append-nil w.taken) (moves_on w.taken [] w.sent (went s.answer s.left) line.bytes w.line.bytes s.line.bytes f.moves s.step.moves);
  left = rest_of s.answer s.left;
  front = sent_on w.output w.sent s.left s.answer s.unsent;
  whole = on_whole _ _ _ _ _ (write_on s.answer w.setting.limit _ s.line.calm s.waits);
  faults = write_faults w.line s.line s.answer s.left line.faults s.step f.faults;
  ends = write_ends w.line s.line s.answer s.left w.setting.limit _ line.ends s.waits s.step (subst (λ p. EndCountAt p line.ends w.line.ends) s.phase f.ends);
  line_cause = write_line w.line s.line s.answer s.left w.setting.limit _ line.faults s.waits s.step f.faults;
  counts = f.counts;
  desk_cause = on_desk _ _ _ (write_on s.answer w.setting.limit _ s.line.calm s.waits);
  answer_cause = on_answer _ _ (write_on s.answer w.setting.limit _ s.line.calm s.waits);
  own_cause = write_own s.answer s.line.calm s.waits w.setting w.stage w.frames w.last_stage w.last_calls w.taken (w.sent ++ went s.answer s.left);
})
keeps alone line desk w v f (passes_write s) = subst (Facts alone line desk) (sym s.is) (record {
  pieces = f.pieces;
  moves = f.moves;
  left = f.left;
  front = f.front;
  whole = tt;
  faults = f.faults;
  ends = subst (λ p. EndCountAt p line.ends w.line.ends) s.phase f.ends;
  line_cause = tt;
  counts = f.counts;
  desk_cause = tt;
  answer_cause = tt;
  own_cause = tt;
})
keeps alone line desk w v f (reads s) = subst (Facts alone line desk) (sym s.is) (record {
  pieces = joined-last w.pieces (came s.answer s.buffer) ∙ ap (λ x. x ++ came s.answer s.buffer) f.pieces;
  moves = subst (λ x. Moves (w.taken ++ came s.answer s.buffer) x line.bytes s.line.bytes) (append-nil w.sent) (moves_on w.taken (came s.answer s.buffer) w.sent [] line.bytes w.line.bytes s.line.bytes f.moves s.step.moves);
  left = f.left;
  front = f.front;
  whole = on_whole _ _ _ _ _ (read_on s.answer w.setting.limit _ s.line.calm);
  faults = read_faults _ w.line s.line s.answer s.buffer line.faults s.step f.faults;
  ends = read_ends _ w.line s.line s.answer s.buffer w.setting.limit _ line.ends s.step (subst (λ p. EndCountAt p line.ends w.line.ends) s.phase f.ends);
  line_cause = read_line _ w.line s.line s.answer s.buffer w.setting.limit _ line.faults s.step f.faults;
  counts = f.counts;
  desk_cause = on_desk _ _ _ (read_on s.answer w.setting.limit _ s.line.calm);
  answer_cause = on_answer _ _ (read_on s.answer w.setting.limit _ s.line.calm);
  own_cause = read_own s.answer s.line.calm w.setting w.stage w.frames w.last_stage w.last_calls (w.taken ++ came s.answer s.buffer) w.sent;
})
keeps alone line desk w v f (passes_read s) = subst (Facts alone line desk) (sym s.is) (record {
  pieces = joined-last w.pieces [] ∙ append-nil (joined w.pieces) ∙ f.pieces;
  moves = f.moves;
  left = f.left;
  front = f.front;
  whole = tt;
  faults = f.faults;
  ends = subst (λ p. EndCountAt p line.ends w.line.ends) s.phase f.ends;
  line_cause = tt;
  counts = f.counts;
  desk_cause = tt;
  answer_cause = tt;
  own_cause = tt;
})
keeps alone line desk w v f (gives_up s) = subst (Facts alone line desk) (sym s.is) (record {
  pieces = f.pieces;
  moves = f.moves;
  left = f.left;
  front = f.front;
  whole = tt;
  faults = f.faults;
  ends = early w.phase s.phase line.ends w.line.ends f.ends;
  line_cause = tt;
  counts = f.counts;
  desk_cause = tt;
  answer_cause = tt;
  own_cause = tt;
})
keeps alone line desk w v f (leaves s) =
    let e : Turned = turned Leave_call s.answer s.rows_before s.rows_after in
    let chain : Turns alone w.desk (e ∷ []) s.desk = (s.desk, s.call, refl) in
    subst (Facts alone line desk) (sym s.is) (record {
      pieces = f.pieces;
      moves = f.moves;
      left = f.left;
      front = f.front;
      whole = tt;
      faults = f.faults;
      ends = leave_ends s.end s.answer line.ends w.line.ends (subst (λ p. EndCountAt p line.ends w.line.ends) s.phase f.ends);
      line_cause = leave_drain s.end s.answer line.faults w.line.faults w.line.calm (subst (λ p. LineCauseAt p line.faults w.line.faults w.line.calm) s.phase f.line_cause);
      counts = since_chain alone _ w.desk s.desk (e ∷ []) f.counts chain;
      desk_cause = leave_desk alone s.end s.answer (counts_of desk.knows) w.desk s.desk s.rows_before s.rows_after f.counts s.call
          (subst (λ p. DeskCauseAt p (counts_of desk.knows) (counts_of w.desk.knows)) s.phase f.desk_cause);
      answer_cause = record { first = s.end; earlier = w.events; cause = subst (λ p. AnswerCauseAt p w.events) s.phase f.answer_cause; last = e; is = refl; leaves = refl; turned = refl };
      own_cause = leave_own s.end s.answer w.setting w.stage w.frames w.last_stage w.last_calls w.taken w.sent (subst (λ (p : Phase). OwnCauseAt p w.setting w.stage w.frames w.last_stage w.last_calls w.taken w.sent) s.phase f.own_cause);
    })
keeps alone line desk w v f (drains s) = subst (Facts alone line desk) (sym s.is) (record {
  pieces = f.pieces;
  moves = subst (λ x. Moves x (w.sent ++ went s.answer s.left) line.bytes s.line.bytes) (append-nil w.taken) (moves_on w.taken [] w.sent (went s.answer s.left) line.bytes w.line.bytes s.line.bytes f.moves s.step.moves);
  left = rest_of s.answer s.left;
  front = sent_on w.output w.sent s.left s.answer s.unsent;
  whole = drain_whole w.line s.line s.answer s.left s.end line.faults _ _ s.step f.faults;
  faults = write_faults w.line s.line s.answer s.left line.faults s.step f.faults;
  ends = drain_ends w.line s.line s.answer s.left s.end line.ends s.step (subst (λ p. EndCountAt p line.ends w.line.ends) s.phase f.ends);
  line_cause = drain_line s.answer s.end _ _ _ (subst (λ p. LineCauseAt p line.faults w.line.faults w.line.calm) s.phase f.line_cause);
  counts = f.counts;
  desk_cause = drain_desk s.answer s.end s.line.calm _ _ (subst (λ p. DeskCauseAt p (counts_of desk.knows) (counts_of w.desk.knows)) s.phase f.desk_cause);
  answer_cause = drain_answer s.answer s.end s.line.calm w.events (subst (λ p. AnswerCauseAt p w.events) s.phase f.answer_cause);
  own_cause = drain_own s.answer s.line.calm s.end w.setting w.stage w.frames w.last_stage w.last_calls w.taken w.sent (went s.answer s.left) (subst (λ (p : Phase). OwnCauseAt p w.setting w.stage w.frames w.last_stage w.last_calls w.taken w.sent) s.phase f.own_cause);
})
keeps alone line desk w v f (closes s) = subst (Facts alone line desk) (sym s.is) (record {
  pieces = f.pieces;
  moves = f.moves;
  left = f.left;
  front = f.front;
  whole = close_whole s.mute s.end line.faults w.line w.output w.sent (subst (λ p. LineCauseAt p line.faults w.line.faults w.line.calm) s.phase f.line_cause) s.done;
  faults = f.faults;
  ends = subst (λ p. EndCountAt p line.ends w.line.ends) s.phase f.ends;
  line_cause = close_line s.mute s.end _ _ _ (subst (λ p. LineCauseAt p line.faults w.line.faults w.line.calm) s.phase f.line_cause);
  counts = f.counts;
  desk_cause = subst (λ p. DeskCauseAt p (counts_of desk.knows) (counts_of w.desk.knows)) s.phase f.desk_cause;
  answer_cause = subst (λ p. AnswerCauseAt p w.events) s.phase f.answer_cause;
  own_cause = subst (λ (p : Phase). OwnCauseAt p w.setting w.stage w.frames w.last_stage w.last_calls w.taken w.sent) s.phase f.own_cause;
})

pub facts_on : (alone : Bool) (line : LineState) (desk : DeskState) (w v : World) → Facts alone line desk w → Reach alone w v → Facts alone line desk v
facts_on alone line desk w v f here = f
facts_on alone line desk w v f (next {u} r s) = keeps alone line desk u v (facts_on alone line desk w u f r) s

pub facts_open : (alone : Bool) (s : Setting) (line : LineState) (desk : DeskState) → Facts alone line desk (opening s line desk)
facts_open alone s line desk =
    record { pieces = refl; moves = moves_not line.bytes; left = []; front = refl; whole = tt; faults = omega arith; ends = refl; line_cause = tt; counts = since_same (counts_of desk.knows); desk_cause = tt; answer_cause = tt; own_cause = tt }
