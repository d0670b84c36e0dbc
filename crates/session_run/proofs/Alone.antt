-- A run of a session that is alone is also one of a session that isn't.
use Rattle.std.proofs.Common.{true, false, List, refl, sym, ap, subst}
use Rattle.ftn_addr.specs.Frames.{FrameText, Command, Data}
use Rattle.ftn_addr.specs.Key.{Key}
use Rattle.node_model.specs.Images.{Stand, Drifted}
use Rattle.node_model.proofs.Drifting.{drift_none, drifted_none, drifted_on, earlier}
use Rattle.node_model.proofs.Rans.{absorbed}
use Rattle.session_run.specs.declared.run.Run.{Run}
use Rattle.session_run.specs.Runs.{Spot, Follows, At, GoesBy, Went}
use Rattle.session_run.proofs.Streams.{stream_same}
use Rattle.node_model.proofs.Alone.{call_shared, chain_shared, drifted_shared, ran_shared_too}
use Rattle.node_model.specs.Calls.{Call, Answer, Drifts, DeskState, Turned, turned, Knock_call, Leave_call}
use Rattle.session_core.specs.Stages.{Setting}
use Rattle.binkp_link.specs.Lines.{LineState}
use Rattle.session_run.specs.Machine.{World, Phase, Starting, Taking, Writing, Reading, Over, Draining, Closed, Step, greets, takes_frame, makes_turn, passes_turn, writes, passes_write, reads, passes_read, gives_up, leaves, drains, closes, Reach, here, next, Throughout, opening}
use Rattle.std.proofs.Common.{◌≡◌}
use Rattle.session_run.specs.Laws.{Facts, IsSession}
use Rattle.session_run.specs.Acknowledged.{Acknowledged, MayStand, Written}
use Rattle.session_run.specs.Reports.{ReportText}
use Rattle.session_run.specs.Settled.{Asked, MaySettle}
use Rattle.node_model.specs.Lists.{Each}
use Rattle.ftn_addr.specs.Address.{Address}
use Rattle.session_run.proofs.Acknowledging.{each_weaker}
use Rattle.session_run.proofs.Marked.{all_marked}

step_shared : (w v : World) → Step true w v → Step false w v
step_shared w v (greets s) = greets (record { phase = s.phase; new = s.new; role = s.role; side = s.side; answer = s.answer; desk = s.desk; rows_before = s.rows_before; rows_after = s.rows_after; call = call_shared w.desk (turned (Knock_call s.role) s.answer s.rows_before s.rows_after) s.desk s.call; reply = s.reply; follows = s.follows; output = s.output; took = s.took; said = s.said; is = s.is })
step_shared w v (takes_frame s) = takes_frame (record { phase = s.phase; frame = s.frame; rest = s.rest; next = s.next; events = s.events; reply = s.reply; row = s.row; desk = s.desk; chain = chain_shared w.desk s.events s.desk s.chain; output = s.output; took = s.took; said = s.said; is = s.is })
step_shared w v (makes_turn s) = makes_turn (record { phase = s.phase; rest = s.rest; none = s.none; left = s.left; unsent = s.unsent; few = s.few; events = s.events; turn = s.turn; row = s.row; desk = s.desk; chain = chain_shared w.desk s.events s.desk s.chain; output = s.output; gave = s.gave; said = s.said; is = s.is })
step_shared w v (passes_turn s) = passes_turn s
step_shared w v (writes s) = writes s
step_shared w v (passes_write s) = passes_write s
step_shared w v (reads s) = reads s
step_shared w v (passes_read s) = passes_read s
step_shared w v (gives_up s) = gives_up s
step_shared w v (leaves s) = leaves (record { end = s.end; phase = s.phase; answer = s.answer; desk = s.desk; rows_before = s.rows_before; rows_after = s.rows_after; call = call_shared w.desk (turned Leave_call s.answer s.rows_before s.rows_after) s.desk s.call; is = s.is })
step_shared w v (drains s) = drains s
step_shared w v (closes s) = closes s

pub reach_shared : (w v : World) → Reach true w v → Reach false w v
reach_shared w v here = here
reach_shared w v (next {u} r s) = next (reach_shared w u r) (step_shared u v s)

facts_shared : (line : LineState) (desk : DeskState) (w : World) → Facts true line desk w → Facts false line desk w
facts_shared line desk w f = record { pieces = f.pieces; moves = f.moves; left = f.left; front = f.front; whole = f.whole; faults = f.faults; ends = f.ends; line_cause = f.line_cause; counts = f.counts; desk_cause = f.desk_cause; answer_cause = f.answer_cause; own_cause = f.own_cause }

-- an acknowledgement among calls with nothing between them
acknowledged_shared : (desk : DeskState) (es : List Turned) (key : Key) → Acknowledged true desk es key → Acknowledged false desk es key
acknowledged_shared desk es key a = record {
  earlier = a.earlier;
  turn = a.turn;
  later = a.later;
  is = a.is;
  asks = a.asks;
  chain = chain_shared desk a.earlier a.asks a.chain;
  answers = a.answers;
  call = record { seat = a.call.seat; mid = a.call.mid; drift = subst (Drifts false a.asks.seat a.asks.knows) (sym a.call.drift) (drift_none false a.asks.seat a.asks.knows); rows = a.call.rows };
  has = a.has;
}

asked_shared : (desk : DeskState) (es : List Turned) (call : Call) (answer : Answer) → Asked true desk es call answer → Asked false desk es call answer
asked_shared desk es call answer a = record {
  earlier = a.earlier;
  turn = a.turn;
  later = a.later;
  is = a.is;
  asked = a.asked;
  asks = a.asks;
  chain = chain_shared desk a.earlier a.asks a.chain;
  answers = a.answers;
  beside = record { seat = a.beside.seat; mid = a.beside.mid; drift = subst (Drifts false a.asks.seat a.asks.knows) (sym a.beside.drift) (drift_none false a.asks.seat a.asks.knows); rows = a.beside.rows };
  row = a.row;
}

settled_shared : (desk : DeskState) (es : List Turned) (home : Address) (frames : List FrameText) (e : Turned) → MaySettle true desk es home frames e → MaySettle false desk es home frames e
settled_shared desk es home frames e m = λ number is. let x = m number is in record { key = x.key; offered = asked_shared desk es _ _ x.offered; heard = x.heard }

stands_shared : (desk : DeskState) (es : List Turned) (f : FrameText) → MayStand true desk es f → MayStand false desk es f
unfolding asked_shared
stands_shared desk es (Data bytes) m = m
stands_shared desk es (Command number args) m = (λ six. let x = m.0 six in (x.0, x.1, acknowledged_shared desk es x.0 x.2), λ five. let x = m.1 five in record { nothing = asked_shared desk es _ _ x.nothing; last = x.last })

written_shared : (desk : DeskState) (v : World) → Written true desk v → Written false desk v
written_shared desk v w =
    record { cut = w.cut; cut_at = w.cut_at; frames = w.frames; spelled = w.spelled; stand = each_weaker (MayStand true desk v.events) (MayStand false desk v.events) w.frames (stands_shared desk v.events) w.stand }

throughout_shared : (P Q : World → Type 0) → ((x : World) → P x → Q x) → (w v : World) (r : Reach true w v) → Throughout true P w v r → Throughout false Q w v (reach_shared w v r)
unfolding reach_shared
throughout_shared P Q f w v here p = f w p
throughout_shared P Q f w v (next {u} r s) p = (throughout_shared P Q f w u r p.0, f v p.1)

pub session_shared : (s : Setting) (line : LineState) (desk : Stand) (report : ReportText) (line' : LineState) (desk' : Stand) → IsSession true s line desk report line' desk' → IsSession false s line desk report line' desk'
session_shared s line desk report line' desk' x = record {
  whole = record {
    last = x.whole.last;
    run = reach_shared _ x.whole.last x.whole.run;
    reports = x.whole.reports;
    line_is = x.whole.line_is;
    desk_is = drifted_shared x.whole.last.desk desk'.state x.whole.desk_is;
    facts = facts_shared line desk.state x.whole.last x.whole.facts;
    written = throughout_shared (Written true desk.state) (Written false desk.state) (written_shared desk.state) (opening s line desk.state) x.whole.last x.whole.run x.whole.written;
    settled = throughout_shared (λ (w : World). Each (MaySettle true desk.state w.events s.home w.frames) w.events) (λ (w : World). Each (MaySettle false desk.state w.events s.home w.frames) w.events) (λ (w : World). each_weaker _ _ w.events (settled_shared desk.state w.events s.home w.frames)) (opening s line desk.state) x.whole.last x.whole.run x.whole.settled;
    brought = x.whole.brought;
    marked = all_marked false desk.state x.whole.last.events;
  };
  ran = ran_shared_too desk x.whole.last.events desk' x.ran;
}

-- A step of a session that is alone, from a desk that other seats step from.

pub record Replayed (w v : World) (d : DeskState) : Type 0 where
  pub desk : DeskState
  pub step : Step false (record w { desk = d }) (record v { desk = desk })
  pub drifted : Drifted false desk v.desk

still : (w v : World) (d : DeskState) → Drifted false d w.desk → v.desk ≡ w.desk → Step false (record w { desk = d }) (record v { desk = d }) → Replayed w v d
still w v d t e step = record { desk = d; step = step; drifted = subst (λ (x : DeskState). Drifted false d x) (sym e) t }

replay : (w v : World) (d : DeskState) → Drifted false d w.desk → Step true w v → Replayed w v d
replay w v d t (greets s) = record {
  desk = s.desk;
  step = greets (record { phase = s.phase; new = s.new; role = s.role; side = s.side; answer = s.answer; desk = s.desk; rows_before = s.rows_before; rows_after = s.rows_after; call = (earlier false d w.desk t (turned (Knock_call s.role) s.answer s.rows_before s.rows_after) s.desk (call_shared w.desk (turned (Knock_call s.role) s.answer s.rows_before s.rows_after) s.desk s.call)).made; reply = s.reply; follows = s.follows; output = s.output; took = s.took; said = s.said; is = ap (λ (x : World). record x { desk = s.desk }) s.is });
  drifted = subst (λ (x : World). Drifted false s.desk x.desk) (sym s.is) (drifted_none false s.desk);
}
replay w v d t (takes_frame s) =
    let z = absorbed false d w.desk t s.events s.desk (chain_shared w.desk s.events s.desk s.chain) s.desk (drifted_none false s.desk) in
    record {
      desk = z.last;
      step = takes_frame (record { phase = s.phase; frame = s.frame; rest = s.rest; next = s.next; events = s.events; reply = s.reply; row = s.row; desk = z.last; chain = z.chain; output = s.output; took = s.took; said = s.said; is = ap (λ (x : World). record x { desk = z.last }) s.is });
      drifted = subst (λ (x : World). Drifted false z.last x.desk) (sym s.is) z.tail;
    }
replay w v d t (leaves s) = record {
  desk = s.desk;
  step = leaves (record { end = s.end; phase = s.phase; answer = s.answer; desk = s.desk; rows_before = s.rows_before; rows_after = s.rows_after; call = (earlier false d w.desk t (turned Leave_call s.answer s.rows_before s.rows_after) s.desk (call_shared w.desk (turned Leave_call s.answer s.rows_before s.rows_after) s.desk s.call)).made; is = ap (λ (x : World). record x { desk = s.desk }) s.is });
  drifted = subst (λ (x : World). Drifted false s.desk x.desk) (sym s.is) (drifted_none false s.desk);
}
replay w v d t (makes_turn s) =
    let z = absorbed false d w.desk t s.events s.desk (chain_shared w.desk s.events s.desk s.chain) s.desk (drifted_none false s.desk) in
    record {
      desk = z.last;
      step = makes_turn (record { phase = s.phase; rest = s.rest; none = s.none; left = s.left; unsent = s.unsent; few = s.few; events = s.events; turn = s.turn; row = s.row; desk = z.last; chain = z.chain; output = s.output; gave = s.gave; said = s.said; is = ap (λ (x : World). record x { desk = z.last }) s.is });
      drifted = subst (λ (x : World). Drifted false z.last x.desk) (sym s.is) z.tail;
    }
replay w v d t (passes_turn s) = still w v d t (ap (λ (x : World). x.desk) s.is) (passes_turn (record { phase = s.phase; rest = s.rest; none = s.none; left = s.left; unsent = s.unsent; many = s.many; is = ap (λ (x : World). record x { desk = d }) s.is }))
replay w v d t (writes s) = still w v d t (ap (λ (x : World). x.desk) s.is) (writes (record { waits = s.waits; phase = s.phase; left = s.left; unsent = s.unsent; some = s.some; answer = s.answer; line = s.line; step = s.step; is = ap (λ (x : World). record x { desk = d }) s.is }))
replay w v d t (passes_write s) = still w v d t (ap (λ (x : World). x.desk) s.is) (passes_write (record { waits = s.waits; phase = s.phase; unsent = s.unsent; is = ap (λ (x : World). record x { desk = d }) s.is }))
replay w v d t (reads s) = still w v d t (ap (λ (x : World). x.desk) s.is) (reads (record { waits = s.waits; phase = s.phase; left = s.left; unsent = s.unsent; few = s.few; answer = s.answer; buffer = s.buffer; room = s.room; line = s.line; step = s.step; is = ap (λ (x : World). record x { desk = d }) s.is }))
replay w v d t (passes_read s) = still w v d t (ap (λ (x : World). x.desk) s.is) (passes_read (record { waits = s.waits; phase = s.phase; left = s.left; unsent = s.unsent; many = s.many; is = ap (λ (x : World). record x { desk = d }) s.is }))
replay w v d t (gives_up s) = still w v d t (ap (λ (x : World). x.desk) s.is) (gives_up (record { phase = s.phase; is = ap (λ (x : World). record x { desk = d }) s.is }))
replay w v d t (drains s) = still w v d t (ap (λ (x : World). x.desk) s.is) (drains (record { end = s.end; phase = s.phase; left = s.left; unsent = s.unsent; some = s.some; answer = s.answer; line = s.line; step = s.step; is = ap (λ (x : World). record x { desk = d }) s.is }))
replay w v d t (closes s) = still w v d t (ap (λ (x : World). x.desk) s.is) (closes (record { mute = s.mute; end = s.end; phase = s.phase; done = s.done; is = ap (λ (x : World). record x { desk = d }) s.is }))

pub record ReplayedTo (w v : World) (d : DeskState) : Type 0 where
  pub desk : DeskState
  pub run : Reach false (record w { desk = d }) (record v { desk = desk })
  pub drifted : Drifted false desk v.desk

replay_all : (w v : World) (d : DeskState) → Drifted false d w.desk → Reach true w v → ReplayedTo w v d
replay_all w v d t here = record { desk = d; run = here; drifted = t }
replay_all w v d t (next {u} r s) =
    let x = replay_all w u d t r in
    let y = replay u v x.desk x.drifted s in
    record { desk = y.desk; run = next x.run y.step; drifted = y.drifted }

follows_same : (p : Phase) (run : Run) (pending : List FrameText) (w v : World) → v.stage ≡ w.stage → v.frames ≡ w.frames → v.taken ≡ w.taken → Follows p run pending w → Follows p run pending v
follows_same Starting run pending w v stage frames taken f = stream_same run run pending w v stage frames taken refl refl refl f
follows_same Taking run pending w v stage frames taken f = stream_same run run pending w v stage frames taken refl refl refl f
follows_same (Writing waits) run pending w v stage frames taken f = stream_same run run pending w v stage frames taken refl refl refl f
follows_same (Reading waits) run pending w v stage frames taken f = stream_same run run pending w v stage frames taken refl refl refl f
follows_same (Over end) run pending w v stage frames taken f = tt
follows_same (Draining mute end) run pending w v stage frames taken f = tt
follows_same (Closed end) run pending w v stage frames taken f = tt

-- what is proved of a turn whose desk is alone holds of one whose desk isn't
pub goes_shared : (s : Setting) (a b : Spot) (es : List Turned) → GoesBy true s a es b → GoesBy false s a es b
goes_shared s a b es g = record {
  goes = λ w at.
      let u : World = record w { desk = a.desk } in
      let at' : At true s a u = record { setting_is = at.setting_is; line_is = at.line_is; desk_is = drifted_none true a.desk; phase_is = at.phase_is; unsent = at.unsent; taken = at.taken; wrote = at.wrote; stood = at.stood; tells = at.tells; follows = follows_same a.phase a.run a.pending w u refl refl refl at.follows } in
      let x = g.goes u at' in
      let y = replay_all u x.0 w.desk at.desk_is x.1 in
      let v : World = record x.0 { desk = y.desk } in
      (v, y.run, record { setting_is = x.2.setting_is; line_is = x.2.line_is; desk_is = (drifted_on false y.desk x.0.desk b.desk y.drifted (drifted_shared x.0.desk b.desk x.2.desk_is)).all; phase_is = x.2.phase_is; unsent = x.2.unsent; taken = x.2.taken; wrote = x.2.wrote; stood = x.2.stood; tells = x.2.tells; follows = follows_same b.phase b.run b.pending x.0 v refl refl refl x.2.follows }, x.3);
}

pub went_shared_too : (s : Setting) (old new : Stand) (a b : Spot) → Went true s old a new b → Went false s old a new b
went_shared_too s old new a b g = record { events = g.events; goes = goes_shared s a b g.events g.goes; ran = ran_shared_too old g.events new g.ran }
