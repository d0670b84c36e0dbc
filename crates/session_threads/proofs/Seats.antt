-- A pass behind a session: it is at home at each gate of the name, and its seat is the same.
use Rattle.std.proofs.Common.{◌≡◌, ℕ, Bool, false, List, [], ◌∷◌, sym, ◌∙◌, ap, subst}
use Rattle.atomic_table.specs.Seated.{TableId}
use Rattle.binkp_link.specs.Lines.{LineState}
use Rattle.mail_conf.specs.Conf.{ConfText}
use Rattle.node_model.specs.Calls.{DeskState, Turned, Turns, counts_of}
use Rattle.node_model.specs.Images.{Stand}
use Rattle.session_auth.specs.Sides.{side_of}
use Rattle.session_core.specs.Stages.{Setting, setting_of}
use Rattle.session_run.specs.Courses.{IsFree}
use Rattle.session_run.specs.Laws.{IsSession}
use Rattle.session_run.specs.Reports.{ReportText, report_text}
use Rattle.turn_gate.specs.declared.gate.Gate.{Gate}
use Rattle.turn_gate.specs.declared.grows.Grows.{Ghosts}
use Rattle.turn_gate.specs.declared.pass.Pass.{Pass}
use Rattle.turn_gate.specs.Passes.{IsNew, opening, view}
use Rattle.shared_desk.specs.AtGate.{IsAtGate}
use Rattle.shared_desk.specs.Seen.{Sight, stand}
use Rattle.session_threads.specs.declared.sessions.Begun.{Begun}
use Rattle.session_threads.specs.declared.sessions.Done.{Done}
use Rattle.session_threads.specs.Held.{IsHeld, IsHome, IsHomeAt, IsNamed}

-- calls of a desk stay at its seat
turns_stay : (alone : Bool) (old : DeskState) (es : List Turned) (new : DeskState) → Turns alone old es new → new.seat ≡ old.seat
turns_stay alone old [] new same = ap (λ (d : DeskState). d.seat) same
turns_stay alone old (e ∷ es) new (mid, call, rest) = turns_stay alone mid es new rest ∙ call.seat

-- a session too
session_stays : (alone : Bool) (setting : Setting) (line line' : LineState) (report : ReportText) (old new : Stand) → IsSession alone setting line old report line' new → new.state.seat ≡ old.state.seat
session_stays alone setting line line' report old new x = x.ran.tail.seat ∙ turns_stay alone old.state x.whole.last.events x.ran.last x.ran.chain

module _ {T X E P : Type 0} {g : Ghosts T X E P} where
  -- a pass that is at its gate is at home
  pub comes_home : (s : Sight X) (name : TableId) (gate : Gate T X E P) (p : Pass T X E P g) → IsAtGate s name gate p → IsHome s name p
  comes_home s name gate p at other is = record {
    free = record { of = at.named ∙ sym is; live = at.free.live; free = at.free.free; taken = at.free.taken; number = at.free.number; bare = at.free.bare };
    named = at.named;
    ready = at.ready;
  }

module _ {L T X E P : Type 0} {g : Ghosts T X E P} where
  -- A session that was run at the desk of the seat was held. The desk had the pass p, and then the pass q.
  pub held : (state : L → LineState) (s : Sight X) (name : TableId) (conf lent : ConfText) (b : Begun L T X E P g) (gate : Gate T X E P) (p q : Pass T X E P g) (d : Done L T X E P g)
      → lent ≡ conf → p ≡ b.pass → d.pass ≡ q → IsAtGate s name gate q
      → IsSession false (setting_of (side_of b.side) lent b.challenge b.moment) (state b.line) (stand s (view p).seat (view p).left) (report_text d.report) (state d.line) (stand s (view q).seat (view q).left)
      → IsFree (counts_of (s.knows (view q).seat (view q).left)).broken (s.part (view q).seat (view q).left)
      → IsHeld state s name conf b d
  held state s name conf lent b gate p q d same was is at session free =
      let setting = setting_of (side_of b.side) conf b.challenge b.moment in
      let there : IsSession false setting (state b.line) (stand s (view b.pass).seat (view b.pass).left) (report_text d.report) (state d.line) (stand s (view d.pass).seat (view d.pass).left) =
      subst (λ (x : Pass T X E P g). IsSession false setting (state b.line) (stand s (view b.pass).seat (view b.pass).left) (report_text d.report) (state d.line) (stand s (view x).seat (view x).left)) (sym is)
      (subst (λ (x : Pass T X E P g). IsSession false setting (state b.line) (stand s (view x).seat (view x).left) (report_text d.report) (state d.line) (stand s (view q).seat (view q).left)) was
      (subst (λ (c : ConfText). IsSession false (setting_of (side_of b.side) c b.challenge b.moment) (state b.line) (stand s (view p).seat (view p).left) (report_text d.report) (state d.line) (stand s (view q).seat (view q).left)) same session)) in
      record {
        seat = session_stays false setting _ _ _ (stand s (view b.pass).seat (view b.pass).left) (stand s (view d.pass).seat (view d.pass).left) there;
        home = subst (IsHome s name) (sym is) (comes_home s name gate q at);
        session = there;
        free = subst (λ (x : Pass T X E P g). IsFree (counts_of (s.knows (view x).seat (view x).left)).broken (s.part (view x).seat (view x).left)) (sym is) free;
      }

module _ {T X E P : Type 0} {g : Ghosts T X E P} where
  -- a pass that was just made is at home, and its state is the opening one
  pub new_home : (s : Sight X) (name : TableId) (gate : Gate T X E P) (k : ℕ) (p : Pass T X E P g) → IsNamed name gate → IsNew gate k p → s.ready k (opening g.state gate) → IsHomeAt s name k p × ((view p).left ≡ opening g.state gate)
  new_home s name gate k p named new ready =
      let free = new.0 in
      let seat : (view p).seat ≡ k = ap (λ v. v.seat) new.1 in
      let left : (view p).left ≡ opening g.state gate = ap (λ v. v.left) new.1 in (
        record {
          home = comes_home s name gate p (record { free = free; named = free.of ∙ named; ready = subst (λ i. s.ready i (view p).left) (sym seat) (subst (λ x. s.ready k x) (sym left) ready) });
          seat_is = seat;
        },
        left,
      )
