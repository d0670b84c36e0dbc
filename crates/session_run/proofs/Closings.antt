-- What is left is written, and the session is closed.
use Rattle.std.proofs.Common.{◌≡◌, ◌⊎◌, ◌+◌, ◌-◌, ◌^◌, min, arith, length-append, ◌<◌, ◌∙◌, ℕ, Bool, true, false, List, [], ◌++◌, length, refl, sym, ap, subst, inl, inr, append_assoc}
use Rattle.std.specs.Prelude.{nat_le, ◌==◌, if◌then◌else◌}
use Rattle.std.proofs.lemmas.List.{append-nil}
use Rattle.std.proofs.lemmas.Bool.{eqb-true}
use Rattle.node_model.specs.Calls.{DeskState}
use Rattle.node_model.specs.Images.{Stand}
use Rattle.binkp_link.specs.declared.link.WriteAnswer.{WriteAnswer}
use Rattle.binkp_link.specs.declared.link.WriteAnswer.TheVariants as W
use Rattle.binkp_link.specs.Lines.{LineState, IsWrite, shut, went}
use Rattle.session_core.specs.declared.ending.End.{End as EndCode}
use Rattle.session_core.specs.Ends.{End, end_text}
use Rattle.session_core.specs.Stages.{Setting}
use Rattle.session_run.specs.declared.run.Run.{Run}
use Rattle.session_run.specs.declared.turns.Course.{Course}
use Rattle.session_run.specs.declared.turns.Turn.{Turn}
use Rattle.session_run.specs.declared.turns.Turn.TheVariants as T
use Rattle.session_run.specs.declared.turns.Going.{Going}
use Rattle.session_run.specs.declared.turns.Going.TheVariants as G
use Rattle.session_run.specs.declared.report.Report.{Report}
use Rattle.session_run.specs.Courses.{IfMore, Tells_run, TurnGoes, TurnWent, phase_of}
use Rattle.session_run.specs.Machine.{World, Phase, Draining, Closed, here, next, drains, closes, Drains, Closes, after_drain}
use Rattle.session_run.specs.Runs.{IsUnleft, Spot, spot, Follows, At, Goes, drained}
use Rattle.session_run.proofs.Runs.{ends_at, goes_then, starts_at, tells_as, went_still}
use Rattle.session_run.proofs.Streams.{is_nothing}

-- nothing more is written, or nothing is left
pub closes_it : (alone : Bool) (s : Setting) (run : Run) (line : LineState) (desk : DeskState) (mute : Bool) (end : End) → (mute ≡ true) ⊎ (run.out ≡ []) → Goes alone s (spot run line desk [] (Draining mute end)) (spot run line desk [] (Closed end))
closes_it alone s run line desk mute end why = record {
  goes = λ w at.
      let v : World = record w { phase = Closed end } in
      let step : Closes w v = record { mute = mute; end = end; phase = at.phase_is; done = done w at why; is = refl } in
      (v, next here (closes step), record { setting_is = at.setting_is; line_is = at.line_is; desk_is = at.desk_is; phase_is = refl; unsent = at.unsent; taken = at.taken; wrote = λ unleft. absurd unleft; stood = at.stood; tells = at.tells; follows = tt }, sym (append-nil w.events));
}
  where
    done : (w : World) → At alone s (spot run line desk [] (Draining mute end)) w → (mute ≡ true) ⊎ (run.out ≡ []) → (mute ≡ true) ⊎ (w.output ≡ w.sent)
    done w at (inl is) = inl is
    done w at (inr none) = inr (at.unsent ∙ ap (λ (x : List ℕ). w.sent ++ x) none ∙ append-nil w.sent)

either_left : (b : Bool) (p q : Phase) → (IsUnleft p → ⊥) → (IsUnleft q → ⊥) → IsUnleft (if b then p else q) → ⊥
either_left true p q x y u = x u
either_left false p q x y u = y u

drained_left : (answer : WriteAnswer) (calm : ℕ) (end : End) → IsUnleft (after_drain answer calm end) → ⊥
drained_left (W.Wrote n) calm end u = u
drained_left W.Quiet calm end u = either_left (nat_le 60 calm) (Closed end) (Draining false end) (λ x. x) (λ x. x) u
drained_left W.Failed calm end u = u

either_follows : (b : Bool) (p q : Phase) (run : Run) (w : World) → Follows p run [] w → Follows q run [] w → Follows (if b then p else q) run [] w
either_follows true p q run w x y = x
either_follows false p q run w x y = y

drained_follows : (answer : WriteAnswer) (calm : ℕ) (end : End) (run : Run) (w : World) → Follows (after_drain answer calm end) run [] w
drained_follows (W.Wrote n) calm end run w = tt
drained_follows W.Quiet calm end run w = either_follows (nat_le 60 calm) (Closed end) (Draining false end) run w tt tt
drained_follows W.Failed calm end run w = tt

stood_on : (sent gone all wrote wrote' : ℕ) → all ≡ sent + gone → min wrote (2 ^ 64 - 1) ≡ min sent (2 ^ 64 - 1) → min wrote' (2 ^ 64 - 1) ≡ min (wrote + gone) (2 ^ 64 - 1) → min wrote' (2 ^ 64 - 1) ≡ min all (2 ^ 64 - 1)
stood_on sent gone all wrote wrote' a b c = omega arith

-- one write of what is left
pub drains_it : (alone : Bool) (s : Setting) (run run' : Run) (l l' : LineState) (desk : DeskState) (end : End) (answer : WriteAnswer) (bytes : List ℕ) → bytes ≡ run.out → 0 < length run.out → IsWrite l answer bytes l' → run.out ≡ went answer run.out ++ run'.out → run'.taken ≡ run.taken → run'.session ≡ run.session → min run'.wrote (2 ^ 64 - 1) ≡ min (run.wrote + length (went answer run.out)) (2 ^ 64 - 1) → Goes alone s (spot run l desk [] (Draining false end)) (spot run' l' desk [] (after_drain answer l'.calm end))
drains_it alone s run run' l l' desk end answer bytes offered some is parts taken session counted = record {
  goes = λ w at.
      let gone = went answer run.out in
      let v : World = record w { line = l'; sent = w.sent ++ gone; phase = after_drain answer l'.calm end } in
      let all : IsWrite l answer run.out l' = subst (λ (x : List ℕ). IsWrite l answer x l') offered is in
      let step : Drains w v = record { end = end; phase = at.phase_is; left = run.out; unsent = at.unsent; some = some; answer = answer; line = l'; step = subst (λ (x : LineState). IsWrite x answer run.out l') (sym at.line_is) all; is = refl } in (
        v,
        next here (drains step),
        record {
          setting_is = at.setting_is;
          line_is = refl;
          desk_is = at.desk_is;
          phase_is = refl;
          unsent = at.unsent ∙ ap (λ (x : List ℕ). w.sent ++ x) parts ∙ sym (append_assoc w.sent gone run'.out);
          taken = at.taken ∙ sym taken;
          wrote = λ u. absurd (drained_left answer l'.calm end u);
          stood = stood_on (length w.sent) (length gone) (length (w.sent ++ gone)) run.wrote run'.wrote (length-append w.sent gone) at.stood counted;
          tells = tells_as session at.tells;
          follows = drained_follows answer l'.calm end run' v;
        },
        sym (append-nil w.events),
      );
}

pub goes_at : {alone : Bool} {s : Setting} {a : Spot} {run : Run} {line : LineState} {desk : DeskState} {p q : Phase} → Goes alone s a (spot run line desk [] p) → p ≡ q → Goes alone s a (spot run line desk [] q)
goes_at {alone} {s} {a} {run} {line} {desk} {p} {q} g e = subst (λ (x : Phase). Goes alone s a (spot run line desk [] x)) e g

pub quiet_drained : (calm : ℕ) (end : End) → after_drain W.Quiet calm end ≡ drained (nat_le 60 calm) end
quiet_drained calm end = go (nat_le 60 calm)
  where
    go : (b : Bool) → (if b then Closed end else Draining false end) ≡ drained b end
    go true = refl
    go false = refl

-- where a write left nothing, the session is closed at once
pub wrote_drained : (alone : Bool) (s : Setting) (a : Spot) (run : Run) (line : LineState) (desk : DeskState) (end : End) (b : Bool) → b ≡ (length run.out == 0) → Goes alone s a (spot run line desk [] (Draining false end)) → Goes alone s a (spot run line desk [] (drained b end))
wrote_drained alone s a run line desk end true e g = goes_then g (closes_it alone s run line desk false end (inr (is_nothing run.out (eqb-true (length run.out) 0 (sym e)))))
wrote_drained alone s a run line desk end false e g = g

pub goes_from : {alone : Bool} {s : Setting} {b : Spot} {run : Run} {line : LineState} {desk : DeskState} {p q : Phase} → p ≡ q → Goes alone s (spot run line desk [] p) b → Goes alone s (spot run line desk [] q) b
goes_from {alone} {s} {b} {run} {line} {desk} {p} {q} e g = subst (λ (x : Phase). Goes alone s (spot run line desk [] x) b) e g

-- the turn that closes the line
pub shut_turn : (alone : Bool) (s : Setting) (a : Spot) (run : Run) (course : Course) (line line' : LineState) (end : EndCode) (turn : Turn) → (report : Report) × (turn ≡ T.Ended report) × Tells_run report run × (report.end ≡ end) → line' ≡ shut line → Goes alone s a (spot run line a.desk [] (Closed (end_text end))) → TurnGoes alone s a course line' turn
shut_turn alone s a run course line line' end turn (report, is, tells, ends) closed g =
    subst (λ (t : Turn). TurnGoes alone s a course line' t) (sym is) (line, run, sym closed, tells, subst (λ (e : EndCode). Goes alone s a (spot run line a.desk [] (Closed (end_text e)))) (sym ends) g)

-- a turn that calls no desk, of a session that was left
pub turn_went : (alone : Bool) (s : Setting) (desk : Stand) (run : Run) (line : LineState) (going : Going) (mute : Bool) (end : EndCode) (course : Course) (line' : LineState) (turn : Turn) → going ≡ G.Draining mute end → IfMore turn (course.going ≡ G.Draining mute end) → TurnGoes alone s (spot run line desk.state [] (Draining mute (end_text end))) course line' turn → TurnWent alone s desk (spot run line desk.state [] (phase_of going)) desk course line' turn
turn_went alone s desk run line going mute end course line' T.More was is g =
    starts_at (ends_at (went_still desk g) (ap phase_of (sym is))) (ap phase_of (sym was))
turn_went alone s desk run line going mute end course line' (T.Ended report) was is g = (g.0, g.1, g.2, g.3, starts_at (went_still desk g.4) (ap phase_of (sym was)))
