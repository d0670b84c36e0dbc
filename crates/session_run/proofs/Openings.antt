-- The first turn of a session, and its leaving the desk.
use Rattle.std.proofs.Common.{◌≡◌, ◌∙◌, ◌-◌, ◌^◌, min, ℕ, Bool, List, [], ◌∷◌, ◌++◌, refl, sym, ap, subst, arith, append_assoc}
use Rattle.ftn_addr.specs.Frames.{FrameText}
use Rattle.binkp_frame.specs.Stream.{Splits}
use Rattle.node_model.specs.Calls.{DeskState, Answer, turned, Knock_call, Leave_call}
use Rattle.node_model.specs.Images.{Stand, Kept}
use Rattle.node_model.proofs.Drifting.{drifted_none, earlier}
use Rattle.node_model.proofs.Rans.{ran_one}
use Rattle.session_core.specs.Ends.{End}
use Rattle.session_core.specs.Takings.{Took}
use Rattle.session_core.specs.Takings as T
use Rattle.session_run.specs.declared.run.Run.{Run}
use Rattle.session_core.specs.declared.session.Session.{Session}
use Rattle.binkp_link.specs.Lines.{LineState}
use Rattle.session_core.specs.Stages.{Setting, at_first, role_of}
use Rattle.session_core.specs.Sessions.{AfterKnock, Reply}
use Rattle.session_core.specs.Replies.{Writes as Grows, IfMore, told_of, stage_in}
use Rattle.session_run.proofs.Runs.{stood_same, tells_more}
use Rattle.session_run.specs.Machine.{World, Starting, opening, Greets, greets, Leaves, leaves, after_leave, is_mute, Over, Draining, here, next, after_took}
use Rattle.session_run.specs.Runs.{spot, Stream, Follows, At, Went, IsNew}

met : (took : Took) (P : Type 0) → P → IfMore took P
met T.More P p = p
met (T.Ended end) P p = tt

follows_took : (took : Took) (run : Run) (pending : List FrameText) (v : World) → IfMore took (Stream run pending v) → Follows (after_took took) run pending v
follows_took T.More run pending v st = st
follows_took (T.Ended end) run pending v st = tt

-- the first turn
pub greeted_it : (alone : Bool) (s : Setting) (run run' : Run) (line : LineState) (old new : Stand) (answer : Answer) (reply : Reply) (took : Took) → Kept alone old (Knock_call (role_of s.side)) answer new → AfterKnock s answer reply → IsNew run → run'.session ≡ run.session → run'.decoder ≡ run.decoder → run'.piece.list ≡ run.piece.list → run'.taken ≡ run.taken → run'.wrote ≡ run.wrote → reply.stage ≡ at_first → Grows run.out run'.out reply.output reply.took took → Went alone s old (spot run line old.state [] Starting) new (spot run' line new.state [] (after_took took))
greeted_it alone s run run' line old new answer reply took kept after is_new session decoder piece taken wrote stage grows = record {
  events = turned (Knock_call (role_of s.side)) answer kept.rows_before kept.rows_after ∷ [];
  ran = ran_one alone old (Knock_call (role_of s.side)) answer new kept;
  goes = record {
    goes = λ w at.
        let st : Stream run [] w = at.follows in
        let v : World = record w { desk = new.state; stage = reply.stage; phase = after_took took; output = w.output ++ grows.written; events = w.events ++ turned (Knock_call (role_of s.side)) answer kept.rows_before kept.rows_after ∷ [] } in
        let step : Greets alone w v = record {
          phase = at.phase_is;
          new = st.stage_is ∙ is_new.stage;
          role = role_of s.side;
          side = ap (λ (x : Setting). role_of x.side) (sym at.setting_is);
          answer = answer;
          desk = new.state;
          rows_before = kept.rows_before;
          rows_after = kept.rows_after;
          call = (earlier alone w.desk old.state at.desk_is (turned (Knock_call (role_of s.side)) answer kept.rows_before kept.rows_after) new.state kept.made).made;
          reply = reply;
          follows = subst (λ (x : Setting). AfterKnock x answer reply) (sym at.setting_is) after;
          output = grows.written;
          took = took;
          said = grows.said;
          is = refl;
        } in
        let stream : Stream run' [] v = record {
          stage_is = stage ∙ sym is_new.stage ∙ ap stage_in (sym session);
          number_is = ap (λ (x : Session). x.frames) session ∙ st.number_is;
          fed = st.fed;
          whole = st.whole ∙ ap (λ (x : List ℕ). st.fed ++ x) (sym piece);
          splits = subst (λ (x : List ℕ). Splits st.fed (w.frames ++ []) x) (sym decoder) st.splits;
        } in (
          v,
          next here (greets step),
          record {
            setting_is = at.setting_is;
            line_is = at.line_is;
            desk_is = drifted_none alone new.state;
            phase_is = refl;
            unsent = ap (λ (x : List ℕ). x ++ grows.written) at.unsent ∙ append_assoc w.sent run.out grows.written ∙ ap (λ (x : List ℕ). w.sent ++ x) (sym grows.grew);
            taken = at.taken ∙ sym taken;
            wrote = λ _. at.wrote tt ∙ sym wrote;
            stood = stood_same _ _ _ wrote at.stood;
            tells = tells_more run.session run'.session w.events (turned (Knock_call (role_of s.side)) answer kept.rows_before kept.rows_after ∷ []) (ap told_of session) at.tells;
            follows = follows_took took run' [] v (met took (Stream run' [] v) stream);
          },
          refl,
        );
  };
}

-- the desk is left
pub left_it : (alone : Bool) (s : Setting) (run : Run) (line : LineState) (old new : Stand) (end : End) (answer : Answer) → Kept alone old Leave_call answer new → Went alone s old (spot run line old.state [] (Over end)) new (spot run line new.state [] (Draining (is_mute end) (after_leave end answer)))
left_it alone s run line old new end answer kept = record {
  events = turned Leave_call answer kept.rows_before kept.rows_after ∷ [];
  ran = ran_one alone old Leave_call answer new kept;
  goes = record {
    goes = λ w at.
        let v : World = record w { desk = new.state; events = w.events ++ turned Leave_call answer kept.rows_before kept.rows_after ∷ []; phase = Draining (is_mute end) (after_leave end answer) } in
        let step : Leaves alone w v = record { end = end; phase = at.phase_is; answer = answer; desk = new.state; rows_before = kept.rows_before; rows_after = kept.rows_after; call = (earlier alone w.desk old.state at.desk_is (turned Leave_call answer kept.rows_before kept.rows_after) new.state kept.made).made; is = refl } in
        (v, next here (leaves step), record { setting_is = at.setting_is; line_is = at.line_is; desk_is = drifted_none alone new.state; phase_is = refl; unsent = at.unsent; taken = at.taken; wrote = λ unleft. absurd unleft; stood = at.stood; tells = tells_more run.session run.session w.events (turned Leave_call answer kept.rows_before kept.rows_after ∷ []) refl at.tells; follows = tt }, refl);
  };
}

-- where nothing has happened, a new run stands for the opening
pub at_opening : (alone : Bool) (s : Setting) (run : Run) (line : LineState) (desk : DeskState) → IsNew run → At alone s (spot run line desk [] Starting) (opening s line desk)
at_opening alone s run line desk is = record {
  setting_is = refl;
  line_is = refl;
  desk_is = drifted_none alone desk;
  phase_is = refl;
  unsent = sym is.out;
  taken = sym is.taken;
  wrote = λ _. sym is.wrote;
  stood = ap (λ (n : ℕ). min n (2 ^ 64 - 1)) is.wrote;
  tells = record { told = is.told };
  follows = record {
    stage_is = sym is.stage;
    number_is = is.frames;
    fed = [];
    whole = sym is.piece;
    splits = subst (λ (x : List ℕ). Splits [] [] x) (sym is.decoder) (record { begins = record { blocks = []; whole = refl; short = λ k d h. absurd (omega arith); found = refl }; partial = tt });
  };
}
