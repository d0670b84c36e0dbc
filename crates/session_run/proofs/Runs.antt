-- How the code's run goes on in the run of its machine.
use Rattle.std.proofs.Common.{◌≡◌, ◌∙◌, ◌-◌, ◌^◌, min, ℕ, Bool, List, [], ◌∷◌, ◌++◌, refl, sym, ap, subst, append_assoc}
use Rattle.std.proofs.lemmas.List.{append-nil}
use Rattle.ftn_addr.specs.Frames.{FrameText}
use Rattle.node_model.specs.Calls.{DeskState, Event, Turned, asked_of}
use Rattle.node_model.specs.Images.{Stand, Drifted, Shared}
use Rattle.node_model.proofs.Drifting.{drifted_on}
use Rattle.node_model.proofs.Rans.{ran_none, ran_shared, ran_then}
use Rattle.session_core.specs.Ends.{End}
use Rattle.session_core.specs.Ends as E
use Rattle.session_core.specs.Takings.{Took}
use Rattle.session_core.specs.Takings as T
use Rattle.session_run.specs.declared.run.Run.{Run}
use Rattle.session_core.specs.declared.session.Session.{Session}
use Rattle.binkp_link.specs.Lines.{LineState}
use Rattle.session_core.specs.Stages.{Setting, Told, untold, told_after, told_along}
use Rattle.mail_conf.specs.Conf.{ConfText}
use Rattle.session_core.specs.Replies.{Lent, setting_with, told_of}
use Rattle.session_run.specs.Machine.{World, Phase, Starting, Taking, Reading, Over, Reach, here, next, GivesUp, gives_up, MayGiveUp, after_took}
use Rattle.session_run.specs.Runs.{IsUnleft, Tells_calls, Spot, spot, GoesBy, Goes, Went}

-- one run after another
pub reach_trans : {alone : Bool} {u v w : World} → Reach alone u v → Reach alone v w → Reach alone u w
reach_trans r here = r
reach_trans r (next q s) = next (reach_trans r q) s

pub goes_then : {alone : Bool} {s : Setting} {a b c : Spot} {es fs : List Turned} → GoesBy alone s a es b → GoesBy alone s b fs c → GoesBy alone s a (es ++ fs) c
goes_then {alone} {s} {a} {b} {c} {es} {fs} first second = record {
  goes = λ w at.
      let x = first.goes w at in
      let y = second.goes x.0 x.2 in
      (y.0, reach_trans x.1 y.1, y.2, y.3 ∙ ap (λ (l : List Turned). l ++ fs) x.3 ∙ append_assoc w.events es fs);
}

pub went_then : {alone : Bool} {s : Setting} {old mid new : Stand} {a b c : Spot} → Went alone s old a mid b → Went alone s mid b new c → Went alone s old a new c
went_then {alone} {s} {old} {mid} {new} {a} {b} {c} first second =
    record { events = first.events ++ second.events; goes = goes_then first.goes second.goes; ran = ran_then alone old first.events mid second.events new first.ran second.ran }

-- without a call
pub went_still : {alone : Bool} {s : Setting} {a b : Spot} (desk : Stand) → Goes alone s a b → Went alone s desk a desk b
went_still {alone} desk g = record { events = []; goes = g; ran = ran_none alone desk }

pub ends_at : {alone : Bool} {s : Setting} {old new : Stand} {a : Spot} {run : Run} {line : LineState} {desk : DeskState} {fs : List FrameText} {p q : Phase} → Went alone s old a new (spot run line desk fs p) → p ≡ q → Went alone s old a new (spot run line desk fs q)
ends_at {alone} {s} {old} {new} {a} {run} {line} {desk} {fs} {p} {q} g e = subst (λ (x : Phase). Went alone s old a new (spot run line desk fs x)) e g

pub starts_at : {alone : Bool} {s : Setting} {old new : Stand} {b : Spot} {run : Run} {line : LineState} {desk : DeskState} {fs : List FrameText} {p q : Phase} → Went alone s old (spot run line desk fs p) new b → p ≡ q → Went alone s old (spot run line desk fs q) new b
starts_at {alone} {s} {old} {new} {b} {run} {line} {desk} {fs} {p} {q} g e = subst (λ (x : Phase). Went alone s old (spot run line desk fs x) new b) e g

pub went_nowhere : (alone : Bool) (s : Setting) (desk : Stand) (a : Spot) → Went alone s desk a desk a
went_nowhere alone s desk a = went_still desk (record { goes = λ w at. (w, here, at, sym (append-nil w.events)) })

-- other seats step then
pub goes_drifts : {alone : Bool} {s : Setting} {a : Spot} {es : List Turned} {run : Run} {line : LineState} {desk desk' : DeskState} {fs : List FrameText} {p : Phase} → Drifted alone desk desk' → GoesBy alone s a es (spot run line desk fs p) → GoesBy alone s a es (spot run line desk' fs p)
goes_drifts {alone} {s} {a} {es} {run} {line} {desk} {desk'} {fs} {p} drifted g = record {
  goes = λ w at.
      let x = g.goes w at in
      (x.0, x.1, record { setting_is = x.2.setting_is; line_is = x.2.line_is; desk_is = (drifted_on alone x.0.desk desk desk' x.2.desk_is drifted).all; phase_is = x.2.phase_is; unsent = x.2.unsent; taken = x.2.taken; wrote = x.2.wrote; stood = x.2.stood; tells = x.2.tells; follows = x.2.follows }, x.3);
}

-- Between two turns other seats may step: the run goes on where they leave the desk, and each image since is theirs.
pub went_shared : (alone : Bool) (s : Setting) (run : Run) (line : LineState) (fs : List FrameText) (p : Phase) (old new : Stand) → Shared alone old new → Went alone s old (spot run line old.state fs p) new (spot run line new.state fs p)
went_shared alone s run line fs p old new shared =
    record { events = []; goes = goes_drifts shared.drifted (record { goes = λ w at. (w, here, at, sym (append-nil w.events)) }); ran = ran_shared alone old new shared }

-- with the same settings a session that keeps what it is lent has the same setting
pub with_lent : (conf : ConfText) {old new : Lent} → new ≡ old → setting_with new conf ≡ setting_with old conf
with_lent conf {old} {new} e = ap (λ (l : Lent). setting_with l conf) e

-- what the session is lent, seen otherwise
pub went_lent : {alone : Bool} {s r : Setting} {old new : Stand} {a b : Spot} → s ≡ r → Went alone s old a new b → Went alone r old a new b
went_lent {alone} {s} {r} {old} {new} {a} {b} e g = subst (λ (x : Setting). Went alone x old a new b) e g

-- What the code tells of what happened.

-- the count of bytes sent stands at its type's end
pub stood_is : (sent wrote : ℕ) → sent ≡ wrote → min wrote (2 ^ 64 - 1) ≡ min sent (2 ^ 64 - 1)
stood_is sent wrote e = ap (λ (n : ℕ). min n (2 ^ 64 - 1)) (sym e)

pub stood_same : (sent wrote wrote' : ℕ) → wrote' ≡ wrote → min wrote (2 ^ 64 - 1) ≡ min sent (2 ^ 64 - 1) → min wrote' (2 ^ 64 - 1) ≡ min sent (2 ^ 64 - 1)
stood_same sent wrote wrote' e f = ap (λ (n : ℕ). min n (2 ^ 64 - 1)) e ∙ f

-- no call more
pub tells_as : {a b : Session} {es : List Event} → b ≡ a → Tells_calls a es → Tells_calls b es
tells_as {a} {b} {es} e t = subst (λ (x : Session). Tells_calls x es) (sym e) t

pub told_more : (login : Told) (es fs : List Turned) → told_along login (asked_of (es ++ fs)) ≡ told_along (told_along login (asked_of es)) (asked_of fs)
told_more login [] fs = refl
told_more login (e ∷ es) fs = told_more (told_after login e.asked.call e.asked.answer) es fs

-- further calls
pub tells_more : (a b : Session) (es fs : List Turned) → told_of b ≡ told_along (told_of a) (asked_of fs) → Tells_calls a (asked_of es) → Tells_calls b (asked_of (es ++ fs))
tells_more a b es fs login t = record { told = login ∙ ap (λ (x : Told). told_along x (asked_of fs)) t.told ∙ sym (told_more untold es fs) }

-- want of memory between two rows
may_open : (p : Phase) → MayGiveUp p → IsUnleft p
may_open Starting may = tt
may_open Taking may = tt
may_open (Reading waits) may = tt
may_open _ may = absurd may

pub gave_up_at : (alone : Bool) (s : Setting) (run run' : Run) (line : LineState) (desk : DeskState) (pending pending' : List FrameText) (p : Phase) → MayGiveUp p → told_of run'.session ≡ told_of run.session → run'.out ≡ run.out → run'.taken ≡ run.taken → run'.wrote ≡ run.wrote → Goes alone s (spot run line desk pending p) (spot run' line desk pending' (Over E.NoMemory))
gave_up_at alone s run run' line desk pending pending' p may login out taken wrote = record {
  goes = λ w at.
      let v : World = record w { phase = Over E.NoMemory } in
      let step : GivesUp w v = record { phase = subst MayGiveUp (sym at.phase_is) may; is = refl } in (
        v,
        next here (gives_up step),
        record {
          setting_is = at.setting_is;
          line_is = at.line_is;
          desk_is = at.desk_is;
          phase_is = refl;
          unsent = at.unsent ∙ ap (λ (x : List ℕ). w.sent ++ x) (sym out);
          taken = at.taken ∙ sym taken;
          wrote = λ _. at.wrote (may_open p may) ∙ sym wrote;
          stood = stood_same _ _ _ wrote at.stood;
          tells = record { told = login ∙ at.tells.told };
          follows = tt;
        },
        sym (append-nil w.events),
      );
}

-- an end needs no frames
pub over_drops : (alone : Bool) (s : Setting) (old new : Stand) (a : Spot) (run : Run) (line : LineState) (desk : DeskState) (pending pending' : List FrameText) (took : Took) (end : End) → took ≡ T.Ended end → Went alone s old a new (spot run line desk pending (after_took took)) → Went alone s old a new (spot run line desk pending' (Over end))
over_drops alone s old new a run line desk pending pending' took end e g =
    let g' = subst (λ (k : Took). Went alone s old a new (spot run line desk pending (after_took k))) e g in
    record {
      events = g'.events;
      ran = g'.ran;
      goes = record {
        goes = λ w at.
            let x = g'.goes.goes w at in
            (x.0, x.1, record { setting_is = x.2.setting_is; line_is = x.2.line_is; desk_is = x.2.desk_is; phase_is = x.2.phase_is; unsent = x.2.unsent; taken = x.2.taken; wrote = x.2.wrote; stood = x.2.stood; tells = x.2.tells; follows = tt }, x.3);
      };
    }

-- a spot with its pending frames seen otherwise
pub pending_as : {alone : Bool} {s : Setting} {old new : Stand} {a : Spot} (run : Run) (line : LineState) (desk : DeskState) (fs gs : List FrameText) (p : Phase) → fs ≡ gs → Went alone s old a new (spot run line desk fs p) → Went alone s old a new (spot run line desk gs p)
pending_as {alone} {s} {old} {new} {a} run line desk fs gs p e g = subst (λ (x : List FrameText). Went alone s old a new (spot run line desk x p)) e g

pub from_pending : {alone : Bool} {s : Setting} {old new : Stand} {b : Spot} (run : Run) (line : LineState) (desk : DeskState) (fs gs : List FrameText) (p : Phase) → fs ≡ gs → Went alone s old (spot run line desk fs p) new b → Went alone s old (spot run line desk gs p) new b
from_pending {alone} {s} {old} {new} {b} run line desk fs gs p e g = subst (λ (x : List FrameText). Went alone s old (spot run line desk x p) new b) e g
