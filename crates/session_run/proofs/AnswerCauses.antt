-- Which answers of the desk end a session, step by step.
use Rattle.std.proofs.Common.{◌≡◌, ℕ, Bool, true, false, List, [], ◌∷◌, ◌++◌, refl, sym, ap, subst, inl, inr}
use Rattle.std.specs.Prelude.{nat_le, if◌then◌else◌}
use Rattle.node_model.specs.Calls.{Call, Fault, Disk, Read, Full, No_memory, Answer, Busy, Refused, Event, one, Turned, asked_of}
use Rattle.session_core.specs.Ends.{End}
use Rattle.session_core.specs.Ends as E
use Rattle.session_core.specs.Takings.{Took}
use Rattle.session_core.specs.Takings as T
use Rattle.session_core.specs.Givings.{Gave}
use Rattle.session_core.specs.Givings as G
use Rattle.session_core.specs.Sessions.{fault_end}
use Rattle.binkp_link.specs.declared.link.WriteAnswer.{WriteAnswer}
use Rattle.binkp_link.specs.declared.link.WriteAnswer.TheVariants as W
use Rattle.session_run.specs.Machine.{Draining, Closed, after_took, after_gave, after_drain}
use Rattle.session_run.specs.Laws.{LastAnswered, AnswerCause, AnswerCauseAt, LeftAt}
use Rattle.session_run.proofs.Causes.{Met, Plain_end, EndedBy, RowCause, TurnCause}

-- one call was made, behind others
last_of_one : (old es : List Turned) (call : Call) (answer : Answer) → asked_of es ≡ one call answer → LastAnswered (old ++ es) answer
last_of_one old [] call answer is = absurd (let clash : [] ≡ one call answer = is in cc)
last_of_one old (e ∷ []) call answer is =
    let first : e.asked ≡ record { call = call; answer = answer } = cc in
    record { earlier = old; last = e; is = refl; answered = ap (λ (x : Event). x.answer) first }
last_of_one old (e ∷ f ∷ es) call answer is = absurd (let clash : e.asked ∷ (f.asked ∷ asked_of es) ≡ one call answer = is in cc)

by_fault : (old es : List Turned) (call : Call) (fault : Fault) → asked_of es ≡ one call (Refused fault) → AnswerCause (fault_end fault) (old ++ es)
by_fault old es call (Disk count) is = inl (last_of_one old es call (Refused (Disk count)) is)
by_fault old es call (Read count) is = inr (last_of_one old es call (Refused (Read count)) is)
by_fault old es call Full is = last_of_one old es call (Refused Full) is
by_fault old es call No_memory is = tt

by_itself : (m : Met) (end : End) (es : List Turned) → Plain_end m end → AnswerCause end es
by_itself m E.Finished es p = tt
by_itself m (E.PeerError text) es p = tt
by_itself m E.PeerBusy es p = tt
by_itself m (E.BadPassword wanted given) es p = tt
by_itself m (E.Broke cause n) es p = tt
by_itself m E.NoMemory es p = tt
by_itself m _ es p = absurd p

ended_answer : (m : Met) (end : End) (old es : List Turned) → EndedBy m end (asked_of es) → AnswerCause end (old ++ es)
ended_answer m end old es (inl p) = by_itself m end (old ++ es) p
ended_answer m end old es (inr (inl r)) = subst (λ (x : End). AnswerCause x (old ++ es)) (sym r.3) (by_fault old es r.0 r.1 r.2)
ended_answer m end old es (inr (inr r)) = subst (λ (x : End). AnswerCause x (old ++ es)) (sym r.2) (last_of_one old es r.0 Busy r.1)

pub took_answer : (m : Met) (took : Took) (old es : List Turned) → RowCause m took (asked_of es) → AnswerCauseAt (after_took took) (old ++ es)
took_answer m T.More old es c = tt
took_answer m (T.Ended end) old es c = ended_answer m end old es c

pub gave_answer : (m : Met) (gave : Gave) (old es : List Turned) → TurnCause m gave (asked_of es) → AnswerCauseAt (after_gave gave) (old ++ es)
gave_answer m G.Sent old es c = tt
gave_answer m G.Waits old es c = tt
gave_answer m (G.Ended end) old es c = ended_answer m end old es c

pub drain_answer : (answer : WriteAnswer) (end : End) (calm : ℕ) (es : List Turned) → LeftAt end es → AnswerCauseAt (after_drain answer calm end) es
drain_answer (W.Wrote n) end calm es l = l
drain_answer W.Failed end calm es l = l
drain_answer W.Quiet end calm es l = go (nat_le 60 calm)
  where
    go : (b : Bool) → AnswerCauseAt (if b then Closed end else Draining false end) es
    go true = l
    go false = l
