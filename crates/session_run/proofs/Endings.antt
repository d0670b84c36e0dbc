-- Along a session its end is the one that the desk's last answer and the peer's last frame bring about.
use Rattle.std.proofs.Common.{◌≡◌, ◌⊎◌, ◌∙◌, ◌+◌, ℕ, arith, Bool, true, false, List, [], ◌∷◌, ◌++◌, length, Option, Some, None, refl, sym, ap, subst, inl, inr}
use Rattle.std.specs.Prelude.{nat_le, if◌then◌else◌}
use Rattle.std.proofs.lemmas.List.{append-nil, length-append}
use Rattle.ftn_addr.specs.Address.{Address}
use Rattle.ftn_addr.specs.Frames.{FrameText, Command}
use Rattle.binkp_args.specs.Command.{CommandText, Error, Bsy}
use Rattle.node_model.specs.Calls.{Answer, Busy, Refused, DeskState, Turned, turned, asked_of, Knock_call, Leave_call}
use Rattle.binkp_link.specs.declared.link.WriteAnswer.{WriteAnswer}
use Rattle.binkp_link.specs.declared.link.WriteAnswer.TheVariants as W
use Rattle.binkp_link.specs.Lines.{LineState}
use Rattle.session_core.specs.Ends.{End}
use Rattle.session_core.specs.Ends as E
use Rattle.session_core.specs.Takings.{Took}
use Rattle.session_core.specs.Takings as T
use Rattle.session_core.specs.Givings.{Gave}
use Rattle.session_core.specs.Givings as G
use Rattle.session_core.specs.Stages.{Setting}
use Rattle.session_core.specs.Sessions.{Reply, Said, Gives, fault_end, frame_number}
use Rattle.session_run.specs.Laws.{LastAnswered, AnswerBrings, AnswerCauseAt, Facts, WordBrings, LastSaid, IsBrought, WasBrought, IsBroughtAt}
use Rattle.session_run.specs.Machine.{World, Phase, Starting, Taking, Writing, Reading, Over, Draining, Closed, MayGiveUp, Step, greets, takes_frame, makes_turn, passes_turn, writes, passes_write, reads, passes_read, gives_up, leaves, drains, closes, Reach, here, next, opening, after_took, after_gave, after_drain}
use Rattle.session_run.proofs.Causes.{read_as, said_by}
use Rattle.session_run.proofs.Laws.{Is_on, facts_on, facts_open, read_on, write_on}
use Rattle.session_run.proofs.RowEnds.{took_end, gave_end, AnswerGives, CallGives, WordGives, row_gives, row_words, knock_gives, turn_gives}
use Rattle.session_run.proofs.Settings.{reach_setting}

-- The last of a list.

abbrev last_in : {A : Type 0} → A → List A → A
last_in d [] = d
last_in d (x ∷ xs) = last_in x xs

last_is : {A : Type 0} (d : A) (xs : List A) (x : A) → last_in d (xs ++ x ∷ []) ≡ x
last_is d [] x = refl
last_is d (y ∷ xs) x = last_is y xs x

same_last : {A : Type 0} (xs ys : List A) (x y : A) → xs ++ x ∷ [] ≡ ys ++ y ∷ [] → x ≡ y
same_last {A} xs ys x y e = sym (last_is x xs x) ∙ ap (λ (l : List A). last_in x l) e ∙ last_is x ys y

none_last : {A : Type 0} (ys : List A) (y : A) → [] ≡ ys ++ y ∷ [] → ⊥
none_last [] y e = let clash : [] ≡ y ∷ [] = e in cc
none_last (z ∷ ys) y e = let clash : [] ≡ z ∷ (ys ++ y ∷ []) = e in cc

-- Answers.

-- the end is the one that was given, or memory ran out
abbrev pub Meets : Option End → End → Type 0
Meets o end = (given : End) → o ≡ Some given → (end ≡ given) ⊎ (end ≡ E.NoMemory)

answer_brings : (answer : Answer) (o : Option End) (end : End) → AnswerGives answer o → Meets o end → AnswerBrings answer end
answer_brings (Refused fault) o end g m = m (fault_end fault) g
answer_brings Busy o end g m = m E.TurnedAway g
answer_brings answer o end g m = tt

-- further calls of which at most one was made
answers_on : (old es : List Turned) (o : Option End) (end : End) → ((answer : Answer) → LastAnswered old answer → AnswerBrings answer end) → CallGives (asked_of es) o → Meets o end → (answer : Answer) → LastAnswered (old ++ es) answer → AnswerBrings answer end
answers_on old [] o end before g m = λ answer l. before answer (record { earlier = l.earlier; last = l.last; is = sym (append-nil old) ∙ l.is; answered = l.answered })
answers_on old (e ∷ []) o end before g m = λ answer l.
    let same : e ≡ l.last = same_last old l.earlier e l.last l.is in
    let is : e.asked.answer ≡ answer = ap (λ (x : Turned). x.asked.answer) same ∙ l.answered in
    answer_brings answer o end (subst (λ (a : Answer). AnswerGives a o) is g) m
answers_on old (e ∷ f ∷ es) o end before g m = absurd g

-- Words.

-- nothing can be cut off where nothing is said
uncut : (output : List ℕ) (goal : Took) (written : List ℕ) (took : Took) → output ≡ [] → Said output goal written took → took ≡ goal
uncut output goal written took none (inl s) = s.0
uncut output goal written took none (inr s) =
    let short : 0 ≡ length written + length s.1.0 = sym (ap (λ (x : List ℕ). length x) none) ∙ ap (λ (x : List ℕ). length x) s.1.2 ∙ length-append written s.1.0 in
    absurd (omega (arith, short, s.1.1))

abbrev pub Fits : Took → End → Type 0
Fits T.More end = Unit {0}
Fits (T.Ended e) end = end ≡ e

ends_so : (took : Took) (end given : End) → took_end took ≡ Some given → Fits took end → end ≡ given
ends_so T.More end given e f = absurd (let clash : None ≡ Some given = e in cc)
ends_so (T.Ended x) end given e f = let same : x ≡ given = cc in f ∙ same

word_brings : (said : CommandText) (r : Reply) (written : List ℕ) (took : Took) (end : End) → WordGives said r → Said r.output r.took written took → Fits took end → WordBrings said end
word_brings (Error text) r written took end g s f = ends_so took end (E.PeerError text) (ap took_end (uncut r.output r.took written took g.1 s) ∙ g.0) f
word_brings (Bsy text) r written took end g s f = ends_so took end E.PeerBusy (ap took_end (uncut r.output r.took written took g.1 s) ∙ g.0) f
word_brings said r written took end g s f = tt

-- the frame that was taken last says that
said_last : (home : Address) (old : List FrameText) (frame : FrameText) (said : CommandText) → LastSaid home (old ++ frame ∷ []) said → said_by home frame ≡ Some said
said_last home old frame said l =
    let same : Command l.number l.args ≡ frame = sym (same_last old l.earlier frame (Command l.number l.args) l.is) in
    subst (λ (f : FrameText). said_by home f ≡ Some said) same (ap read_as l.says)

-- Phases.

took_meets : (output : List ℕ) (goal : Took) (written : List ℕ) (took : Took) (end : End) → Said output goal written took → Fits took end → Meets (took_end goal) end
took_meets output goal written took end (inl s) f = λ given e. inl (ends_so took end given (ap took_end s.0 ∙ e) f)
took_meets output goal written took end (inr s) f = λ given e. inr (ends_so took end E.NoMemory (ap took_end s.0) f)

took_at : (took : Took) (es : List Turned) (home : Address) (frames : List FrameText) → ((end : End) → Fits took end → IsBrought end es home frames) → IsBroughtAt (after_took took) es home frames
took_at T.More es home frames f = λ end. f end tt
took_at (T.Ended end) es home frames f = f end refl

abbrev pub GaveFits : Gave → End → Type 0
GaveFits (G.Ended e) end = end ≡ e
GaveFits gave end = Unit {0}

gave_so : (gave : Gave) (end given : End) → gave_end gave ≡ Some given → GaveFits gave end → end ≡ given
gave_so G.Sent end given e f = absurd (let clash : None ≡ Some given = e in cc)
gave_so G.Waits end given e f = absurd (let clash : None ≡ Some given = e in cc)
gave_so (G.Ended x) end given e f = let same : x ≡ given = cc in f ∙ same

gave_meets : (output : List ℕ) (goal : Gave) (written : List ℕ) (gave : Gave) (end : End) → Gives output goal written gave → GaveFits gave end → Meets (gave_end goal) end
gave_meets output goal written gave end (inl s) f = λ given e. inl (gave_so gave end given (ap gave_end s.0 ∙ e) f)
gave_meets output goal written gave end (inr s) f = λ given e. inr (gave_so gave end E.NoMemory (ap gave_end s.0) f)

gave_at : (gave : Gave) (es : List Turned) (home : Address) (frames : List FrameText) → ((end : End) → GaveFits gave end → IsBrought end es home frames) → IsBroughtAt (after_gave gave) es home frames
gave_at G.Sent es home frames f = λ end. f end tt
gave_at G.Waits es home frames f = λ end. f end tt
gave_at (G.Ended end) es home frames f = f end refl

-- whatever ends the session then
on_brought : (p : Phase) (es : List Turned) (home : Address) (frames : List FrameText) → Is_on p → ((end : End) → IsBrought end es home frames) → IsBroughtAt p es home frames
on_brought Starting es home frames on f = f
on_brought Taking es home frames on f = f
on_brought (Writing waits) es home frames on f = f
on_brought (Reading waits) es home frames on f = f
on_brought (Over end) es home frames on f = f end
on_brought (Draining mute end) es home frames on f = absurd on
on_brought (Closed end) es home frames on f = absurd on

drain_brought : (answer : WriteAnswer) (calm : ℕ) (end : End) (es : List Turned) (home : Address) (frames : List FrameText) → WasBrought end es home frames → IsBroughtAt (after_drain answer calm end) es home frames
drain_brought (W.Wrote n) calm end es home frames b = b
drain_brought W.Failed calm end es home frames b = b
drain_brought W.Quiet calm end es home frames b = go (nat_le 60 calm)
  where
    go : (b : Bool) → IsBroughtAt (if b then Closed end else Draining false end) es home frames
    go true = b
    go false = b

early_brought : (p : Phase) (es : List Turned) (home : Address) (frames : List FrameText) → MayGiveUp p → IsBroughtAt p es home frames → (end : End) → IsBrought end es home frames
early_brought Starting es home frames m f = f
early_brought Taking es home frames m f = f
early_brought (Reading waits) es home frames m f = f
early_brought (Writing waits) es home frames m f = absurd m
early_brought (Over end) es home frames m f = absurd m
early_brought (Draining mute end) es home frames m f = absurd m
early_brought (Closed end) es home frames m f = absurd m

-- Steps.

abbrev pub Brought : World → Type 0
Brought w = IsBroughtAt w.phase w.events w.setting.home w.frames

brought_as : (w : World) (p : Phase) → Brought w → w.phase ≡ p → IsBroughtAt p w.events w.setting.home w.frames
brought_as w p b e = subst (λ (q : Phase). IsBroughtAt q w.events w.setting.home w.frames) e b

brought_open : (s : Setting) (line : LineState) (desk : DeskState) → Brought (opening s line desk)
brought_open s line desk = λ end. record { answer = λ answer l. absurd (none_last l.earlier l.last l.is); word = λ said l. absurd (none_last l.earlier (Command l.number l.args) l.is) }

step_brought : (alone : Bool) (line : LineState) (desk : DeskState) (w v : World) → Facts alone line desk w → Brought w → Step alone w v → Brought v
step_brought alone line desk w v facts b (greets s) =
    let e : Turned = turned (Knock_call s.role) s.answer s.rows_before s.rows_after in
    let before : (end : End) → IsBrought end w.events w.setting.home w.frames = brought_as w Starting b s.phase in
    subst Brought (sym s.is) (took_at s.took (w.events ++ e ∷ []) w.setting.home w.frames (λ end f. record {
      answer = answers_on w.events (e ∷ []) (took_end s.reply.took) end (before end).answer (knock_gives w.setting s.answer s.reply s.follows) (took_meets s.reply.output s.reply.took s.output s.took end s.said f);
      word = (before end).word;
    }))
step_brought alone line desk w v facts b (takes_frame s) =
    let before : (end : End) → IsBrought end w.events w.setting.home w.frames = brought_as w Taking b s.phase in
    let n = frame_number (w.frames ++ s.frame ∷ []) in
    subst Brought (sym s.is) (took_at s.took (w.events ++ s.events) w.setting.home (w.frames ++ s.frame ∷ []) (λ end f. record {
      answer = answers_on w.events s.events (took_end s.reply.took) end (before end).answer (row_gives w.setting n w.stage s.frame (asked_of s.events) s.reply s.row) (took_meets s.reply.output s.reply.took s.output s.took end s.said f);
      word = λ said l. word_brings said s.reply s.output s.took end (row_words w.setting n w.stage s.frame (asked_of s.events) s.reply said s.row (said_last w.setting.home w.frames s.frame said l)) s.said f;
    }))
step_brought alone line desk w v facts b (makes_turn s) =
    let before : (end : End) → IsBrought end w.events w.setting.home w.frames = brought_as w Taking b s.phase in
    subst Brought (sym s.is) (gave_at s.gave (w.events ++ s.events) w.setting.home w.frames (λ end f. record {
      answer = answers_on w.events s.events (gave_end s.turn.gave) end (before end).answer (turn_gives w.setting.block w.stage (asked_of s.events) s.turn s.row) (gave_meets s.turn.output s.turn.gave s.output s.gave end s.said f);
      word = (before end).word;
    }))
step_brought alone line desk w v facts b (passes_turn s) = subst Brought (sym s.is) (brought_as w Taking b s.phase)
step_brought alone line desk w v facts b (writes s) =
    subst Brought (sym s.is) (on_brought _ w.events w.setting.home w.frames (write_on s.answer w.setting.limit _ s.line.calm s.waits) (brought_as w (Writing s.waits) b s.phase))
step_brought alone line desk w v facts b (passes_write s) = subst Brought (sym s.is) (brought_as w (Writing s.waits) b s.phase)
step_brought alone line desk w v facts b (reads s) =
    subst Brought (sym s.is) (on_brought _ w.events w.setting.home w.frames (read_on s.answer w.setting.limit _ s.line.calm) (brought_as w (Reading s.waits) b s.phase))
step_brought alone line desk w v facts b (passes_read s) = subst Brought (sym s.is) (brought_as w (Reading s.waits) b s.phase)
step_brought alone line desk w v facts b (gives_up s) = subst Brought (sym s.is) (early_brought w.phase w.events w.setting.home w.frames s.phase b E.NoMemory)
step_brought alone line desk w v facts b (leaves s) =
    subst Brought (sym s.is) (record { first = s.end; earlier = w.events; cause = subst (λ p. AnswerCauseAt p w.events) s.phase facts.answer_cause; last = turned Leave_call s.answer s.rows_before s.rows_after; is = refl; leaves = refl; turned = refl }, brought_as w (Over s.end) b s.phase)
step_brought alone line desk w v facts b (drains s) = subst Brought (sym s.is) (drain_brought s.answer s.line.calm s.end w.events w.setting.home w.frames (brought_as w (Draining false s.end) b s.phase))
step_brought alone line desk w v facts b (closes s) = subst Brought (sym s.is) (brought_as w (Draining s.mute s.end) b s.phase)

along_brought : (alone : Bool) (line : LineState) (desk : DeskState) (w v : World) → Facts alone line desk w → Brought w → Reach alone w v → Brought v
along_brought alone line desk w v facts b here = b
along_brought alone line desk w v facts b (next {u} r s) = step_brought alone line desk u v (facts_on alone line desk w u facts r) (along_brought alone line desk w u facts b r) s

pub run_brought : (alone : Bool) (setting : Setting) (line : LineState) (desk : DeskState) (v : World) → Reach alone (opening setting line desk) v → IsBroughtAt v.phase v.events setting.home v.frames
run_brought alone setting line desk v r =
    subst (λ (s : Setting). IsBroughtAt v.phase v.events s.home v.frames) (reach_setting alone (opening setting line desk) v r)
    (along_brought alone line desk (opening setting line desk) v (facts_open alone setting line desk) (brought_open setting line desk) r)
