-- Each step of a session at a desk that tells its node is a step of that node.
use Rattle.std.proofs.Common.{◌≡◌, ◌⊎◌, ◌∙◌, ℕ, ◌<◌, Bool, true, false, nat_le, if◌then◌else◌, List, [], ◌∷◌, ◌++◌, Option, refl, sym, ap, subst, inl, inr}
use Rattle.ftn_addr.specs.Frames.{FrameText}
use Rattle.node_model.specs.Node.{Node}
use Rattle.node_model.specs.Calls.{Knock_call, Leave_call, Fault, Answer, Let_in, Busy, Offered, Nothing, Came, Refused, Event, DeskState, Turned, turned, asked_of, CallsBeside, Turns}
use Rattle.node_model.specs.Talk.{Talk, Part, part_at, Outcome, Goes_on, Waits, Ends, Verdict, AfterRead, AfterOffer, AfterSend, Sending, SendVerdict, Fails, Ends_by, Reads, Fills, Awaits, Asks, TurnRow, Finishes, Rests, Gives}
use Rattle.binkp_link.specs.declared.link.WriteAnswer.{WriteAnswer}
use Rattle.binkp_link.specs.declared.link.WriteAnswer.TheVariants as W
use Rattle.session_recv.specs.Replies.{held_along}
use Rattle.session_core.specs.Ends.{End}
use Rattle.session_core.specs.Ends as E
use Rattle.session_core.specs.Givings as G
use Rattle.session_core.specs.Givings.{Gave}
use Rattle.session_core.specs.Says.{said_bytes, filling}
use Rattle.session_core.specs.Sessions as S
use Rattle.session_core.specs.Sessions.{Reply, Turn, TalkTurn, GiveRow, AfterKnock, Said, outcome_bytes, outcome_took, outcome_gave, frame_number, reply_of, turn_of}
use Rattle.session_core.specs.Stages.{role_of, Setting, Stage, Logs_in, Talks}
use Rattle.session_core.specs.Takings as T
use Rattle.session_core.specs.Takings.{Took}
use Rattle.session_run.specs.Machine.{World, Phase, Starting, Taking, Writing, Reading, Over, Draining, Closed, after_took, after_gave, after_drain, Greets, TakesFrame, MakesTurn, Leaves as LeavesDesk, Step, greets, takes_frame, makes_turn, passes_turn, writes, passes_write, reads, passes_read, gives_up, leaves, drains, closes, Reach, here, next, opening}
use Rattle.session_run.proofs.Settings.{reach_setting}
use Rattle.world_pair.specs.Course.{StaysOpen}
use Rattle.world_pair.specs.FromDesk.{at_desk}
use Rattle.world_pair.proofs.FromDesk.{turns_happen}
use Rattle.world_pair.proofs.Short.{turn_short}
use Rattle.binkp_mailer.specs.OneNode.{IsStill, TakesNoMessage, IfTalks, Holds, Until_end, IsAt, CallHappens, StepIs, Asks_nothing, Knocks, Opens, Takes, Turns as Turns_own, Leaves, Course_at, Here, Then, NoneBroke, SessionsAreCourses}
use Rattle.binkp_mailer.proofs.HeldParts.{Answers_it}
use Rattle.binkp_mailer.proofs.ToldCalls.{AllAnswer, none_asked, none_takes, TurnedAt, turned_at, call_happens, RowLeaves, row_leaves}
use Rattle.binkp_mailer.proofs.TakenRows.{Nothing_asked, Opening_asked, Message_taken, TakenAs, Taken, taken_row}

-- a step that is known
abbrev pub Stepped : ℕ → Node → World → World → Type 0
Stepped seat n w v = (m : Node) × IsAt seat m v × StepIs seat n w v m

-- Where a session talks.

if_talks : (stage : Stage) (P Q : Type 0) → (P → Q) → IfTalks stage P → IfTalks stage Q
if_talks (Logs_in at) P Q f p = tt
if_talks (Talks talk held) P Q f p = f p

talks_any : (stage : Stage) (P : Type 0) → P → IfTalks stage P
talks_any (Logs_in at) P p = tt
talks_any (Talks talk held) P p = p

-- Phases.

until : (phase : Phase) (P : Type 0) → P → Until_end phase P
until Starting P p = p
until Taking P p = p
until (Writing waits) P p = p
until (Reading waits) P p = p
until (Over end) P p = tt
until (Draining mute end) P p = tt
until (Closed end) P p = tt

until_took : (took : Took) (P : Type 0) → (took ≡ T.More → P) → Until_end (after_took took) P
until_took T.More P p = p refl
until_took (T.Ended end) P p = tt

until_gave : (gave : Gave) (P : Type 0) → ((gave ≡ G.Sent) ⊎ (gave ≡ G.Waits) → P) → Until_end (after_gave gave) P
until_gave G.Sent P p = p (inl refl)
until_gave G.Waits P p = p (inr refl)
until_gave (G.Ended end) P p = tt

-- what a session holds is known as long as it goes on
held_at : (seat : ℕ) (n : Node) (w : World) (phase : Phase) → w.phase ≡ phase → IsAt seat n w → Until_end phase (Holds w.stage (part_at n seat))
held_at seat n w phase is at = subst (λ (p : Phase). Until_end p (Holds w.stage (part_at n seat))) is at.held

said_more : (output : List ℕ) (goal : Took) (written : List ℕ) (took : Took) → Said output goal written took → took ≡ T.More → goal ≡ T.More
said_more output goal written took (inl s) more = sym s.0 ∙ more
said_more output goal written took (inr s) more = absurd (clash E.NoMemory (sym s.0 ∙ more))
  where
    clash : (end : End) → T.Ended end ≡ T.More → ⊥
    clash end e = absurd (cc)

-- an end is none of these
not_ended : (end : End) (gave : Gave) → gave ≡ G.Ended end → (gave ≡ G.Sent) ⊎ (gave ≡ G.Waits) → ⊥
not_ended end gave e (inl on) = sent end (sym e ∙ on)
  where
    sent : (end : End) → G.Ended end ≡ G.Sent → ⊥
    sent end e = absurd (cc)
not_ended end gave e (inr on) = waits end (sym e ∙ on)
  where
    waits : (end : End) → G.Ended end ≡ G.Waits → ⊥
    waits end e = absurd (cc)

-- once a session is over nothing is said of what it holds
drained : (answer : WriteAnswer) (end : End) (calm : ℕ) (P : Type 0) → Until_end (after_drain answer calm end) P
drained (W.Wrote n) end calm P = tt
drained W.Quiet end calm P = go (nat_le 60 calm)
  where
    go : (b : Bool) → Until_end (if b then Closed end else Draining false end) P
    go true = tt
    go false = tt
drained W.Failed end calm P = tt

-- Calls at a desk.

-- a fault ends the session
fails_not : {A : Type 0} (t : Talk) (v : Verdict) (fault : Fault) → AfterSend t v (Fails fault) → StaysOpen v.outcome → A
fails_not t v fault (Ends_by is) still = absurd (subst StaysOpen (ap (λ (x : Verdict). x.outcome) is) still)

no_calls : (es : List Event) (p : Option Part) → es ≡ [] → AllAnswer es × (held_along p es ≡ p)
no_calls es p none = subst (λ (l : List Event). AllAnswer l × (held_along p l ≡ p)) (sym none) (tt, refl)

calls_right : (xs ys : List Turned) → NoneBroke (xs ++ ys) → NoneBroke ys
calls_right [] ys calm = calm
calls_right (x ∷ xs) ys calm = calls_right xs ys calm.1

calls_left : (xs ys : List Turned) → NoneBroke (xs ++ ys) → NoneBroke xs
calls_left [] ys calm = tt
calls_left (x ∷ xs) ys calm = (calm.0, calls_left xs ys calm.1)

-- The steps.

knock_early : (s : Setting) (answer : Answer) (r : Reply) (part : Option Part) → AfterKnock s answer r → Holds r.stage part
knock_early s Let_in r part f = subst (λ (x : Reply). Holds x.stage part) (sym f) tt
knock_early s Busy r part f = subst (λ (x : Reply). Holds x.stage part) (sym f) tt
knock_early s (Refused fault) r part f = subst (λ (x : Reply). Holds x.stage part) (sym f) tt
knock_early s answer r part f = absurd f

greets_it : (alone : Bool) (seat : ℕ) (n : Node) (w v : World) → IsAt seat n w → Greets alone w v → Stepped seat n w v
greets_it alone seat n w v at s = subst (Stepped seat n w) (sym s.is) (t.last, record { desk = t.is; held = until (after_took s.took) _ (knock_early w.setting s.answer s.reply (part_at t.last seat) s.follows) }, Knocks s.answer s.phase c)
  where
    e : Turned
    e = turned (Knock_call s.role) s.answer s.rows_before s.rows_after

    t : TurnedAt seat n e s.desk
    t = turned_at alone seat n e s.desk (subst (λ (d : DeskState). CallsBeside alone d e s.desk) at.desk s.call)

    c : CallHappens seat n (Knock_call (role_of w.setting.side)) s.answer t.last
    c = subst (λ role. CallHappens seat n (Knock_call role) s.answer t.last) s.side (call_happens seat n e s.desk t (none_takes e.before t.beside.0) t.beside.1)

-- the world behind a frame that was taken
abbrev pub after_frame : World → FrameText → List Turned → Reply → DeskState → List ℕ → Took → World
after_frame w frame es reply desk output took =
    record w { desk = desk; stage = reply.stage; phase = after_took took; frames = w.frames ++ frame ∷ []; last_stage = w.stage; last_calls = es; output = w.output ++ output; events = w.events ++ es }

frame_is : (seat : ℕ) (n : Node) (w : World) (frame : FrameText) (es : List Turned) (reply : Reply) (desk : DeskState) (output : List ℕ) (took : Took) (m : Node)
    → Said reply.output reply.took output took → TakenAs seat n w.setting (frame_number (w.frames ++ frame ∷ [])) w.stage frame desk reply m
    → StepIs seat n w (after_frame w frame es reply desk output took) m
frame_is seat n w frame es reply desk output took m said (Nothing_asked quiet same) = Asks_nothing (if_talks w.stage _ _ (λ none. inr (record { frame = frame; frames = refl; none = none })) quiet) same
frame_is seat n w frame es reply desk output took m said (Opening_asked at command peers secure answer met lets c) = Opens at command peers secure answer met lets c
frame_is seat n w frame es reply desk output took m said (Message_taken talk held at message is_frame events verdict happens is) =
    Takes (record {
      talk = talk;
      held = held;
      met = at;
      frame = frame;
      frames = refl;
      message = message;
      is_frame = is_frame;
      events = events;
      verdict = verdict;
      happens = happens;
      written = output;
      took = took;
      said = subst (λ (r : Reply). Said r.output r.took output took) is said;
      output = refl;
      phase = refl;
      stage = ap (λ (r : Reply). r.stage) is;
    })

takes_it : (alone : Bool) (seat : ℕ) (n : Node) (w v : World) → IsAt seat n w → NoneBroke v.events → TakesFrame alone w v → Stepped seat n w v
takes_it alone seat n w v at calm s = subst (Stepped seat n w) (sym s.is) (t.last, record { desk = t.is; held = until_took s.took _ (λ more. t.held (said_more s.reply.output s.reply.took s.output s.took s.said more)) }, frame_is seat n w s.frame s.events s.reply s.desk s.output s.took t.last s.said t.kind)
  where
    t : Taken seat n w.setting (frame_number (w.frames ++ s.frame ∷ [])) w.stage s.frame s.desk s.reply
    t = taken_row alone seat n w.setting (frame_number (w.frames ++ s.frame ∷ [])) w.stage s.frame s.events s.reply s.desk (held_at seat n w Taking s.phase at) s.row
        (subst (λ (d : DeskState). Turns alone d s.events s.desk) at.desk s.chain)
        (calls_right w.events s.events (subst NoneBroke (ap (λ (x : World). x.events) s.is) calm))

-- An own turn.

read_answers : (block : ℕ) (x : Sending) (answer : Answer) (w : SendVerdict) (t : Talk) (v : Verdict) → AfterRead block x answer w → AfterSend t v w → StaysOpen v.outcome → Answers_it answer
read_answers block x (Came bytes) w t v r after still = tt
read_answers block x (Refused fault) w t v r after still = fails_not t v fault (subst (AfterSend t v) r after) still
read_answers block x answer w t v r after still = absurd r

offer_answers : (answer : Answer) (w : SendVerdict) (t : Talk) (v : Verdict) → AfterOffer answer w → AfterSend t v w → StaysOpen v.outcome → Answers_it answer
offer_answers (Offered number key) w t v r after still = tt
offer_answers Nothing w t v r after still = tt
offer_answers (Refused fault) w t v r after still = fails_not t v fault (subst (AfterSend t v) r after) still
offer_answers answer w t v r after still = absurd r

-- what is held stays, and nothing was refused where the session stays open
turn_held : (block : ℕ) (part : Option Part) (t : Talk) (es : List Event) (v : Verdict) (p : Option Part) → TurnRow block part t es v → StaysOpen v.outcome → AllAnswer es × (held_along p es ≡ p)
turn_held block part t es v p (Finishes a none b) still = no_calls es p none
turn_held block part t es v p (Rests a b none c) still = no_calls es p none
turn_held block part t es v p (Gives own w (Reads x a b answer asks r) after) still = subst (λ (l : List Event). AllAnswer l × (held_along p l ≡ p)) (sym asks) ((read_answers block x answer w t v r after still, tt), refl)
turn_held block part t es v p (Gives own w (Fills x a b none c) after) still = no_calls es p none
turn_held block part t es v p (Gives own w (Awaits x a b c none d) after) still = no_calls es p none
turn_held block part t es v p (Gives own w (Asks a answer asks r) after) still = subst (λ (l : List Event). AllAnswer l × (held_along p l ≡ p)) (sym asks) ((offer_answers answer w t v r after still, tt), refl)

gave_open : (o : Outcome) (output written : List ℕ) (gave : Gave) → S.Gives output (outcome_gave o) written gave → (gave ≡ G.Sent) ⊎ (gave ≡ G.Waits) → StaysOpen o
gave_open Goes_on output written gave s on = tt
gave_open Waits output written gave s on = tt
gave_open (Ends end) output written gave (inl s) on = absurd (not_ended _ gave s.0 on)
gave_open (Ends end) output written gave (inr s) on = absurd (not_ended _ gave s.0 on)

abbrev pub after_turn : World → List Turned → Turn → DeskState → List ℕ → Gave → World
after_turn w es turn desk output gave =
    record w { desk = desk; stage = turn.stage; phase = after_gave gave; output = w.output ++ output; events = w.events ++ es }

pub record Given (seat : ℕ) (n : Node) (w : World) (es : List Turned) (turn : Turn) (desk : DeskState) (output : List ℕ) (gave : Gave) : Type 0 where
  pub last : Node
  pub is : desk ≡ at_desk seat last
  pub held : (gave ≡ G.Sent) ⊎ (gave ≡ G.Waits) → Holds turn.stage (part_at last seat)
  pub kind : StepIs seat n w (after_turn w es turn desk output gave) last

-- before login it waits
waiting : (alone : Bool) (seat : ℕ) (n : Node) (w : World) (es : List Turned) (turn : Turn) (desk : DeskState) (output : List ℕ) (gave : Gave) (stage : Stage) → IfTalks w.stage (IsStill w (after_turn w es turn desk output gave) ⊎ TakesNoMessage w (after_turn w es turn desk output gave)) → Holds stage (part_at n seat) → asked_of es ≡ [] → turn.stage ≡ stage → Turns alone (at_desk seat n) es desk → Given seat n w es turn desk output gave
waiting alone seat n w es turn desk output gave stage quiet held none is chain =
    record { last = n; is = subst (λ (l : List Turned). Turns alone (at_desk seat n) l desk) (none_asked es none) chain; held = λ _. subst (λ (x : Stage). Holds x (part_at n seat)) (sym is) held; kind = Asks_nothing quiet refl }

given : (alone : Bool) (seat : ℕ) (n : Node) (w : World) (es : List Turned) (turn : Turn) (desk : DeskState) (output : List ℕ) (gave : Gave) (stage : Stage)
    → w.stage ≡ stage → 0 < w.setting.block → Holds stage (part_at n seat) → GiveRow w.setting.block stage (asked_of es) turn → S.Gives turn.output turn.gave output gave
    → Turns alone (at_desk seat n) es desk → NoneBroke es → Given seat n w es turn desk output gave
given alone seat n w es turn desk output gave (Logs_in at) met some held row said chain calm = waiting alone seat n w es turn desk output gave (Logs_in at) (subst (λ (x : Stage). IfTalks x (IsStill w (after_turn w es turn desk output gave) ⊎ TakesNoMessage w (after_turn w es turn desk output gave))) (sym met) tt) held row.0 (ap (λ (t : Turn). t.stage) row.1) chain
given alone seat n w es turn desk output gave (Talks talk held) met some tied row said chain calm =
    record {
      last = leaves.last;
      is = leaves.is;
      held = λ on. let c = turn_held w.setting.block (part_at n seat) talk (asked_of es) row.verdict (part_at n seat) there (gave_open row.verdict.outcome _ output gave said' on) in
          subst (λ (t : Turn). Holds t.stage (part_at leaves.last seat)) (sym row.is) (tied ∙ (sym c.1 ∙ sym (leaves.held c.0)));
      kind = Turns_own (record {
        talk = talk;
        held = held;
        met = met;
        events = asked_of es;
        verdict = row.verdict;
        happens = λ was now. turns_happen alone w.setting.block seat n was es row.verdict desk some (subst (λ (t : Talk). TurnRow w.setting.block (part_at n seat) t (asked_of es) row.verdict) (sym now) there) chain;
        written = output;
        gave = gave;
        said = said';
        output = refl;
        phase = refl;
        stage = ap (λ (t : Turn). t.stage) row.is;
      });
    }
  where
    there : TurnRow w.setting.block (part_at n seat) talk (asked_of es) row.verdict
    there = subst (λ (p : Option Part). TurnRow w.setting.block p talk (asked_of es) row.verdict) tied row.row

    leaves : RowLeaves seat n (asked_of es) desk
    leaves = row_leaves alone seat n es desk (turn_short w.setting.block (part_at n seat) talk (asked_of es) row.verdict there) chain calm

    said' : S.Gives (said_bytes row.verdict.said ++ (filling row.verdict.filled ++ outcome_bytes row.verdict.outcome)) (outcome_gave row.verdict.outcome) output gave
    said' = subst (λ (t : Turn). S.Gives t.output t.gave output gave) row.is said

makes_it : (alone : Bool) (seat : ℕ) (n : Node) (w v : World) → 0 < w.setting.block → IsAt seat n w → NoneBroke v.events → MakesTurn alone w v → Stepped seat n w v
makes_it alone seat n w v some at calm s = subst (Stepped seat n w) (sym s.is) (g.last, record { desk = g.is; held = until_gave s.gave _ g.held }, g.kind)
  where
    g : Given seat n w s.events s.turn s.desk s.output s.gave
    g = given alone seat n w s.events s.turn s.desk s.output s.gave w.stage refl some (held_at seat n w Taking s.phase at) s.row s.said
        (subst (λ (d : DeskState). Turns alone d s.events s.desk) at.desk s.chain)
        (calls_right w.events s.events (subst NoneBroke (ap (λ (x : World). x.events) s.is) calm))

leaves_it : (alone : Bool) (seat : ℕ) (n : Node) (w v : World) → IsAt seat n w → LeavesDesk alone w v → Stepped seat n w v
leaves_it alone seat n w v at s = subst (Stepped seat n w) (sym s.is) (t.last, record { desk = t.is; held = tt }, Leaves s.answer (call_happens seat n e s.desk t (none_takes e.before t.beside.0) t.beside.1))
  where
    e : Turned
    e = turned Leave_call s.answer s.rows_before s.rows_after

    t : TurnedAt seat n e s.desk
    t = turned_at alone seat n e s.desk (subst (λ (d : DeskState). CallsBeside alone d e s.desk) at.desk s.call)

-- A step that calls no desk.

-- desk and stage are as before, and so is what is held
silent : (seat : ℕ) (n : Node) (w v : World) (phase : Phase) → w.phase ≡ phase → Until_end phase (Holds w.stage (part_at n seat)) ≡ Holds w.stage (part_at n seat) → v.desk ≡ w.desk → IsStill w v → IsAt seat n w → Stepped seat n w v
silent seat n w v phase is goes desk still at =
    (n, record { desk = desk ∙ at.desk; held = until v.phase _ (subst (λ (x : Stage). Holds x (part_at n seat)) (sym still.stage) (subst (λ (P : Type 0). P) goes (held_at seat n w phase is at))) }, Asks_nothing (talks_any w.stage _ (inl still)) refl)

step_is : (alone : Bool) (seat : ℕ) (n : Node) (w v : World) → 0 < w.setting.block → IsAt seat n w → NoneBroke v.events → Step alone w v → Stepped seat n w v
step_is alone seat n w v some at calm (greets s) = greets_it alone seat n w v at s
step_is alone seat n w v some at calm (takes_frame s) = takes_it alone seat n w v at calm s
step_is alone seat n w v some at calm (makes_turn s) = makes_it alone seat n w v some at calm s
step_is alone seat n w v some at calm (passes_turn s) = silent seat n w v Taking s.phase refl (ap (λ (x : World). x.desk) s.is) (record { stage = ap (λ (x : World). x.stage) s.is; output = ap (λ (x : World). x.output) s.is; frames = ap (λ (x : World). x.frames) s.is }) at
step_is alone seat n w v some at calm (writes s) = silent seat n w v (Writing s.waits) s.phase refl (ap (λ (x : World). x.desk) s.is) (record { stage = ap (λ (x : World). x.stage) s.is; output = ap (λ (x : World). x.output) s.is; frames = ap (λ (x : World). x.frames) s.is }) at
step_is alone seat n w v some at calm (passes_write s) = silent seat n w v (Writing s.waits) s.phase refl (ap (λ (x : World). x.desk) s.is) (record { stage = ap (λ (x : World). x.stage) s.is; output = ap (λ (x : World). x.output) s.is; frames = ap (λ (x : World). x.frames) s.is }) at
step_is alone seat n w v some at calm (reads s) = silent seat n w v (Reading s.waits) s.phase refl (ap (λ (x : World). x.desk) s.is) (record { stage = ap (λ (x : World). x.stage) s.is; output = ap (λ (x : World). x.output) s.is; frames = ap (λ (x : World). x.frames) s.is }) at
step_is alone seat n w v some at calm (passes_read s) = silent seat n w v (Reading s.waits) s.phase refl (ap (λ (x : World). x.desk) s.is) (record { stage = ap (λ (x : World). x.stage) s.is; output = ap (λ (x : World). x.output) s.is; frames = ap (λ (x : World). x.frames) s.is }) at
step_is alone seat n w v some at calm (gives_up s) = subst (Stepped seat n w) (sym s.is) (n, record { desk = at.desk; held = tt }, Asks_nothing (talks_any w.stage _ (inl (record { stage = refl; output = refl; frames = refl }))) refl)
step_is alone seat n w v some at calm (leaves s) = leaves_it alone seat n w v at s
step_is alone seat n w v some at calm (drains s) = subst (Stepped seat n w) (sym s.is) (n, record { desk = at.desk; held = drained s.answer s.end s.line.calm _ }, Asks_nothing (talks_any w.stage _ (inl (record { stage = refl; output = refl; frames = refl }))) refl)
step_is alone seat n w v some at calm (closes s) = subst (Stepped seat n w) (sym s.is) (n, record { desk = at.desk; held = tt }, Asks_nothing (talks_any w.stage _ (inl (record { stage = refl; output = refl; frames = refl }))) refl)

-- The run.

step_calm : (alone : Bool) (w v : World) → Step alone w v → NoneBroke v.events → NoneBroke w.events
step_calm alone w v (greets s) calm = calls_left w.events _ (subst NoneBroke (ap (λ (x : World). x.events) s.is) calm)
step_calm alone w v (takes_frame s) calm = calls_left w.events _ (subst NoneBroke (ap (λ (x : World). x.events) s.is) calm)
step_calm alone w v (makes_turn s) calm = calls_left w.events _ (subst NoneBroke (ap (λ (x : World). x.events) s.is) calm)
step_calm alone w v (passes_turn s) calm = subst NoneBroke (ap (λ (x : World). x.events) s.is) calm
step_calm alone w v (writes s) calm = subst NoneBroke (ap (λ (x : World). x.events) s.is) calm
step_calm alone w v (passes_write s) calm = subst NoneBroke (ap (λ (x : World). x.events) s.is) calm
step_calm alone w v (reads s) calm = subst NoneBroke (ap (λ (x : World). x.events) s.is) calm
step_calm alone w v (passes_read s) calm = subst NoneBroke (ap (λ (x : World). x.events) s.is) calm
step_calm alone w v (gives_up s) calm = subst NoneBroke (ap (λ (x : World). x.events) s.is) calm
step_calm alone w v (leaves s) calm = calls_left w.events _ (subst NoneBroke (ap (λ (x : World). x.events) s.is) calm)
step_calm alone w v (drains s) calm = subst NoneBroke (ap (λ (x : World). x.events) s.is) calm
step_calm alone w v (closes s) calm = subst NoneBroke (ap (λ (x : World). x.events) s.is) calm

run_is : (alone : Bool) (seat : ℕ) (n : Node) (w v : World) → 0 < w.setting.block → IsAt seat n w → Reach alone w v → NoneBroke v.events → (m : Node) × IsAt seat m v × Course_at seat w n v m
run_is alone seat n w v some at here calm = (n, at, Here)
run_is alone seat n w v some at (next {u} r s) calm =
    let before = run_is alone seat n w u some at r (step_calm alone u v s calm) in
    let last = step_is alone seat before.0 u v (subst (λ (x : Setting). 0 < x.block) (sym (reach_setting alone w u r)) some) before.1 calm s in
    (last.0, last.1, Then before.2 before.1 last.2)

pub sessions_are_courses : SessionsAreCourses
sessions_are_courses alone s line seat n v some r calm = run_is alone seat n (opening s line (at_desk seat n)) v some (record { desk = refl; held = tt }) r calm
