-- What a frame's row does at the node that the desk tells.
use Rattle.std.proofs.Common.{◌≡◌, ◌⊎◌, ◌∙◌, ℕ, Bool, List, [], ◌∷◌, Option, Some, None, Result, Ok, Err, refl, sym, ap, subst, inl, inr}
use Rattle.ftn_addr.specs.Address.{Address}
use Rattle.ftn_addr.specs.Key.{Key}
use Rattle.ftn_addr.specs.Frames.{FrameText, Command as CommandFrame, Data as DataFrame}
use Rattle.binkp_args.specs.declared.fault.ArgFault.{ArgFault}
use Rattle.binkp_args.specs.Command.{CommandText, Nul, Adr, Pwd, File as FileCommand, Accept, Eob, Got as GotCommand, Error, Bsy, Get as GetCommand, Skip as SkipCommand, Other, command_of}
use Rattle.node_model.specs.declared.words.Role.{Role}
use Rattle.node_model.specs.Node.{Session, Node, hold_in}
use Rattle.node_model.specs.Calls.{Call, Open_call, Fault, Answer, Begun, Filed, More, Whole_now, Settled, Refused, Event, one, NodeStep, DeskState, Turned, asked_of, StandBeside, Turns}
use Rattle.node_model.specs.Talk.{Message, File, Data, Got, Get, Skip, End as EndMessage, Talk, Part, part_of, part_at, Outcome, Goes_on, Waits, Ends, Verdict, AfterFile, AfterData, AfterSettling, Nothing_held, Drops, Exceeds, Fits, Settles, Passes_got, Skips, Passes_skip, Resends, Passes_get, TakeRow}
use Rattle.node_model.proofs.Lists.{none_some}
use Rattle.node_model.proofs.Moves.{open-moved}
use Rattle.session_recv.specs.Replies.{held_along}
use Rattle.session_auth.specs.Login.{Stage as LoginStage, Step, More as LoginMore, In, Bad_password, Peer_error, Peer_busy, Broke, reply_to}
use Rattle.session_auth.specs.Sides.{Side}
use Rattle.session_core.specs.Stages.{role_of, Setting, Stage, Logs_in, Talks}
use Rattle.session_core.specs.Ends.{End}
use Rattle.session_core.specs.Sessions.{Reply, fault_end, end_of, Plain, terms_of, AfterBegin, BeginRow, StepRow, TalkRow, LoggedRow, CommandRow, ReadRow, DataRow, Row, outcome_took, reply_of}
use Rattle.session_core.specs.Takings as T
use Rattle.session_core.specs.Takings.{Took}
use Rattle.world_pair.specs.Course.{Course, StaysOpen}
use Rattle.world_pair.specs.FromDesk.{at_desk, RowHappens, TakeHappens}
use Rattle.world_pair.proofs.FromDesk.{takes_happen}
use Rattle.world_pair.proofs.Short.{take_short}
use Rattle.binkp_mailer.specs.OneNode.{IfTalks, Holds, LetsIn, Misses_step, CallHappens, message_in, IsFrameOf, NoneBroke}
use Rattle.binkp_mailer.proofs.HeldParts.{Answers_it}
use Rattle.binkp_mailer.proofs.ToldCalls.{AllAnswer, none_asked, OneAsked, one_asked, turned_at, call_happens, row_leaves}

-- what such a row is
pub data TakenAs (seat : ℕ) (n : Node) (s : Setting) (number : ℕ) (stage : Stage) (frame : FrameText) (desk : DeskState) (r : Reply) (m : Node) : Type 0 where
  Nothing_asked : IfTalks stage ((message : Message) → IsFrameOf s.home message frame → ⊥) → m ≡ n → TakenAs seat n s number stage frame desk r m
  Opening_asked : (at : LoginStage) (command : CommandText) (peers : List Address) (secure : Bool) (answer : Answer) → stage ≡ Logs_in at → LetsIn s at command peers secure → CallHappens seat n (Open_call (role_of s.side) peers secure s.moment) answer m → TakenAs seat n s number stage frame desk r m
  Message_taken : (talk : Talk) (held : Option Part) → stage ≡ Talks talk held → (message : Message) → IsFrameOf s.home message frame → (events : List Event) (verdict : Verdict)
      → ((was : Course) → was.now ≡ talk → RowHappens seat n desk (TakeHappens seat was message events verdict)) → r ≡ reply_of number held events verdict → TakenAs seat n s number stage frame desk r m

pub record Taken (seat : ℕ) (n : Node) (s : Setting) (number : ℕ) (stage : Stage) (frame : FrameText) (desk : DeskState) (r : Reply) : Type 0 where
  pub last : Node
  pub is : desk ≡ at_desk seat last
  pub held : r.took ≡ T.More → Holds r.stage (part_at last seat)
  pub kind : TakenAs seat n s number stage frame desk r last

-- a command that was read, or none
abbrev pub read_ok : CommandText → Result CommandText ArgFault
read_ok command = Ok command

abbrev pub read_err : ArgFault → Result CommandText ArgFault
read_err fault = Err fault

-- A row that leaves its session open was refused nothing.

open_outcome : (number : ℕ) (o : Outcome) → outcome_took number o ≡ T.More → StaysOpen o
open_outcome number Goes_on e = tt
open_outcome number Waits e = tt
open_outcome number (Ends end) e = absurd (ended (end_of number end) e)
  where
    ended : (end : End) → T.Ended end ≡ T.More → ⊥
    ended end e = absurd (cc)

file_answers : (t : Talk) (key : Key) (answer : Answer) (v : Verdict) → AfterFile t key answer v → StaysOpen v.outcome → Answers_it answer
file_answers t key (Filed x) v after still = tt
file_answers t key (Refused fault) v after still = absurd (subst StaysOpen (ap (λ (x : Verdict). x.outcome) after) still)
file_answers t key answer v after still = absurd after

data_answers : (t : Talk) (key : Key) (answer : Answer) (v : Verdict) → AfterData t key answer v → StaysOpen v.outcome → Answers_it answer
data_answers t key More v after still = tt
data_answers t key Whole_now v after still = tt
data_answers t key (Refused fault) v after still = absurd (subst StaysOpen (ap (λ (x : Verdict). x.outcome) after) still)
data_answers t key answer v after still = absurd after

settling_answers : (t : Talk) (answer : Answer) (v : Verdict) → AfterSettling t answer v → StaysOpen v.outcome → Answers_it answer
settling_answers t Settled v after still = tt
settling_answers t (Refused fault) v after still = absurd (subst StaysOpen (ap (λ (x : Verdict). x.outcome) after) still)
settling_answers t answer v after still = absurd after

none : (es : List Event) → es ≡ [] → AllAnswer es
none es e = subst AllAnswer (sym e) tt

one_answers : (es : List Event) (call : Call) (answer : Answer) → es ≡ one call answer → Answers_it answer → AllAnswer es
one_answers es call answer e a = subst AllAnswer (sym e) (a, tt)

take_answers : (part : Option Part) (t : Talk) (message : Message) (es : List Event) (v : Verdict) → TakeRow part t message es v → StaysOpen v.outcome → AllAnswer es
take_answers part t (File key offset) es v r still = one_answers es _ r.answer r.asks (file_answers t key r.answer v r.then still)
take_answers part t (Data bytes) es v (Nothing_held a b c) still = none es b
take_answers part t (Data bytes) es v (Drops p a d b c) still = none es b
take_answers part t (Data bytes) es v (Exceeds a b c d e f) still = none es e
take_answers part t (Data bytes) es v (Fits p b c d answer e f) still = one_answers es _ answer e (data_answers t p.key answer v f still)
take_answers part t (Got key) es v (Settles s b c answer d e) still = one_answers es _ answer d (settling_answers t answer v e still)
take_answers part t (Got key) es v (Passes_got a b c) still = none es b
take_answers part t (Skip key) es v (Skips s b c answer d e) still = one_answers es _ answer d (settling_answers t answer v e still)
take_answers part t (Skip key) es v (Passes_skip a b c) still = none es b
take_answers part t (Get key offset) es v (Resends a b c d e f) still = none es e
take_answers part t (Get key offset) es v (Passes_get a b c) still = none es b
take_answers part t EndMessage es v r still = none es r.0

module _ (alone : Bool) (seat : ℕ) (n : Node) (s : Setting) (number : ℕ) (frame : FrameText) (es : List Turned) (r : Reply) (desk : DeskState) (chain : Turns alone (at_desk seat n) es desk) (calm : NoneBroke es) where
  none_made : asked_of es ≡ [] → desk ≡ at_desk seat n
  none_made none = subst (λ (l : List Turned). Turns alone (at_desk seat n) l desk) (none_asked es none) chain

  -- none of a peer's frames is a message here
  abbrev pub NoMessage : Type 0
  NoMessage = (message : Message) → IsFrameOf s.home message frame → ⊥

  plain : (stage : Stage) (reply : Reply) → IfTalks stage NoMessage → Plain reply (asked_of es) r → Holds reply.stage (part_at n seat) → Taken seat n s number stage frame desk r
  plain stage reply quiet p held =
      record { last = n; is = none_made p.0; held = λ _. subst (λ (x : Reply). Holds x.stage (part_at n seat)) (sym p.1) held; kind = Nothing_asked quiet refl }

  early : (stage : Stage) (at : LoginStage) → stage ≡ Logs_in at → IfTalks stage NoMessage
  early stage at is = subst (λ (x : Stage). IfTalks x NoMessage) (sym is) tt

  talking : (stage : Stage) (talk : Talk) (held : Option Part) → stage ≡ Talks talk held → NoMessage → IfTalks stage NoMessage
  talking stage talk held at none = subst (λ (x : Stage). IfTalks x NoMessage) (sym at) none

  anywhere : (stage : Stage) → NoMessage → IfTalks stage NoMessage
  anywhere (Logs_in at) none = tt
  anywhere (Talks talk held) none = none

  -- A session opens.

  new_part : (role : Role) (peers : List Address) (secure : Bool) (moment : ℕ) (k : ℕ) (old new : Node) → NodeStep seat old (Open_call role peers secure moment) (Begun k) new → part_at new seat ≡ None
  new_part role peers secure moment k old new step = ap (λ (x : Option Session). part_of (hold_in x)) (open-moved old new seat role peers secure moment step.1.1).here

  begun_held : (side : Side) (at : LoginStage) (said : List ℕ) (peers : List Address) (role : Role) (secure : Bool) (moment : ℕ) (answer : Answer) (last : Node) → CallHappens seat n (Open_call role peers secure moment) answer last → AfterBegin side at said answer r → r.took ≡ T.More → Holds r.stage (part_at last seat)
  begun_held side at said peers role secure moment (Begun k) last c after took = subst (λ (x : Reply). Holds x.stage (part_at last seat)) (sym after) (sym (own c.own))
    where
      clash : (k : ℕ) (fault : Fault) → Begun k ≡ Refused fault → ⊥
      clash k fault e = absurd (cc)

      own : NodeStep seat c.asks (Open_call role peers secure moment) (Begun k) last ⊎ Misses_step c.before (Begun k) c.asks last → part_at last seat ≡ None
      own (inl step) = new_part role peers secure moment k c.asks last step
      own (inr miss) = absurd (clash k miss.fault miss.answered)
  begun_held side at said peers role secure moment (Refused fault) last c after took = absurd (ended (fault_end fault) (sym (ap (λ (x : Reply). x.took) after) ∙ took))
    where
      ended : (end : End) → T.Ended end ≡ T.More → ⊥
      ended end e = absurd (cc)
  begun_held side at said peers role secure moment answer last c after took = absurd after

  begins : (stage : Stage) (at : LoginStage) (command : CommandText) (said : List ℕ) (peers : List Address) (secure : Bool) → stage ≡ Logs_in at → LetsIn s at command peers secure → BeginRow s at said peers secure (asked_of es) r → Taken seat n s number stage frame desk r
  begins stage at command said peers secure met lets row = from (subst (λ (l : List Turned). Turns alone (at_desk seat n) l desk) one.is chain)
    where
      one : OneAsked es (Open_call (role_of s.side) peers secure s.moment) row.answer
      one = one_asked es (Open_call (role_of s.side) peers secure s.moment) row.answer row.asks

      from : Turns alone (at_desk seat n) (one.one ∷ []) desk → Taken seat n s number stage frame desk r
      from (mid, made, end) =
          let t = turned_at alone seat n one.one mid made in
          let beside : StandBeside (Open_call (role_of s.side) peers secure s.moment) one.one.before one.one.after = subst (λ (x : Event). StandBeside x.call one.one.before one.one.after) one.asked t.beside in
          let c : CallHappens seat n (Open_call (role_of s.side) peers secure s.moment) row.answer t.last = subst (λ (x : Event). CallHappens seat n x.call x.answer t.last) one.asked (call_happens seat n one.one mid t beside.0 beside.1) in
          record { last = t.last; is = end ∙ t.is; held = begun_held s.side at said peers _ secure s.moment row.answer t.last c row.follows; kind = Opening_asked at command peers secure row.answer met lets c }

  -- a step of the login
  stepped : (stage : Stage) (at : LoginStage) (command : CommandText) (said : List ℕ) (step : Step) → stage ≡ Logs_in at → (reply_to (terms_of s) at command).step ≡ step → StepRow s number at said step (asked_of es) r → Taken seat n s number stage frame desk r
  stepped stage at command said (LoginMore later) met is row = plain stage _ (early stage at met) row tt
  stepped stage at command said (In peers secure) met is row = begins stage at command said peers secure met is row
  stepped stage at command said (Bad_password wanted given) met is row = plain stage _ (early stage at met) row tt
  stepped stage at command said (Peer_error text) met is row = plain stage _ (early stage at met) row tt
  stepped stage at command said Peer_busy met is row = plain stage _ (early stage at met) row tt
  stepped stage at command said (Broke fault) met is row = plain stage _ (early stage at met) row tt

  -- After login.

  talk_row : (stage : Stage) (talk : Talk) (held : Option Part) (message : Message) → stage ≡ Talks talk held → held ≡ part_at n seat → IsFrameOf s.home message frame → TalkRow number talk held message (asked_of es) r → Taken seat n s number stage frame desk r
  talk_row stage talk held message at tied is_frame row =
      let there : TakeRow (part_at n seat) talk message (asked_of es) row.verdict = subst (λ (p : Option Part). TakeRow p talk message (asked_of es) row.verdict) tied row.row in
      let leaves = row_leaves alone seat n es desk (take_short (part_at n seat) talk message (asked_of es) row.verdict there) chain calm in
      record {
        last = leaves.last;
        is = leaves.is;
        held = λ took. subst (λ (x : Reply). Holds x.stage (part_at leaves.last seat)) (sym row.is)
            (ap (λ (p : Option Part). held_along p (asked_of es)) tied ∙ sym (leaves.held (take_answers (part_at n seat) talk message (asked_of es) row.verdict there (open_outcome number row.verdict.outcome (sym (ap (λ (x : Reply). x.took) row.is) ∙ took)))));
        kind = Message_taken talk held at message is_frame (asked_of es) row.verdict
            (λ was now. takes_happen alone seat n was message es row.verdict desk (subst (λ (t : Talk). TakeRow (part_at n seat) t message (asked_of es) row.verdict) (sym now) there) chain) row.is;
      }

  logged : (stage : Stage) (talk : Talk) (held : Option Part) (command : CommandText) → stage ≡ Talks talk held → held ≡ part_at n seat → ((message : Message) → message_in command ≡ Some message → IsFrameOf s.home message frame) → ((message : Message) → IsFrameOf s.home message frame → message_in command ≡ Some message) → LoggedRow number talk held command (asked_of es) r → Taken seat n s number stage frame desk r
  logged stage talk held (Nul text) at tied f g row = plain stage _ (talking stage talk held at (λ message is. none_some (g message is))) row tied
  logged stage talk held (Adr addresses) at tied f g row = plain stage _ (talking stage talk held at (λ message is. none_some (g message is))) row tied
  logged stage talk held (Pwd text) at tied f g row = plain stage _ (talking stage talk held at (λ message is. none_some (g message is))) row tied
  logged stage talk held (FileCommand key offset) at tied f g row = talk_row stage talk held (File key offset) at tied (f _ refl) row
  logged stage talk held (Accept text) at tied f g row = plain stage _ (talking stage talk held at (λ message is. none_some (g message is))) row tied
  logged stage talk held Eob at tied f g row = talk_row stage talk held EndMessage at tied (f _ refl) row
  logged stage talk held (GotCommand key) at tied f g row = talk_row stage talk held (Got key) at tied (f _ refl) row
  logged stage talk held (Error text) at tied f g row = plain stage _ (talking stage talk held at (λ message is. none_some (g message is))) row tied
  logged stage talk held (Bsy text) at tied f g row = plain stage _ (talking stage talk held at (λ message is. none_some (g message is))) row tied
  logged stage talk held (GetCommand key offset) at tied f g row = talk_row stage talk held (Get key offset) at tied (f _ refl) row
  logged stage talk held (SkipCommand key) at tied f g row = talk_row stage talk held (Skip key) at tied (f _ refl) row
  logged stage talk held (Other k) at tied f g row = plain stage _ (talking stage talk held at (λ message is. none_some (g message is))) row tied

  -- Frames.

  command_row : (stage : Stage) (command : CommandText) → Holds stage (part_at n seat) → ((message : Message) → message_in command ≡ Some message → IsFrameOf s.home message frame) → ((message : Message) → IsFrameOf s.home message frame → message_in command ≡ Some message) → CommandRow s number stage command (asked_of es) r → Taken seat n s number stage frame desk r
  command_row (Logs_in at) command tied f g row = stepped (Logs_in at) at command _ (reply_to (terms_of s) at command).step refl refl row
  command_row (Talks talk held) command tied f g row = logged (Talks talk held) talk held command refl tied f g row

  read_row : (stage : Stage) (read : Result CommandText ArgFault) → Holds stage (part_at n seat) → ((command : CommandText) → read ≡ Ok command → (message : Message) → message_in command ≡ Some message → IsFrameOf s.home message frame) → ((message : Message) → IsFrameOf s.home message frame → (command : CommandText) × (read ≡ Ok command) × (message_in command ≡ Some message)) → ReadRow s number stage read (asked_of es) r → Taken seat n s number stage frame desk r
  read_row stage (Ok command) tied f g row = command_row stage command tied (f command refl) (said_by command g) row
    where
      ok_is : (a b : CommandText) → read_ok a ≡ read_ok b → a ≡ b
      ok_is a b same = cc

      said_by : (command : CommandText) → ((message : Message) → IsFrameOf s.home message frame → (c : CommandText) × (read_ok command ≡ read_ok c) × (message_in c ≡ Some message)) → (message : Message) → IsFrameOf s.home message frame → message_in command ≡ Some message
      said_by command g message is = let c = g message is in ap (λ (x : CommandText). message_in x) (ok_is command c.0 c.1) ∙ c.2
  read_row stage (Err fault) tied f g row = plain stage _ (anywhere stage (λ message is. let c = g message is in absurd (err_is fault c.0 c.1))) row tied
    where
      err_is : (fault : ArgFault) (c : CommandText) → read_err fault ≡ read_ok c → ⊥
      err_is fault c same = absurd (cc)

  data_row : (stage : Stage) (bytes : List ℕ) → Holds stage (part_at n seat) → IsFrameOf s.home (Data bytes) frame → DataRow number stage bytes (asked_of es) r → Taken seat n s number stage frame desk r
  data_row (Logs_in at) bytes tied f row = plain (Logs_in at) _ tt row tied
  data_row (Talks talk held) bytes tied f row = talk_row (Talks talk held) talk held (Data bytes) refl tied f row

pub taken_row : (alone : Bool) (seat : ℕ) (n : Node) (s : Setting) (number : ℕ) (stage : Stage) (frame : FrameText) (es : List Turned) (r : Reply) (desk : DeskState) → Holds stage (part_at n seat) → Row s number stage frame (asked_of es) r → Turns alone (at_desk seat n) es desk → NoneBroke es → Taken seat n s number stage frame desk r
taken_row alone seat n s number stage (CommandFrame k args) es r desk tied row chain calm =
    read_row alone seat n s number (CommandFrame k args) es r desk chain calm stage (command_of s.home k args) tied (λ command e message m. (command, e, m)) (λ message is. is) row
taken_row alone seat n s number stage (DataFrame bytes) es r desk tied row chain calm =
    data_row alone seat n s number (DataFrame bytes) es r desk chain calm stage bytes tied refl row
