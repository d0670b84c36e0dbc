-- How the code's rows stand to the session's: what was asked of the desk, and what was written.
use Rattle.std.specs.Prelude.{◌≡◌, ◌≢◌, ◌⊎◌, ℕ, Bool, List, [], ◌++◌, option_map}
use Rattle.ftn_addr.specs.Address.{address}
use Rattle.binkp_args.specs.declared.fault.ArgFault.{ArgFault}
use Rattle.binkp_args.specs.declared.fault.ArgFault.TheVariants.{NoMemory}
use Rattle.node_model.specs.Calls.{Event, Turned, asked_of}
use Rattle.node_model.specs.Images.{Stand, RanAt}
use Rattle.node_model.specs.Desks.{DeskPart}
use Rattle.node_model.specs.Talk.{Talk, Verdict, AfterSend, Empty}
use Rattle.session_send.specs.Senders.{sending_of}
use Rattle.session_recv.specs.Replies.{held_of}
use Rattle.mail_conf.specs.Conf.{ConfText}
use Rattle.session_auth.specs.Sides.{Side, side_of}
use Rattle.session_auth.specs.Views.{stage_in as login_stage}
use Rattle.session_auth.specs.declared.auth.Auth.{Auth}
use Rattle.session_core.specs.declared.ending.Cause.TheVariants as C
use Rattle.session_core.specs.Ends as E
use Rattle.session_core.specs.Givings.{Gave}
use Rattle.session_core.specs.Givings as G
use Rattle.session_core.specs.Takings.{Took}
use Rattle.session_core.specs.Takings as T
use Rattle.session_core.specs.declared.login.Login.{Login as CodeLogin}
use Rattle.session_core.specs.declared.session.Session.{Session}
use Rattle.session_core.specs.declared.stage.Stage.{Stage as CodeStage}
use Rattle.session_core.specs.declared.stage.Stage.TheVariants as K
use Rattle.session_core.specs.declared.stage.Talking.{Talking}
use Rattle.session_core.specs.declared.tally.Tally.{Tally as CodeTally}
use Rattle.session_core.specs.Stages.{Setting, home_of, Stage, Logs_in, Talks, desk_part, Login, Tally, nothing_yet, tally_along, Told, told_along}
use Rattle.session_core.specs.Says.{said_bytes}
use Rattle.session_core.specs.Sessions.{Reply, Turn, Said, Gives, OwesFile, breaks, outcome_gave}

-- Views.

abbrev pub talk_of : Talking → Talk
talk_of t = record { role = t.role; sending = sending_of t.sender; own_end = t.own_end; peer_end = t.peer_end }

abbrev pub talking_stage : Talking → Stage
talking_stage t = Talks (talk_of t) (held_of t.receiver)

abbrev pub stage_with : Auth → CodeStage → Stage
stage_with auth K.LogsIn = Logs_in (login_stage auth)
stage_with auth (K.Talks talking) = talking_stage talking

abbrev pub stage_in : Session → Stage
stage_in s = stage_with s.auth s.stage

abbrev pub login_text : CodeLogin → Login
login_text l = record { number = l.number; peer = address l.peer }

abbrev pub tally_text : CodeTally → Tally
tally_text t = record { sent = t.sent; received = t.received; skipped = t.skipped }

abbrev pub tally_of : Talking → Tally
tally_of t = record { sent = t.sender.sent; received = t.receiver.received; skipped = t.sender.skipped }

-- nothing is counted at the login
abbrev pub tally_at : CodeStage → Tally
tally_at K.LogsIn = nothing_yet
tally_at (K.Talks talking) = tally_of talking

abbrev pub told_of : Session → Told
told_of s = record { login = option_map login_text s.login; tally = tally_at s.stage }

-- what a session has of its setting; the settings themselves are lent at each call
pub record Lent : Type 0 where
  pub side : Side
  pub challenge : List ℕ
  pub moment : ℕ
  pub limit : ℕ
  pub block : ℕ

abbrev pub lent_in : Session → Lent
lent_in s = record { side = side_of s.auth.side; challenge = s.auth.challenge; moment = s.setting.moment; limit = s.setting.limit; block = s.setting.block }

abbrev pub setting_with : Lent → ConfText → Setting
setting_with l conf =
    record { side = l.side; conf = conf; challenge = l.challenge; home = home_of conf.addresses; moment = l.moment; limit = l.limit; block = l.block }

-- with these settings
abbrev pub setting_in : Session → ConfText → Setting
setting_in s conf = setting_with (lent_in s) conf

-- What was written.

-- a fact of a session that goes on
abbrev pub IfMore : Took → Type 0 → Type 0
IfMore T.More P = P
IfMore (T.Ended end) P = Unit {0}

abbrev pub IfOn : Gave → Type 0 → Type 0
IfOn G.Sent P = P
IfOn G.Waits P = P
IfOn (G.Ended end) P = Unit {0}

-- the output grew by what a row says, or by a front of it for want of memory
pub record Writes (old new output : List ℕ) (goal took : Took) : Type 0 where
  pub written : List ℕ
  pub said : Said output goal written took
  pub grew : new ≡ old ++ written

pub record WritesTurn (old new output : List ℕ) (goal gave : Gave) : Type 0 where
  pub written : List ℕ
  pub said : Gives output goal written gave
  pub grew : new ≡ old ++ written

-- Rows that were made.

pub record Did (P : List Event → Reply → Type 0) (alone : Bool) (old new : Stand) (stage : Stage) (out out' : List ℕ) (took : Took) : Type 0 where
  pub events : List Turned
  pub reply : Reply
  pub row : P (asked_of events) reply
  pub ran : RanAt alone old events new
  pub stage_is : IfMore took (stage ≡ reply.stage)
  pub writes : Writes out out' reply.output reply.took took

-- one that asks the desk for nothing
pub record DidPlain (reply : Reply) (stage : Stage) (out out' : List ℕ) (took : Took) : Type 0 where
  pub stage_is : IfMore took (stage ≡ reply.stage)
  pub writes : Writes out out' reply.output reply.took took

-- one after login, whose calls are counted
pub record Counts (P : List Event → Reply → Type 0) (alone : Bool) (old new : Stand) (was now : Tally) (stage : Stage) (out out' : List ℕ) (took : Took) : Type 0 where
  pub did : Did P alone old new stage out out' took
  pub count_is : now ≡ tally_along was (asked_of did.events)

-- nothing was written for want of memory
abbrev pub NothingMore : List ℕ → List ℕ → Took → Type 0
NothingMore out out' took = (took ≡ T.Ended E.NoMemory) × (out' ≡ out)

-- a row was made, and the session tells the login and the counts that its calls leave
pub record Made (P : List Event → Reply → Type 0) (alone : Bool) (old new : Stand) (was now : Told) (stage : Stage) (out out' : List ℕ) (took : Took) : Type 0 where
  pub did : Did P alone old new stage out out' took
  pub told_is : now ≡ told_along was (asked_of did.events)

-- no row was made, for want of memory
pub record GaveUp (alone : Bool) (old new : Stand) (was now : Told) (out out' : List ℕ) (took : Took) : Type 0 where
  pub ran : RanAt alone old [] new
  pub told_is : now ≡ was
  pub out_is : out' ≡ out
  pub is : took ≡ T.Ended E.NoMemory

abbrev pub MadeRow : (List Event → Reply → Type 0) → Bool → Stand → Stand → Told → Told → Stage → List ℕ → List ℕ → Took → Type 0
MadeRow P alone old new was now stage out out' took = Made P alone old new was now stage out out' took ⊎ GaveUp alone old new was now out out' took

-- an argument wasn't read for want of memory, or it can't be read
abbrev pub RefusesArgument : ℕ → Stage → ArgFault → List ℕ → List ℕ → Took → Type 0
RefusesArgument n stage fault out out' took =
    ((fault ≡ NoMemory) × NothingMore out out' took) ⊎ ((fault ≢ NoMemory) × DidPlain (breaks n stage (C.Arg fault)) stage out out' took)

-- an own turn was made
pub record DidTurn (P : List Event → Turn → Type 0) (alone : Bool) (old new : Stand) (stage : Stage) (out out' : List ℕ) (gave : Gave) : Type 0 where
  pub events : List Turned
  pub turn : Turn
  pub row : P (asked_of events) turn
  pub ran : RanAt alone old events new
  pub stage_is : IfOn gave (stage ≡ turn.stage)
  pub writes : WritesTurn out out' turn.output turn.gave gave

-- none was made, for want of memory, where something of the file under way is due
pub record NoTurn (stage : Stage) (alone : Bool) (old new : Stand) (out out' : List ℕ) (gave : Gave) : Type 0 where
  pub owes : OwesFile stage
  pub ran : RanAt alone old [] new
  pub out_is : out' ≡ out
  pub is : gave ≡ G.Ended E.NoMemory

abbrev pub MadeTurn : (List Event → Turn → Type 0) → Bool → Stand → Stand → (before after : Stage) → List ℕ → List ℕ → Gave → Type 0
MadeTurn P alone old new before after out out' gave = DidTurn P alone old new after out out' gave ⊎ NoTurn before alone old new out out' gave

-- Between two frames.

-- a session sits at a desk that is ready for its stage
pub record Sits (ready : Type 0) (part : DeskPart) (stage : Stage) : Type 0 where
  pub is_ready : ready
  pub part_is : part ≡ desk_part stage

-- it sits there still, where the session goes on
pub record SitsStill (ready : Type 0) (part : DeskPart) (stage : Stage) (took : Took) : Type 0 where
  pub is_ready : ready
  pub part_is : IfMore took (part ≡ desk_part stage)

pub record SitsOn (ready : Type 0) (part : DeskPart) (stage : Stage) (gave : Gave) : Type 0 where
  pub is_ready : ready
  pub part_is : IfOn gave (part ≡ desk_part stage)

-- what a session is lent, and the number of its last frame, stay
pub record Keeps (old new : Session) : Type 0 where
  pub lent_is : lent_in new ≡ lent_in old
  pub frames_is : new.frames ≡ old.frames

-- nothing is offered: the own batch ends, or waits for the end of the peer's
pub record EndsBatch (old new : Talking) (out out' : List ℕ) (gave : Gave) : Type 0 where
  pub verdict : Verdict
  pub row : AfterSend (talk_of old) verdict Empty
  pub talk_is : IfOn gave (talk_of new ≡ verdict.after)
  pub sending_is : sending_of new.sender ≡ sending_of old.sender
  pub held_is : held_of new.receiver ≡ held_of old.receiver
  pub block_is : new.sender.block ≡ old.sender.block
  pub tally_is : tally_of new ≡ tally_of old
  pub writes : WritesTurn out out' (said_bytes verdict.said) (outcome_gave verdict.outcome) gave
