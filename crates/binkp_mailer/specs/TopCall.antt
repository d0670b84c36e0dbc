-- What a call over a store does (own, after FTS-1026).
use Rattle.std.specs.Prelude.{◌≡◌, ◌⊎◌, ℕ, ◌+◌, ◌-◌, ◌≤◌, ◌<◌, true, List, length, Option, Some, None}
use Rattle.ftn_addr.specs.Counts.{Increased, CountGrew, next_count}
use Rattle.node_model.specs.Calls.{Counts, DeskState}
use Rattle.node_model.specs.Durable.{Durable}
use Rattle.node_model.specs.Images.{RanAt}
use Rattle.node_model.specs.Node.{Settings}
use Rattle.node_model.specs.Receipts.{HasOnce, SettledStays, HasAt}
use Rattle.node_model.specs.Stores.{Shelf, Stored, StoreState, StoreStand, IfTold, OpensShelf}
use Rattle.binkp_link.specs.Lines.{LineBytes, LineState}
use Rattle.mail_conf.specs.Conf.{ConfText}
use Rattle.session_auth.specs.Sides.{Side}
use Rattle.session_core.specs.Stages.{Setting, setting_of}
use Rattle.session_run.specs.Laws.{WholeRun}
use Rattle.session_run.specs.Reports.{ReportText}
use Rattle.hub_core.specs.Hubs.{HubState, Fitted, knows_over, hub_stand}
use Rattle.hub_core.specs.Opening.{no_seats, with_seat}
use Rattle.binkp_mailer.specs.Settings.{hub_settings}
use Rattle.command_base.specs.Statuses as S
use Rattle.command_base.specs.Statuses.{Status, status_after}

-- what a call is lent: the settings, the challenge that it offers, and the moment
pub record Given : Type 0 where
  pub conf : ConfText
  pub challenge : List ℕ
  pub moment : ℕ

-- what its session is lent
abbrev pub lent : Side → Given → Setting
lent side g = setting_of side g.conf g.challenge g.moment

-- a hub of these settings, with one seat
abbrev pub new_hub : ConfText → HubState
new_hub conf = with_seat (no_seats (hub_settings conf))

-- that seat, over a store
abbrev pub first_seat : StoreState → HubState → DeskState
first_seat store hub = record { seat = 0; knows = knows_over store.content store hub 0 }

-- a whole session over the line, at the seat of a new hub over the store; it is told so, and the status is by its end
pub record HeldSession (side : Side) (given : Given) (line : LineState) (store : StoreState) (told : Option ReportText) (status : Status) (line' : LineState) (store' : StoreState) : Type 0 where
  pub report : ReportText
  pub told_is : told ≡ Some report
  pub status_is : status ≡ status_after report.end
  pub hub : HubState
  pub session : WholeRun true (lent side given) line (first_seat store (new_hub given.conf)) report line' (first_seat store' hub)

-- A session was held over the line; or there was no memory for it, and nothing was done.
pub data Answers_line (side : Side) (given : Given) (line : LineState) (store : StoreState) (told : Option ReportText) (status : Status) (line' : LineState) (store' : StoreState) : Type 0 where
  Turned_away : told ≡ None → status ≡ S.NoMemory → line' ≡ line → store' ≡ store → Answers_line side given line store told status line' store'
  Held_one : HeldSession side given line store told status line' store' → Answers_line side given line store told status line' store'

-- What a stop may leave of a store that was only handed back: what it might have left before.
pub record SameImages (store store' : StoreStand) : Type 0 where
  pub moment : store'.moment ≡ store.moment
  pub images : (k : ℕ) (e : Option Shelf) → store'.images k e → store.images k e

-- What a stop may leave of a session's calls, and that each image has what was received when any call before it ended.
pub record HeldImages (side : Side) (given : Given) (line : LineState) (store : StoreStand) (told : Option ReportText) (status : Status) (line' : LineState) (store' : StoreStand) (held : HeldSession side given line store.state told status line' store'.state) : Type 0 where
  pub ran : RanAt true (hub_stand store (new_hub given.conf) 0) held.session.last.events (hub_stand store' held.hub 0)
  pub kept : (k : ℕ) (e : Shelf) → store.moment < k → k ≤ store'.moment → store'.images k (Some e) → HasAt true (first_seat store.state (new_hub given.conf)) held.session.last.events ran.last ran.chain ran.times k e.state

abbrev pub StopsOf : (side : Side) (given : Given) (line : LineState) (store : StoreStand) (told : Option ReportText) (status : Status) (line' : LineState) (store' : StoreStand) → Answers_line side given line store.state told status line' store'.state → Type 0
StopsOf side given line store told status line' store' (Turned_away none is line_is store_is) = SameImages store store'
StopsOf side given line store told status line' store' (Held_one held) = HeldImages side given line store told status line' store' held

-- the whole call: what it did, and what a stop at each moment since may leave of it
pub record IsCall (side : Side) (given : Given) (line : LineState) (store : StoreStand) (told : Option ReportText) (status : Status) (line' : LineState) (store' : StoreStand) : Type 0 where
  pub answers : Answers_line side given line store.state told status line' store'.state
  pub stops : StopsOf side given line store told status line' store' answers

-- a stop at any moment since leaves a durable state of which this holds
abbrev pub EachStop : StoreStand → StoreStand → (Durable → Type 0) → Type 0
EachStop store store' P =
    (k : ℕ) (e : Option Shelf) → store.moment < k → k ≤ store'.moment → store'.images k e → OpensShelf (λ s. P s.state) e

-- the same of a store that tells what it keeps
abbrev pub IfTells : StoreStand → StoreStand → (Durable → Durable → Type 0) → Type 0
IfTells store store' P = IfTold store.state.content (λ kept. EachStop store store' (P kept.stock.state))

-- the bytes taken from a line and sent on it reached the limit, where it tells them
abbrev pub ReachesLimit : ℕ → Option LineBytes → Option LineBytes → Type 0
ReachesLimit limit (Some old) (Some new) = limit ≤ (length new.taken - length old.taken) + (length new.sent - length old.sent)
ReachesLimit limit (Some old) None = Unit {0}
ReachesLimit limit None new = Unit {0}

-- What a status tells of the counts of line and store, where that is the most that a session takes and writes. The number of a DiskFault is a count to which the store's faults
-- rose. The line's count of ends rose exactly at Dropped, and at a DiskFault that came after.
abbrev pub StatusCause : (limit : ℕ) → Status → (line line' : LineState) → (counts counts' : Counts) → Type 0
StatusCause limit S.Dropped line line' counts counts' = line'.ends ≡ next_count line.ends
StatusCause limit (S.DiskFault count) line line' counts counts' =
    Increased counts.faults count × CountGrew count counts'.faults × ((line'.ends ≡ line.ends) ⊎ (line'.ends ≡ next_count line.ends))
StatusCause limit S.LedgerFull line line' counts counts' = Increased counts.fulls counts'.fulls × (line'.ends ≡ line.ends)
StatusCause limit S.LineFault line line' counts counts' = Increased line.faults line'.faults × (line'.ends ≡ line.ends)
StatusCause limit S.Quiet line line' counts counts' = (60 ≤ line'.calm) × (line'.ends ≡ line.ends)
StatusCause limit S.Endless line line' counts counts' = ReachesLimit limit line.bytes line'.bytes × (line'.ends ≡ line.ends)
StatusCause limit status line line' counts counts' = line'.ends ≡ line.ends

-- no sender and key has two receipts
abbrev pub HasOnceTold : Option Stored → Type 0
HasOnceTold content = IfTold content (λ kept. HasOnce kept.stock.state)

-- the same of a store that told what it keeps before
abbrev pub OnceAfter : Option Stored → Option Stored → Type 0
OnceAfter None new = Unit {0}
OnceAfter (Some old) new = HasOnceTold new

-- what is received or refused in the store before is so in it after, with its bytes
abbrev pub StaysTold : Option Stored → Option Stored → Type 0
StaysTold None new = Unit {0}
StaysTold (Some old) None = ⊥
StaysTold (Some old) (Some new) = SettledStays old.stock.state new.stock.state

-- a store that isn't broken and fits a new hub: what a call asks of it
pub record MayServe (store : StoreState) : Type 0 where
  pub whole : store.counts.broken ≡ None
  pub fits : (settings : Settings) → Fitted store (no_seats settings)

-- calls of the program over one store, one after another: each begins with what the one before it left
pub data Calls_in_turn (store : StoreState) : StoreState → Type 0 where
  none_yet : Calls_in_turn store store
  one_more : {old new : StoreState} → Calls_in_turn store old → MayServe old → (side : Side) (given : Given) (told : Option ReportText) (status : Status) (line line' : LineState) → Answers_line side given line old told status line' new → Calls_in_turn store new
