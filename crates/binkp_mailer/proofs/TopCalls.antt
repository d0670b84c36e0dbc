-- What a held session tells of the call's status, and of receipts.
use Rattle.std.proofs.Common.{◌≡◌, ◌∙◌, ℕ, ◌+◌, ◌-◌, ◌≤◌, ◌<◌, arith, Bool, true, List, [], ◌∷◌, ◌++◌, length, Option, Some, None, option_map, refl, sym, ap, subst, inl, inr}
use Rattle.node_model.specs.Calls.{Counts, counts_of, DeskState, Turns, Turned, Knows, Tells}
use Rattle.node_model.specs.Durable.{Durable}
use Rattle.node_model.specs.Images.{Stand, OpensTo}
use Rattle.node_model.specs.Lives.{KnownPast, KnownLives}
use Rattle.mail_conf.specs.Conf.{ConfText}
use Rattle.node_model.specs.Receipts.{HasOnce, SettledStays}
use Rattle.node_model.specs.Sound.{Sound}
use Rattle.node_model.specs.Stores.{Shelf, Stored, StoreState, StoreStand, IfTold, OpensShelf}
use Rattle.node_model.proofs.KeptReceipts.{kept_receipts}
use Rattle.node_model.proofs.Lives.{life_once, life_past_once, life_stays, life_past_stays}
use Rattle.node_model.proofs.ReceiptsStay.{stays_same, stays_on}
use Rattle.session_core.specs.Ends.{End}
use Rattle.session_core.specs.Ends as E
use Rattle.std.proofs.lemmas.List.{length-append}
use Rattle.ftn_addr.specs.Counts.{CountGrew}
use Rattle.ftn_addr.specs.Frames.{FrameText}
use Rattle.ftn_addr.proofs.CountsGrow.{count_grew-refl}
use Rattle.binkp_link.specs.Lines.{LineBytes, LineState, Moves}
use Rattle.session_run.proofs.Chains.{whole_leads}
use Rattle.session_run.proofs.RanPast.{ran_past, whole_lives}
use Rattle.session_run.proofs.Settings.{reach_setting}
use Rattle.session_run.specs.Machine.{Phase, opening}
use Rattle.session_auth.specs.Sides.{Side}
use Rattle.session_core.specs.Stages.{Setting, Stage}
use Rattle.session_run.specs.Reports.{ReportText}
use Rattle.session_run.specs.Laws.{IsSession, Facts, OwnCause, OwnCauseAt, EndCount, EndCountAt, LineCause, LineCauseAt, DeskCause, DeskCauseAt}
use Rattle.hub_core.specs.Hubs.{HubState, Fitted, knows_over, node_with, hub_stand, state_of}
use Rattle.hub_core.specs.Opening.{no_seats}
use Rattle.hub_core.proofs.Seating.{fitted_more}
use Rattle.command_base.specs.Statuses as S
use Rattle.command_base.specs.Statuses.{Status, status_after}
use Rattle.binkp_mailer.specs.TopCall.{Given, Calls_in_turn, none_yet, one_more, ReachesLimit, HeldSession, HasOnceTold, OnceAfter, StaysTold, StatusCause, Answers_line, Turned_away, Held_one, StopsOf, IsCall, EachStop, IfTells, new_hub, first_seat, lent}
use Rattle.binkp_mailer.specs.Settings.{hub_settings}

-- Endless comes only where the limit was reached
abbrev pub LimitCause : ℕ → End → Option LineBytes → Option LineBytes → Type 0
LimitCause limit E.Endless old new = ReachesLimit limit old new
LimitCause limit _ old new = Unit {0}

grown : (old more : List ℕ) (new : List ℕ) → new ≡ old ++ more → length new - length old ≡ length more
grown old more new is = omega (arith, ap (λ (x : List ℕ). length x) is, length-append old more)

reaches : (limit : ℕ) (taken sent : List ℕ) (old new : Option LineBytes) → Moves taken sent old new → limit ≤ length taken + length sent → ReachesLimit limit old new
reaches limit taken sent (Some old) (Some new) m most = omega (arith, most, grown old.taken taken new.taken m.1, grown old.sent sent new.sent m.2)
reaches limit taken sent (Some old) None m most = tt
reaches limit taken sent None new m most = tt

own_limit : (limit : ℕ) (end : End) (s : Setting) (stage : Stage) (frames : List FrameText) (met : Stage) (made : List Turned) (taken sent : List ℕ) (old new : Option LineBytes) → s.limit ≡ limit → Moves taken sent old new → OwnCause end s stage frames met made taken sent → LimitCause limit end old new
own_limit limit E.Endless s stage frames met made taken sent old new is m c = reaches limit taken sent old new m (subst (λ (n : ℕ). n ≤ length taken + length sent) is c)
own_limit limit (E.PeerError text) s stage frames met made taken sent old new is m c = tt
own_limit limit E.PeerBusy s stage frames met made taken sent old new is m c = tt
own_limit limit (E.BadPassword wanted given) s stage frames met made taken sent old new is m c = tt
own_limit limit E.Finished s stage frames met made taken sent old new is m c = tt
own_limit limit (E.Broke cause n) s stage frames met made taken sent old new is m c = tt
own_limit limit E.Dropped s stage frames met made taken sent old new is m c = tt
own_limit limit E.LineFault s stage frames met made taken sent old new is m c = tt
own_limit limit (E.DiskFault count) s stage frames met made taken sent old new is m c = tt
own_limit limit E.LedgerFull s stage frames met made taken sent old new is m c = tt
own_limit limit E.Quiet s stage frames met made taken sent old new is m c = tt
own_limit limit E.TurnedAway s stage frames met made taken sent old new is m c = tt
own_limit limit E.NoMemory s stage frames met made taken sent old new is m c = tt

from_causes : (limit : ℕ) (end : End) (line line' : LineState) (counts counts' : Counts) → counts.broken ≡ None → EndCount end line.ends line'.ends → LineCause end line.faults line'.faults line'.calm → DeskCause end counts counts' → LimitCause limit end line.bytes line'.bytes → StatusCause limit (status_after end) line line' counts counts'
from_causes limit (E.PeerError text) line line' counts counts' whole e l d m = e
from_causes limit E.PeerBusy line line' counts counts' whole e l d m = e
from_causes limit (E.BadPassword wanted given) line line' counts counts' whole e l d m = e
from_causes limit E.Finished line line' counts counts' whole e l d m = e
from_causes limit (E.Broke cause n) line line' counts counts' whole e l d m = e
from_causes limit E.Dropped line line' counts counts' whole e l d m = e
from_causes limit E.LineFault line line' counts counts' whole e l d m = (l, e)
from_causes limit (E.DiskFault count) line line' counts counts' whole e l (inl broke) m = absurd (let clash : None ≡ Some count = sym whole ∙ broke in cc)
from_causes limit (E.DiskFault count) line line' counts counts' whole e l (inr rose) m = (rose.0, rose.1, e)
from_causes limit E.LedgerFull line line' counts counts' whole e l d m = (d, e)
from_causes limit E.Quiet line line' counts counts' whole e l d m = (l, e)
from_causes limit E.Endless line line' counts counts' whole e l d m = (m, e)
from_causes limit E.TurnedAway line line' counts counts' whole e l d m = e
from_causes limit E.NoMemory line line' counts counts' whole e l d m = e

-- a seat tells the counts of its store
told_counts : (s : StoreState) (h : HubState) → counts_of (first_seat s h).knows ≡ s.counts
told_counts s h = go s.content
  where
    go : (c : Option Stored) → counts_of (knows_over c s h 0) ≡ s.counts
    go None = refl
    go (Some a) = refl

pub held_causes : (side : Side) (given : Given) (line : LineState) (store : StoreState) (told : Option ReportText) (status : Status) (line' : LineState) (store' : StoreState) → HeldSession side given line store told status line' store' → store.counts.broken ≡ None → StatusCause given.conf.session_limit status line line' store.counts store'.counts
held_causes side given line store told status line' store' h whole =
    let s = h.session in
    let f : Facts true line (first_seat store (new_hub given.conf)) s.last = s.facts in
    let end : End = h.report.end in
    let ends : EndCount end line.ends line'.ends = subst (λ (x : LineState). EndCount end line.ends x.ends) s.line_is (subst (λ (p : Phase). EndCountAt p line.ends s.last.line.ends) s.reports.closed f.ends) in
    let lines : LineCause end line.faults line'.faults line'.calm = subst (λ (x : LineState). LineCause end line.faults x.faults x.calm) s.line_is (subst (λ (p : Phase). LineCauseAt p line.faults s.last.line.faults s.last.line.calm) s.reports.closed f.line_cause) in
    let from : Counts = counts_of (first_seat store (new_hub given.conf)).knows in
    let left : DeskCause end from (counts_of (first_seat store' h.hub).knows) = subst (λ (x : Knows). DeskCause end from (counts_of x)) (sym s.desk_is.drift) (subst (λ (p : Phase). DeskCauseAt p from (counts_of s.last.desk.knows)) s.reports.closed f.desk_cause) in
    let desks : DeskCause end store.counts store'.counts = subst (λ (c : Counts). DeskCause end c store'.counts) (told_counts store (new_hub given.conf)) (subst (λ (c : Counts). DeskCause end from c) (told_counts store' h.hub) left) in
    let own : OwnCause end s.last.setting s.last.stage s.last.frames s.last.last_stage s.last.last_calls s.last.taken s.last.sent = subst (λ (p : Phase). OwnCauseAt p s.last.setting s.last.stage s.last.frames s.last.last_stage s.last.last_calls s.last.taken s.last.sent) s.reports.closed f.own_cause in
    let setting : s.last.setting.limit ≡ given.conf.session_limit = ap (λ (x : Setting). x.limit) (reach_setting true (opening (lent side given) line (first_seat store (new_hub given.conf))) s.last s.run) in
    let limit : LimitCause given.conf.session_limit end line.bytes line'.bytes = subst (λ (x : LineState). LimitCause given.conf.session_limit end line.bytes x.bytes) s.line_is (own_limit given.conf.session_limit end s.last.setting s.last.stage s.last.frames s.last.last_stage s.last.last_calls s.last.taken s.last.sent line.bytes s.last.line.bytes setting f.moves own) in
    subst (λ (x : Status). StatusCause given.conf.session_limit x line line' store.counts store'.counts) (sym h.status_is) (from_causes given.conf.session_limit end line line' store.counts store'.counts whole ends lines desks limit)

-- no count of faults falls
pub answers_grow : (side : Side) (given : Given) (line : LineState) (store : StoreState) (told : Option ReportText) (status : Status) (line' : LineState) (store' : StoreState) → Answers_line side given line store told status line' store' → CountGrew store.counts.faults store'.counts.faults
answers_grow side given line store told status line' store' (Turned_away none is line_is store_is) = subst (λ (x : StoreState). CountGrew store.counts.faults x.counts.faults) (sym store_is) (count_grew-refl store.counts.faults)
answers_grow side given line store told status line' store' (Held_one h) =
    let s = h.session in
    let from : Counts = counts_of (first_seat store (new_hub given.conf)).knows in
    let left : CountGrew from.faults (counts_of (first_seat store' h.hub).knows).faults = subst (λ (x : Knows). CountGrew from.faults (counts_of x).faults) (sym s.desk_is.drift) s.facts.counts.faults in
    subst (λ (c : Counts). CountGrew store.counts.faults c.faults) (told_counts store' h.hub) (subst (λ (c : Counts). CountGrew c.faults (counts_of (first_seat store' h.hub).knows).faults) (told_counts store (new_hub given.conf)) left)

-- What a store tells that a call is lent is sound, at the seat of a new hub.
sound_node : (conf : ConfText) (s : StoreState) (a : Stored) → Fitted s (no_seats (hub_settings conf)) → s.content ≡ Some a → Sound (node_with a s (new_hub conf))
sound_node conf s a f is =
    let more = fitted_more s (no_seats (hub_settings conf)) f in
    let same : a ≡ more.keeps = subst (λ (c : Option Stored). IfTold c (λ b. b ≡ more.keeps)) is more.tells in
    subst (λ (b : Stored). Sound (node_with b s (new_hub conf))) (sym same) more.fits.sound

-- Receipts.

once_now : (conf : ConfText) (s : StoreState) → Fitted s (no_seats (hub_settings conf)) → HasOnceTold s.content
once_now conf s f = go s.content refl
  where
    go : (c : Option Stored) → s.content ≡ c → HasOnceTold c
    go None is = tt
    go (Some a) is = life_once (node_with a s (new_hub conf)) [] (node_with a s (new_hub conf)) refl (sound_node conf s a f is)

lives_once : (conf : ConfText) (s t : StoreState) (h : HubState) → Fitted s (no_seats (hub_settings conf)) → KnownLives (first_seat s (new_hub conf)).knows (first_seat t h).knows → OnceAfter s.content t.content
lives_once conf s t h f = go s.content t.content refl
  where
    go : (c e : Option Stored) → s.content ≡ c → KnownLives (knows_over c s (new_hub conf) 0) (knows_over e t h 0) → OnceAfter c e
    go None e is l = tt
    go (Some a) None is l = absurd l
    go (Some a) (Some b) is l = life_once (node_with a s (new_hub conf)) l.0 (node_with b t h) l.1 (sound_node conf s a f is)

lives_stay : (conf : ConfText) (s t : StoreState) (h : HubState) → KnownLives (first_seat s (new_hub conf)).knows (first_seat t h).knows → StaysTold s.content t.content
lives_stay conf s t h = go s.content t.content
  where
    go : (c e : Option Stored) → KnownLives (knows_over c s (new_hub conf) 0) (knows_over e t h 0) → StaysTold c e
    go None e l = tt
    go (Some a) None l = absurd l
    go (Some a) (Some b) l = life_stays (node_with a s (new_hub conf)) l.0 (node_with b t h) l.1

self_stays : (c : Option Stored) → StaysTold c c
self_stays None = tt
self_stays (Some a) = stays_same a.stock.state a.stock.state refl

stays_then : (a b c : Option Stored) → StaysTold a b → StaysTold b c → StaysTold a c
stays_then None b c first second = tt
stays_then (Some a) None c first second = absurd first
stays_then (Some a) (Some b) None first second = absurd second
stays_then (Some a) (Some b) (Some c) first second = stays_on a.stock.state b.stock.state c.stock.state first second

held_lives : (side : Side) (given : Given) (line : LineState) (store : StoreState) (told : Option ReportText) (status : Status) (line' : LineState) (store' : StoreState) (h : HeldSession side given line store told status line' store') → KnownLives (first_seat store (new_hub given.conf)).knows (first_seat store' h.hub).knows
held_lives side given line store told status line' store' h =
    whole_lives true (lent side given) line (first_seat store (new_hub given.conf)) h.report line' (first_seat store' h.hub) h.session

pub answers_once : (side : Side) (given : Given) (line : LineState) (store : StoreState) (told : Option ReportText) (status : Status) (line' : LineState) (store' : StoreState) → Answers_line side given line store told status line' store' → Fitted store (no_seats (hub_settings given.conf)) → OnceAfter store.content store'.content
answers_once side given line store told status line' store' (Turned_away none is line_is store_is) f =
    subst (λ (x : StoreState). OnceAfter store.content x.content) (sym store_is) (go store.content (once_now given.conf store f))
  where
    go : (c : Option Stored) → HasOnceTold c → OnceAfter c c
    go None once = tt
    go (Some a) once = once
answers_once side given line store told status line' store' (Held_one h) f = lives_once given.conf store store' h.hub f (held_lives side given line store told status line' store' h)

-- a call that does nothing
pub none_once : (conf : ConfText) (s : StoreState) → Fitted s (no_seats (hub_settings conf)) → OnceAfter s.content s.content
none_once conf s f = go s.content (once_now conf s f)
  where
    go : (c : Option Stored) → HasOnceTold c → OnceAfter c c
    go None once = tt
    go (Some a) once = once

pub none_stays : (c : Option Stored) → StaysTold c c
none_stays c = self_stays c

pub answers_stay : (side : Side) (given : Given) (line : LineState) (store : StoreState) (told : Option ReportText) (status : Status) (line' : LineState) (store' : StoreState) → Answers_line side given line store told status line' store' → StaysTold store.content store'.content
answers_stay side given line store told status line' store' (Turned_away none is line_is store_is) = subst (λ (x : StoreState). StaysTold store.content x.content) (sym store_is) (self_stays store.content)
answers_stay side given line store told status line' store' (Held_one h) = lives_stay given.conf store store' h.hub (held_lives side given line store told status line' store' h)

pub calls_stay : (store new : StoreState) → Calls_in_turn store new → StaysTold store.content new.content
calls_stay store new none_yet = self_stays store.content
calls_stay store new (one_more {old} before may side given told status line line' answers) =
    stays_then store.content old.content new.content (calls_stay store old before) (answers_stay side given line old told status line' new answers)

-- whatever the statuses, and however many calls
pub calls_once : (store new : StoreState) → Calls_in_turn store new → IfTold store.content (λ a. HasOnceTold store.content → HasOnceTold new.content)
calls_once store new none_yet = go store.content
  where
    go : (c : Option Stored) → IfTold c (λ a. HasOnceTold c → HasOnceTold c)
    go None = tt
    go (Some a) = λ once. once
calls_once store new (one_more {old} before may side given told status line line' answers) =
    go store.content old.content (calls_stay store old before) (answers_once side given line old told status line' new answers (may.fits (hub_settings given.conf)))
  where
    go : (c e : Option Stored) → StaysTold c e → OnceAfter e new.content → IfTold c (λ a. HasOnceTold c → HasOnceTold new.content)
    go None e stays once = tt
    go (Some a) None stays once = absurd stays
    go (Some a) (Some b) stays once = λ before. once

pub answers_causes : (side : Side) (given : Given) (line : LineState) (store : StoreState) (told : Option ReportText) (status : Status) (line' : LineState) (store' : StoreState) → Answers_line side given line store told status line' store' → store.counts.broken ≡ None → StatusCause given.conf.session_limit status line line' store.counts store'.counts
answers_causes side given line store told status line' store' (Turned_away none is line_is store_is) whole =
    subst (λ (x : LineState). StatusCause given.conf.session_limit status line x store.counts store'.counts) (sym line_is) (subst (λ (x : StoreState). StatusCause given.conf.session_limit status line line store.counts x.counts) (sym store_is) (subst (λ (x : Status). StatusCause given.conf.session_limit x line line store.counts store.counts) (sym is) refl))
answers_causes side given line store told status line' store' (Held_one h) whole = held_causes side given line store told status line' store' h whole

-- a call for which there is no memory
pub declined_call : (side : Side) (given : Given) (line : LineState) (store : StoreStand) → IsCall side given line store None S.NoMemory line store
declined_call side given line store = record { answers = Turned_away refl refl refl refl; stops = record { moment = refl; images = λ k e i. i } }

-- The seat of a session is the same at its end.

turns_seat : (alone : Bool) (a : DeskState) (es : List Turned) (b : DeskState) → Turns alone a es b → b.seat ≡ a.seat
turns_seat alone a [] b same = ap (λ (d : DeskState). d.seat) same
turns_seat alone a (e ∷ es) b (mid, made, rest) = turns_seat alone mid es b rest ∙ made.seat

pub session_seat : (alone : Bool) (s : Setting) (line : LineState) (desk : Stand) (report : ReportText) (line' : LineState) (desk' : Stand) → IsSession alone s line desk report line' desk' → desk'.state.seat ≡ desk.state.seat
session_seat alone s line desk report line' desk' x =
    x.whole.desk_is.seat ∙ turns_seat alone desk.state x.whole.last.events x.whole.last.desk (whole_leads alone s line desk.state report line' desk'.state x.whole)

-- What a stop may leave.

shelf_opens : (P : Durable → Type 0) (e : Option Shelf) → OpensTo P (option_map state_of e) → OpensShelf (λ s. P s.state) e
shelf_opens P None o = absurd o
shelf_opens P (Some s) o = o

-- the call, from the session that its seat held
pub held_call : (side : Side) (given : Given) (line : LineState) (store : StoreStand) (told : Option ReportText) (status : Status) (line' : LineState) (store' : StoreStand) (report : ReportText) (hub : HubState) → told ≡ Some report → status ≡ status_after report.end → IsSession true (lent side given) line (hub_stand store (new_hub given.conf) 0) report line' (hub_stand store' hub 0) → IsCall side given line store told status line' store'
held_call side given line store told status line' store' report hub tells is x = record {
  answers = Held_one (record { report = report; told_is = tells; status_is = is; hub = hub; session = x.whole });
  stops = record { ran = x.ran; kept = λ k e after until i. kept_receipts true (hub_stand store (new_hub given.conf) 0) x.whole.last.events (hub_stand store' hub 0) x.ran k e.state after until (Some e, i, refl) };
}

no_moment : {A : Type 0} (m k : ℕ) → m < k → k ≤ m → A
no_moment m k a b = absurd (omega (arith, a, b))

-- each image since is of a state that the store passes in its life
stops_past : (side : Side) (given : Given) (line : LineState) (store : StoreStand) (told : Option ReportText) (status : Status) (line' : LineState) (store' : StoreStand) → IsCall side given line store told status line' store' → EachStop store store' (KnownPast (first_seat store.state (new_hub given.conf)).knows)
stops_past side given line store told status line' store' call = go call.answers call.stops
  where
    go : (a : Answers_line side given line store.state told status line' store'.state) → StopsOf side given line store told status line' store' a → EachStop store store' (KnownPast (first_seat store.state (new_hub given.conf)).knows)
    go (Turned_away none is line_is store_is) same = λ k e after until i. no_moment store.moment k after (subst (λ (m : ℕ). k ≤ m) same.moment until)
    go (Held_one h) s = λ k e after until i.
        shelf_opens (KnownPast (first_seat store.state (new_hub given.conf)).knows) e (ran_past true (hub_stand store (new_hub given.conf) 0) h.session.last.events (hub_stand store' h.hub 0) s.ran k (option_map state_of e) after until (e, i, refl))

opens_so : (P Q : Durable → Type 0) → ((d : Durable) → P d → Q d) → (e : Option Shelf) → OpensShelf (λ s. P s.state) e → OpensShelf (λ s. Q s.state) e
opens_so P Q f None o = absurd o
opens_so P Q f (Some s) o = f s.state o

past_in : (conf : ConfText) (s : StoreState) (a : Stored) (d : Durable) → s.content ≡ Some a → KnownPast (first_seat s (new_hub conf)).knows d → KnownPast (Tells (node_with a s (new_hub conf))) d
past_in conf s a d is p = subst (λ (c : Option Stored). KnownPast (knows_over c s (new_hub conf) 0) d) is p

pub stops_once : (side : Side) (given : Given) (line : LineState) (store : StoreStand) (told : Option ReportText) (status : Status) (line' : LineState) (store' : StoreStand) → IsCall side given line store told status line' store' → Fitted store.state (no_seats (hub_settings given.conf)) → IfTells store store' (λ old. HasOnce)
stops_once side given line store told status line' store' call f = go store.state.content refl
  where
    go : (c : Option Stored) → store.state.content ≡ c → IfTold c (λ kept. EachStop store store' HasOnce)
    go None is = tt
    go (Some a) is = λ k e after until i.
        opens_so (KnownPast (first_seat store.state (new_hub given.conf)).knows) HasOnce
        (λ d p. let q = past_in given.conf store.state a d is p in life_past_once (node_with a store.state (new_hub given.conf)) q.0 q.1 q.2 d q.3 (sound_node given.conf store.state a f is)) e
        (stops_past side given line store told status line' store' call k e after until i)

pub stops_stay : (side : Side) (given : Given) (line : LineState) (store : StoreStand) (told : Option ReportText) (status : Status) (line' : LineState) (store' : StoreStand) → IsCall side given line store told status line' store' → IfTells store store' SettledStays
stops_stay side given line store told status line' store' call = go store.state.content refl
  where
    go : (c : Option Stored) → store.state.content ≡ c → IfTold c (λ kept. EachStop store store' (SettledStays kept.stock.state))
    go None is = tt
    go (Some a) is = λ k e after until i.
        opens_so (KnownPast (first_seat store.state (new_hub given.conf)).knows) (SettledStays a.stock.state)
        (λ d p. let q = past_in given.conf store.state a d is p in life_past_stays (node_with a store.state (new_hub given.conf)) q.0 q.1 q.2 d q.3) e
        (stops_past side given line store told status line' store' call k e after until i)

-- the call, from the session of the first seat of a new hub
pub seated_call : (side : Side) (given : Given) (line : LineState) (store : StoreStand) (told : Option ReportText) (status : Status) (line' : LineState) (store' : StoreStand) (report : ReportText) (hub hub' : HubState) (seat seat' : ℕ) → told ≡ Some report → status ≡ status_after report.end → hub ≡ new_hub given.conf → seat ≡ 0 → IsSession true (lent side given) line (hub_stand store hub seat) report line' (hub_stand store' hub' seat') → IsCall side given line store told status line' store'
seated_call side given line store told status line' store' report hub hub' seat seat' tells is hub_is seat_is x =
    let s = lent side given in
    let still : seat' ≡ 0 = session_seat true s line (hub_stand store hub seat) report line' (hub_stand store' hub' seat') x ∙ seat_is in
    held_call side given line store told status line' store' report hub' tells is
    (subst (λ (k : ℕ). IsSession true s line (hub_stand store (new_hub given.conf) 0) report line' (hub_stand store' hub' k)) still
    (subst (λ (k : ℕ). IsSession true s line (hub_stand store (new_hub given.conf) k) report line' (hub_stand store' hub' seat')) seat_is
    (subst (λ (h : HubState). IsSession true s line (hub_stand store h seat) report line' (hub_stand store' hub' seat')) hub_is x)))
