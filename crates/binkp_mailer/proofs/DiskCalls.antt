-- What a call over a disk says of the disk's images.
use Rattle.std.proofs.Common.{◌≡◌, ◌∙◌, ℕ, ◌≤◌, ◌<◌, Bool, true, false, List, Option, Some, None, Ok, Err, option_map, refl, sym, ap, subst, ⊎_elim}
use Rattle.std.specs.Prelude.{if◌then◌else◌}
use Rattle.std.proofs.lemmas.Bool.{cases_lt}
use Rattle.ftn_addr.specs.Address.{Address}
use Rattle.disk_model.specs.Changes.{Every}
use Rattle.disk_model.specs.Moments.{Now, Leaves}
use Rattle.disk_model.specs.World.{World}
use Rattle.node_model.specs.Durable.{Durable}
use Rattle.node_model.specs.Receipts.{HasOnce, SettledStays}
use Rattle.node_model.specs.StoreStates.{Shelf, Stored, IfTold}
use Rattle.node_model.specs.Stores.{OpensShelf, StoreStand, TellsOn}
use Rattle.inbound_files.specs.Giving.{StillHas, KeepsReceived}
use Rattle.inbound_files.proofs.Kept.{none_keeps, round_keeps, still_same, still_then}
use Rattle.hub_core.specs.Hubs.{state_of as durable_of}
use Rattle.mail_conf.specs.Conf.{ConfText}
use Rattle.binkp_link.specs.Lines.{LineState}
use Rattle.binkp_link.specs.LineSources.{Dialling, LinesState}
use Rattle.disk_model.specs.declared.answers.Marking.TheVariants.{Made, Exists}
use Rattle.node_store.specs.OutboundMarks.{mark_gone, marked_so}
use Rattle.session_auth.specs.Sides.{Side, Answers, Calls}
use Rattle.node_store.specs.Opening.{Recovers}
use Rattle.node_store.specs.Stored.{Holding, stand_of, stored_in}
use Rattle.node_store.specs.Worlds.{OpensAs, Opens}
use Rattle.node_store.proofs.Openings.{one_shelf, opens_to}
use Rattle.session_run.specs.Reports.{ReportText}
use Rattle.command_words.specs.Forms.{Command}
use Rattle.command_base.specs.Opening.{HasOpened}
use Rattle.binkp_mailer.specs.DiskCall.{OpensTo, KeepsReceipts, Over_disk, Not_set, No_call, Not_opened, No_index, Bad_index, No_host, Answered, Called}
use Rattle.binkp_mailer.specs.Inbound.{Gives_behind, Gives_none, Gives_round}
use Rattle.command_base.specs.Settings.{OnlyRead}
use Rattle.command_base.specs.Statuses.{Status}
use Rattle.binkp_mailer.specs.OverLines.{Serves, Answers_next, None_came, One_came, Dials, No_line, A_line, Frees, Is_broken, Takes_away, Calls_node, No_room, Is_marked, Not_marked, Under_mark, call_mark, call_text}
use Rattle.binkp_mailer.specs.TopCall.{Given, Answers_line, Turned_away, Held_one, StopsOf, IsCall, EachStop, OnceAfter, StaysTold}
use Rattle.binkp_mailer.proofs.Marked.{takes_keep}

pub told_is : {A : Type 0} (tells : Bool) (a : A) → tells ≡ true → (if tells then Some a else None) ≡ Some a
told_is true a telling = refl
told_is false a telling = absurd (let clash : false ≡ true = telling in cc)

-- What is received stays so.

same_state : (Q : Durable → Type 0) (e o : Option Shelf) → option_map durable_of e ≡ option_map durable_of o → OpensShelf (λ s. Q s.state) o → OpensShelf (λ s. Q s.state) e
same_state Q e None is holds = absurd holds
same_state Q None (Some o) is holds = absurd (let clash : None ≡ Some o.state = is in cc)
same_state Q (Some e) (Some o) is holds = let same : e.state ≡ o.state = cc in subst Q (sym same) holds

both_hold : (d : Durable) (e : Option Shelf) → OpensShelf (λ s. SettledStays d s.state) e → OpensShelf (λ s. HasOnce s.state) e → OpensShelf (λ s. StillHas d s.state) e
both_hold d None stays once = absurd stays
both_hold d (Some s) stays once = record { stays = stays; once = λ before. once }

-- one behind another
pub then_opens : (a b : Durable) (e : Option Shelf) → StillHas a b → OpensShelf (λ s. StillHas b s.state) e → OpensShelf (λ s. StillHas a s.state) e
then_opens a b None still opens = absurd opens
then_opens a b (Some s) still opens = still_then a b s.state still opens

-- a world that opens to that state, and what recovers from it
opens_still : (d : Durable) (w : World) (shelf : Shelf) → OpensAs w shelf → shelf.state ≡ d → (e : Option Shelf) → Opens w e → OpensShelf (λ s. StillHas d s.state) e
opens_still d w shelf opens is e op = opens_to (λ s. StillHas d s.state) w shelf opens (still_same d shelf.state is) e op

recovers_still : (d : Durable) (v w : World) → OpensTo d v → Recovers v w → (e : Option Shelf) → Opens w e → OpensShelf (λ s. StillHas d s.state) e
recovers_still d v w before recovers e op =
    let after = recovers before.0 before.1 in
    opens_still d w after.0 after.1 (after.2.state ∙ before.2) e op

module _ {D : Type 0} (tells : Bool) (content : D → World) (faults : D → ℕ) (moment : D → ℕ) (images : D → ℕ → World → Type 0) where
  abbrev pub St : Holding D → StoreStand
  St = stand_of tells content faults moment images

  abbrev pub stock_of : Holding D → Durable
  stock_of s = (stored_in (content s.disk) s.memory).stock.state

  -- at each moment of an opening
  pub leaves_still : (d : Durable) (disk disk' : D) → Leaves moment images Recovers disk disk' → Every (Now moment images disk) (OpensTo d)
      → (k : ℕ) (w : World) (e : Option Shelf) → moment disk ≤ k → k ≤ moment disk' → images disk' k w → Opens w e → OpensShelf (λ s. StillHas d s.state) e
  leaves_still d disk disk' leaves all k w e from to image op =
      let was = leaves.each k w from to image in
      recovers_still d was.0 w (all was.0 was.1) was.2 e op

  -- A disk that opened to a state before, in an opened store: what that tells now has its receipts, and so has each image since.
  pub record HasSince (d : Durable) (disk : D) (s : Holding D) : Type 0 where
    pub state : StillHas d (stock_of s)
    pub each : (k : ℕ) (e : Option Shelf) → moment disk ≤ k → k ≤ moment s.disk → (St s).images k e → OpensShelf (λ x. StillHas d x.state) e

  pub opened_since : (d : Durable) (disk : D) (opened : Holding D) → tells ≡ true → HasOpened tells content faults moment images disk opened → OpensTo d (content disk) → Every (Now moment images disk) (OpensTo d) → HasSince d disk opened
  opened_since d disk opened telling h before all = record {
    state = let is = h.told telling in still_same d (stock_of opened) (is.tidied.state ∙ ap (λ (s : Shelf). s.state) (one_shelf (content disk) before.0 is.shelf before.1 is.opens) ∙ before.2);
    each = λ k e from to image. leaves_still d disk opened.disk (h.stop telling) all k image.1 e from to image.2 image.3;
  }

  -- behind a call at which what is received stays so
  kept_since : (d : Durable) (disk : D) (a b : Holding D) → tells ≡ true → KeepsReceived (St a) (St b) → HasSince d disk a → HasSince d disk b
  kept_since d disk a b telling kept h = record { state = still_then d (stock_of a) (stock_of b) h.state stays; each = each }
    where
      old : Stored
      old = stored_in (content a.disk) a.memory

      new : Stored
      new = stored_in (content b.disk) b.memory

      stays : StillHas old.stock.state new.stock.state
      stays = subst (λ (c : Option Stored). TellsOn (λ x y. StillHas x.stock.state y.stock.state) (Some old) c) (told_is tells new telling)
          (subst (λ (c : Option Stored). TellsOn (λ x y. StillHas x.stock.state y.stock.state) c (if tells then Some new else None)) (told_is tells old telling) kept.told)

      since : (k : ℕ) (e : Option Shelf) → moment a.disk < k → k ≤ moment b.disk → (St b).images k e → OpensShelf (λ s. StillHas old.stock.state s.state) e
      since = subst (λ (c : Option Stored). IfTold c (λ x. (k : ℕ) (e : Option Shelf) → moment a.disk < k → k ≤ moment b.disk → (St b).images k e → OpensShelf (λ s. StillHas x.stock.state s.state) e)) (told_is tells old telling) kept.since

      each : (k : ℕ) (e : Option Shelf) → moment disk ≤ k → k ≤ moment b.disk → (St b).images k e → OpensShelf (λ x. StillHas d x.state) e
      each k e from to image = ⊎_elim
          (λ (past : moment a.disk < k). then_opens d old.stock.state e h.state (since k e past to image))
          (λ (within : k ≤ moment a.disk). h.each k e from within (kept.before k e within image))
          (cases_lt (moment a.disk) k)

  -- a moment before a call over a store began, seen after it
  earlier : (side : Side) (given : Given) (line : LineState) (opened left : Holding D) (told : Option ReportText) (had : Status) (line' : LineState)
      → IsCall side given line (St opened) told had line' (St left) → (k : ℕ) (e : Option Shelf) → k ≤ moment opened.disk → (St left).images k e
      → (o : Option Shelf) × (St opened).images k o × (option_map durable_of e ≡ option_map durable_of o)
  earlier side given line opened left told had line' call k e until image = go call.answers call.stops
    where
      go : (a : Answers_line side given line (St opened).state told had line' (St left).state) → StopsOf side given line (St opened) told had line' (St left) a
          → (o : Option Shelf) × (St opened).images k o × (option_map durable_of e ≡ option_map durable_of o)
      go (Turned_away none is line_is store_is) same = (e, same.images k e image, refl)
      go (Held_one held) stops = stops.ran.before k (option_map durable_of e) until (e, image, refl)

  -- behind a session
  served_since : (d : Durable) (disk : D) (side : Side) (given : Given) (line : LineState) (a b : Holding D) (told : Option ReportText) (had : Status) (line' : LineState)
      → tells ≡ true → Serves side given line (St a) told had line' (St b) → HasSince d disk a → HasSince d disk b
  served_since d disk side given line a b told had line' telling serves h = record { state = still_then d (stock_of a) (stock_of b) h.state (record { stays = stays; once = λ before. once }); each = each }
    where
      old : Stored
      old = stored_in (content a.disk) a.memory

      new : Stored
      new = stored_in (content b.disk) b.memory

      stays : SettledStays old.stock.state new.stock.state
      stays = subst (λ (c : Option Stored). StaysTold (Some old) c) (told_is tells new telling) (subst (λ (c : Option Stored). StaysTold c (if tells then Some new else None)) (told_is tells old telling) serves.stays)

      once : HasOnce new.stock.state
      once = subst (λ (c : Option Stored). OnceAfter (Some old) c) (told_is tells new telling) (subst (λ (c : Option Stored). OnceAfter c (if tells then Some new else None)) (told_is tells old telling) serves.once)

      stop_stays : EachStop (St a) (St b) (SettledStays old.stock.state)
      stop_stays = subst (λ (c : Option Stored). IfTold c (λ x. EachStop (St a) (St b) (SettledStays x.stock.state))) (told_is tells old telling) serves.stop_stays

      stop_once : EachStop (St a) (St b) HasOnce
      stop_once = subst (λ (c : Option Stored). IfTold c (λ x. EachStop (St a) (St b) HasOnce)) (told_is tells old telling) serves.stop_once

      each : (k : ℕ) (e : Option Shelf) → moment disk ≤ k → k ≤ moment b.disk → (St b).images k e → OpensShelf (λ x. StillHas d x.state) e
      each k e from to image = ⊎_elim
          (λ (past : moment a.disk < k). then_opens d old.stock.state e h.state (both_hold old.stock.state e (stop_stays k e past to image) (stop_once k e past to image)))
          (λ (within : k ≤ moment a.disk).
          let was = earlier side given line a b told had line' serves.call k e within image in
          same_state (StillHas d) e was.0 was.2 (h.each k was.0 from within was.1))
          (cases_lt (moment a.disk) k)

  same_since : (d : Durable) (disk : D) (a b : Holding D) → b ≡ a → HasSince d disk a → HasSince d disk b
  same_since d disk a b is h = subst (λ (x : Holding D). HasSince d disk x) (sym is) h

  -- behind a call over the lines

  answered_since : (d : Durable) (disk : D) (given : Given) (lines : LinesState) (a b : Holding D) (told : Option ReportText) (had : Status) (lines' : LinesState)
      → tells ≡ true → Answers_next tells content faults moment images given lines a told had lines' b → HasSince d disk a → HasSince d disk b
  answered_since d disk given lines a b told had lines' telling (None_came none came is) h = same_since d disk a b is h
  answered_since d disk given lines a b told had lines' telling (One_came x) h = served_since d disk Answers given x.line a b told had x.holds.line' telling x.holds.serves h

  dialled_since : (d : Durable) (disk : D) (peer : Address) (given : Given) (host : Dialling) (lines : LinesState) (a b : Holding D) (told : Option ReportText) (had : Status) (lines' : LinesState)
      → tells ≡ true → Dials tells content faults moment images peer given host lines a told had lines' b → HasSince d disk a → HasSince d disk b
  dialled_since d disk peer given host lines a b told had lines' telling (No_line none had_is missed is) h = same_since d disk a b is h
  dialled_since d disk peer given host lines a b told had lines' telling (A_line x) h = served_since d disk (Calls peer) given x.line a b told had x.holds.line' telling x.holds.serves h

  freed_since : (d : Durable) (disk : D) (path text : List ℕ) (was had : Status) (a b : Holding D) → tells ≡ true → Frees tells content faults moment images path text was had a b → HasSince d disk a → HasSince d disk b
  freed_since d disk path text was had a b telling (Is_broken broken had_is is) h = same_since d disk a b is h
  freed_since d disk path text was had a b telling (Takes_away result takes had_is) h = kept_since d disk a b telling (takes_keep (mark_gone path text) result (St a) (St b) takes) h

  called_since : (d : Durable) (disk : D) (peer : Address) (given : Given) (host : Dialling) (lines : LinesState) (a b : Holding D) (told : Option ReportText) (had : Status) (lines' : LinesState)
      → tells ≡ true → Calls_node tells content faults moment images peer given host lines a told had lines' b → HasSince d disk a → HasSince d disk b
  called_since d disk peer given host lines a b told had lines' telling (No_room none had_is lines_is is) h = same_since d disk a b is h
  called_since d disk peer given host lines a b told had lines' telling (Is_marked none had_is lines_is time takes notes stood) h = kept_since d disk a b telling (takes_keep (marked_so (call_mark given.conf peer) (call_text given.conf) time) (Ok Exists) (St a) (St b) takes) h
  called_since d disk peer given host lines a b told had lines' telling (Not_marked none had_is lines_is time fault takes notes) h = kept_since d disk a b telling (takes_keep (marked_so (call_mark given.conf peer) (call_text given.conf) time) (Err fault) (St a) (St b) takes) h
  called_since d disk peer given host lines a b told had lines' telling (Under_mark marked talked was time takes notes dials frees) h =
      freed_since d disk (call_mark given.conf peer) (call_text given.conf) was had talked b telling frees
      (dialled_since d disk peer given host lines marked talked told was lines' telling dials
      (kept_since d disk a marked telling (takes_keep (marked_so (call_mark given.conf peer) (call_text given.conf) time) (Ok Made) (St a) (St marked) takes) h))

  -- nothing, or a round of giving
  behind_keeps : (conf : ConfText) (told : Option ReportText) (was had : Status) (held left : Holding D) → Gives_behind tells content faults moment images conf told was had held left → KeepsReceived (St held) (St left)
  behind_keeps conf told was had held left (Gives_none why had_is left_is) = subst (λ (x : Holding D). KeepsReceived (St held) (St x)) (sym left_is) (none_keeps (St held))
  behind_keeps conf told was had held left (Gives_round some result gives had_is) = round_keeps St conf.inbound conf.inbound_nonsecure _ held result left gives

  -- a disk that was read only
  pub read_still : (disk disk' : D) → OnlyRead tells content faults moment images disk disk' → KeepsReceipts content moment images disk disk'
  read_still disk disk' only = λ d reads all k w e from to image op.
      let was = only.stop.each k w from to image in
      let opens = all was.0 was.1 in
      opens_still d w (opens.0) (subst (λ (x : World). OpensAs x opens.0) (sym was.2) opens.1) opens.2 e op

  -- one over which a store was opened, and no more
  pub opened_still : (disk disk' : D) (opened : Holding D) → tells ≡ true → HasOpened tells content faults moment images disk opened → disk' ≡ opened.disk → KeepsReceipts content moment images disk disk'
  opened_still disk disk' opened telling h disk_is = λ d reads all k w e from to image op.
      leaves_still d disk opened.disk (h.stop telling) all k w e from (subst (λ (x : D). k ≤ moment x) disk_is to) (subst (λ (x : D). images x k w) disk_is image) op

  -- that of a store
  pub since_still : (disk disk' : D) (left : Holding D) → tells ≡ true → disk' ≡ left.disk → ((d : Durable) → OpensTo d (content disk) → Every (Now moment images disk) (OpensTo d) → HasSince d disk left) → KeepsReceipts content moment images disk disk'
  since_still disk disk' left telling disk_is has = λ d reads all k w e from to image op.
      (has d reads all).each k e from (subst (λ (x : D). k ≤ moment x) disk_is to) (telling, w, subst (λ (x : D). images x k w) disk_is image, op)

  pub keeps_receipts : (command : Command) (challenge : List ℕ) (now : ℕ) (lines : LinesState) (disk : D) (told : Option ReportText) (had : Status) (lines' : LinesState) (disk' : D)
      → tells ≡ true → Over_disk tells content faults moment images command challenge now lines disk told had lines' disk' → KeepsReceipts content moment images disk disk'
  keeps_receipts command challenge now lines disk told had lines' disk' telling (Not_set none why only lines_is) = read_still disk disk' only
  keeps_receipts command challenge now lines disk told had lines' disk' telling (No_call conf settings none why only lines_is) = read_still disk disk' only
  keeps_receipts command challenge now lines disk told had lines' disk' telling (Not_opened conf settings side are fault none had_is lines_is refused) = λ d reads all k w e from to image op.
      leaves_still d disk disk' (refused.stop telling) all k w e from to image op
  keeps_receipts command challenge now lines disk told had lines' disk' telling (No_index conf settings peer are unset none why only lines_is) = read_still disk disk' only
  keeps_receipts command challenge now lines disk told had lines' disk' telling (Bad_index conf settings peer are unset bad opened h none had_is lines_is disk_is) = opened_still disk disk' opened telling h disk_is
  keeps_receipts command challenge now lines disk told had lines' disk' telling (No_host conf settings peer are unset index reads unlisted opened h none had_is lines_is disk_is) = opened_still disk disk' opened telling h disk_is
  keeps_receipts command challenge now lines disk told had lines' disk' telling (Answered conf settings are opened held left h was answers gives disk_is) =
      since_still disk disk' left telling disk_is
      (λ d reads all. kept_since d disk held left telling (behind_keeps conf told was had held left gives)
      (answered_since d disk (record { conf = conf; challenge = challenge; moment = now }) lines opened held told was lines' telling answers (opened_since d disk opened telling h reads all)))
  keeps_receipts command challenge now lines disk told had lines' disk' telling (Called conf settings peer are host has opened held left h was calls gives disk_is) =
      since_still disk disk' left telling disk_is
      (λ d reads all. kept_since d disk held left telling (behind_keeps conf told was had held left gives)
      (called_since d disk peer (record { conf = conf; challenge = challenge; moment = now }) host lines opened held told was lines' telling calls (opened_since d disk opened telling h reads all)))
