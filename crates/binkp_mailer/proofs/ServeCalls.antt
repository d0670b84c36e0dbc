-- What `serve` over a disk says of the disk: the cause of its status, and what was received.
use Rattle.std.proofs.Common.{◌≡◌, ◌∙◌, ℕ, ◌≤◌, ◌<◌, Bool, true, false, List, Option, Some, None, Ok, refl, sym, ap, subst, inr, ⊎_elim}
use Rattle.std.specs.Prelude.{if◌then◌else◌, ◌==◌}
use Rattle.std.proofs.lemmas.Bool.{cases_lt}
use Rattle.ftn_addr.specs.Address.{Address}
use Rattle.ftn_addr.specs.Counts.{CountGrew, Increased}
use Rattle.disk_model.specs.World.{World}
use Rattle.binkp_link.specs.Lines.{SinkState}
use Rattle.binkp_link.specs.LineSources.{LinesState, listening}
use Rattle.binkp_serve.specs.Rests.{IsAtRest, Rest, StaysReceived, StillTold}
use Rattle.binkp_serve.specs.declared.words.ServeEnd.{ServeEnd}
use Rattle.binkp_serve.specs.declared.words.ServeEnd.TheVariants as E
use Rattle.binkp_serve.proofs.Ending.{disk_rose}
use Rattle.binkp_serve.proofs.Staying.{Since, same_state, stays_none}
use Rattle.hub_core.specs.Hubs.{HubState, seat_part}
use Rattle.inbound_files.specs.Giving.{StillHas}
use Rattle.inbound_files.proofs.Kept.{still_then}
use Rattle.mail_conf.specs.Conf.{ConfText}
use Rattle.node_model.specs.Durable.{Durable}
use Rattle.node_model.specs.StoreStates.{IfTold, Shelf, Stored}
use Rattle.node_model.specs.Stores.{OpensShelf}
use Rattle.node_store.specs.Stored.{Holding, Memory, stored_in}
use Rattle.node_store.specs.declared.opening.fault.StoreOpenFault.{StoreOpenFault}
use Rattle.nodelist_comp.specs.Node.{ListedNode}
use Rattle.nodelist_files.specs.Files.{index_name}
use Rattle.nodelist_files.specs.IndexFile.{index_at}
use Rattle.outbound_desk.specs.Lines.{IsDeskReady}
use Rattle.command_base.specs.Causes.{DiskCause, IsBadIndex}
use Rattle.command_base.specs.Opening.{HasOpened, HasRefused}
use Rattle.command_base.specs.Settings.{OnlyRead}
use Rattle.command_base.specs.Statuses as S
use Rattle.command_base.specs.Statuses.{Status, status_unopened}
use Rattle.command_base.proofs.Causes.{had_no_memory, refused_so, unindexed_so, unset_so}
use Rattle.command_base.proofs.ReadOnly.{no_index_before, opened_before, refused_before, settings_before, then_read, unset_before}
use Rattle.binkp_mailer.specs.DiskCall.{KeepsReceipts, ReadsIndex}
use Rattle.binkp_mailer.specs.ServeCall.{Bad_index, Is_served, Is_unheard, No_index, No_room, Not_opened, Not_set, Over_serve, Served_so, ServesAt, status_served, status_told}
use Rattle.binkp_mailer.specs.TopCall.{new_hub}
use Rattle.binkp_mailer.proofs.DiskCalls.{HasSince, leaves_still, opened_since, opened_still, read_still, since_still, then_opens, told_is, St}

-- The number that a status tells of a disk.

-- what is said of the disk: nothing, but at the end by a disk
abbrev Told : ServeEnd → Bool → ℕ → ℕ → Status → Type 0
Told end short before behind had = had ≡ status_told before behind (status_served end short)

module _ {D : Type 0} (tells : Bool) (content : D → World) (faults : D → ℕ) (moment : D → ℕ) (images : D → ℕ → World → Type 0) where
  abbrev Cause : Status → D → D → Type 0
  Cause = DiskCause tells content faults

  served_cause : (end : ServeEnd) (short : Bool) (disk disk' : D) → ((count : ℕ) → end ≡ E.Disk count → Increased (faults disk) count × CountGrew count (faults disk')) → Cause (status_served end short) disk disk'
  served_cause (E.Disk count) short disk disk' rose = rose count refl
  served_cause E.Lines short disk disk' rose = tt
  served_cause E.Stop true disk disk' rose = tt
  served_cause E.Stop false disk disk' rose = tt
  served_cause E.Count true disk disk' rose = tt
  served_cause E.Count false disk disk' rose = tt

  told_cause : (before behind : ℕ) (had : Status) (disk disk' : D) → Cause had disk disk' → Cause (status_told before behind had) disk disk'
  told_cause before behind had disk disk' cause = go (before == behind)
    where
      go : (b : Bool) → Cause (if b then had else S.OutFault) disk disk'
      go true = cause
      go false = tt

  same_cause : (had status : Status) (disk disk' : D) → status ≡ had → Cause had disk disk' → Cause status disk disk'
  same_cause had status disk disk' is cause = subst (λ (x : Status). Cause x disk disk') (sym is) cause

  -- of a disk over which a store was opened, which raised no count
  at_cause : (conf : ConfText) (index : Option (List ListedNode)) (disk : D) (rest : Rest D) (lines : LinesState) (out : SinkState) (had : Status) (left : Rest D) (lines' : LinesState) (out' : SinkState) → faults rest.store.disk ≡ faults disk → rest.store.memory.broken ≡ None → ServesAt tells content faults moment images conf index rest lines out had left lines' out' → Cause had disk left.store.disk
  at_cause conf index disk rest lines out had left lines' out' calm whole (Is_unheard is heard same left_is) = same_cause S.LineFault had disk left.store.disk is tt
  at_cause conf index disk rest lines out had left lines' out' calm whole (Is_served end short serves is) =
      same_cause _ had disk left.store.disk is
      (told_cause out.faults out'.faults (status_served end short) disk left.store.disk
      (served_cause end short disk left.store.disk
      (λ count at.
      let rose = disk_rose tells content faults moment images conf index rest (listening conf.port lines) out end short left lines' out' count whole serves at in
      (subst (λ (n : ℕ). Increased n count) calm rose.0, rose.1))))

  pub serve_cause : (lines : LinesState) (disk : D) (out : SinkState) (had : Status) (lines' : LinesState) (disk' : D) (out' : SinkState) → Over_serve tells content faults moment images lines disk out had lines' disk' out' → Cause had disk disk'
  serve_cause lines disk out had lines' disk' out' (Not_set why only same told) = unset_so tells content faults moment images disk disk' had why
  serve_cause lines disk out had lines' disk' out' (No_index conf set why only same told) = unindexed_so tells content faults moment images disk disk' had why
  serve_cause lines disk out had lines' disk' out' (Not_opened conf set fault is refused same told) = same_cause (status_unopened fault (faults disk')) had disk disk' is (refused_so tells content faults moment images fault disk disk' refused)
  serve_cause lines disk out had lines' disk' out' (Bad_index conf set bad opened has is same told disk_is) = same_cause (S.FileBad index_name) had disk disk' is (λ telling. inr (refl, bad telling))
  serve_cause lines disk out had lines' disk' out' (No_room conf set opened has is same told disk_is) = had_no_memory tells content faults moment images disk disk' had is
  serve_cause lines disk out had lines' disk' out' (Served_so conf set index reads opened has left serves disk_is) =
      subst (λ (d : D). Cause had disk d) (sym disk_is)
      (at_cause conf index disk (record { store = opened; hub = new_hub conf; seat = 0 }) lines out had left lines' out' has.calm (ap (λ (m : Memory). m.broken) has.memory.3) serves)

  -- What was received stays so.

  -- behind what a node that serves does
  stays_since : (d : Durable) (disk : D) (a b : Holding D) → tells ≡ true → StaysReceived (St tells content faults moment images a) (St tells content faults moment images b) → HasSince tells content faults moment images d disk a → HasSince tells content faults moment images d disk b
  stays_since d disk a b telling kept h = record { state = still_then d old.stock.state new.stock.state h.state stays; each = each }
    where
      old : Stored
      old = stored_in (content a.disk) a.memory

      new : Stored
      new = stored_in (content b.disk) b.memory

      stays : StillHas old.stock.state new.stock.state
      stays = subst (λ (c : Option Stored). StillTold (Some old) c) (told_is tells new telling) (subst (λ (c : Option Stored). StillTold c (if tells then Some new else None)) (told_is tells old telling) kept.told)

      since : Since (St tells content faults moment images a) (St tells content faults moment images b) old
      since = subst (λ (c : Option Stored). IfTold c (Since (St tells content faults moment images a) (St tells content faults moment images b))) (told_is tells old telling) kept.since

      each : (k : ℕ) (e : Option Shelf) → moment disk ≤ k → k ≤ moment b.disk → (St tells content faults moment images b).images k e → OpensShelf (λ x. StillHas d x.state) e
      each k e from to image = ⊎_elim
          (λ (past : moment a.disk < k). then_opens d old.stock.state e h.state (since k e past to image))
          (λ (within : k ≤ moment a.disk).
          let was = kept.before k e within image in
          same_state (StillHas d) e was.0 was.2 (h.each k was.0 from within was.1))
          (cases_lt (moment a.disk) k)

  served_keeps : (disk disk' : D) (opened left : Holding D) → tells ≡ true → HasOpened tells content faults moment images disk opened → StaysReceived (St tells content faults moment images opened) (St tells content faults moment images left) → disk' ≡ left.disk → KeepsReceipts content moment images disk disk'
  served_keeps disk disk' opened left telling has stays disk_is =
      since_still tells content faults moment images disk disk' left telling disk_is
      (λ d reads all. stays_since d disk opened left telling stays (opened_since tells content faults moment images d disk opened telling has reads all))

  refused_keeps : (fault : StoreOpenFault) (disk disk' : D) → tells ≡ true → HasRefused tells content faults moment images fault disk disk' → KeepsReceipts content moment images disk disk'
  refused_keeps fault disk disk' telling refused = λ d reads all k w e from to image op. leaves_still tells content faults moment images d disk disk' (refused.stop telling) all k w e from to image op

  at_keeps : (conf : ConfText) (index : Option (List ListedNode)) (rest : Rest D) (lines : LinesState) (out : SinkState) (had : Status) (left : Rest D) (lines' : LinesState) (out' : SinkState) → ServesAt tells content faults moment images conf index rest lines out had left lines' out' → StaysReceived (St tells content faults moment images rest.store) (St tells content faults moment images left.store)
  at_keeps conf index rest lines out had left lines' out' (Is_unheard is heard same left_is) = subst (λ (r : Rest D). StaysReceived (St tells content faults moment images rest.store) (St tells content faults moment images r.store)) (sym left_is) (stays_none (St tells content faults moment images rest.store))
  at_keeps conf index rest lines out had left lines' out' (Is_served end short serves is) = serves.stays

  pub serve_keeps : (lines : LinesState) (disk : D) (out : SinkState) (had : Status) (lines' : LinesState) (disk' : D) (out' : SinkState) → tells ≡ true → Over_serve tells content faults moment images lines disk out had lines' disk' out' → KeepsReceipts content moment images disk disk'
  serve_keeps lines disk out had lines' disk' out' telling (Not_set why only same told) = read_still tells content faults moment images disk disk' only
  serve_keeps lines disk out had lines' disk' out' telling (No_index conf set why only same told) = read_still tells content faults moment images disk disk' only
  serve_keeps lines disk out had lines' disk' out' telling (Not_opened conf set fault is refused same told) = refused_keeps fault disk disk' telling refused
  serve_keeps lines disk out had lines' disk' out' telling (Bad_index conf set bad opened has is same told disk_is) = opened_still tells content faults moment images disk disk' opened telling has disk_is
  serve_keeps lines disk out had lines' disk' out' telling (No_room conf set opened has is same told disk_is) = opened_still tells content faults moment images disk disk' opened telling has disk_is
  serve_keeps lines disk out had lines' disk' out' telling (Served_so conf set index reads opened has left serves disk_is) = served_keeps disk disk' opened left.store telling has (at_keeps conf index _ lines out had left lines' out' serves) disk_is

  -- Over a disk that was read before.

  reads_before : (old mid : D) (index : Option (List ListedNode)) → OnlyRead tells content faults moment images old mid → ReadsIndex tells content faults moment images mid index → ReadsIndex tells content faults moment images old index
  reads_before old mid index only reads = λ telling. subst (λ (w : World). index_at (w.own index_name) ≡ Ok index) (only.same telling) (reads telling)

  pub serve_before : (lines : LinesState) (old mid : D) (out : SinkState) (had : Status) (lines' : LinesState) (new : D) (out' : SinkState) → OnlyRead tells content faults moment images old mid → faults mid ≡ faults old
      → Over_serve tells content faults moment images lines mid out had lines' new out' → Over_serve tells content faults moment images lines old out had lines' new out'
  serve_before lines old mid out had lines' new out' only calm (Not_set why more same told) = Not_set (unset_before tells content faults moment images old mid new had only calm why) (then_read tells content faults moment images old mid new only more) same told
  serve_before lines old mid out had lines' new out' only calm (No_index conf set why more same told) =
      No_index conf (settings_before tells content faults moment images old mid conf only set) (no_index_before faults old mid new had calm why) (then_read tells content faults moment images old mid new only more) same told
  serve_before lines old mid out had lines' new out' only calm (Not_opened conf set fault is refused same told) =
      Not_opened conf (settings_before tells content faults moment images old mid conf only set) fault is (refused_before tells content faults moment images old mid new fault only calm refused) same told
  serve_before lines old mid out had lines' new out' only calm (Bad_index conf set bad opened has is same told disk_is) =
      Bad_index conf (settings_before tells content faults moment images old mid conf only set) (λ telling. subst IsBadIndex (only.same telling) (bad telling)) opened (opened_before tells content faults moment images old mid opened only calm has) is same told disk_is
  serve_before lines old mid out had lines' new out' only calm (No_room conf set opened has is same told disk_is) =
      No_room conf (settings_before tells content faults moment images old mid conf only set) opened (opened_before tells content faults moment images old mid opened only calm has) is same told disk_is
  serve_before lines old mid out had lines' new out' only calm (Served_so conf set index reads opened has left serves disk_is) =
      Served_so conf (settings_before tells content faults moment images old mid conf only set) index (reads_before old mid index only reads) opened (opened_before tells content faults moment images old mid opened only calm has) left serves disk_is

  -- The desk of a store that was just opened is at rest, and what is served over it is served over that store.

  new_free : (conf : ConfText) (h : HubState) (seat : ℕ) → h ≡ new_hub conf → seat ≡ 0 → (seat_part h seat).open_now ≡ false
  new_free conf h seat hub_is seat_is = ap (λ (x : HubState). (seat_part x seat).open_now) hub_is ∙ ap (λ (k : ℕ). (seat_part (new_hub conf) k).open_now) seat_is

  pub new_rest : (conf : ConfText) (home : Address) (store : Holding D) (h : HubState) (seat : ℕ) → h ≡ new_hub conf → seat ≡ 0 → IsDeskReady (St tells content faults moment images store) h seat home
      → IsAtRest tells content faults moment images home (record { store = store; hub = h; seat = seat })
  new_rest conf home store h seat hub_is seat_is ready = record { ready = ready; free = λ _. new_free conf h seat hub_is seat_is }

  pub served_from : (conf : ConfText) (index : Option (List ListedNode)) (lines : LinesState) (out : SinkState) (had : Status) (left : Rest D) (lines' : LinesState) (out' : SinkState) (store opened : Holding D) (h : HubState) (seat : ℕ) → store ≡ opened → h ≡ new_hub conf → seat ≡ 0
      → ServesAt tells content faults moment images conf index (record { store = store; hub = h; seat = seat }) lines out had left lines' out' → ServesAt tells content faults moment images conf index (record { store = opened; hub = new_hub conf; seat = 0 }) lines out had left lines' out'
  served_from conf index lines out had left lines' out' store opened h seat store_is hub_is seat_is =
      subst (λ (r : Rest D). ServesAt tells content faults moment images conf index r lines out had left lines' out') (λ i. record { store = store_is i; hub = hub_is i; seat = seat_is i })
