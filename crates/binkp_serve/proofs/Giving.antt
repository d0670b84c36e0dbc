-- A round of giving at a hub whose sessions look anew: its rows, and that the hub still fits its store.
use Rattle.std.proofs.Common.{◌≡◌, ◌≢◌, ◌⊎◌, inl, inr, ℕ, ◌+◌, ◌==◌, arith, Bool, true, false, if◌then◌else◌, List, [], ◌∷◌, map, length, Option, Some, None, Result, refl, sym, ◌∙◌, ap, subst}
use Rattle.std.proofs.lemmas.List.{append-nil}
use Rattle.hub_core.specs.Anew.{LooksAnew}
use Rattle.hub_core.specs.HubCalls.{ShelfPasses}
use Rattle.hub_core.specs.Hubs.{Fitted, HubFits, HubState, IsSettled, knows_over, node_with}
use Rattle.hub_core.specs.Steps.{Broke, Stays}
use Rattle.hub_core.proofs.Anew.{sitting_on}
use Rattle.hub_core.proofs.Breaking.{broken_known, same_but}
use Rattle.hub_core.proofs.Keeping.{counts_over}
use Rattle.hub_core.proofs.Stepping.{passes_by, stepped_fitted, stepped_known}
use Rattle.hub_core.proofs.Turning.{before_passes}
use Rattle.inbound_files.specs.Giving.{All_dealt_with, Deals_with, GivesFiles, None_left, None_yet, One_more, One_refused}
use Rattle.inbound_files.proofs.Kept.{still_whole}
use Rattle.node_model.specs.Calls.{Answer, Caused, Counts, Give_call, IsMade, KnownStep, Knows, Logs, Made, counts_of}
use Rattle.node_model.specs.Calls as C
use Rattle.node_model.specs.Durable.{durable_map, given_receipt, receipt_map, with_given}
use Rattle.node_model.specs.Items.{MarkOf, Receipt, ReceiptOf}
use Rattle.node_model.specs.Lists.{Each, Member}
use Rattle.node_model.specs.Outside.{Gift}
use Rattle.node_model.specs.SendRows.{NextGiven, may_go}
use Rattle.node_model.specs.Stocks.{Sizes, on_state, part_in, sizes}
use Rattle.node_model.specs.StoreStates.{Shelf, Stored, StoreState, StoreStand, shelf_of, stored_after}
use Rattle.node_model.specs.Stores.{After_it, Before_it, BreaksStore, Gave_so, Give_next, GivesNext, HoldsNext, IsShelf, PartsStay, Refuses, Source_first, StoreDoes, StoreKept, StorePasses, TellsOn, gift_made, given}
use Rattle.node_model.specs.declared.store.Gave.{Gave}
use Rattle.node_model.specs.declared.store.Gave.TheVariants.{Given, Held, Nothing}
use Rattle.node_model.specs.declared.store.StoreFault.{StoreFault}
use Rattle.node_model.specs.declared.store.StoreFault.TheVariants as SF
use Rattle.node_model.proofs.Changes.{given_flags}
use Rattle.node_model.proofs.StockMaps.{map-map_as, on_state-map}
use Rattle.outbound_desk.proofs.Joining.{told_by}
use Rattle.outbound_desk.proofs.OneRow.{Change, IsPlain, option_same, option_twice, stays_anew, step_made, stepped}
use Rattle.binkp_serve.specs.GiveSteps.{answer_of}
use Rattle.binkp_serve.proofs.GiveSteps.{next_with, there_with}
use Rattle.binkp_serve.proofs.Reaching.{Rows, rows_then}

-- A receipt that is given, with its bytes and with their number alone.

given_seen : {A B : Type 0} (g : A → B) (number : ℕ) (r : ReceiptOf A) → receipt_map g (given_receipt number r) ≡ given_receipt number (receipt_map g r)
given_seen {A} {B} g number r = go (r.number == number)
  where
    go : (b : Bool) → receipt_map g (if b then record r { given = true } else r) ≡ (if b then record (receipt_map g r) { given = true } else receipt_map g r)
    go true = refl
    go false = refl

sizes_given : (number : ℕ) (a : Stored) → sizes (on_state (with_given number) a.stock) ≡ on_state (with_given number) (sizes a.stock)
sizes_given number a =
    on_state-map length (with_given number) (with_given number) a.stock
    (ap (λ (rs : List (ReceiptOf ℕ)). record (durable_map length a.stock.state) { inbox = rs }) (map-map_as (receipt_map length) (given_receipt number) (given_receipt number) (receipt_map length) (given_seen length number) a.stock.state.inbox))

-- none of them gets another number
still_apart : (number part : ℕ) (rs : List Receipt) → Each (λ (r : Receipt). r.number ≢ part) rs → Each (λ (r : Receipt). r.number ≢ part) (map (given_receipt number) rs)
still_apart number part [] each = tt
still_apart number part (r ∷ rs) each = (λ is. each.0 (sym (given_flags number r).number ∙ is), still_apart number part rs each.1)

-- What a give call changes.

given_change : (h : HubState) (s : StoreState) (a : Stored) (gift : Gift) (time : ℕ) → HubFits a s h → Change h s a (given gift time s)
given_change h s a gift time f = record {
  change = λ x. gift_made gift time (stored_after (on_state (with_given gift.receipt)) s.seat [] x);
  content = option_twice (gift_made gift time) (stored_after (on_state (with_given gift.receipt)) s.seat []) s.content;
  stock = ap (on_state (with_given gift.receipt)) f.stock ∙ sym (sizes_given gift.receipt a);
  parts = λ p there. let fit = f.parts p there in record { marks = fit.marks; receipts = still_apart gift.receipt p.number a.stock.state.inbox fit.receipts };
  sittings = λ x fresh fits. sitting_on s (given gift time s) x fresh refl (λ e there. (e, there, refl, refl)) fits;
  seat = refl;
}

held_change : (h : HubState) (s : StoreState) (a : Stored) (number : ℕ) → HubFits a s h → Change h s a (record s { last_given = number })
held_change h s a number f = record { change = λ x. x; content = sym (option_same s.content); stock = f.stock; parts = f.parts; sittings = λ x fresh fits. sitting_on s (record s { last_given = number }) x fresh refl (λ e there. (e, there, refl, refl)) fits; seat = refl }

given_node : (h : HubState) (s : StoreState) (a : Stored) (number : ℕ) (gift : Gift) (time : ℕ) → gift.receipt ≡ number
    → node_with (gift_made gift time (stored_after (on_state (with_given gift.receipt)) s.seat [] a)) (given gift time s) h ≡ record (node_with a s h) { state = with_given number a.stock.state; last_given = number }
given_node h s a number gift time numbered =
    let no_record : s.records + 0 ≡ s.records = omega arith in
    (λ i. record (node_with a s h) { state = with_given (numbered i) a.stock.state; log = append-nil a.log i; records = no_record i; last_given = numbered i })

-- the next receipt is the same, with its bytes
next_kept : (h : HubState) (s : StoreState) (a : Stored) (number : ℕ) → HubFits a s h → NextGiven number s.last_given s.stock.state.inbox → NextGiven number s.last_given a.stock.state.inbox
next_kept h s a number f next = next_with number s.last_given a.stock.state.inbox (subst (λ (x : Sizes). NextGiven number s.last_given x.state.inbox) f.stock next)

-- One call that is made.

-- what is known behind a call of the seat whose turn it is: the hub fits, and the call was a row
record GaveSo (h : HubState) (answer : Answer) (s t : StoreState) : Type 0 where
  fitted : Fitted t h
  step : KnownStep s.seat (knows_over s.content s h s.seat) Give_call answer (knows_over t.content t h s.seat)
  seat : t.seat ≡ s.seat

gave_row : (h : HubState) (answer : Answer) (s t : StoreState) (f : Fitted s h) (change : Change h s f.keeps t) → LooksAnew h → s.counts.broken ≡ None → t.counts.broken ≡ None → IsMade answer → IsPlain answer → Made s.seat (node_with f.keeps s h) Give_call answer (node_with (change.change f.keeps) t h) → GaveSo h answer s t
gave_row h answer s t f change anew whole still made plain does =
    let x = stepped h Give_call answer s f.keeps t change (stays_anew h s f.keeps t change anew) plain still f.fits (step_made s.seat (node_with f.keeps s h) Give_call answer (node_with (change.change f.keeps) t h) made whole does) in
    record { fitted = stepped_fitted s.seat Give_call answer s h f t h x; step = stepped_known s.seat Give_call answer s h f t h x; seat = change.seat }

given_fits : (h : HubState) (inbound nonsecure : List ℕ) (number : ℕ) (s t : StoreState) → LooksAnew h → s.counts.broken ≡ None → Fitted s h → GivesNext inbound nonsecure number s t → GaveSo h (C.Given number) s t
unfolding given_change
given_fits h inbound nonsecure number s t anew whole f does =
    subst (λ (x : StoreState). GaveSo h (C.Given number) s x) (sym does.after)
    (gave_row h (C.Given number) s (given does.gift does.time s) f (given_change h s f.keeps does.gift does.time f.fits) anew whole whole tt tt
    (record { next = next_kept h s f.keeps number f.fits does.next; after = given_node h s f.keeps number does.gift does.time does.receipt }))

held_fits : (h : HubState) (inbound nonsecure : List ℕ) (number : ℕ) (s t : StoreState) → LooksAnew h → s.counts.broken ≡ None → Fitted s h → HoldsNext inbound nonsecure number s t → GaveSo h (C.Held number) s t
unfolding held_change
held_fits h inbound nonsecure number s t anew whole f does =
    subst (λ (x : StoreState). GaveSo h (C.Held number) s x) (sym does.after)
    (gave_row h (C.Held number) s (record s { last_given = number }) f (held_change h s f.keeps number f.fits) anew whole whole tt tt (record { next = next_kept h s f.keeps number f.fits does.next; after = refl }))

none_fits : (h : HubState) (s t : StoreState) → LooksAnew h → s.counts.broken ≡ None → Fitted s h → ((r : ReceiptOf ℕ) → Member r s.stock.state.inbox → may_go r ≡ true → ⊥) → t ≡ s → GaveSo h C.Nothing s t
none_fits h s t anew whole f left is =
    subst (λ (x : StoreState). GaveSo h C.Nothing s x) (sym is)
    (gave_row h C.Nothing s s f (record { change = λ x. x; content = sym (option_same s.content); stock = f.fits.stock; parts = f.fits.parts; sittings = λ x fresh fits. fits; seat = refl }) anew whole whole tt tt
    (record {
      none = λ r there may. left (receipt_map length r) (subst (λ (x : Sizes). Member (receipt_map length r) x.state.inbox) (sym f.fits.stock) (there_with (receipt_map length) f.keeps.stock.state.inbox r there)) may;
      after = refl;
    }))

gave_fits : (h : HubState) (inbound nonsecure : List ℕ) (s t : StoreState) (gave : Gave) → LooksAnew h → s.counts.broken ≡ None → Fitted s h → StoreDoes s (Give_next inbound nonsecure) (Gave_so gave) t → GaveSo h (answer_of gave) s t
gave_fits h inbound nonsecure s t (Given number) anew whole f does = given_fits h inbound nonsecure number s t anew whole f does
gave_fits h inbound nonsecure s t (Held number) anew whole f does = held_fits h inbound nonsecure number s t anew whole f does
gave_fits h inbound nonsecure s t Nothing anew whole f does = none_fits h s t anew whole f does.0 does.1

-- A call at which the disk failed.

gives_pass : (h : HubState) (inbound nonsecure : List ℕ) (s : StoreState) (d : Shelf) → LooksAnew h → s.counts.broken ≡ None → (f : Fitted s h) → StorePasses s (Give_next inbound nonsecure) d → ShelfPasses s.content s h s.seat Give_call d
unfolding given_change
gives_pass h inbound nonsecure s d anew whole f (Before_it is) = before_passes s.content s h s.seat Give_call d is
gives_pass h inbound nonsecure s d anew whole f (Source_first first) = absurd first
gives_pass h inbound nonsecure s d anew whole f (After_it (Gave_so (Given number)) t does is) =
    let change = given_change h s f.keeps does.gift does.time f.fits in
    passes_by s.content change.change s h s.seat Give_call f.keeps d f.tells
    (C.After_it whole (C.Given number) (node_with (change.change f.keeps) (given does.gift does.time s) h) (record { next = next_kept h s f.keeps number f.fits does.next; after = given_node h s f.keeps number does.gift does.time does.receipt }) refl)
    (subst (λ (c : Option Stored). IsShelf c d) (ap (λ (x : StoreState). x.content) does.after ∙ change.content) is)
gives_pass h inbound nonsecure s d anew whole f (After_it (Gave_so (Held number)) t does is) = before_passes s.content s h s.seat Give_call d (subst (λ (x : StoreState). IsShelf x.content d) does.after is)
gives_pass h inbound nonsecure s d anew whole f (After_it (Gave_so Nothing) t does is) = before_passes s.content s h s.seat Give_call d (subst (λ (x : StoreState). IsShelf x.content d) does.1 is)
gives_pass h inbound nonsecure s d anew whole f (After_it answer t does is) = absurd does

broke_so : (inbound nonsecure : List ℕ) (s t : StoreState) → BreaksStore (Give_next inbound nonsecure) s t → Broke (StorePasses s (Give_next inbound nonsecure)) (λ p. false) s t
broke_so inbound nonsecure s t broke = record { rose = broke.rose; counts = broke.counts; content = go s.content t.content broke.content; seat = broke.seat }
  where
    go : (c e : Option Stored) → TellsOn (λ a b. StorePasses s (Give_next inbound nonsecure) (shelf_of b) × Logs s.seat a.log b.log × PartsStay (Give_next inbound nonsecure) s.stock a.stock b.stock) c e
        → TellsOn (λ a b. StorePasses s (Give_next inbound nonsecure) (shelf_of b) × Logs s.seat a.log b.log × ((p : MarkOf ℕ) → Stays (λ x. false) s p → part_in p.number b.stock.parts ≡ part_in p.number a.stock.parts)) c e
    go None None on = tt
    go None (Some b) on = absurd on
    go (Some a) None on = absurd on
    go (Some a) (Some b) on = (on.0, on.1, λ p stays. on.2 p stays.0 refl)

-- A round.

-- what holds behind calls of a round: the store is whole and fits, it is the seat's turn, and the calls were rows
record Goes (h : HubState) (seat : ℕ) (base : Knows) (w : StoreStand) : Type 0 where
  whole : w.state.counts.broken ≡ None
  fitted : Fitted w.state h
  settled : IsSettled w
  turn : w.state.seat ≡ seat
  rows : Rows seat base (told_by h seat w)

-- counts are changed by no call that is made
gave_counts : (inbound nonsecure : List ℕ) (s t : StoreState) (gave : Gave) → StoreDoes s (Give_next inbound nonsecure) (Gave_so gave) t → t.counts ≡ s.counts
gave_counts inbound nonsecure s t (Given number) does = ap (λ (x : StoreState). x.counts) does.after
gave_counts inbound nonsecure s t (Held number) does = ap (λ (x : StoreState). x.counts) does.after
gave_counts inbound nonsecure s t Nothing does = ap (λ (x : StoreState). x.counts) does.1

caused_made : (old : Counts) (answer : Answer) (new : Counts) → IsMade answer → old.broken ≡ None → new ≡ old → Caused old Give_call answer new
caused_made old (C.Refused fault) new made whole same = absurd made
caused_made old answer new made whole same = (inl whole, same)

caused_so : (h : HubState) (seat : ℕ) (answer : Answer) (s t : StoreState) → IsMade answer → s.counts.broken ≡ None → t.counts ≡ s.counts → Caused (counts_of (knows_over s.content s h seat)) Give_call answer (counts_of (knows_over t.content t h seat))
caused_so h seat answer s t made whole same =
    subst (λ (c : Counts). Caused c Give_call answer (counts_of (knows_over t.content t h seat))) (sym (counts_over s.content s h seat))
    (subst (λ (c : Counts). Caused s.counts Give_call answer c) (sym (counts_over t.content t h seat)) (caused_made s.counts answer t.counts made whole same))

one_row : (h : HubState) (seat : ℕ) (answer : Answer) (s t : StoreStand) → s.state.seat ≡ seat → Caused (counts_of (told_by h seat s)) Give_call answer (counts_of (told_by h seat t)) → KnownStep s.state.seat (knows_over s.state.content s.state h s.state.seat) Give_call answer (knows_over t.state.content t.state h s.state.seat) → Rows seat (told_by h seat s) (told_by h seat t)
one_row h seat answer s t at caused step =
    (record { call = Give_call; answer = answer } ∷ [], (told_by h seat t, caused, subst (λ (k : ℕ). KnownStep k (knows_over s.state.content s.state h k) Give_call answer (knows_over t.state.content t.state h k)) at step, refl))

gave_made : (gave : Gave) → IsMade (answer_of gave)
gave_made (Given number) = tt
gave_made (Held number) = tt
gave_made Nothing = tt

gave_goes : (h : HubState) (seat : ℕ) (base : Knows) (inbound nonsecure : List ℕ) (old new : StoreStand) (gave : Gave) → LooksAnew h → Goes h seat base old → StoreKept old (Give_next inbound nonsecure) (Gave_so gave) new → Goes h seat base new
gave_goes h seat base inbound nonsecure old new gave anew g kept =
    let whole = still_whole inbound nonsecure old.state new.state gave kept.made g.whole in
    let x = gave_fits h inbound nonsecure old.state new.state gave anew g.whole g.fitted kept.made in
    let same = gave_counts inbound nonsecure old.state new.state gave kept.made in
    record {
      whole = whole;
      fitted = x.fitted;
      settled = kept.now whole;
      turn = x.seat ∙ g.turn;
      rows = rows_then seat base (told_by h seat old) (told_by h seat new) g.rows (one_row h seat (answer_of gave) old new g.turn (caused_so h seat (answer_of gave) old.state new.state (gave_made gave) g.whole same) x.step);
    }

deals_go : {S : Type 0} (stand : S → StoreStand) (h : HubState) (seat : ℕ) (base : Knows) (inbound nonsecure : List ℕ) (old : S) (n : ℕ) (new : S) → LooksAnew h → Goes h seat base (stand old) → Deals_with stand inbound nonsecure old n new → Goes h seat base (stand new)
deals_go stand h seat base inbound nonsecure old _ _ anew g None_yet = g
deals_go stand h seat base inbound nonsecure old _ new anew g (One_more {n} {mid} deals gave dealt kept) =
    gave_goes h seat base inbound nonsecure (stand mid) (stand new) gave anew (deals_go stand h seat base inbound nonsecure old n mid anew g deals) kept

-- what is known behind a round
pub record RoundGoes (h : HubState) (seat : ℕ) (base : Knows) (w : StoreStand) : Type 0 where
  pub fitted : w.state.counts.broken ≡ None → Fitted w.state h
  pub settled : w.state.counts.broken ≡ None → IsSettled w
  pub rows : Rows seat base (told_by h seat w)

round_so : (h : HubState) (seat : ℕ) (base : Knows) (w : StoreStand) → Goes h seat base w → RoundGoes h seat base w
round_so h seat base w g = record { fitted = λ _. g.fitted; settled = λ _. g.settled; rows = g.rows }

broken_now : {X : Type 0} (b : Option ℕ) (n : ℕ) → b ≡ Some n → b ≡ None → X
broken_now b n some none = absurd (cc)

refused_goes : (h : HubState) (seat : ℕ) (base : Knows) (inbound nonsecure : List ℕ) (old new : StoreStand) (fault : StoreFault) → LooksAnew h → Goes h seat base old → StoreKept old (Give_next inbound nonsecure) (Refuses fault) new → RoundGoes h seat base new
refused_goes h seat base inbound nonsecure old new SF.Disk anew g kept =
    let s = old.state in
    let t = new.state in
    let broken : t.counts.broken ≡ Some t.counts.faults = ap (λ (c : Counts). c.broken) kept.made.counts in
    let fails : Answer = C.Refused (C.Disk t.counts.faults) in
    let caused : Caused s.counts Give_call fails t.counts = (λ skips. skips, inr (g.whole, kept.made.rose, kept.made.counts)) in
    record {
      fitted = λ w. broken_now t.counts.broken t.counts.faults broken w;
      settled = λ w. broken_now t.counts.broken t.counts.faults broken w;
      rows =
          rows_then seat base (told_by h seat old) (told_by h seat new) g.rows
          (one_row h seat fails old new g.turn
          (subst (λ (c : Counts). Caused c Give_call fails (counts_of (told_by h seat new))) (sym (counts_over s.content s h seat)) (subst (λ (c : Counts). Caused s.counts Give_call fails c) (sym (counts_over t.content t h seat)) caused))
          (broken_known (StorePasses s (Give_next inbound nonsecure)) (λ p. false) s t h h s.seat Give_call g.whole refl g.fitted (broke_so inbound nonsecure s t kept.made) (λ k x hold apart sits holds. refl) (λ d passes. gives_pass h inbound nonsecure s d anew g.whole g.fitted passes) (λ skips. skips) (same_but h s.seat)));
    }
refused_goes h seat base inbound nonsecure old new SF.Read anew g kept = absurd kept.made.0
refused_goes h seat base inbound nonsecure old new SF.Full anew g kept = absurd kept.made.0
refused_goes h seat base inbound nonsecure old new SF.NoMemory anew g kept = record {
  fitted = λ _. subst (λ (x : StoreState). Fitted x h) (sym kept.made.1) g.fitted;
  settled = λ whole. kept.now whole;
  rows = subst (λ (x : StoreState). Rows seat base (knows_over x.content x h seat)) (sym kept.made.1) g.rows;
}

pub round_goes : {S : Type 0} (stand : S → StoreStand) (h : HubState) (seat : ℕ) (base : Knows) (inbound nonsecure : List ℕ) (files : ℕ) (old : S) (result : Result (Unit {0}) StoreFault) (new : S) → LooksAnew h → (stand old).state.counts.broken ≡ None → Fitted (stand old).state h → IsSettled (stand old) → (stand old).state.seat ≡ seat → Rows seat base (told_by h seat (stand old))
    → GivesFiles stand inbound nonsecure files old result new → RoundGoes h seat base (stand new)
round_goes stand h seat base inbound nonsecure files old result new anew whole fitted settled turn rows gives = go gives
  where
    begun : Goes h seat base (stand old)
    begun = record { whole = whole; fitted = fitted; settled = settled; turn = turn; rows = rows }

    go : {r : Result (Unit {0}) StoreFault} {last : _} → GivesFiles stand inbound nonsecure files old r last → RoundGoes h seat base (stand last)
    go {r} {last} (All_dealt_with deals) = round_so h seat base (stand last) (deals_go stand h seat base inbound nonsecure old files last anew begun deals)
    go {r} {last} (None_left {n} {mid} deals less kept) =
        round_so h seat base (stand last) (gave_goes h seat base inbound nonsecure (stand mid) (stand last) Nothing anew (deals_go stand h seat base inbound nonsecure old n mid anew begun deals) kept)
    go {r} {last} (One_refused {n} {mid} deals less fault kept) = refused_goes h seat base inbound nonsecure (stand mid) (stand last) fault anew (deals_go stand h seat base inbound nonsecure old n mid anew begun deals) kept
