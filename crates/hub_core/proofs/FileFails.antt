-- A file is offered at a hub's desk, and the store refuses: the disk failed, or no place, number or memory was found.
use Rattle.std.proofs.Common.{◌≡◌, ◌⊎◌, ℕ, ◌<◌, Bool, true, false, [], ◌∷◌, Option, Some, None, length, option_map, refl, sym, ◌∙◌, ap, subst, inl, inr}
use Rattle.ftn_addr.specs.Key.{Key}
use Rattle.ftn_addr.specs.Counts.{Increased, next_count}
use Rattle.ftn_addr.specs.declared.limits.TheConstants.{MAX_NUMBER}
use Rattle.node_model.specs.declared.desk.FileIn.{FileIn}
use Rattle.node_model.specs.declared.desk.FileIn.TheVariants as F
use Rattle.node_model.specs.declared.store.StoreFault.{StoreFault}
use Rattle.node_model.specs.declared.store.StoreFault.TheVariants as D
use Rattle.node_model.specs.Items.{Mark, MarkOf}
use Rattle.node_model.specs.Durable.{mark_of, mark_map}
use Rattle.node_model.specs.Node.{Node}
use Rattle.node_model.specs.Rows.{FileAnswer, FileFull, LacksRoom, wanted_places, mark_length, places_for, released, unheld, Applies, draws}
use Rattle.node_model.specs.Calls.{Call, Answer, File_call, Filed, Refused, Full, No_memory, Disk, Counts, FileRefused, NodeStep, Caused, MayFindFull}
use Rattle.node_model.specs.Stocks.{draws_number, part_of}
use Rattle.node_model.specs.Stores.{Shelf, Stored, StoreState, StoreStand, TellsOn, shelf_of}
use Rattle.hub_core.specs.Hubs.{Sitting, HubState, chair_in, with_sitting, session_over, node_with, taken_part}
use Rattle.hub_core.specs.HubCalls.{ShelfPasses, HasTurn, Does}
use Rattle.hub_core.specs.Steps.{Leaves, StaysSettled, OneOf, OneMade, RefusedBy, BrokeBy, Broke, loses_none, is_file, Judged, MayBeMade, FindsNone, CallsStore, OpensFull, answered_state, word_of, fault_in, ended, counted_full, mark_len, places_from}
use Rattle.hub_core.proofs.Behind.{broke_behind}
use Rattle.hub_core.proofs.BeginSteps.{full_fits, rose_full}
use Rattle.hub_core.proofs.Breaking.{SameBut, OthersApart}
use Rattle.hub_core.proofs.Ends.{Sits, unheld_sitting, ended_stored, ended_content, ended_counts, released_is}
use Rattle.hub_core.proofs.FileSteps.{ended_hub, busy_put, reads_put, mark_is}
use Rattle.hub_core.proofs.FileDoes.{Offers, offered, judged_ended, first_passes, second_passes, file_leaves, part_filed, placed_at, at_end}
use Rattle.hub_core.proofs.Filing.{Offered, apart_by, apart_refused, released_node, judged_put}
use Rattle.hub_core.proofs.JudgeSteps.{judged_applies}
use Rattle.hub_core.proofs.Marking.{ended_fits, ended_sizes}
use Rattle.hub_core.proofs.Nodes.{session_is, chair_apart, sits_at}
use Rattle.hub_core.proofs.Sittings.{sit_twice, given_still, puts_alike}
use Rattle.hub_core.proofs.Stepping.{Stepped}
use Rattle.hub_core.proofs.Telling.{marks_are}
use Rattle.hub_core.proofs.Filing.{ended_seat}
use Rattle.hub_core.proofs.Owning.{own_again}
use Rattle.hub_core.proofs.Turning.{fitted_now, made_does, broken_does}

-- such shelves are others too
pub broke_as : (P Q : Shelf → Type 0) (loses : MarkOf ℕ → Bool) (s t : StoreState) → ((d : Shelf) → P d → Q d) → Broke P loses s t → Broke Q loses s t
broke_as P Q loses s t f b = record { rose = b.rose; counts = b.counts; content = go s.content t.content b.content; seat = b.seat }
  where
    go : (c e : Option Stored) → TellsOn (λ a z. P (shelf_of z) × Rattle.node_model.specs.Calls.Logs s.seat a.log z.log × ((p : MarkOf ℕ) → Rattle.hub_core.specs.Steps.Stays loses s p → Rattle.node_model.specs.Stocks.part_in p.number z.stock.parts ≡ Rattle.node_model.specs.Stocks.part_in p.number a.stock.parts)) c e → TellsOn (λ a z. Q (shelf_of z) × Rattle.node_model.specs.Calls.Logs s.seat a.log z.log × ((p : MarkOf ℕ) → Rattle.hub_core.specs.Steps.Stays loses s p → Rattle.node_model.specs.Stocks.part_in p.number z.stock.parts ≡ Rattle.node_model.specs.Stocks.part_in p.number a.stock.parts)) c e
    go None None on = tt
    go None (Some z) on = absurd on
    go (Some a) None on = absurd on
    go (Some a) (Some z) on = (f (shelf_of z) on.0, on.1, on.2)

pub given_as : (k : HubState) (seat : ℕ) (o p : Option Sitting) → seat < length (with_sitting seat o k).chairs → seat < length (with_sitting seat p k).chairs
given_as k seat o p given = subst (λ (h : HubState). seat < length h.chairs) (sit_twice k seat p o) (given_still (with_sitting seat o k) seat p given)

-- the hub without what its seat held
pub same_put : (k : HubState) (seat : ℕ) (x y : Sitting) → unheld_sitting y ≡ unheld_sitting x → SameBut seat (with_sitting seat (Some x) k) (with_sitting seat (Some y) k)
same_put k seat x y same = record {
  seats = puts_alike seat (record (chair_in k.chairs seat) { sitting = Some y }) (record (chair_in k.chairs seat) { sitting = Some x }) k.chairs;
  others = λ j apart. chair_apart seat (record (chair_in k.chairs seat) { sitting = Some y }) k.chairs j apart ∙ sym (chair_apart seat (record (chair_in k.chairs seat) { sitting = Some x }) k.chairs j apart);
  own = ap (option_map unheld_sitting) (sits_at k seat (Some y)) ∙ (ap (λ (z : Sitting). Some z) same ∙ sym (ap (option_map unheld_sitting) (sits_at k seat (Some x))));
  busy = busy_put k seat (Some y) ∙ sym (busy_put k seat (Some x));
  reads = reads_put k seat (Some y) ∙ sym (reads_put k seat (Some x));
  settings = refl;
  begun = refl;
}

-- The disk failed while what was held was marked.
pub end_broken : (v w : StoreStand) (k : HubState) (seat : ℕ) (x : Sitting) (key : Key) (offset : ℕ) (fault : StoreFault) (b : HasTurn v (with_sitting seat (Some x) k) seat) → Sits (fitted_now v (with_sitting seat (Some x) k) seat b).keeps v.state (with_sitting seat (Some x) k) seat x → BrokeBy (OneOf (v.state.content ∷ (ended x.first x.hold v.state).content ∷ [])) loses_none fault v.state w.state → Leaves (OneOf (v.state.content ∷ (ended x.first x.hold v.state).content ∷ [])) v w → Does v (with_sitting seat (Some x) k) seat (File_call key offset) (Refused (fault_in fault w.state.counts.faults)) w (with_sitting seat (Some (unheld_sitting x)) k)
end_broken v w k seat x key offset D.Disk b o broke l =
    broken_does (OneOf (v.state.content ∷ (ended x.first x.hold v.state).content ∷ [])) loses_none v w (with_sitting seat (Some x) k) (with_sitting seat (Some (unheld_sitting x)) k) seat (File_call key offset) b broke (λ j y t apart at held. refl) (first_passes v k seat x key offset b o) (λ skips. skips) (same_put k seat x (unheld_sitting x) refl) l (part_filed k seat x (unheld_sitting x) key offset (Refused (Disk w.state.counts.faults)) refl refl) (given_as k seat (Some x) (Some (unheld_sitting x)) b.ready.given)
end_broken v w k seat x key offset D.Read b o broke l = absurd broke
end_broken v w k seat x key offset D.Full b o broke l = absurd broke
end_broken v w k seat x key offset D.NoMemory b o broke l = absurd broke

-- no other session's part is lost
away_for : (v v1 : StoreStand) (k : HubState) (seat : ℕ) (x : Sitting) (key : Key) (offset : ℕ) (word : FileIn) → Offers v v1 k seat x key offset word → CallsStore word → OthersApart (is_file x.first key) (with_sitting seat (Some x) k) seat
away_for v v1 k seat x key offset F.Have o calls = absurd calls
away_for v v1 k seat x key offset F.Elsewhere o calls = absurd calls
away_for v v1 k seat x key offset F.Late o calls = absurd calls
away_for v v1 k seat x key offset F.Refuse o calls =
    let f = fitted_now v (with_sitting seat (Some x) k) seat o.turn in
    apart_refused f.keeps v.state (with_sitting seat (Some x) k) seat x.first key f.fits o.judged.1
away_for v v1 k seat x key offset F.Whole o calls = apart_by k seat x.first key (Some x) o.judged.0.free
away_for v v1 k seat x key offset F.Go o calls = apart_by k seat x.first key (Some x) o.judged.0.free
away_for v v1 k seat x key offset (F.From place) o calls = apart_by k seat x.first key (Some x) o.judged.0.free

-- No place or no number.

no_mark : (m : Option Mark) (p : Option (MarkOf ℕ)) → draws_number (option_map (mark_map length) m) p ≡ true → m ≡ None
no_mark None p e = refl
no_mark (Some m) p e = absurd (let clash : false ≡ true = e in cc)

ended_drawn : (a : Stored) (s : StoreState) (k : HubState) (seat : ℕ) (x : Sitting) → Offered a s k seat x → (ended x.first x.hold s).drawn ≡ s.drawn
ended_drawn a s k seat x o = ap (λ (n : Node). n.drawn) (released_is a s (with_sitting seat (Some x) k) seat x o.sits)

-- the cause, at the node that is released
Cause : (a : Stored) (s : StoreState) (k : HubState) (seat : ℕ) (x : Sitting) (key : Key) (answer : FileAnswer) → Type 0
Cause a s k seat x key answer =
    LacksRoom (released_node a s k seat x) (wanted_places answer (mark_length (session_over a.stock x) key (released_node a s k seat x)) key.size)
    ⊎ ((draws answer ≡ true) × (mark_of x.first key (released_node a s k seat x).state ≡ None) × (s.drawn ≡ MAX_NUMBER))

opens_cause : (a : Stored) (s : StoreState) (k : HubState) (seat : ℕ) (x : Sitting) (key : Key) (answer : FileAnswer) (places : ℕ) → Offered a s k seat x → draws answer ≡ true → wanted_places answer (mark_length (session_over a.stock x) key (released_node a s k seat x)) key.size ≡ places → OpensFull x.first key places (ended x.first x.hold s) → Cause a s k seat x key answer
unfolding Cause
opens_cause a s k seat x key answer places o draws is (inl lacks) = inl (subst (λ (n : ℕ). LacksRoom (released_node a s k seat x) n) (sym is) lacks)
opens_cause a s k seat x key answer places o draws is (inr last) =
    inr (draws, no_mark (mark_of x.first key (ended_stored x.first x.hold s a).stock.state) (part_of x.first key (ended x.first x.hold s).stock.parts) (subst (λ (m : Option (MarkOf ℕ)). draws_number m (part_of x.first key (ended x.first x.hold s).stock.parts) ≡ true) (marks_are (ended_stored x.first x.hold s a) (ended x.first x.hold s) x.first key (ended_sizes a s x.first x.hold o.sits.fits.stock)) last.0), sym (ended_drawn a s k seat x o) ∙ last.1)

finds_cause : (a : Stored) (s : StoreState) (k : HubState) (seat : ℕ) (x : Sitting) (key : Key) (offset : ℕ) (word : FileIn) → Offered a s k seat x → FindsNone word key (unheld_sitting x) (ended x.first x.hold s) → Cause a s k seat x key (word_of word)
unfolding Cause
finds_cause a s k seat x key offset F.Have o none = absurd none
finds_cause a s k seat x key offset F.Elsewhere o none = absurd none
finds_cause a s k seat x key offset F.Late o none = absurd none
finds_cause a s k seat x key offset F.Refuse o none = inl none
finds_cause a s k seat x key offset F.Whole o none = opens_cause a s k seat x key (word_of F.Whole) 1 o refl refl none
finds_cause a s k seat x key offset F.Go o none = opens_cause a s k seat x key (word_of F.Go) (places_from x.first key (ended x.first x.hold s)) o refl (ap (λ (n : ℕ). places_for n key.size) (sym (mark_is a s k seat x key o))) none
finds_cause a s k seat x key offset (F.From place) o none = opens_cause a s k seat x key (word_of (F.From place)) (places_from x.first key (ended x.first x.hold s)) o refl (ap (λ (n : ℕ). places_for n key.size) (sym (mark_is a s k seat x key o))) none

-- the row of a file that finds none
full_row : (a : Stored) (s : StoreState) (k : HubState) (seat : ℕ) (x : Sitting) (key : Key) (offset : ℕ) (word : FileIn) → Offered a s k seat x → Judged seat (unheld_sitting x) key offset word (ended x.first x.hold s) k → FindsNone word key (unheld_sitting x) (ended x.first x.hold s) → FileFull seat key offset (node_with a s (with_sitting seat (Some x) k))
unfolding Cause
full_row a s k seat x key offset word o j none =
    let h = with_sitting seat (Some x) k in
    let f = ended_fits a s h seat x o.sits in
    let is = released_is a s h seat x o.sits in
    record {
      session = session_over a.stock x;
      has = session_is a s h seat x o.sits.sits;
      answer = word_of word;
      applies = subst (Applies seat (unheld (session_over a.stock x)) key offset (word_of word)) is (judged_applies (ended_stored x.first x.hold s a) (ended x.first x.hold s) (ended_hub k seat x) seat (unheld_sitting x) key offset word f.stock f.sound.inbox (judged_put seat (unheld_sitting x) key offset word (ended x.first x.hold s) h (Some (unheld_sitting x)) (judged_put seat (unheld_sitting x) key offset word (ended x.first x.hold s) k (Some x) j)));
      cause = subst (λ (m : Node). LacksRoom m (wanted_places (word_of word) (mark_length (session_over a.stock x) key m) key.size) ⊎ ((draws (word_of word) ≡ true) × (mark_of x.first key m.state ≡ None) × (s.drawn ≡ MAX_NUMBER))) is (finds_cause a s k seat x key offset word o none);
    }

full_stepped : (a : Stored) (s : StoreState) (k : HubState) (seat : ℕ) (x : Sitting) (key : Key) (offset : ℕ) (word : FileIn) → Offered a s k seat x → Judged seat (unheld_sitting x) key offset word (ended x.first x.hold s) k → FindsNone word key (unheld_sitting x) (ended x.first x.hold s) → Stepped seat (File_call key offset) (Refused Full) s (with_sitting seat (Some x) k) a (counted_full (ended x.first x.hold s)) (ended_hub k seat x)
full_stepped a s k seat x key offset word o j none =
    let h = with_sitting seat (Some x) k in
    let fulls : next_count (ended x.first x.hold s).counts.fulls ≡ next_count s.counts.fulls = ap (λ (c : Counts). next_count c.fulls) (ended_counts x.first x.hold s) in
    record {
      change = ended_stored x.first x.hold s;
      content = ended_content x.first x.hold s;
      step = (o.whole, full_row a s k seat x key offset word o j none, record { session = session_over a.stock x; has = session_is a s h seat x o.sits.sits; after = (λ i. record (released_is a s h seat x o.sits i) { fulls = fulls i }) });
      fits = full_fits (ended_stored x.first x.hold s a) (ended x.first x.hold s) (ended_hub k seat x) (ended_fits a s h seat x o.sits);
      counts = (busy_put h seat (Some (unheld_sitting x)), reads_put h seat (Some (unheld_sitting x)));
    }

memory_stepped : (a : Stored) (s : StoreState) (k : HubState) (seat : ℕ) (x : Sitting) (key : Key) (offset : ℕ) → Offered a s k seat x → Stepped seat (File_call key offset) (Refused No_memory) s (with_sitting seat (Some x) k) a (ended x.first x.hold s) (ended_hub k seat x)
memory_stepped a s k seat x key offset o =
    let h = with_sitting seat (Some x) k in
    record {
      change = ended_stored x.first x.hold s;
      content = ended_content x.first x.hold s;
      step = (o.whole, tt, record { session = session_over a.stock x; has = session_is a s h seat x o.sits.sits; after = released_is a s h seat x o.sits });
      fits = ended_fits a s h seat x o.sits;
      counts = (busy_put h seat (Some (unheld_sitting x)), reads_put h seat (Some (unheld_sitting x)));
    }

-- a refusal is counted once
counted_caused : (s t : StoreState) (call : Call) → MayFindFull call → s.counts.broken ≡ None → t.counts ≡ record s.counts { fulls = next_count s.counts.fulls } → Caused s.counts call (Refused Full) t.counts
counted_caused s t call may whole is =
    let fulls : t.counts.fulls ≡ next_count s.counts.fulls = ap (λ (c : Counts). c.fulls) is in
    (may, whole, subst (λ (n : ℕ). Increased s.counts.fulls n) (sym fulls) (rose_full s.counts.fulls), is ∙ ap (λ (n : ℕ). record s.counts { fulls = n }) (sym fulls))

-- The store refused what was judged.
pub file_refused : (v v1 w : StoreStand) (k : HubState) (seat : ℕ) (x y : Sitting) (key : Key) (offset : ℕ) (word : FileIn) (fault : StoreFault) → Offers v v1 k seat x key offset word → RefusedBy (OneMade v1.state.content (MayBeMade word key (unheld_sitting x) v1.state) (answered_state word key (Rattle.node_model.specs.Rows.reason k.settings key) (unheld_sitting x) v1.state).content) (is_file x.first key) (FindsNone word key (unheld_sitting x) v1.state) fault v1.state w.state → CallsStore word → y ≡ unheld_sitting x → Leaves (OneMade v1.state.content (MayBeMade word key (unheld_sitting x) v1.state) (answered_state word key (Rattle.node_model.specs.Rows.reason k.settings key) (unheld_sitting x) v1.state).content) v1 w → StaysSettled v1 w → Does v (with_sitting seat (Some x) k) seat (File_call key offset) (Refused (fault_in fault w.state.counts.faults)) w (with_sitting seat (Some y) k)
file_refused v v1 w k seat x y key offset word D.Disk o r calls same l settled =
    let h = with_sitting seat (Some x) k in
    let P = ShelfPasses v.state.content v.state h seat (File_call key offset) in
    let b1 = broke_as _ P (is_file x.first key) v1.state w.state (second_passes v v1 k seat x key offset word o) r in
    let b : Broke P (is_file x.first key) v.state w.state = broke_behind P (is_file x.first key) v.state w.state x.first x.hold (subst (λ (s : StoreState). Broke P (is_file x.first key) s w.state) o.ends b1) in
    broken_does P (is_file x.first key) v w h (with_sitting seat (Some y) k) seat (File_call key offset) o.turn b (away_for v v1 k seat x key offset word o calls) (λ d p. p) (λ skips. skips) (same_put k seat x y (ap unheld_sitting same)) (file_leaves v v1 w k seat x key offset word o l) (part_filed k seat x y key offset (Refused (Disk w.state.counts.faults)) (ap (λ (z : Sitting). taken_part z.hold) same) (ap (λ (z : Sitting). z.claim) same)) (given_as k seat (Some x) (Some y) o.turn.ready.given)
file_refused v v1 w k seat x y key offset word D.Read o r calls same l settled = absurd r
file_refused v v1 w k seat x y key offset word D.Full o r calls same l settled =
    let h = with_sitting seat (Some x) k in
    let f = fitted_now v h seat o.turn in
    let after : w.state ≡ counted_full (ended x.first x.hold v.state) = r.1 ∙ ap counted_full o.ends in
    let counts : w.state.counts ≡ record v.state.counts { fulls = next_count v.state.counts.fulls } = ap (λ (s : StoreState). s.counts) after ∙ ap (λ (c : Counts). record c { fulls = next_count c.fulls }) (ended_counts x.first x.hold v.state) in
    let whole1 = ap (λ (s : StoreState). s.counts.broken) o.ends ∙ (ap (λ (c : Counts). c.broken) (ended_counts x.first x.hold v.state) ∙ o.turn.whole) in
    made_does v w h (with_sitting seat (Some y) k) seat (File_call key offset) (Refused Full) o.turn (counted_caused v.state w.state (File_call key offset) tt o.turn.whole counts)
    (placed_at seat _ _ v.state h f.keeps (counted_full (ended x.first x.hold v.state)) w.state (ended_hub k seat x) (with_sitting seat (Some y) k) after (at_end k seat x y same) (full_stepped f.keeps v.state k seat x key offset word (offered v v1 k seat x key offset word o) (judged_ended v v1 k seat x key offset word o) (subst (λ (s : StoreState). FindsNone word key (unheld_sitting x) s) o.ends r.0)))
    (file_leaves v v1 w k seat x key offset word o l)
    (settled (o.settled (o.turn.ready.settled o.turn.whole) whole1) (ap (λ (c : Counts). c.broken) counts ∙ o.turn.whole))
    (part_filed k seat x y key offset (Refused Full) (ap (λ (z : Sitting). taken_part z.hold) same) (ap (λ (z : Sitting). z.claim) same))
    (own_again seat (Some x) (Some y) k w (ap (λ (s : StoreState). s.seat) after ∙ (ended_seat x.first x.hold v.state ∙ o.turn.seat_is)))
file_refused v v1 w k seat x y key offset word D.NoMemory o r calls same l settled =
    let h = with_sitting seat (Some x) k in
    let f = fitted_now v h seat o.turn in
    let after : w.state ≡ ended x.first x.hold v.state = r ∙ o.ends in
    let counts : w.state.counts ≡ v.state.counts = ap (λ (s : StoreState). s.counts) after ∙ ended_counts x.first x.hold v.state in
    let whole1 = ap (λ (s : StoreState). s.counts.broken) o.ends ∙ (ap (λ (c : Counts). c.broken) (ended_counts x.first x.hold v.state) ∙ o.turn.whole) in
    made_does v w h (with_sitting seat (Some y) k) seat (File_call key offset) (Refused No_memory) o.turn (tt, o.turn.whole, counts)
    (placed_at seat _ _ v.state h f.keeps (ended x.first x.hold v.state) w.state (ended_hub k seat x) (with_sitting seat (Some y) k) after (at_end k seat x y same) (memory_stepped f.keeps v.state k seat x key offset (offered v v1 k seat x key offset word o)))
    (file_leaves v v1 w k seat x key offset word o l)
    (settled (o.settled (o.turn.ready.settled o.turn.whole) whole1) (ap (λ (c : Counts). c.broken) counts ∙ o.turn.whole))
    (part_filed k seat x y key offset (Refused No_memory) (ap (λ (z : Sitting). taken_part z.hold) same) (ap (λ (z : Sitting). z.claim) same))
    (own_again seat (Some x) (Some y) k w (ap (λ (s : StoreState). s.seat) after ∙ (ended_seat x.first x.hold v.state ∙ o.turn.seat_is)))
