-- Acts and gives: a flag of an entry or of a receipt.
use Rattle.std.proofs.Common.{◌≡◌, ℕ, Bool, true, false, ◌==◌, ◌||◌, if◌then◌else◌, List, [], ◌∷◌, Option, Some, None, map, refl, sym, ap, ◌∙◌, subst, inl, inr}
use Rattle.ftn_addr.specs.Address.{Address}
use Rattle.ftn_addr.specs.Key.{Key}
use Rattle.node_model.specs.Items.{Entry}
use Rattle.node_model.specs.Items.{Receipt}
use Rattle.node_model.specs.Lists.{Member, Each, some_passes}
use Rattle.ftn_addr.specs.Files.{is_same}
use Rattle.node_model.specs.Durable.{Durable, is_known, is_refused, acted_entry, all_acted, with_acted, given_receipt, answered_receipt}
use Rattle.node_model.specs.Node.{Hold, Session, Seat, Settings, Node, seat_in, hold_in}
use Rattle.node_model.specs.Rows.{refuses}
use Rattle.node_model.specs.SendRows.{NewFile, Slot, QueueRow, ActRow, GiveRow}
use Rattle.world_pair.specs.World.{GivenFile, Place, Still, addresses}
use Rattle.world_pair.specs.Law.{WasQueued}
use Rattle.node_model.specs.Sound.{Distinct, same_receipt}
use Rattle.world_pair.proofs.Inbound.{inbound_fewer}
use Rattle.world_pair.proofs.Line.{line_later}
use Rattle.world_pair.proofs.Half.{works_apart}
use Rattle.world_pair.proofs.Receives.{other_queue}
use Rattle.world_pair.specs.Invariant.{Carries, EntryIs, InboxHolds, LineHolds, QueueHolds, ReceiptHolds, SettledStands, given_as, session_of, sits_at, unless_broken, working_hold, working_session_of}

-- an entry that is alike but for its flag
record Alike (e f : Entry) : Type 0 where
  number : f.number ≡ e.number
  key : f.key ≡ e.key
  dest : f.dest ≡ e.dest
  body : f.body ≡ e.body

acted_alike : (number : ℕ) (e : Entry) → Alike e (acted_entry number e)
acted_alike number e = go (e.number == number)
  where
    go : (b : Bool) → Alike e (if b then record e { acted = true } else e)
    go true = record { number = refl; key = refl; dest = refl; body = refl }
    go false = record { number = refl; key = refl; dest = refl; body = refl }

acted_was : (number : ℕ) (queue : List Entry) (e : Entry) → Member e (all_acted number queue) → (old : Entry) × Member old queue × Alike old e
acted_was number [] e m = absurd m
acted_was number (x ∷ xs) e (inl same) = (x, inl refl, subst (Alike x) (sym same) (acted_alike number x))
acted_was number (x ∷ xs) e (inr m) = let r = acted_was number xs e m in (r.0, inr r.1, r.2)

acted_stays : (number : ℕ) (queue : List Entry) (e : Entry) → Member e queue → Member (acted_entry number e) (all_acted number queue)
acted_stays number [] e m = absurd m
acted_stays number (x ∷ xs) e (inl same) = inl (ap (acted_entry number) same)
acted_stays number (x ∷ xs) e (inr m) = inr (acted_stays number xs e m)

sent_alike : (files : List GivenFile) (e f : Entry) (bytes : List ℕ) → Alike e f → Member (given_as e bytes) files → Member (given_as f bytes) files
sent_alike files e f bytes a m = subst (λ (q : Address × Key). Member (record { dest = q.0; key = q.1; bytes = bytes }) files) (λ i. (sym a.dest i, sym a.key i)) m

outbound_acted : (files : List GivenFile) (queue : List Entry) (number : ℕ) → QueueHolds files queue → QueueHolds files (all_acted number queue)
outbound_acted files queue number o =
    record {
      sizes = o.sizes;
      listed = λ e m. let w = acted_was number queue e m in let l = o.listed w.0 w.1 in (l.0, sent_alike files w.0 e l.0 w.2 l.1);
      live = λ e bytes m b. let w = acted_was number queue e m in sent_alike files w.0 e bytes w.2 (o.live w.0 bytes w.1 (sym w.2.body ∙ b));
      numbers = λ e f m k same.
          let a = acted_was number queue e m in
          let b = acted_was number queue f k in
          let h = o.numbers a.0 b.0 a.1 b.1 (sym a.2.number ∙ (same ∙ b.2.number)) in
          (a.2.key ∙ (h.0 ∙ sym b.2.key), a.2.dest ∙ (h.1 ∙ sym b.2.dest));
    }

entry_acted : (queue : List Entry) (dests : List Address) (acted number : ℕ) (key : Key) → EntryIs queue dests number key → EntryIs (all_acted acted queue) dests number key
entry_acted queue dests acted number key h =
    record {
      entry = acted_entry acted h.entry;
      there = acted_stays acted queue h.entry h.there;
      numbered = (acted_alike acted h.entry).number ∙ h.numbered;
      each = λ e m n. let w = acted_was acted queue e m in let g = h.each w.0 w.1 (sym w.2.number ∙ n) in (w.2.key ∙ g.0, subst (λ a. Member a dests) (sym w.2.dest) g.1);
    }

settled_acted : (dests : List Address) (from : Address) (kept : Durable) (queue : List Entry) (number : ℕ) → Each (SettledStands dests from kept) queue → Each (SettledStands dests from kept) (all_acted number queue)
settled_acted dests from kept [] number h = tt
settled_acted dests from kept (e ∷ es) number h =
    let a = acted_alike number e in
    ((λ done. let b = h.0 (sym a.body ∙ done) in (subst (λ d. Member d dests) (sym a.dest) b.0, subst (λ k. is_known from k kept ≡ true) (sym a.key) b.1)), settled_acted dests from kept es number h.1)

pub acts_sends : (X Y : Place) (seat number : ℕ) (dest : Address) (m : Node) → ActRow seat dest number X.node m → Carries X Y → Carries (record X { node = m }) Y
acts_sends X Y seat number dest m row half =
    subst (λ x. Carries (record X { node = x }) Y) (sym row.after)
    (record {
      outbound = outbound_acted X.queued X.node.state.queue number half.outbound;
      peers = half.peers;
      inbound = half.inbound;
      settled = settled_acted (addresses Y) X.first Y.node.state X.node.state.queue number half.settled;
      lines = λ k. line_later X.queued (addresses Y) X.first X.node.state.queue (all_acted number X.node.state.queue) Y.node.state Y.node.state (X.ends k) (session_of X.node (X.ends k)) (Y.ends k) (working_session_of Y.node (Y.ends k)) (entry_acted X.node.state.queue (addresses Y) number) (λ _ known. known) (half.lines k);
    })

pub acts_receives : (X Y : Place) (seat number : ℕ) (dest : Address) (m : Node) → ActRow seat dest number Y.node m → Carries X Y → Carries X (record Y { node = m })
acts_receives X Y seat number dest m row half =
    subst (λ x. Carries X (record Y { node = x })) (sym row.after)
    (record {
      outbound = half.outbound;
      peers = half.peers;
      inbound = other_queue X.queued (addresses Y) X.first (refuses Y.node.settings) Y.node.state (all_acted number Y.node.state.queue) (working_hold Y.node) half.inbound;
      settled = half.settled;
      lines = λ k. line_later X.queued (addresses Y) X.first X.node.state.queue X.node.state.queue Y.node.state (with_acted number Y.node.state) (X.ends k) (session_of X.node (X.ends k)) (Y.ends k) (working_session_of Y.node (Y.ends k)) (λ _ _ is. is) (λ _ known. known) (half.lines k);
    })

-- gives

record AlikeReceipt (r q : Receipt) : Type 0 where
  from : q.from ≡ r.from
  key : q.key ≡ r.key
  bytes : q.bytes ≡ r.bytes

given_alike : (number : ℕ) (r : Receipt) → AlikeReceipt r (given_receipt number r)
given_alike number r = go (r.number == number)
  where
    go : (b : Bool) → AlikeReceipt r (if b then record r { given = true } else r)
    go true = record { from = refl; key = refl; bytes = refl }
    go false = record { from = refl; key = refl; bytes = refl }

answered_alike : (number : ℕ) (r : Receipt) → AlikeReceipt r (answered_receipt number r)
answered_alike number r = go (r.number == number)
  where
    go : (b : Bool) → AlikeReceipt r (if b then record r { answered = true } else r)
    go true = record { from = refl; key = refl; bytes = refl }
    go false = record { from = refl; key = refl; bytes = refl }

-- receipts whose flags change
abbrev Flags : (Receipt → Receipt) → Type 0
Flags f = (r : Receipt) → AlikeReceipt r (f r)

passes_flagged : (f : Receipt → Receipt) → Flags f → (from : Address) (key : Key) (rs : List Receipt) → some_passes (λ (q : Receipt). is_same from key q.from q.key) (map f rs) ≡ some_passes (λ (q : Receipt). is_same from key q.from q.key) rs
passes_flagged f flags from key [] = refl
passes_flagged f flags from key (r ∷ rs) = let a = flags r in let h = passes_flagged f flags from key rs in λ i. is_same from key (a.from i) (a.key i) || h i

known_flagged : (f : Receipt → Receipt) → Flags f → (from : Address) (key : Key) (d : Durable) (queue : List Entry) → is_known from key (record d { queue = queue; inbox = map f d.inbox }) ≡ is_known from key d
known_flagged f flags from key d queue = ap (λ b. b || is_refused from key d) (passes_flagged f flags from key d.inbox)

once_flagged : (f : Receipt → Receipt) → Flags f → (rs : List Receipt) → Distinct same_receipt rs → Distinct same_receipt (map f rs)
once_flagged f flags [] h = tt
once_flagged f flags (r ∷ rs) h =
    let a = flags r in
    let p = passes_flagged f flags r.from r.key rs in
    (subst (λ (q : Address × Key). some_passes (λ (x : Receipt). is_same q.0 q.1 x.from x.key) (map f rs) ≡ false) (λ i. (sym a.from i, sym a.key i)) (p ∙ h.0), once_flagged f flags rs h.1)

items_flagged : (f : Receipt → Receipt) → Flags f → (files : List GivenFile) (dests : List Address) (from : Address) (rs : List Receipt) → Each (ReceiptHolds files dests from) rs → Each (ReceiptHolds files dests from) (map f rs)
items_flagged f flags files dests from [] h = tt
items_flagged f flags files dests from (r ∷ rs) h =
    let a = flags r in
    let o = h.0 in
    (record { from_is = a.from ∙ o.from_is; bytes = o.bytes; kept = a.bytes ∙ o.kept; queued = subst (λ k. WasQueued files dests k o.bytes) (sym a.key) o.queued }, items_flagged f flags files dests from rs h.1)

inbound_flagged : (f : Receipt → Receipt) → Flags f → (files : List GivenFile) (dests : List Address) (from : Address) (refuse : Key → Bool) (d : Durable) (queue : List Entry) (holds : ℕ → Option Hold) → InboxHolds files dests from refuse d holds → InboxHolds files dests from refuse (record d { queue = queue; inbox = map f d.inbox }) holds
inbound_flagged f flags files dests from refuse d queue holds i =
    record {
      once = once_flagged f flags d.inbox i.once;
      items = items_flagged f flags files dests from d.inbox i.items;
      marks = i.marks;
      each_hold = λ k h e. let o = i.each_hold k h e in record { from_is = o.from_is; unknown = known_flagged f flags from h.key d queue ∙ o.unknown; wanted = o.wanted; front = o.front };
      apart = i.apart;
    }

-- a step of the receiver that changes its queue and flags of its receipts alone
flagged_receives : (f : Receipt → Receipt) → Flags f → (X Y : Place) (queue : List Entry) (m : Node) (queued : List GivenFile) → m.state ≡ record (Y.node.state) { queue = queue; inbox = map f Y.node.state.inbox } → m.settings ≡ Y.node.settings → m.broken ≡ Y.node.broken → m.seats ≡ Y.node.seats → Carries X Y → Carries X (record Y { node = m; queued = queued })
flagged_receives f flags X Y queue m queued state settings broken seats half =
    let known : (key : Key) → is_known X.first key Y.node.state ≡ true → is_known X.first key m.state ≡ true = λ key k. ap (is_known X.first key) state ∙ (known_flagged f flags X.first key Y.node.state queue ∙ k) in
    record {
      outbound = half.outbound;
      peers = half.peers;
      inbound = subst (λ (q : Durable × Settings × Option ℕ × List Seat). InboxHolds X.queued (addresses Y) X.first (refuses q.1) q.0 (λ k. hold_in (unless_broken q.2 (seat_in q.3 k).session))) (λ i. (sym state i, sym settings i, sym broken i, sym seats i)) (inbound_flagged f flags X.queued (addresses Y) X.first (refuses Y.node.settings) Y.node.state queue (working_hold Y.node) half.inbound);
      settled = settled known X.node.state.queue half.settled;
      lines = λ k. subst (λ (r : Option Session). LineHolds X.queued (addresses Y) X.first X.node.state.queue m.state (X.ends k) (session_of X.node (X.ends k)) (Y.ends k) r) (λ i. unless_broken (sym broken i) (same_sits (Y.ends k).seat i))
          (line_later X.queued (addresses Y) X.first X.node.state.queue X.node.state.queue Y.node.state m.state (X.ends k) (session_of X.node (X.ends k)) (Y.ends k) (working_session_of Y.node (Y.ends k)) (λ _ _ is. is) known (half.lines k));
    }
  where
    settled : ((key : Key) → is_known X.first key Y.node.state ≡ true → is_known X.first key m.state ≡ true) → (es : List Entry) → Each (SettledStands (addresses Y) X.first Y.node.state) es → Each (SettledStands (addresses Y) X.first m.state) es
    settled known [] h = tt
    settled known (e ∷ es) h = ((λ done. let a = h.0 done in (a.0, known e.key a.1)), settled known es h.1)

    same_sits : (o : Option ℕ) → sits_at Y.node o ≡ sits_at m o
    same_sits None = refl
    same_sits (Some k) = ap (λ (x : List Seat). (seat_in x k).session) (sym seats)

map_same : (rs : List Receipt) → map (λ (r : Receipt). r) rs ≡ rs
map_same [] = refl
map_same (r ∷ rs) = ap (λ l. r ∷ l) (map_same rs)

pub queues_receives : (X Y : Place) (seat : ℕ) (files : List NewFile) (taken answered : Option ℕ) (slots : List Slot) (m : Node) (queued : List GivenFile) → QueueRow seat files taken answered slots Y.node m → Carries X Y → Carries X (record Y { node = m; queued = queued })
queues_receives X Y seat files taken None slots m queued row half =
    flagged_receives (λ (r : Receipt). r) (λ r. record { from = refl; key = refl; bytes = refl }) X Y row.queue m queued (ap (λ (x : Node). x.state) row.after ∙ ap (λ l. record (Y.node.state) { queue = row.queue; inbox = l }) (sym (map_same Y.node.state.inbox))) (ap (λ (x : Node). x.settings) row.after) (ap (λ (x : Node). x.broken) row.after) (ap (λ (x : Node). x.seats) row.after) half
queues_receives X Y seat files taken (Some number) slots m queued row half =
    flagged_receives (answered_receipt number) (answered_alike number) X Y row.queue m queued (ap (λ (x : Node). x.state) row.after) (ap (λ (x : Node). x.settings) row.after) (ap (λ (x : Node). x.broken) row.after) (ap (λ (x : Node). x.seats) row.after) half

pub gives_sends : (X Y : Place) (number : ℕ) (m : Node) → GiveRow number X.node m → Carries X Y → Carries (record X { node = m }) Y
gives_sends X Y number m row half = subst (λ x. Carries (record X { node = x }) Y) (sym row.after) (record { outbound = half.outbound; peers = half.peers; inbound = half.inbound; settled = half.settled; lines = half.lines })

pub gives_receives : (X Y : Place) (number : ℕ) (m : Node) → GiveRow number Y.node m → Carries X Y → Carries X (record Y { node = m })
gives_receives X Y number m row half =
    flagged_receives (given_receipt number) (given_alike number) X Y Y.node.state.queue m Y.queued (ap (λ (x : Node). x.state) row.after) (ap (λ (x : Node). x.settings) row.after) (ap (λ (x : Node). x.broken) row.after) (ap (λ (x : Node). x.seats) row.after) half

-- a call by which nothing changes that is kept, nor a session

same_sessions : (n m : Node) → Still n m → (o : Option ℕ) → sits_at n o ≡ sits_at m o
same_sessions n m s None = refl
same_sessions n m s (Some k) = sym (s.sessions k)

pub still_sends : (X Y : Place) (m : Node) → Still X.node m → Carries X Y → Carries (record X { node = m }) Y
still_sends X Y m s half =
    record {
      outbound = subst (λ (d : Durable). QueueHolds X.queued d.queue) (sym s.state) half.outbound;
      peers = λ k t has. half.peers k t (sym (s.sessions k) ∙ has);
      inbound = half.inbound;
      settled = subst (λ (d : Durable). Each (SettledStands (addresses Y) X.first Y.node.state) d.queue) (sym s.state) half.settled;
      lines = λ k. subst (λ (q : Durable × Option Session). LineHolds X.queued (addresses Y) X.first q.0.queue Y.node.state (X.ends k) q.1 (Y.ends k) (working_session_of Y.node (Y.ends k))) (λ i. (sym s.state i, same_sessions X.node m s (X.ends k).seat i)) (half.lines k);
    }

pub still_receives : (X Y : Place) (m : Node) → Still Y.node m → Carries X Y → Carries X (record Y { node = m })
still_receives X Y m s half =
    record {
      outbound = half.outbound;
      peers = half.peers;
      inbound = inbound_fewer X.queued (addresses Y) X.first (refuses m.settings) m.state (working_hold Y.node) (working_hold m) (λ k h e. sym (ap hold_in (works_apart Y.node m k s.broken (s.sessions k))) ∙ e) (subst (λ (q : Durable × Settings). InboxHolds X.queued (addresses Y) X.first (refuses q.1) q.0 (working_hold Y.node)) (λ i. (sym s.state i, sym s.settings i)) half.inbound);
      settled = subst (λ (d : Durable). Each (SettledStands (addresses Y) X.first d) X.node.state.queue) (sym s.state) half.settled;
      lines = λ k. subst (λ (q : Durable × Option Session). LineHolds X.queued (addresses Y) X.first X.node.state.queue q.0 (X.ends k) (session_of X.node (X.ends k)) (Y.ends k) q.1) (λ i. (sym s.state i, unless_broken (sym s.broken i) (same_sessions Y.node m s (Y.ends k).seat i))) (half.lines k);
    }
