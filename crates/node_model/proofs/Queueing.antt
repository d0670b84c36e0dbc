-- Queueing and acting: what each queued file keeps.
use Rattle.std.proofs.Common.{◌≡◌, ℕ, ◌≤◌, ◌<◌, Bool, true, false, ◌==◌, if◌then◌else◌, List, [], ◌∷◌, ◌++◌, Option, Some, None, map, length, refl, sym, ◌∙◌, subst, arith}
use Rattle.ftn_addr.specs.Address.{Address}
use Rattle.ftn_addr.specs.Key.{Key}
use Rattle.ftn_addr.specs.Files.{is_same}
use Rattle.node_model.specs.Items.{Body, Done, Entry}
use Rattle.node_model.specs.Lists.{Member, Each}
use Rattle.node_model.specs.Durable.{Durable, done_entry, acted_entry, all_acted, all_answered, answered_receipt}
use Rattle.node_model.specs.Node.{Node, peers}
use Rattle.node_model.specs.SendRows.{NewFile, Slot, Enqueued, No_more, Stands, Fresh, is_queued, live_entry, QueueRow, ActRow}
use Rattle.node_model.specs.Sound.{same_entry, same_number, FitsKey, SoundQueue}
use Rattle.node_model.proofs.Lists.{is_same_flip, Each-append, Each-weaker, Member-append}
use Rattle.node_model.proofs.Distinct.{apart_numbers, each_map, each_none, distinct_map, distinct_push, member_map}
use Rattle.node_model.proofs.Changes.{answered_flags}
use Rattle.node_model.proofs.StoreChanges.{store_flagged}
use Rattle.node_model.proofs.HoldChanges.{seat_flagged, seat_queued}
use Rattle.node_model.proofs.Seats.{ClaimFits, StoreFits, NodeFits, seats_same}

-- Entries that change in place.

pub record SameEntry (e f : Entry) : Type 0 where
  pub number : f.number ≡ e.number
  pub dest : f.dest ≡ e.dest
  pub key : f.key ≡ e.key

pub queue_map : (f : Entry → Entry) → ((e : Entry) → SameEntry e (f e)) → ((e : Entry) → FitsKey e.key e.body → FitsKey (f e).key (f e).body) → (queue : List Entry) → SoundQueue queue → SoundQueue (map f queue)
queue_map f same fits queue q =
    record {
      entries = distinct_map same_entry f queue (λ x y. let a = same x in let b = same y in λ i. is_same (a.dest i) (a.key i) (b.dest i) (b.key i)) q.entries;
      numbers = distinct_map same_number f queue (λ x y. let a = same x in let b = same y in λ i. a.number i == b.number i) q.numbers;
      sizes = each_map (λ (e : Entry). FitsKey e.key e.body) (λ (e : Entry). FitsKey e.key e.body) f queue fits q.sizes;
    }

pub staged_map : (f : Entry → Entry) → ((e : Entry) → SameEntry e (f e)) → (staged : ℕ) (queue : List Entry) → Each (λ (e : Entry). e.number ≤ staged) queue → Each (λ (e : Entry). e.number ≤ staged) (map f queue)
staged_map f same staged queue a = each_map (λ (e : Entry). e.number ≤ staged) (λ (e : Entry). e.number ≤ staged) f queue (λ e p. subst (λ x. x ≤ staged) (sym (same e).number) p) a

pub done_same : (number : ℕ) (e : Entry) → SameEntry e (done_entry number e)
done_same number e = go (e.number == number)
  where
    go : (b : Bool) → SameEntry e (if b then record e { body = Done } else e)
    go true = record { number = refl; dest = refl; key = refl }
    go false = record { number = refl; dest = refl; key = refl }

pub done_fits : (number : ℕ) (e : Entry) → FitsKey e.key e.body → FitsKey (done_entry number e).key (done_entry number e).body
done_fits number e fits = go (e.number == number)
  where
    go : (b : Bool) → let x : Entry = if b then record e { body = Done } else e in FitsKey x.key x.body
    go true = tt
    go false = fits

pub acted_same : (number : ℕ) (e : Entry) → SameEntry e (acted_entry number e)
acted_same number e = go (e.number == number)
  where
    go : (b : Bool) → SameEntry e (if b then record e { acted = true } else e)
    go true = record { number = refl; dest = refl; key = refl }
    go false = record { number = refl; dest = refl; key = refl }

acted_body : (number : ℕ) (e : Entry) → (acted_entry number e).body ≡ e.body
acted_body number e = go (e.number == number)
  where
    go : (b : Bool) → (if b then record e { acted = true } else e).body ≡ e.body
    go true = refl
    go false = refl

pub acted_fits : (number : ℕ) (e : Entry) → FitsKey e.key e.body → FitsKey (acted_entry number e).key (acted_entry number e).body
acted_fits number e x = let a = acted_same number e in subst (λ (q : Key × Body). FitsKey q.0 q.1) (λ i. (sym a.key i, sym (acted_body number e) i)) x

-- the queue with another in its place
pub store_queue : (d : Durable) (queue : List Entry) (staged staged' drawn : ℕ) → SoundQueue queue → Each (λ (e : Entry). e.number ≤ staged') queue → StoreFits d staged drawn → StoreFits (record d { queue = queue }) staged' drawn
store_queue d queue staged staged' drawn q numbers f =
    record { queue = q; inbox = record { once = f.inbox.once; not_refused = f.inbox.not_refused; refused_once = f.inbox.refused_once; marks_once = f.inbox.marks_once; marks_new = f.inbox.marks_new; mark_sizes = f.inbox.mark_sizes; sizes = f.inbox.sizes }; marks = f.marks; receipts = f.receipts; apart = f.apart; marks_drawn = f.marks_drawn; receipts_drawn = f.receipts_drawn; queue_staged = numbers; drawn_few = f.drawn_few }

-- claimed entries that are there still
pub claims_on : (d e : List Entry) (others : List Address) (places : ℕ) → ((x : Entry) → Member x d → (y : Entry) × Member y e × (y.number ≡ x.number) × (y.body ≡ x.body) × (y.dest ≡ x.dest)) → (o : Option ℕ) → ClaimFits d others places o → ClaimFits e others places o
claims_on d e others places there None c = tt
claims_on d e others places there (Some number) c =
    let t = there c.entry c.there in
    record { entry = t.0; there = t.1; numbered = t.2 ∙ c.numbered; bytes = c.bytes; live = t.3 ∙ c.live; for_peer = subst (λ a. Member a others) (sym t.4) c.for_peer; place = c.place }

-- Act.

pub act-fits : (n m : Node) (seat : ℕ) (dest : Address) (number : ℕ) → ActRow seat dest number n m → NodeFits n → NodeFits m
act-fits n m seat dest number row f =
    let room = row.room in
    subst NodeFits (sym row.after)
    (record {
      store = store_queue n.state (all_acted number n.state.queue) n.staged n.staged n.drawn (queue_map (acted_entry number) (acted_same number) (acted_fits number) n.state.queue f.store.queue) (staged_map (acted_entry number) (acted_same number) n.staged n.state.queue f.store.queue_staged) f.store;
      seats = seats_same n _ (λ k. refl) (λ k s at o. seat_queued (all_acted number n.state.queue) n.begun n.settings n.state n.drawn s (claims_on n.state.queue (all_acted number n.state.queue) (peers s) s.claim_places (λ x m. let a = acted_same number x in (acted_entry number x, member_map (acted_entry number) x n.state.queue m, a.number, acted_body number x, a.dest)) s.claim o.claim) o) f.seats;
      all = f.all;
      room = omega (arith, room);
    })

-- Queue.

fresh_sound : (f : NewFile) (number : ℕ) (old : List Entry) → length f.bytes ≡ f.key.size → is_queued f.dest f.key old ≡ false → Each (λ (e : Entry). e.number < number) old → SoundQueue old → SoundQueue (old ++ live_entry number f ∷ [])
fresh_sound f number old size none less q =
    record {
      entries = distinct_push same_entry old (live_entry number f) q.entries (Each-weaker (λ (e : Entry). is_same f.dest f.key e.dest e.key ≡ false) (λ (e : Entry). is_same e.dest e.key f.dest f.key ≡ false) (λ e a. is_same_flip f.dest f.key e.dest e.key a) old (each_none (λ (e : Entry). is_same f.dest f.key e.dest e.key) old none));
      numbers = distinct_push same_number old (live_entry number f) q.numbers (Each-weaker (λ (e : Entry). e.number < number) (λ (e : Entry). (e.number == number) ≡ false) (λ e a. apart_numbers e.number number (λ same. omega (arith, a, same))) old less);
      sizes = Each-append (λ (e : Entry). FitsKey e.key e.body) old (live_entry number f ∷ []) q.sizes (size, tt);
    }

enqueued_sound : (files : List NewFile) (slots : List Slot) (old new : List Entry) → Enqueued files slots old new → Each (λ (f : NewFile). length f.bytes ≡ f.key.size) files → SoundQueue old → SoundQueue new
enqueued_sound files slots old new No_more sizes q = q
enqueued_sound files slots old new (Stands {files = fs} {slots = ss} e there same rest) sizes q = enqueued_sound fs ss old new rest sizes.1 q
enqueued_sound files slots old new (Fresh {f = f} {files = fs} {slots = ss} number none less rest) sizes q =
    enqueued_sound fs ss (old ++ live_entry number f ∷ []) new rest sizes.1 (fresh_sound f number old sizes.0 none less q)

enqueued_member : (files : List NewFile) (slots : List Slot) (old new : List Entry) (x : Entry) → Enqueued files slots old new → Member x old → Member x new
enqueued_member files slots old new x No_more m = m
enqueued_member files slots old new x (Stands {files = fs} {slots = ss} e there same rest) m = enqueued_member fs ss old new x rest m
enqueued_member files slots old new x (Fresh {f = f} {files = fs} {slots = ss} number none less rest) m =
    enqueued_member fs ss (old ++ live_entry number f ∷ []) new x rest (Member-append x old (live_entry number f ∷ []) m)

answered_fits : (o : Option ℕ) (n : Node) → NodeFits n → NodeFits (record n { state = record n.state { inbox = all_answered o n.state.inbox } })
answered_fits None n f = f
answered_fits (Some number) n f =
    record {
      store = store_flagged (answered_receipt number) (answered_flags number) n.state n.staged n.drawn f.store;
      seats = seats_same n _ (λ k. refl) (λ k s at o. seat_flagged (answered_receipt number) (answered_flags number) n.begun n.settings n.state n.drawn s o) f.seats;
      all = f.all;
      room = f.room;
    }

pub queue-fits : (n m : Node) (seat : ℕ) (files : List NewFile) (taken answered : Option ℕ) (slots : List Slot) → QueueRow seat files taken answered slots n m → NodeFits n → NodeFits m
queue-fits n m seat files taken answered slots row f =
    let x : Node = record n { state = record n.state { inbox = all_answered answered n.state.inbox } } in
    let g = answered_fits answered n f in
    let room = row.room in
    subst NodeFits (sym row.after)
    (record {
      store = store_queue x.state row.queue n.staged row.staged n.drawn (enqueued_sound files slots n.state.queue row.queue row.queued row.sizes f.store.queue) row.numbers g.store;
      seats = seats_same x _ (λ k. refl) (λ k s at o. seat_queued row.queue n.begun n.settings x.state n.drawn s (claims_on n.state.queue row.queue (peers s) s.claim_places (λ e m. (e, enqueued_member files slots n.state.queue row.queue e row.queued m, refl, refl, refl)) s.claim o.claim) o) g.seats;
      all = f.all;
      room = omega (arith, room);
    })
