-- What a session keeps, after a durable change for another's file.
use Rattle.std.proofs.Common.{◌≡◌, ◌≢◌, ℕ, ◌≤◌, false, List, [], ◌∷◌, Option, Some, None, length, take, refl, sym, ap, ◌∙◌, subst, arith}
use Rattle.ftn_addr.specs.Address.{Address}
use Rattle.ftn_addr.specs.Key.{Key}
use Rattle.ftn_addr.specs.Files.{is_same}
use Rattle.ftn_addr.specs.declared.limits.TheConstants.{MAX_NUMBER}
use Rattle.node_model.specs.Items.{Entry, Receipt, Refusal, Mark}
use Rattle.node_model.specs.Lists.{Each}
use Rattle.node_model.specs.Durable.{Durable, is_known, mark_of, bytes_of_mark, marked, unmarked, with_mark, with_receipt, with_refusal}
use Rattle.node_model.specs.Node.{Hold, Session, Settings, peers}
use Rattle.node_model.specs.Rows.{places_for}
use Rattle.node_model.specs.Receipts.{SameReceipt}
use Rattle.node_model.proofs.Lists.{off, is_false, is_same_true, is_same_at, is_same_flip, Each-append, Each-without, Each-weaker}
use Rattle.node_model.proofs.Marks.{Each-placed, find_without, mark_other}
use Rattle.node_model.proofs.StoreChanges.{known_after_receipt, known_after_refusal, flagged, known_flagged, numbers_flagged}
use Rattle.node_model.proofs.Seats.{NumbersAgree, HoldSound, HoldFits, HoldsApart, ClaimFits, SeatFits, StoreFits}

-- what is held is another file
abbrev pub FileBeside : Address → Key → Option Hold → Type 0
FileBeside from key None = Unit {0}
FileBeside from key (Some h) = is_same from key h.from h.key ≡ false

-- and has another number
abbrev pub Beside : Address → Key → ℕ → Option Hold → Type 0
Beside from key number None = Unit {0}
Beside from key number (Some h) = (is_same from key h.from h.key ≡ false) × (number ≢ h.number)

pub beside : (g : Hold) (o : Option Hold) → HoldsApart (Some g) o → Beside g.from g.key g.number o
beside g None a = tt
beside g (Some h) a = (a.files, a.numbers)

-- the mark of another file stays
marks_without : (from : Address) (key : Key) (other : Address) (k : Key) (d : Durable) → is_same from key other k ≡ false → mark_of other k (record d { marks = unmarked from key d.marks }) ≡ mark_of other k d
marks_without from key other k d apart =
    find_without (λ (x : Mark). is_same from key x.from x.key) (λ (x : Mark). is_same other k x.from x.key) d.marks
    (λ x q. is_false _ (λ p. let a = is_same_true other k x.from x.key q in let b = is_same_true from key x.from x.key p in off (sym (is_same_at from key other k (b.0 ∙ sym a.0) (b.1 ∙ sym a.1)) ∙ apart)))

-- a hold of which all stays but the state
hold_on : (settings : Settings) (d e : Durable) (drawn drawn' : ℕ) (first : Address) (places : ℕ) (h : Hold) → marked h.from h.key e ≡ marked h.from h.key d → is_known h.from h.key e ≡ false → Each (NumbersAgree h.from h.key h.number) e.marks → Each (λ (r : Receipt). r.number ≢ h.number) e.inbox → drawn ≤ drawn' → HoldSound settings d drawn first places h → HoldSound settings e drawn' first places h
hold_on settings d e drawn drawn' first places h same new marks receipts more o =
    record {
      from_first = o.from_first;
      new = new;
      wanted = o.wanted;
      stored = o.stored;
      begins = subst (λ b. take (length b) h.bytes ≡ b) (sym same) o.begins;
      fits = o.fits;
      marks = marks;
      receipts = receipts;
      some = o.some;
      was_drawn = let a = o.was_drawn in omega (arith, a, more);
      places_left = subst (λ b. places_for (length b) h.key.size ≤ places) (sym same) o.places_left;
    }

le_self : (n : ℕ) → n ≤ n
le_self n = omega arith

hold_marked : (settings : Settings) (m : Mark) (d : Durable) (drawn : ℕ) (first : Address) (places : ℕ) (h : Hold) → is_same m.from m.key h.from h.key ≡ false → m.number ≢ h.number → HoldSound settings d drawn first places h → HoldSound settings (with_mark m d) drawn first places h
hold_marked settings m d drawn first places h files numbers o =
    let apart = is_same_flip m.from m.key h.from h.key files in
    hold_on settings d (with_mark m d) drawn drawn first places h (ap bytes_of_mark (mark_other h.from h.key m d apart)) o.new
    (Each-placed (NumbersAgree h.from h.key h.number) m (unmarked m.from m.key d.marks) ((λ e. absurd (numbers e)), (λ t. off (sym t ∙ apart))) (Each-without (NumbersAgree h.from h.key h.number) (λ (x : Mark). is_same m.from m.key x.from x.key) d.marks o.marks))
    o.receipts (le_self drawn) o

hold_received : (settings : Settings) (r : Receipt) (d : Durable) (drawn drawn' : ℕ) (first : Address) (places : ℕ) (h : Hold) → is_same r.from r.key h.from h.key ≡ false → r.number ≢ h.number → drawn ≤ drawn' → HoldSound settings d drawn first places h → HoldSound settings (with_receipt r d) drawn' first places h
hold_received settings r d drawn drawn' first places h files numbers more o =
    hold_on settings d (with_receipt r d) drawn drawn' first places h (ap bytes_of_mark (marks_without r.from r.key h.from h.key d files)) (known_after_receipt h.from h.key d r o.new files)
    (Each-without (NumbersAgree h.from h.key h.number) (λ (x : Mark). is_same r.from r.key x.from x.key) d.marks o.marks)
    (Each-append (λ (x : Receipt). x.number ≢ h.number) d.inbox (r ∷ []) o.receipts (numbers, tt)) more o

hold_refused : (settings : Settings) (r : Refusal) (d : Durable) (drawn : ℕ) (first : Address) (places : ℕ) (h : Hold) → is_same r.from r.key h.from h.key ≡ false → HoldSound settings d drawn first places h → HoldSound settings (with_refusal r d) drawn first places h
hold_refused settings r d drawn first places h files o =
    hold_on settings d (with_refusal r d) drawn drawn first places h (ap bytes_of_mark (marks_without r.from r.key h.from h.key d files)) (known_after_refusal h.from h.key d r o.new files)
    (Each-without (NumbersAgree h.from h.key h.number) (λ (x : Mark). is_same r.from r.key x.from x.key) d.marks o.marks)
    o.receipts (le_self drawn) o

-- The session.

pub seat_marked : (m : Mark) (begun : ℕ) (settings : Settings) (d : Durable) (drawn : ℕ) (s : Session) → Beside m.from m.key m.number s.hold → SeatFits begun settings d drawn s → SeatFits begun settings (with_mark m d) drawn s
seat_marked m begun settings d drawn s apart f = record { some = f.some; begins = f.begins; claim = f.claim; hold = go s.hold apart f.hold }
  where
    go : (o : Option Hold) → Beside m.from m.key m.number o → HoldFits settings d drawn s.first s.hold_places o → HoldFits settings (with_mark m d) drawn s.first s.hold_places o
    go None a h = tt
    go (Some h) a o = hold_marked settings m d drawn s.first s.hold_places h a.0 a.1 o

pub seat_received : (r : Receipt) (begun : ℕ) (settings : Settings) (d : Durable) (drawn drawn' : ℕ) (s : Session) → Beside r.from r.key r.number s.hold → drawn ≤ drawn' → SeatFits begun settings d drawn s → SeatFits begun settings (with_receipt r d) drawn' s
seat_received r begun settings d drawn drawn' s apart more f = record { some = f.some; begins = f.begins; claim = f.claim; hold = go s.hold apart f.hold }
  where
    go : (o : Option Hold) → Beside r.from r.key r.number o → HoldFits settings d drawn s.first s.hold_places o → HoldFits settings (with_receipt r d) drawn' s.first s.hold_places o
    go None a h = tt
    go (Some h) a o = hold_received settings r d drawn drawn' s.first s.hold_places h a.0 a.1 more o

pub seat_refused : (r : Refusal) (begun : ℕ) (settings : Settings) (d : Durable) (drawn : ℕ) (s : Session) → FileBeside r.from r.key s.hold → SeatFits begun settings d drawn s → SeatFits begun settings (with_refusal r d) drawn s
seat_refused r begun settings d drawn s apart f = record { some = f.some; begins = f.begins; claim = f.claim; hold = go s.hold apart f.hold }
  where
    go : (o : Option Hold) → FileBeside r.from r.key o → HoldFits settings d drawn s.first s.hold_places o → HoldFits settings (with_refusal r d) drawn s.first s.hold_places o
    go None a h = tt
    go (Some h) a o = hold_refused settings r d drawn s.first s.hold_places h a o

pub seat_flagged : (f : Receipt → Receipt) → ((r : Receipt) → SameReceipt r (f r)) → (begun : ℕ) (settings : Settings) (d : Durable) (drawn : ℕ) (s : Session) → SeatFits begun settings d drawn s → SeatFits begun settings (flagged f d) drawn s
seat_flagged f flags begun settings d drawn s fits = record { some = fits.some; begins = fits.begins; claim = fits.claim; hold = go s.hold fits.hold }
  where
    go : (o : Option Hold) → HoldFits settings d drawn s.first s.hold_places o → HoldFits settings (flagged f d) drawn s.first s.hold_places o
    go None h = tt
    go (Some h) o = hold_on settings d (flagged f d) drawn drawn s.first s.hold_places h refl (known_flagged f flags h.from h.key d ∙ o.new) o.marks (numbers_flagged f flags (λ x. x ≢ h.number) d.inbox o.receipts) (le_self drawn) o

-- another queue, with what the session has claimed
pub seat_queued : (queue : List Entry) (begun : ℕ) (settings : Settings) (d : Durable) (drawn : ℕ) (s : Session) → ClaimFits queue (peers s) s.claim_places s.claim → SeatFits begun settings d drawn s → SeatFits begun settings (record d { queue = queue }) drawn s
seat_queued queue begun settings d drawn s claim fits = record { some = fits.some; begins = fits.begins; claim = claim; hold = go s.hold fits.hold }
  where
    go : (o : Option Hold) → HoldFits settings d drawn s.first s.hold_places o → HoldFits settings (record d { queue = queue }) drawn s.first s.hold_places o
    go None h = tt
    go (Some h) o = hold_on settings d (record d { queue = queue }) drawn drawn s.first s.hold_places h refl o.new o.marks o.receipts (le_self drawn) o

-- greater numbers were drawn, and more sessions began
pub seat_drawn : (begun begun' : ℕ) (settings : Settings) (d : Durable) (drawn drawn' : ℕ) (s : Session) → begun ≤ begun' → drawn ≤ drawn' → SeatFits begun settings d drawn s → SeatFits begun' settings d drawn' s
seat_drawn begun begun' settings d drawn drawn' s later more f =
    record { some = f.some; begins = let a = f.begins in omega (arith, a, later); claim = f.claim; hold = go s.hold f.hold }
  where
    go : (o : Option Hold) → HoldFits settings d drawn s.first s.hold_places o → HoldFits settings d drawn' s.first s.hold_places o
    go None h = tt
    go (Some h) o = hold_on settings d d drawn drawn' s.first s.hold_places h refl o.new o.marks o.receipts more o

pub store_drawn : (d : Durable) (staged staged' drawn drawn' : ℕ) → staged ≤ staged' → drawn ≤ drawn' → drawn' ≤ MAX_NUMBER → StoreFits d staged drawn → StoreFits d staged' drawn'
store_drawn d staged staged' drawn drawn' later more few f =
    record {
      queue = f.queue;
      inbox = f.inbox;
      marks = f.marks;
      receipts = f.receipts;
      apart = f.apart;
      marks_drawn = Each-weaker (λ (m : Mark). (1 ≤ m.number) × (m.number ≤ drawn)) (λ (m : Mark). (1 ≤ m.number) × (m.number ≤ drawn')) (λ m a. (a.0, still m.number drawn drawn' a.1 more)) d.marks f.marks_drawn;
      receipts_drawn = Each-weaker (λ (m : Receipt). (1 ≤ m.number) × (m.number ≤ drawn)) (λ (m : Receipt). (1 ≤ m.number) × (m.number ≤ drawn')) (λ m a. (a.0, still m.number drawn drawn' a.1 more)) d.inbox f.receipts_drawn;
      queue_staged = Each-weaker (λ (e : Entry). e.number ≤ staged) (λ (e : Entry). e.number ≤ staged') (λ e a. still e.number staged staged' a later) d.queue f.queue_staged;
      drawn_few = few;
    }
  where
    still : (a b c : ℕ) → a ≤ b → b ≤ c → a ≤ c
    still a b c x y = omega (arith, x, y)
