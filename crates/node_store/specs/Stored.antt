-- What a store has in memory, what it tells, and what ties both to its disk (own).
use Rattle.std.specs.Prelude.{◌+◌, ◌≡◌, ◌≢◌, ◌⊎◌, ℕ, ◌==◌, nat_le, not, ◌&&◌, ◌||◌, ◌≤◌, Bool, true, false, List, [], ◌∷◌, ◌++◌, length, take, drop, map, replicate, Option, Some, None, option_map, if◌then◌else◌, IsSome}
use Rattle.std.specs.List.{AllByRecursion, list_all, list_any}
use Rattle.ftn_addr.specs.Address.{Address}
use Rattle.ftn_addr.specs.Files.{is_same}
use Rattle.ftn_addr.specs.Key.{Key}
use Rattle.ftn_addr.specs.Limits.{IsAddress, IsKey}
use Rattle.disk_model.specs.Changes.{Every}
use Rattle.disk_model.specs.Moments.{Now}
use Rattle.disk_model.specs.World.{World}
use Rattle.ledger_file.specs.Ledger.{LedgerIs}
use Rattle.ledger_rec.specs.Fold.{State, Folding, fold_step, is_known, is_part_of, is_among, is_held, is_marked}
use Rattle.ledger_rec.specs.Items.{Entry, Receipt, PartMark}
use Rattle.ledger_rec.specs.Limits.{HasTime}
use Rattle.ledger_rec.specs.Record.{ReceivedText, MarkText, RecordText, Received, Mark}
use Rattle.node_model.specs.Items.{MarkOf}
use Rattle.node_model.specs.Stocks.{StagedOf, StockOf}
use Rattle.node_model.specs.StoreStates.{Shelf, Stored, shelf_of, StoreState, StoreStand}
use Rattle.node_store.specs.Books.{Books, IsBooks}
use Rattle.node_store.specs.Contents.{Contents, durable_by}
use Rattle.node_store.specs.Logs.{log_of}
use Rattle.node_store.specs.Names.{in_name, out_name}
use Rattle.node_store.specs.Takes.{Takes}
use Rattle.node_store.specs.Worlds.{bytes_of, or_else, gift_of, is_absent, outside_in, gift_told, takes_in, shelf_in, HasLength, HasFiles, Opens}

-- an open part: its number, from whom, of which file, and how many bytes it has; the record of its receipt; and those of its
-- marks, the first of which is given away, while later ones are lent
pub record Part : Type 0 where
  pub number : ℕ
  pub from : Address
  pub key : Key
  pub have : ℕ
  pub receipt : ReceivedText
  pub first_mark : Option MarkText
  pub next_mark : RecordText

-- a file that was put under a queue number, with so many bytes
pub record Put : Type 0 where
  pub number : ℕ
  pub size : ℕ

-- What a store has in memory: the ledger with its fold; the receipts whose files were given, or of a broken store may have
-- been; the open parts and the staged files; the greatest numbers of both that were drawn, the seat of the next records, the
-- receipt last given or held, and two counts.
pub record Memory : Type 0 where
  pub books : Books
  pub given : List ℕ
  pub parts : List Part
  pub staged : List Put
  pub drawn : ℕ
  pub last_staged : ℕ
  pub seat : ℕ
  pub last_given : ℕ
  pub fulls : ℕ
  pub broken : Option ℕ

-- a store, with its disk and the takes that stand
pub record Holding (D : Type 0) : Type 0 where
  pub disk : D
  pub takes : Takes
  pub memory : Memory

-- What it tells.

-- the first n bytes, filled up with zeros where there are fewer
abbrev pub front_of : ℕ → List ℕ → List ℕ
front_of n bytes = take n (bytes ++ replicate n 0)

-- The bytes that are told, where the disk reads so: as many as memory says, whatever the files' lengths. Those of a file that
-- may have been given are read as an opening does, and it was given where it doesn't stand.
abbrev pub told_in : World → List ℕ → Contents (List ℕ)
told_in w given =
    record { queued = λ number size. front_of size (bytes_of (w.own (out_name number))); received = λ number size. if is_among number given then or_else (w.own (in_name number)) (gift_of (in_name number) size w.gifts) else Some (front_of size (bytes_of (w.own (in_name number)))); front = λ number len. front_of len (bytes_of (w.own (in_name number))); given = λ number. is_absent (w.own (in_name number)) && is_among number given }

-- how many there are; of a disk that doesn't tell, as if nothing given were lost
abbrev pub sizes_in : Bool → World → List ℕ → Contents ℕ
sizes_in tells w given =
    record { queued = λ number size. size; received = λ number size. if tells && is_among number given then option_map length (or_else (w.own (in_name number)) (gift_of (in_name number) size w.gifts)) else Some size; front = λ number len. len; given = λ number. (not tells || is_absent (w.own (in_name number))) && is_among number given }

-- no two parts have one number, or one sender and key; each number was drawn
abbrev pub are_apart : Part → Part → Bool
are_apart p q = not (p.number == q.number) && not (is_same p.from p.key q.from q.key)

abbrev pub is_drawn : ℕ → Part → Bool
is_drawn drawn p = nat_le 1 p.number && nat_le p.number drawn

abbrev pub is_orderly : ℕ → List Part → Bool
is_orderly drawn [] = true
is_orderly drawn (p ∷ ps) = is_drawn drawn p && (list_all (are_apart p) ps && is_orderly drawn ps)

-- the open parts, where they are in order; they always are
abbrev pub told_parts : ℕ → List Part → List Part
told_parts drawn parts = if is_orderly drawn parts then parts else []

abbrev pub part_by : {B : Type 0} → Contents B → Part → MarkOf B
part_by c p = record { number = p.number; from = p.from; key = p.key; bytes = c.front p.number p.have }

abbrev pub staged_by : {B : Type 0} → Contents B → Put → StagedOf B
staged_by c p = record { number = p.number; content = c.queued p.number p.size }

abbrev pub stock_by : {B : Type 0} → Contents B → Memory → StockOf B
stock_by c m =
    record { state = durable_by c m.books.folding.state; parts = map (part_by c) (told_parts m.drawn m.parts); staged = map (staged_by c) m.staged }

-- what it keeps, where the disk reads so
abbrev pub stored_in : World → Memory → Stored
stored_in w m =
    record { stock = stock_by (told_in w m.given) m; recorded = m.books.folding.state.takes; takes = takes_in w; outside = outside_in w; gifts = map gift_told w.gifts; log = log_of m.books.seats (drop m.books.opened m.books.payloads) }

abbrev pub state_of : Bool → World → ℕ → Memory → StoreState
state_of tells w faults m =
    record { content = if tells then Some (stored_in w m) else None; stock = stock_by (sizes_in tells w m.given) m; recorded = m.books.folding.state.takes; records = length m.books.payloads; reserved = m.books.reserved; staged = m.last_staged; drawn = m.drawn; seat = m.seat; appended = length (log_of m.books.seats (drop m.books.opened m.books.payloads)); last_given = m.last_given; counts = record { faults = faults; fulls = m.fulls; broken = m.broken } }

-- what stops leave of a disk that tells its content
abbrev pub left_of : Bool → (ℕ → World → Type 0) → ℕ → Option Shelf → Type 0
left_of tells images k shelf = (tells ≡ true) × (w : World) × images k w × Opens w shelf

-- What fits together in memory.

-- the record of a part's receipt
abbrev pub received_text : Part → ℕ → Bool → ReceivedText
received_text p session secure = record { receipt = p.number; from = p.from; key = p.key; session = session; secure = secure }

-- the record of a part's mark
abbrev pub mark_text : Part → ℕ → MarkText
mark_text p len = record { part = p.number; from = p.from; key = p.key; len = len }

-- a part whose number is that of its mark: the record of its first mark is given away
pub record IsMarked (s : State) (p : Part) : Type 0 where
  pub marked : is_part_of p.number p.from p.key s.marks ≡ true
  pub given_away : p.first_mark ≡ None

-- a part without a mark: its number isn't used, nor is another part of that file marked, and the record of its first mark waits
pub record IsUnmarked (s : State) (p : Part) : Type 0 where
  pub unused : is_among p.number s.parts ≡ false
  pub unmarked : is_marked p.from p.key s.marks ≡ false
  pub first : (len : ℕ) × (p.first_mark ≡ Some (mark_text p len))

-- An open part: within its size, held, and neither received nor refused. Its number is that of its mark, which isn't longer,
-- or it has none. The records of its receipt and of its next mark wait.
pub record IsPart (f : Folding) (p : Part) : Type 0 where
  pub from : IsAddress p.from
  pub key : IsKey p.key
  pub sizes : HasTime p.key
  pub within : p.have ≤ p.key.size
  pub receipt : (session : ℕ) × (secure : Bool) × (p.receipt ≡ received_text p session secure)
  pub next : (len : ℕ) × (p.next_mark ≡ Mark (mark_text p len))
  pub held : is_held p.from p.key f.holds ≡ true
  pub unknown : is_known p.from p.key f.state ≡ false
  pub number : IsMarked f.state p ⊎ IsUnmarked f.state p
  pub marks : AllByRecursion (λ (m : PartMark). m.number ≡ p.number → m.len ≤ p.have) f.state.marks
  pub received : AllByRecursion (λ (r : Receipt). r.number ≢ p.number) f.state.inbox

-- a staged file isn't queued, and its number was drawn
pub record IsPut (last : ℕ) (s : State) (p : Put) : Type 0 where
  pub some : 1 ≤ p.number
  pub drawn : p.number ≤ last
  pub above : AllByRecursion (λ (e : Entry). e.number ≢ p.number) s.queue

-- a receipt has that number
abbrev pub has_receipt : ℕ → List Receipt → Bool
has_receipt number inbox = list_any (λ (r : Receipt). r.number == number) inbox

-- The numbers of all parts and receipts were drawn, and what was given are receipts.
pub record IsMemory (m : Memory) : Type 0 where
  pub books : IsBooks m.books
  pub orderly : is_orderly m.drawn m.parts ≡ true
  pub parts : AllByRecursion (IsPart m.books.folding) m.parts
  pub marked : AllByRecursion (λ (k : PartMark). k.number ≤ m.drawn) m.books.folding.state.marks
  pub received : AllByRecursion (λ (r : Receipt). r.number ≤ m.drawn) m.books.folding.state.inbox
  pub numbers : AllByRecursion (λ n. n ≤ m.drawn) m.books.folding.state.parts
  pub given : AllByRecursion (λ n. has_receipt n m.books.folding.state.inbox ≡ true) m.given
  pub staged : AllByRecursion (IsPut m.last_staged m.books.folding.state) m.staged
  pub queued : AllByRecursion (λ (e : Entry). e.number ≤ m.last_staged) m.books.folding.state.queue

-- What ties a store to its disk.

-- This world has the ledger. Where the disk tells, its files stand, and it opens to what is told.
pub record IsKept (tells : Bool) (told : World) (m : Memory) (w : World) : Type 0 where
  pub ledger : LedgerIs m.books.payloads w
  pub files : tells ≡ true → HasFiles m.books.folding.state w
  pub same : tells ≡ true → shelf_in w m.books.folding.state ≡ shelf_of (stored_in told m)

-- the files of these receipts don't stand
abbrev pub AreGone : List ℕ → World → Type 0
AreGone given w = AllByRecursion (λ n. w.own (in_name n) ≡ None) given

-- each open part and each staged file has its bytes, and what was given is gone
pub record HasBodies (m : Memory) (w : World) : Type 0 where
  pub parts : AllByRecursion (λ (p : Part). HasLength (in_name p.number) p.have w) m.parts
  pub staged : AllByRecursion (λ (p : Put). HasLength (out_name p.number) p.size w) m.staged
  pub given : AreGone m.given w

-- What a stop now may leave opens to what the store keeps, unless the disk failed.
pub record IsSound {D : Type 0} (tells : Bool) (content : D → World) (moment : D → ℕ) (images : D → ℕ → World → Type 0) (disk : D) (m : Memory) : Type 0 where
  pub memory : IsMemory m
  pub kept : m.broken ≡ None → Every (Now moment images disk) (IsKept tells (content disk) m)
  pub bodies : m.broken ≡ None → tells ≡ true → HasBodies m (content disk)

-- where a store stands, over a disk of such a type
abbrev pub stand_of : {D : Type 0} → Bool → (D → World) → (D → ℕ) → (D → ℕ) → (D → ℕ → World → Type 0) → Holding D → StoreStand
stand_of tells content faults moment images s =
    record { state = state_of tells (content s.disk) (faults s.disk) s.memory; moment = moment s.disk; images = left_of tells (images s.disk) }

-- What becomes of open parts.

-- the part with that number has so many bytes more
abbrev pub grown : ℕ → ℕ → Part → Part
grown number n p = record p { have = if p.number == number then p.have + n else p.have }

abbrev pub have_in : Option Part → ℕ
have_in None = 0
have_in (Some p) = p.have

-- the parts without the first that passes the test
abbrev pub without_first : (Part → Bool) → List Part → List Part
without_first test [] = []
without_first test (p ∷ ps) = if test p then ps else p ∷ without_first test ps

-- the parts without the first of that number
abbrev pub without_part : ℕ → List Part → List Part
without_part number ps = without_first (λ p. p.number == number) ps

-- what is left of a part that is open no more: whose it was, and the record of its receipt
pub record Closed : Type 0 where
  pub from : Address
  pub key : Key
  pub receipt : RecordText

-- a part that came whole in that session
abbrev pub closed_in : ℕ → Bool → Part → Closed
closed_in session secure p =
    record { from = p.from; key = p.key; receipt = Received (record p.receipt { session = session; secure = secure }) }

-- a part of which all that it has is marked next, or is marked
abbrev pub marks_all : Part → Part
marks_all p = record p { next_mark = Mark (mark_text p p.have) }

abbrev pub all_marked : Part → Part
all_marked p = record p { first_mark = None; next_mark = Mark (mark_text p p.have) }

-- All that a part has may become its mark: the fold takes that record, which waits.
pub record IsMarking (s : State) (p : Part) : Type 0 where
  pub from : IsAddress p.from
  pub key : IsKey p.key
  pub next : (len : ℕ) × (p.next_mark ≡ Mark (mark_text p len))
  pub step : IsSome (fold_step s (Mark (mark_text p p.have)))
  pub first : IsMarked s p ⊎ ((len : ℕ) × (p.first_mark ≡ Some (mark_text p len)))
