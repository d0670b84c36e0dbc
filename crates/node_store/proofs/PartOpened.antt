-- A store in whose memory a part begins.
use Rattle.std.proofs.Common.{◌≡◌, ◌≢◌, inl, inr, ℕ, ◌≤◌, List, [], ◌∷◌, ◌++◌, take, Bool, true, false, refl, sym, ◌∙◌, ap, arith}
use Rattle.std.specs.Prelude.{Option, max, if◌then◌else◌}
use Rattle.std.specs.List.{AllByRecursion}
use Rattle.std.proofs.lemmas.Bool.{cases_eq}
use Rattle.ftn_addr.specs.Address.{Address}
use Rattle.ftn_addr.specs.Files.{is_same}
use Rattle.ftn_addr.specs.Key.{Key}
use Rattle.ftn_addr.specs.Limits.{IsAddress, IsKey}
use Rattle.disk_model.specs.World.{World}
use Rattle.ledger_rec.specs.Fold.{Folding, is_known, is_held}
use Rattle.ledger_rec.specs.Items.{Entry, Receipt, PartMark, Hold}
use Rattle.ledger_rec.specs.Limits.{HasTime}
use Rattle.node_model.specs.declared.store.PartAt.{PartAt}
use Rattle.node_model.specs.Lists.{Each}
use Rattle.node_model.proofs.Lists.{is_same_true, is_same_flip}
use Rattle.node_store.specs.Beginnings.{Readies, len_of, begun, has_file, without_file}
use Rattle.node_store.specs.Books.{Books}
use Rattle.node_store.specs.Names.{in_name, out_name}
use Rattle.node_store.specs.Stored.{Part, Put, Memory, without_first, is_orderly, IsPart, IsMemory, HasBodies}
use Rattle.node_store.specs.Tied.{Apart, AllApart, IsDrawn, orderly_true, orderly_is}
use Rattle.node_store.specs.Worlds.{HasLength}
use Rattle.node_store.proofs.Alike.{SameFront, AreAlike, all_of, all_by, in_no_take, one_alike}
use Rattle.node_store.proofs.BegunParts.{IsBeginning}
use Rattle.node_store.proofs.Committed.{all_with}
use Rattle.node_store.proofs.FirstParts.{all_without}
use Rattle.node_store.proofs.NameLaws.{one_in_name, in_not_out}
use Rattle.node_store.proofs.Receipts.{all-append}
use Rattle.node_store.proofs.GivenFiles.{still_gone, same_alike}

-- parts that stay

pub apart_without : (t : Part → Bool) (ps : List Part) → AllApart ps → AllApart (without_first t ps)
apart_without t [] apart = tt
apart_without t (p ∷ ps) apart = go (t p) (apart_without t ps apart.1)
  where
    go : (b : Bool) → AllApart (without_first t ps) → AllApart (if b then ps else p ∷ without_first t ps)
    go true rest = apart.1
    go false rest = (all_without t (Apart p) ps apart.0, rest)

apart_last : (ps : List Part) (q : Part) → AllApart ps → AllByRecursion (λ (p : Part). Apart p q) ps → AllApart (ps ++ q ∷ [])
apart_last [] q apart all = (tt, tt)
apart_last (p ∷ ps) q apart all = (all-append (Apart p) ps q apart.0 all.0, apart_last ps q apart.1 all.1)

-- none of that file is left
pub left_differ : (from : Address) (key : Key) (ps : List Part) → AllApart ps → AllByRecursion (λ (p : Part). is_same from key p.from p.key ≡ false) (without_file from key ps)
left_differ from key [] apart = tt
left_differ from key (p ∷ ps) apart = go (is_same from key p.from p.key) refl (left_differ from key ps apart.1)
  where
    behind : is_same from key p.from p.key ≡ true → (xs : List Part) → Each (Apart p) xs → AllByRecursion (λ (x : Part). is_same from key x.from x.key ≡ false) xs
    behind same [] all = tt
    behind same (x ∷ xs) all =
        let file = is_same_true from key p.from p.key same in
        (ap (λ (a : Address). is_same a key x.from x.key) file.0 ∙ ap (λ (k : Key). is_same p.from k x.from x.key) file.1 ∙ all.0.1, behind same xs all.1)

    go : (b : Bool) → is_same from key p.from p.key ≡ b → AllByRecursion (λ (x : Part). is_same from key x.from x.key ≡ false) (without_file from key ps) → AllByRecursion (λ (x : Part). is_same from key x.from x.key ≡ false) (if b then ps else p ∷ without_file from key ps)
    go true same rest = behind same ps apart.0
    go false differs rest = (differs, rest)

-- a part with other holds
pub part_held : (f : Folding) (hs : List Hold) (p : Part) → IsPart f p → is_held p.from p.key hs ≡ true → IsPart (record f { holds = hs }) p
part_held f hs p is held = record {
  from = is.from;
  key = is.key;
  sizes = is.sizes;
  within = is.within;
  receipt = is.receipt;
  next = is.next;
  held = held;
  unknown = is.unknown;
  number = is.number;
  marks = is.marks;
  received = is.received;
}

-- The books with other holds, and a part more in place of one of its file.
abbrev pub held_books : Books → List Hold → Books
held_books b hs = record b { folding = record b.folding { holds = hs } }

abbrev pub opened_memory : Memory → List Hold → Address → Key → Option PartAt → ℕ → Memory
opened_memory m hs from key mark n =
    record m { books = held_books m.books hs; parts = without_file from key m.parts ++ begun n from key mark ∷ []; drawn = max m.drawn n }

-- memory where a hold alone was begun
pub memory_held : (m : Memory) (hs : List Hold) → IsMemory m → AllByRecursion (λ (p : Part). is_held p.from p.key hs ≡ true) m.parts → IsMemory (record m { books = held_books m.books hs })
memory_held m hs is held = record {
  books = record { folds = is.books.folds; room = is.books.room; since = is.books.since };
  orderly = is.orderly;
  parts = all_with (IsPart m.books.folding) (λ (p : Part). is_held p.from p.key hs ≡ true) (IsPart (record m.books.folding { holds = hs })) (λ p part h. part_held m.books.folding hs p part h) m.parts is.parts held;
  marked = is.marked;
  received = is.received;
  numbers = is.numbers;
  given = is.given;
  staged = is.staged;
  queued = is.queued;
}

module _ (m : Memory) (is : IsMemory m) (from : Address) (key : Key) (mark : Option PartAt) (n : ℕ) (begins : IsBeginning m from key mark n) where
  abbrev left : List Part
  left = without_file from key m.parts

  abbrev q : Part
  q = begun n from key mark

  parts_apart : AllApart m.parts
  parts_apart = (orderly_true m.drawn m.parts is.orderly).0

  pub others_differ : AllByRecursion (λ (p : Part). p.number ≢ n) left
  others_differ =
      all_with (λ (p : Part). is_same from key p.from p.key ≡ false → p.number ≢ n) (λ (p : Part). is_same from key p.from p.key ≡ false) (λ (p : Part). p.number ≢ n) (λ p differs file. differs file) left
      (all_without (has_file from key) (λ (p : Part). is_same from key p.from p.key ≡ false → p.number ≢ n) m.parts begins.others) (left_differ from key m.parts parts_apart)

  from_new : AllByRecursion (λ (p : Part). Apart p q) left
  from_new =
      all_with (λ (p : Part). p.number ≢ n) (λ (p : Part). is_same from key p.from p.key ≡ false) (λ (p : Part). Apart p q) (λ p differs file. (differs, is_same_flip from key p.from p.key file)) left
      others_differ (left_differ from key m.parts parts_apart)

  pub orderly_opened : is_orderly (max m.drawn n) (left ++ q ∷ []) ≡ true
  orderly_opened =
      orderly_is (max m.drawn n) (left ++ q ∷ []) (apart_last left q (apart_without (has_file from key) m.parts parts_apart) from_new)
      (all-append (IsDrawn (max m.drawn n)) left q
      (all_by (IsDrawn m.drawn) (IsDrawn (max m.drawn n)) (λ p d. (d.0, omega (arith, d.1))) left (all_without (has_file from key) (IsDrawn m.drawn) m.parts (orderly_true m.drawn m.parts is.orderly).1))
      (begins.some, omega arith))

  pub memory_opened : (hs : List Hold) → IsAddress from → IsKey key → HasTime key → is_known from key m.books.folding.state ≡ false → AllByRecursion (λ (p : Part). is_held p.from p.key hs ≡ true) m.parts → is_held from key hs ≡ true → IsMemory (opened_memory m hs from key mark n)
  memory_opened hs address file_key time unknown others held =
      let kept = memory_held m hs is others in
      let new : IsPart (record m.books.folding { holds = hs }) q = record {
        from = address;
        key = file_key;
        sizes = time;
        within = begins.within;
        receipt = (0, false, refl);
        next = (0, refl);
        held = held;
        unknown = unknown;
        number = begins.number;
        marks = all_by (λ (k : PartMark). k.number ≡ n → k.len ≡ len_of mark) (λ (k : PartMark). k.number ≡ n → k.len ≤ len_of mark) (λ k one same. omega (arith, one same)) m.books.folding.state.marks begins.marks;
        received = begins.received;
      } in
      record {
        books = kept.books;
        orderly = orderly_opened;
        parts = all-append (IsPart (record m.books.folding { holds = hs })) left q (all_without (has_file from key) (IsPart (record m.books.folding { holds = hs })) m.parts kept.parts) new;
        marked = all_by (λ (k : PartMark). k.number ≤ m.drawn) (λ (k : PartMark). k.number ≤ max m.drawn n) (λ k le. omega (arith, le)) m.books.folding.state.marks is.marked;
        received = all_by (λ (r : Receipt). r.number ≤ m.drawn) (λ (r : Receipt). r.number ≤ max m.drawn n) (λ r le. omega (arith, le)) m.books.folding.state.inbox is.received;
        numbers = all_by (λ k. k ≤ m.drawn) (λ k. k ≤ max m.drawn n) (λ k le. omega (arith, le)) m.books.folding.state.parts is.numbers;
        given = is.given;
        staged = is.staged;
        queued = is.queued;
      }

  -- Worlds before and after its file is ready.
  module _ (d c : World) (step : Readies (in_name n) (len_of mark) d c) where
    front : (k : PartMark) → (k.number ≡ n → k.len ≡ len_of mark) → SameFront (in_name k.number) k.len d c
    front k one b there long = elim (cases_eq k.number n) [
      | inl same ↦
          let named : in_name k.number ≡ in_name n = ap in_name same in
          let len = one same in
          let f = step.front b (ap d.own (sym named) ∙ there) (omega (arith, len, long)) in
          (f.0, ap c.own named ∙ f.1, ap (λ (i : ℕ). take i f.0) len ∙ f.2 ∙ sym (ap (λ (i : ℕ). take i b) len))
      | inr other ↦ (b, step.others.others (in_name k.number) (λ same. other (one_in_name k.number n same)) ∙ there, refl)
    ]

    pub alike_opened : AreAlike m.books.folding.state d c
    alike_opened =
        one_alike (in_name n) (in_no_take n) d c step.others.others m.books.folding.state
        (all_of (λ (e : Entry). e.live ≡ true → out_name e.number ≢ in_name n) (λ e live same. in_not_out n e.number (sym same)) m.books.folding.state.queue)
        (all_by (λ (r : Receipt). r.number ≢ n) (λ (r : Receipt). in_name r.number ≢ in_name n) (λ r other same. other (one_in_name r.number n same)) m.books.folding.state.inbox begins.received)
        (all_by (λ (k : PartMark). k.number ≡ n → k.len ≡ len_of mark) (λ (k : PartMark). SameFront (in_name k.number) k.len d c) front m.books.folding.state.marks begins.marks)
        step.others.outside step.others.gifts

    pub bodies_opened : (hs : List Hold) → HasBodies m d → HasLength (in_name n) (len_of mark) c → HasBodies (opened_memory m hs from key mark n) c
    bodies_opened hs has ready = record {
      parts = all-append (λ (p : Part). HasLength (in_name p.number) p.have c) left q
          (all_with (λ (p : Part). HasLength (in_name p.number) p.have d) (λ (p : Part). p.number ≢ n) (λ (p : Part). HasLength (in_name p.number) p.have c)
          (λ p h differs. (h.0, step.others.others (in_name p.number) (λ same. differs (one_in_name p.number n same)) ∙ h.1, h.2)) left
          (all_without (has_file from key) (λ (p : Part). HasLength (in_name p.number) p.have d) m.parts has.parts) others_differ) ready;
      staged = all_by (λ (p : Put). HasLength (out_name p.number) p.size d) (λ (p : Put). HasLength (out_name p.number) p.size c) (λ p h. (h.0, step.others.others (out_name p.number) (λ same. in_not_out n p.number (sym same)) ∙ h.1, h.2)) m.staged has.staged;
      given = still_gone m.given d c has.given (same_alike m.books.folding.state d c m.given is.given alike_opened);
    }
