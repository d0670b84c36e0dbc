-- A store in whose memory a part has become a receipt, or is lost.
use Rattle.std.proofs.Common.{◌≡◌, ◌≢◌, inl, inr, ⊎_elim, ℕ, ◌≤◌, ◌==◌, List, [], ◌∷◌, ◌++◌, Some, Bool, true, false, not, ◌&&◌, refl, sym, ◌∙◌, ap, subst}
use Rattle.std.specs.Prelude.{find, if◌then◌else◌}
use Rattle.std.specs.List.{AllByRecursion}
use Rattle.std.proofs.lemmas.Bool.Decides.{Decides-eqb}
use Rattle.ftn_addr.specs.Address.{Address}
use Rattle.ftn_addr.specs.Files.{is_same}
use Rattle.ftn_addr.specs.Key.{Key}
use Rattle.ledger_rec.specs.Fold.{State, Folding, is_received, is_refused, is_part_of, is_among, is_marked, is_held, unmarked, new_receipt, with_number, with_receipt, without_hold}
use Rattle.ledger_rec.specs.Items.{Entry, Receipt, PartMark, Hold}
use Rattle.node_model.proofs.Lists.{and_true, or_true, or_true_right, or_cases, or_false, both_false, off, some_passes-append, none_passes-append, is_same_true, is_same_at, is_same_flip}
use Rattle.node_store.specs.Books.{Books, IsBooks}
use Rattle.node_store.specs.Stored.{Part, Memory, without_part, received_text, has_receipt, IsPart, IsPut, IsMemory}
use Rattle.node_store.specs.Tied.{Apart, orderly_true, IsDrawn}
use Rattle.node_store.proofs.Alike.{all_by}
use Rattle.node_store.proofs.ClosedParts.{has_number, all_left, apart_from, orderly_left}
use Rattle.node_store.proofs.Mirrors.{eqb_apart}
use Rattle.node_store.proofs.Places.{part_same}
use Rattle.node_store.proofs.PutCall.{all_found}
use Rattle.node_store.proofs.Receipts.{all-append, all_marks_left}

pub all_with : {A : Type 0} (P Q R : A → Type 0) → ((x : A) → P x → Q x → R x) → (xs : List A) → AllByRecursion P xs → AllByRecursion Q xs → AllByRecursion R xs
all_with P Q R f [] ps qs = tt
all_with P Q R f (x ∷ xs) ps qs = (f x ps.0 qs.0, all_with P Q R f xs ps.1 qs.1)

-- what was given isn't a part
pub ungiven : (number : ℕ) (inbox : List Receipt) (given : List ℕ) → AllByRecursion (λ (r : Receipt). r.number ≢ number) inbox → AllByRecursion (λ n. has_receipt n inbox ≡ true) given → is_among number given ≡ false
ungiven number inbox [] others all = refl
ungiven number inbox (n ∷ ns) others all = both_false (n == number) (is_among number ns) (eqb_apart n number (λ same. none inbox others (ap (λ (k : ℕ). has_receipt k inbox) (sym same) ∙ all.0))) (ungiven number inbox ns others all.1)
  where
    none : (rs : List Receipt) → AllByRecursion (λ (r : Receipt). r.number ≢ number) rs → has_receipt number rs ≡ true → ⊥
    none [] others is = off (sym is)
    none (r ∷ rs) others is = ⊎_elim (λ here. others.0 ((Decides-eqb r.number number).0 here)) (λ there. none rs others.1 there) (or_cases (r.number == number) (has_receipt number rs) is)

-- A sender and key apart from another keep what they have when the other's goes.
module _ (from : Address) (key : Key) (a : Address) (k : Key) (apart : is_same from key a k ≡ false) where
  -- what is the same as the one isn't the same as the other
  other : (b : Address) (l : Key) → is_same from key b l ≡ true → is_same a k b l ≡ false
  other b l same = go (is_same a k b l) refl
    where
      go : (t : Bool) → is_same a k b l ≡ t → is_same a k b l ≡ false
      go true e =
          let x = is_same_true from key b l same in
          let y = is_same_true a k b l e in
          off (sym (is_same_at from key a k (x.0 ∙ sym y.0) (x.1 ∙ sym y.1)) ∙ apart)
      go false e = e

  pub held_on : (hs : List Hold) → is_held a k hs ≡ true → is_held a k (without_hold from key hs) ≡ true
  held_on [] is = is
  held_on (h ∷ hs) is = go (is_same from key h.from h.key) refl (held_on hs)
    where
      go : (t : Bool) → is_same from key h.from h.key ≡ t → (is_held a k hs ≡ true → is_held a k (without_hold from key hs) ≡ true) → is_held a k (if t then hs else h ∷ without_hold from key hs) ≡ true
      go true e rest = ⊎_elim (λ here. off (sym here ∙ other h.from h.key e)) (λ there. there) (or_cases (is_same a k h.from h.key) (is_held a k hs) is)
      go false e rest = ⊎_elim (λ here. or_true (is_same a k h.from h.key) (is_held a k (without_hold from key hs)) here) (λ there. or_true_right (is_same a k h.from h.key) (is_held a k (without_hold from key hs)) (rest there)) (or_cases (is_same a k h.from h.key) (is_held a k hs) is)

  pub part_on : (number : ℕ) (ms : List PartMark) → is_part_of number a k ms ≡ true → is_part_of number a k (unmarked from key ms) ≡ true
  part_on number [] is = is
  part_on number (m ∷ ms) is = go (is_same from key m.from m.key) refl (part_on number ms)
    where
      go : (t : Bool) → is_same from key m.from m.key ≡ t → (is_part_of number a k ms ≡ true → is_part_of number a k (unmarked from key ms) ≡ true) → is_part_of number a k (if not t then m ∷ unmarked from key ms else unmarked from key ms) ≡ true
      go true e rest = ⊎_elim (λ here. off (sym (and_true (m.number == number) (is_same a k m.from m.key) here).1 ∙ other m.from m.key e)) rest (or_cases (m.number == number && is_same a k m.from m.key) (is_part_of number a k ms) is)
      go false e rest = ⊎_elim (λ here. or_true (m.number == number && is_same a k m.from m.key) (is_part_of number a k (unmarked from key ms)) here) (λ there. or_true_right (m.number == number && is_same a k m.from m.key) (is_part_of number a k (unmarked from key ms)) (rest there)) (or_cases (m.number == number && is_same a k m.from m.key) (is_part_of number a k ms) is)

-- where no mark is theirs, none of those left is
pub unmarked_on : (from : Address) (key : Key) (a : Address) (k : Key) (ms : List PartMark) → is_marked a k ms ≡ false → is_marked a k (unmarked from key ms) ≡ false
unmarked_on from key a k [] is = is
unmarked_on from key a k (m ∷ ms) is = go (is_same from key m.from m.key) (or_false (is_same a k m.from m.key) (is_marked a k ms) is) (unmarked_on from key a k ms)
  where
    go : (t : Bool) → (is_same a k m.from m.key ≡ false) × (is_marked a k ms ≡ false) → (is_marked a k ms ≡ false → is_marked a k (unmarked from key ms) ≡ false) → is_marked a k (if not t then m ∷ unmarked from key ms else unmarked from key ms) ≡ false
    go true e rest = rest e.1
    go false e rest = both_false (is_same a k m.from m.key) (is_marked a k (unmarked from key ms)) e.0 (rest e.1)

-- another number is used
pub unused_on : (number n : ℕ) (numbers : List ℕ) → number ≢ n → is_among n numbers ≡ false → is_among n (with_number number numbers) ≡ false
unused_on number n numbers differs is = go (is_among number numbers)
  where
    go : (t : Bool) → is_among n (if t then numbers else numbers ++ number ∷ []) ≡ false
    go true = is
    go false = none_passes-append (λ (x : ℕ). x == n) numbers number is (eqb_apart number n differs)

pub all_numbers : (P : ℕ → Type 0) (number : ℕ) (numbers : List ℕ) → AllByRecursion P numbers → P number → AllByRecursion P (with_number number numbers)
all_numbers P number numbers all here = go (is_among number numbers)
  where
    go : (t : Bool) → AllByRecursion P (if t then numbers else numbers ++ number ∷ [])
    go true = all
    go false = all-append P numbers number all here

-- A part beside one that became a receipt.
part_beside : (f : Folding) (q : Part) (session : ℕ) (secure : Bool) (p : Part) → Apart q p → IsPart f p
    → IsPart (record { state = with_receipt (received_text q session secure) f.state; holds = without_hold q.from q.key f.holds; room = f.room }) p
part_beside f q session secure p apart is = record {
  from = is.from;
  key = is.key;
  sizes = is.sizes;
  within = is.within;
  receipt = is.receipt;
  next = is.next;
  held = held_on q.from q.key p.from p.key apart.1 f.holds is.held;
  unknown = let u = or_false (is_received p.from p.key f.state.inbox) (is_refused p.from p.key f.state.refused) is.unknown in
      both_false (is_received p.from p.key (f.state.inbox ++ new_receipt (received_text q session secure) ∷ [])) (is_refused p.from p.key f.state.refused)
      (none_passes-append (λ (r : Receipt). is_same p.from p.key r.from r.key) f.state.inbox (new_receipt (received_text q session secure)) u.0 (is_same_flip q.from q.key p.from p.key apart.1)) u.1;
  number = ⊎_elim (λ k. inl (record { marked = part_on q.from q.key p.from p.key apart.1 p.number f.state.marks k.marked; given_away = k.given_away }))
      (λ u. inr (record { unused = unused_on q.number p.number f.state.parts apart.0 u.unused; unmarked = unmarked_on q.from q.key p.from p.key f.state.marks u.unmarked; first = u.first })) is.number;
  marks = all_marks_left (λ (m : PartMark). m.number ≡ p.number → m.len ≤ p.have) q.from q.key f.state.marks is.marks;
  received = all-append (λ (r : Receipt). r.number ≢ p.number) f.state.inbox (new_receipt (received_text q session secure)) is.received apart.0;
}

-- A part less.

pub memory_without : (m : Memory) (number : ℕ) → IsMemory m → IsMemory (record m { parts = without_part number m.parts })
memory_without m number is = record {
  books = is.books;
  orderly = orderly_left number m.drawn m.parts is.orderly;
  parts = all_left (IsPart m.books.folding) number m.parts is.parts;
  marked = is.marked;
  received = is.received;
  numbers = is.numbers;
  given = is.given;
  staged = is.staged;
  queued = is.queued;
}

pub memory_broken : (m : Memory) (faults : ℕ) → IsMemory m → IsMemory (record m { broken = Some faults })
memory_broken m faults is = record { books = is.books; orderly = is.orderly; parts = is.parts; marked = is.marked; received = is.received; numbers = is.numbers; given = is.given; staged = is.staged; queued = is.queued }

-- A receipt in its place.
module _ (m : Memory) (b : Books) (q : Part) (session : ℕ) (secure : Bool) (is : IsMemory m) (books : IsBooks b) (found : find (has_number q.number) m.parts ≡ Some q)
    (folded : b.folding.state ≡ with_receipt (received_text q session secure) m.books.folding.state) (unheld : b.folding.holds ≡ without_hold q.from q.key m.books.folding.holds) where
  others_apart : AllByRecursion (Apart q) (without_part q.number m.parts)
  others_apart = apart_from q.number m.parts q (orderly_true m.drawn m.parts is.orderly).0 found

  drawn : IsDrawn m.drawn q
  drawn = (all_found (IsDrawn m.drawn) q.number m.parts q (orderly_true m.drawn m.parts is.orderly).1 found).0

  on_state : (P : State → Type 0) → P (with_receipt (received_text q session secure) m.books.folding.state) → P b.folding.state
  on_state P holds = subst P (sym folded) holds

  beside : (p : Part) → IsPart m.books.folding p → Apart q p → IsPart b.folding p
  beside p part apart =
      part_same (record { state = with_receipt (received_text q session secure) m.books.folding.state; holds = without_hold q.from q.key m.books.folding.holds; room = m.books.folding.room }) b.folding p folded unheld
      (part_beside m.books.folding q session secure p apart part)

  pub memory_committed : IsMemory (record m { books = b; parts = without_part q.number m.parts })
  memory_committed = record {
    books = books;
    orderly = orderly_left q.number m.drawn m.parts is.orderly;
    parts = all_with (IsPart m.books.folding) (Apart q) (IsPart b.folding) beside (without_part q.number m.parts) (all_left (IsPart m.books.folding) q.number m.parts is.parts) others_apart;
    marked = on_state (λ s. AllByRecursion (λ (k : PartMark). k.number ≤ m.drawn) s.marks) (all_marks_left (λ (k : PartMark). k.number ≤ m.drawn) q.from q.key m.books.folding.state.marks is.marked);
    received = on_state (λ s. AllByRecursion (λ (r : Receipt). r.number ≤ m.drawn) s.inbox) (all-append (λ (r : Receipt). r.number ≤ m.drawn) m.books.folding.state.inbox (new_receipt (received_text q session secure)) is.received drawn.1);
    numbers = on_state (λ s. AllByRecursion (λ n. n ≤ m.drawn) s.parts) (all_numbers (λ n. n ≤ m.drawn) q.number m.books.folding.state.parts is.numbers drawn.1);
    given = on_state (λ s. AllByRecursion (λ n. has_receipt n s.inbox ≡ true) m.given)
        (all_by (λ n. has_receipt n m.books.folding.state.inbox ≡ true) (λ n. has_receipt n (m.books.folding.state.inbox ++ new_receipt (received_text q session secure) ∷ []) ≡ true)
        (λ n some. some_passes-append (λ (r : Receipt). r.number == n) m.books.folding.state.inbox (new_receipt (received_text q session secure) ∷ []) some) m.given is.given);
    staged = on_state (λ s. AllByRecursion (IsPut m.last_staged s) m.staged)
        (all_by (IsPut m.last_staged m.books.folding.state) (IsPut m.last_staged (with_receipt (received_text q session secure) m.books.folding.state)) (λ p put. record { some = put.some; drawn = put.drawn; above = put.above }) m.staged is.staged);
    queued = on_state (λ s. AllByRecursion (λ (e : Entry). e.number ≤ m.last_staged) s.queue) is.queued;
  }
