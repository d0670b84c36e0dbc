-- A store in whose memory all that a part has is its mark.
use Rattle.std.proofs.Common.{◌≡◌, inl, inr, ⊎_elim, ◌≤◌, ◌==◌, ◌&&◌, Some, true, refl, sym, subst, arith}
use Rattle.std.specs.Prelude.{find}
use Rattle.std.specs.List.{AllByRecursion}
use Rattle.ftn_addr.specs.Files.{is_same}
use Rattle.ledger_rec.specs.Fold.{State, Folding, new_mark, unmarked, with_mark}
use Rattle.ledger_rec.specs.Items.{Entry, Receipt, PartMark}
use Rattle.node_model.proofs.Lists.{and_both, eqb_refl, is_same_refl, is_same_flip}
use Rattle.node_store.specs.Books.{Books, IsBooks}
use Rattle.node_store.specs.Stored.{Part, Memory, mark_text, marks_all, all_marked, has_receipt, IsPart, IsPut, IsMemory}
use Rattle.node_store.specs.Tied.{Apart, orderly_true, IsDrawn}
use Rattle.node_store.proofs.Alike.{all_by}
use Rattle.node_store.proofs.ClosedParts.{has_number}
use Rattle.node_store.proofs.Committed.{part_on, unmarked_on, unused_on, all_numbers}
use Rattle.node_store.proofs.Marks.{all_in_place, any_in_place, that_in_place, none_in_place}
use Rattle.node_store.proofs.Places.{part_same}
use Rattle.node_store.proofs.PutCall.{all_found}
use Rattle.node_store.proofs.Receipts.{all_marks_left}
use Rattle.node_store.proofs.ReplacedParts.{replaced, IsAlike, all_replaced, orderly_replaced}

pub marks_all_alike : (q : Part) → IsAlike q (marks_all q)
marks_all_alike q = record { number = refl; from = refl; key = refl; have = refl }

pub all_marked_alike : (q : Part) → IsAlike q (all_marked q)
all_marked_alike q = record { number = refl; from = refl; key = refl; have = refl }

-- the part whose mark it is
part_here : (f : Folding) (q : Part) → IsPart f q → IsPart (record f { state = with_mark (mark_text q q.have) f.state }) (all_marked q)
part_here f q is = record {
  from = is.from;
  key = is.key;
  sizes = is.sizes;
  within = is.within;
  receipt = is.receipt;
  next = (q.have, refl);
  held = is.held;
  unknown = is.unknown;
  number = inl (record {
    marked = that_in_place (λ (m : PartMark). m.number == q.number && is_same q.from q.key m.from m.key) (new_mark (mark_text q q.have)) (unmarked q.from q.key f.state.marks)
        (and_both (q.number == q.number) (is_same q.from q.key q.from q.key) (eqb_refl q.number) (is_same_refl q.from q.key));
    given_away = refl;
  });
  marks = all_in_place (λ (m : PartMark). m.number ≡ q.number → m.len ≤ q.have) (new_mark (mark_text q q.have)) (unmarked q.from q.key f.state.marks) (λ same. omega arith) (all_marks_left (λ (m : PartMark). m.number ≡ q.number → m.len ≤ q.have) q.from q.key f.state.marks is.marks);
  received = is.received;
}

-- a part beside it
part_beside : (f : Folding) (q p : Part) → Apart q p → IsPart f p → IsPart (record f { state = with_mark (mark_text q q.have) f.state }) p
part_beside f q p apart is = record {
  from = is.from;
  key = is.key;
  sizes = is.sizes;
  within = is.within;
  receipt = is.receipt;
  next = is.next;
  held = is.held;
  unknown = is.unknown;
  number = ⊎_elim
      (λ k. inl (record {
        marked = any_in_place (λ (m : PartMark). m.number == p.number && is_same p.from p.key m.from m.key) (new_mark (mark_text q q.have)) (unmarked q.from q.key f.state.marks) (part_on q.from q.key p.from p.key apart.1 p.number f.state.marks k.marked);
        given_away = k.given_away;
      }))
      (λ u. inr (record {
        unused = unused_on q.number p.number f.state.parts apart.0 u.unused;
        unmarked = none_in_place (λ (m : PartMark). is_same p.from p.key m.from m.key) (new_mark (mark_text q q.have)) (unmarked q.from q.key f.state.marks) (is_same_flip q.from q.key p.from p.key apart.1) (unmarked_on q.from q.key p.from p.key f.state.marks u.unmarked);
        first = u.first;
      })) is.number;
  marks = all_in_place (λ (m : PartMark). m.number ≡ p.number → m.len ≤ p.have) (new_mark (mark_text q q.have)) (unmarked q.from q.key f.state.marks) (λ same. absurd (apart.0 same)) (all_marks_left (λ (m : PartMark). m.number ≡ p.number → m.len ≤ p.have) q.from q.key f.state.marks is.marks);
  received = is.received;
}

-- a part whose record was set
part_set : (f : Folding) (q : Part) → IsPart f q → IsPart f (marks_all q)
part_set f q is = record {
  from = is.from;
  key = is.key;
  sizes = is.sizes;
  within = is.within;
  receipt = is.receipt;
  next = (q.have, refl);
  held = is.held;
  unknown = is.unknown;
  number = ⊎_elim (λ k. inl (record { marked = k.marked; given_away = k.given_away })) (λ u. inr (record { unused = u.unused; unmarked = u.unmarked; first = u.first })) is.number;
  marks = is.marks;
  received = is.received;
}

module _ (m : Memory) (q : Part) (is : IsMemory m) (found : find (has_number q.number) m.parts ≡ Some q) where
  part_is : IsPart m.books.folding q
  part_is = (all_found (IsPart m.books.folding) q.number m.parts q is.parts found).0

  drawn : IsDrawn m.drawn q
  drawn = (all_found (IsDrawn m.drawn) q.number m.parts q (orderly_true m.drawn m.parts is.orderly).1 found).0

  -- the record was set, and not recorded
  pub memory_set : IsMemory (record m { parts = replaced q.number (marks_all q) m.parts })
  memory_set = record {
    books = is.books;
    orderly = orderly_replaced q.number q (marks_all q) (marks_all_alike q) m.drawn m.parts is.orderly found;
    parts = all_replaced q.number q (marks_all q) (marks_all_alike q) (IsPart m.books.folding) (IsPart m.books.folding) (λ p part apart. part) (part_set m.books.folding q part_is) m.parts (orderly_true m.drawn m.parts is.orderly).0 found is.parts;
    marked = is.marked;
    received = is.received;
    numbers = is.numbers;
    given = is.given;
    staged = is.staged;
    queued = is.queued;
  }

  module _ (b : Books) (books : IsBooks b) (folded : b.folding.state ≡ with_mark (mark_text q q.have) m.books.folding.state) (held : b.folding.holds ≡ m.books.folding.holds) where
    on_state : (P : State → Type 0) → P (with_mark (mark_text q q.have) m.books.folding.state) → P b.folding.state
    on_state P holds = subst P (sym folded) holds

    in_books : (p : Part) → IsPart (record m.books.folding { state = with_mark (mark_text q q.have) m.books.folding.state }) p → IsPart b.folding p
    in_books p part = part_same (record m.books.folding { state = with_mark (mark_text q q.have) m.books.folding.state }) b.folding p folded held part

    pub memory_marked : IsMemory (record m { books = b; parts = replaced q.number (all_marked q) m.parts })
    memory_marked = record {
      books = books;
      orderly = orderly_replaced q.number q (all_marked q) (all_marked_alike q) m.drawn m.parts is.orderly found;
      parts = all_replaced q.number q (all_marked q) (all_marked_alike q) (IsPart m.books.folding) (IsPart b.folding) (λ p part apart. in_books p (part_beside m.books.folding q p apart part)) (in_books (all_marked q) (part_here m.books.folding q part_is))
          m.parts (orderly_true m.drawn m.parts is.orderly).0 found is.parts;
      marked = on_state (λ s. AllByRecursion (λ (k : PartMark). k.number ≤ m.drawn) s.marks)
          (all_in_place (λ (k : PartMark). k.number ≤ m.drawn) (new_mark (mark_text q q.have)) (unmarked q.from q.key m.books.folding.state.marks) drawn.1 (all_marks_left (λ (k : PartMark). k.number ≤ m.drawn) q.from q.key m.books.folding.state.marks is.marked));
      received = on_state (λ s. AllByRecursion (λ (r : Receipt). r.number ≤ m.drawn) s.inbox) is.received;
      numbers = on_state (λ s. AllByRecursion (λ n. n ≤ m.drawn) s.parts) (all_numbers (λ n. n ≤ m.drawn) q.number m.books.folding.state.parts is.numbers drawn.1);
      given = on_state (λ s. AllByRecursion (λ n. has_receipt n s.inbox ≡ true) m.given) is.given;
      staged = on_state (λ s. AllByRecursion (IsPut m.last_staged s) m.staged)
          (all_by (IsPut m.last_staged m.books.folding.state) (IsPut m.last_staged (with_mark (mark_text q q.have) m.books.folding.state)) (λ p put. record { some = put.some; drawn = put.drawn; above = put.above }) m.staged is.staged);
      queued = on_state (λ s. AllByRecursion (λ (e : Entry). e.number ≤ m.last_staged) s.queue) is.queued;
    }
