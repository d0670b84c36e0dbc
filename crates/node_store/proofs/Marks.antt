-- The mark of an open part: the step of the fold, and the worlds that have its file.
use Rattle.std.proofs.Common.{◌≡◌, inl, inr, ⊎_elim, ℕ, ◌≤◌, ◌==◌, List, [], ◌∷◌, take, map, Option, Some, None, Bool, true, false, not, ◌&&◌, ◌||◌, nat_lt, nat_le, refl, sym, ◌∙◌, ap, arith}
use Rattle.std.specs.Prelude.{if◌then◌else◌}
use Rattle.std.specs.List.{AllByRecursion, list_any}
use Rattle.std.proofs.lemmas.Bool.Decides.{Decides-eqb, leb_tells}
use Rattle.ftn_addr.specs.Files.{is_same}
use Rattle.disk_model.specs.World.{World}
use Rattle.ledger_rec.specs.Fold.{State, Folding, fold_step, after, if_may, is_known, is_part_of, is_among, is_marked, goes_on, begins, may_mark, in_place, new_mark, unmarked, with_mark}
use Rattle.ledger_rec.specs.Items.{PartMark}
use Rattle.ledger_rec.specs.Record.{Mark}
use Rattle.node_model.specs.Durable as D
use Rattle.node_model.specs.Items as N
use Rattle.node_model.specs.Stocks.{part_in, part_marked, by_some, by_part}
use Rattle.node_model.proofs.Lists.{and_true, and_both, or_true, or_true_right, or_cases, or_false, both_false, off}
use Rattle.node_store.specs.Books.{Books}
use Rattle.node_store.specs.Contents.{Contents, durable_by}
use Rattle.node_store.specs.Names.{in_name}
use Rattle.node_store.specs.Stored.{Part, Memory, front_of, told_in, told_parts, part_by, stock_by, mark_text, marks_all, IsMarking, IsPart}
use Rattle.node_store.specs.Worlds.{bytes_of, contents_in, durable_in, HasLength, HasFront, HasFiles}
use Rattle.node_store.proofs.Mirrors.{mark_mirrored}
use Rattle.node_store.proofs.Receipts.{all_marks_left, above_zero}
use Rattle.node_store.proofs.TellAlike.{front_there}

-- the record for all that a part has is set
pub marking_all : (s : State) (p : Part) → IsMarking s p → IsMarking s (marks_all p)
marking_all s p is = record {
  from = is.from;
  key = is.key;
  next = (p.have, refl);
  step = is.step;
  first = ⊎_elim (λ k. inl (record { marked = k.marked; given_away = k.given_away })) inr is.first;
}

-- marks at their place

pub all_in_place : (P : PartMark → Type 0) (m : PartMark) (ms : List PartMark) → P m → AllByRecursion P ms → AllByRecursion P (in_place m ms)
all_in_place P m [] here all = (here, tt)
all_in_place P m (x ∷ xs) here all = go (nat_lt m.number x.number) (all_in_place P m xs here all.1)
  where
    go : (b : Bool) → AllByRecursion P (in_place m xs) → AllByRecursion P (if b then m ∷ x ∷ xs else x ∷ in_place m xs)
    go true rest = (here, all)
    go false rest = (all.0, rest)

module _ (p : PartMark → Bool) (m : PartMark) where
  pub any_in_place : (ms : List PartMark) → list_any p ms ≡ true → list_any p (in_place m ms) ≡ true
  any_in_place [] is = off (sym is)
  any_in_place (x ∷ xs) is = go (nat_lt m.number x.number) (any_in_place xs)
    where
      go : (b : Bool) → (list_any p xs ≡ true → list_any p (in_place m xs) ≡ true) → list_any p (if b then m ∷ x ∷ xs else x ∷ in_place m xs) ≡ true
      go true rest = or_true_right (p m) (p x || list_any p xs) is
      go false rest = ⊎_elim (λ here. or_true (p x) (list_any p (in_place m xs)) here) (λ there. or_true_right (p x) (list_any p (in_place m xs)) (rest there)) (or_cases (p x) (list_any p xs) is)

  pub that_in_place : (ms : List PartMark) → p m ≡ true → list_any p (in_place m ms) ≡ true
  that_in_place [] is = or_true (p m) false is
  that_in_place (x ∷ xs) is = go (nat_lt m.number x.number) (that_in_place xs is)
    where
      go : (b : Bool) → list_any p (in_place m xs) ≡ true → list_any p (if b then m ∷ x ∷ xs else x ∷ in_place m xs) ≡ true
      go true rest = or_true (p m) (p x || list_any p xs) is
      go false rest = or_true_right (p x) (list_any p (in_place m xs)) rest

  pub none_in_place : (ms : List PartMark) → p m ≡ false → list_any p ms ≡ false → list_any p (in_place m ms) ≡ false
  none_in_place [] that is = both_false (p m) false that is
  none_in_place (x ∷ xs) that is = go (nat_lt m.number x.number) (none_in_place xs that)
    where
      go : (b : Bool) → (list_any p xs ≡ false → list_any p (in_place m xs) ≡ false) → list_any p (if b then m ∷ x ∷ xs else x ∷ in_place m xs) ≡ false
      go true rest = both_false (p m) (p x || list_any p xs) that is
      go false rest = let h = or_false (p x) (list_any p xs) is in both_false (p x) (list_any p (in_place m xs)) h.0 (rest h.1)

-- The fold takes the mark.

at_most : (a b : ℕ) → a ≤ b → nat_le a b ≡ true
at_most a b le = ⊎_elim (λ l. l.0) (λ r. absurd (omega (arith, r.1, le))) (leb_tells a b)

longer : (q : Part) (len : ℕ) (ms : List PartMark) → is_part_of q.number q.from q.key ms ≡ true → AllByRecursion (λ (m : PartMark). m.number ≡ q.number → m.len ≤ len) ms → goes_on (mark_text q len) ms ≡ true
longer q len [] is within = off (sym is)
longer q len (m ∷ ms) is within = ⊎_elim
    (λ here.
    let h = and_true (m.number == q.number) (is_same q.from q.key m.from m.key) here in
    let le = at_most m.len len (within.0 ((Decides-eqb m.number q.number).0 h.0)) in
    or_true (m.number == q.number && (is_same q.from q.key m.from m.key && nat_le m.len len)) (goes_on (mark_text q len) ms)
    (and_both (m.number == q.number) (is_same q.from q.key m.from m.key && nat_le m.len len) h.0 (and_both (is_same q.from q.key m.from m.key) (nat_le m.len len) h.1 le)))
    (λ there. or_true_right (m.number == q.number && (is_same q.from q.key m.from m.key && nat_le m.len len)) (goes_on (mark_text q len) ms) (longer q len ms there within.1))
    (or_cases (m.number == q.number && is_same q.from q.key m.from m.key) (is_part_of q.number q.from q.key ms) is)

pub marked_step : (f : Folding) (q : Part) → IsPart f q → 1 ≤ q.number → 1 ≤ q.have → fold_step f.state (Mark (mark_text q q.have)) ≡ Some (with_mark (mark_text q q.have) f.state)
marked_step f q is some ahead =
    let r = mark_text q q.have in
    let s = f.state in
    let goes : (goes_on r s.marks || begins r s) ≡ true = ⊎_elim
    (λ k. or_true (goes_on r s.marks) (begins r s) (longer q q.have s.marks k.marked is.marks))
    (λ u. or_true_right (goes_on r s.marks) (begins r s)
    (and_both (not (is_among q.number s.parts)) (not (is_marked q.from q.key s.marks) && not (is_known q.from q.key s)) (ap not u.unused)
    (and_both (not (is_marked q.from q.key s.marks)) (not (is_known q.from q.key s)) (ap not u.unmarked) (ap not is.unknown))))
    is.number in
    let may : may_mark r s ≡ true =
    and_both (nat_lt 0 q.have) (nat_le q.have q.key.size && (goes_on r s.marks || begins r s)) (above_zero q.have ahead)
    (and_both (nat_le q.have q.key.size) (goes_on r s.marks || begins r s) (at_most q.have q.key.size is.within) goes) in
    ap (λ (b : Bool). if b && true then after s (Mark r) else None) (above_zero q.number some) ∙ ap (λ (b : Bool). if_may b (with_mark r s)) may

-- Worlds with the part's file.

pub files_marked : (s : State) (q : Part) (c : World) → HasLength (in_name q.number) q.have c → HasFiles s c → HasFiles (with_mark (mark_text q q.have) s) c
files_marked s q c body has = record {
  live = has.live;
  marked = all_in_place (λ (m : PartMark). HasFront (in_name m.number) m.len c) (new_mark (mark_text q q.have)) (unmarked q.from q.key s.marks) (body.0, body.1, omega (arith, body.2)) (all_marks_left (λ (m : PartMark). HasFront (in_name m.number) m.len c) q.from q.key s.marks has.marked);
  received = has.received;
}

pub durable_marked : (told : World) (given : List ℕ) (s : State) (q : Part) (c : World) → HasLength (in_name q.number) q.have told → c.own (in_name q.number) ≡ told.own (in_name q.number) → durable_in c s ≡ durable_by (told_in told given) s
    → durable_in c (with_mark (mark_text q q.have) s) ≡ durable_by (told_in told given) (with_mark (mark_text q q.have) s)
durable_marked told given s q c body own same =
    let r = mark_text q q.have in
    let bytes : take q.have (bytes_of (c.own (in_name q.number))) ≡ front_of q.have (bytes_of (told.own (in_name q.number))) =
    ap (λ (f : Option (List ℕ)). take q.have (bytes_of f)) (own ∙ body.1) ∙ sym (front_there q.have body.0 (omega (arith, body.2))) ∙ sym (ap (λ (f : Option (List ℕ)). front_of q.have (bytes_of f)) body.1) in
    mark_mirrored (contents_in c) r s
    ∙ (λ i. D.with_mark (record { number = q.number; from = q.from; key = q.key; bytes = bytes i }) (same i))
    ∙ sym (mark_mirrored (told_in told given) r s)

-- what is told then, whatever the contents, where the parts tell the same
pub stock_marked : {B : Type 0} (c : Contents B) (m : Memory) (b : Books) (q : Part) (ps : List Part) → map (part_by c) (told_parts m.drawn ps) ≡ map (part_by c) (told_parts m.drawn m.parts) → part_in q.number (map (part_by c) (told_parts m.drawn m.parts)) ≡ Some (part_by c q)
    → b.folding.state ≡ with_mark (mark_text q q.have) m.books.folding.state → stock_by c (record m { books = b; parts = ps }) ≡ by_part q.number (λ part stock. part_marked part stock) (stock_by c m)
stock_marked {B} c m b q ps parts found folded =
    let state : durable_by c b.folding.state ≡ D.with_mark (part_by c q) (durable_by c m.books.folding.state) = ap (durable_by c) folded ∙ mark_mirrored c (mark_text q q.have) m.books.folding.state in
    (λ i. record { state = state i; parts = parts i; staged = (stock_by c m).staged })
    ∙ sym (ap (λ (o : Option (N.MarkOf B)). by_some o (λ part stock. part_marked part stock) (stock_by c m)) found)
