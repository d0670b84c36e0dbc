-- A mark that stands, and is made longer.
use Rattle.std.proofs.Common.{◌≡◌, ℕ, zero, suc, ◌<◌, Bool, true, false, ◌&&◌, List, [], ◌∷◌, ◌++◌, length, get_or, map, Some, None, refl, sym, ap, subst, ◌∙◌, inl, inr, arith}
use Rattle.std.specs.Prelude.{position, nat_lt, ◌==◌, ◌||◌, if◌then◌else◌}
use Rattle.std.specs.List.{AllByRecursion, position_or_len, remove}
use Rattle.std.proofs.lemmas.Bool.{cases_Bool, and_parts, eqb-true, false≢true}
use Rattle.std.proofs.lemmas.List.Quantifiers.{position-Some}
use Rattle.file_index.proofs.Order.{same_address_is, same_key_is}
use Rattle.file_index.specs.Turns.{Turns}
use Rattle.file_index.specs.declared.turns.TurnIndex.{TurnIndex}
use Rattle.ftn_addr.specs.Address.{Address, address, same_address}
use Rattle.ftn_addr.specs.Files.{is_same}
use Rattle.ftn_addr.specs.Key.{Key, key_of, same_key}
use Rattle.ledger_rec.proofs.Changing.{past_end, found_any, none_any}
use Rattle.ledger_rec.proofs.Mapped.{list_any_map}
use Rattle.ledger_rec.proofs.OrderFold.{order_step}
use Rattle.ledger_rec.proofs.Waits.{indexed_step, turns_same}
use Rattle.ledger_rec.specs.Fold.{State, is_among, is_part_of, new_mark, unmarked, in_place, may_mark, with_number, with_mark, fold_step}
use Rattle.ledger_rec.specs.Indexed.{Agrees}
use Rattle.ledger_rec.specs.Items.{PartMark, part_mark}
use Rattle.ledger_rec.specs.Lengthen.{Lengthens}
use Rattle.ledger_rec.specs.Order.{IsOrderly}
use Rattle.ledger_rec.specs.Record.{MarkText, Mark}
use Rattle.ledger_rec.specs.Waiting.{is_needed}
use Rattle.ledger_rec.specs.declared.lengthen.Lengthened.{Lengthened}
use Rattle.ledger_rec.specs.declared.lengthen.Lengthened.TheVariants.{Longer, NoMark, BadFold}
use Rattle.ledger_rec.specs.declared.index.Index.{Index}
use Rattle.ledger_rec.specs.declared.items.MarkItem.{MarkItem}
use Rattle.ledger_rec.specs.declared.waiting.Need.{Need}

-- the mark's part, sender and key are the record's
abbrev pub stands_for : MarkText → MarkItem → Bool
stands_for r m = m.part == r.part && is_same r.from r.key (address m.from) (key_of m.key)

abbrev pub is_of : MarkText → PartMark → Bool
is_of r m = m.number == r.part && is_same r.from r.key m.from m.key

pub stands_there : (r : MarkText) (xs : List MarkItem) (i : ℕ) → position (stands_for r) xs ≡ Some i → is_part_of r.part r.from r.key (map part_mark xs) ≡ true
stands_there r xs i found = list_any_map (is_of r) part_mark xs ∙ found_any (stands_for r) xs i found

pub stands_nowhere : (r : MarkText) (xs : List MarkItem) → position (stands_for r) xs ≡ None → is_part_of r.part r.from r.key (map part_mark xs) ≡ false
stands_nowhere r xs none = list_any_map (is_of r) part_mark xs ∙ none_any (stands_for r) xs (past_end (position_or_len (stands_for r) xs) (length xs) none)

-- the number of a mark that stands is used
pub part_used : (r : MarkText) (used : List ℕ) (ms : List PartMark) → is_part_of r.part r.from r.key ms ≡ true → AllByRecursion (λ (m : PartMark). is_among m.number used ≡ true) ms → is_among r.part used ≡ true
part_used r used [] is all = absurd (false≢true is)
part_used r used (m ∷ ms) is (here, rest) = elim (cases_Bool (is_of r m)) as (λ _. is_among r.part used ≡ true) [
  | inl this ↦
      let number : m.number ≡ r.part = eqb-true m.number r.part (and_parts (m.number == r.part) (is_same r.from r.key m.from m.key) this).0 in
      subst (λ (n : ℕ). is_among n used ≡ true) number here
  | inr later ↦ part_used r used ms (sym (ap (λ (b : Bool). b || is_part_of r.part r.from r.key ms) later) ∙ is) rest
]

-- a mark of the sender and key that is taken out would go anyway
unmarked_removed : (from : Address) (key : Key) (xs : List MarkItem) (i : ℕ) (d : MarkItem) → i < length xs → is_same from key (address (get_or xs i d).from) (key_of (get_or xs i d).key) ≡ true → unmarked from key (map part_mark (remove xs i)) ≡ unmarked from key (map part_mark xs)
unmarked_removed from key [] i d within same = absurd (omega arith)
unmarked_removed from key (x ∷ xs) zero d within same = rw same refl
unmarked_removed from key (x ∷ xs) (suc i) d within same =
    let rest = unmarked_removed from key xs i d (omega arith) same in
    elim (cases_Bool (is_same from key (address x.from) (key_of x.key))) as (λ _. unmarked from key (map part_mark (remove (x ∷ xs) (suc i))) ≡ unmarked from key (map part_mark (x ∷ xs))) [
      | inl this ↦ rw (this, rest) refl
      | inr other ↦ rw (other, rest) refl
    ]

same_mark : (r : MarkText) (m : MarkItem) → stands_for r m ≡ true → part_mark (record m { len = r.len }) ≡ new_mark r
same_mark r m stands =
    let parts = and_parts (m.part == r.part) (is_same r.from r.key (address m.from) (key_of m.key)) stands in
    let file = and_parts (same_address r.from (address m.from)) (same_key r.key (key_of m.key)) parts.1 in
    let number : m.part ≡ r.part = eqb-true m.part r.part parts.0 in
    let from : r.from ≡ address m.from = same_address_is r.from (address m.from) file.0 in
    let key : r.key ≡ key_of m.key = same_key_is r.key (key_of m.key) file.1 in
    let it : PartMark = record { number = m.part; from = address m.from; key = key_of m.key; len = r.len } in
    ap (λ (n : ℕ). record it { number = n }) number ∙ ap (λ (a : Address). record it { number = r.part; from = a }) (sym from) ∙ ap (λ (k : Key). record it { number = r.part; from = r.from; key = k }) (sym key)

-- the marks, once the mark that stands has the record's length
pub longer_marks : (r : MarkText) (xs : List MarkItem) (i : ℕ) (m : MarkItem) → position (stands_for r) xs ≡ Some i → m ≡ get_or xs i m → in_place (part_mark (record m { len = r.len })) (unmarked r.from r.key (map part_mark (remove xs i))) ≡ in_place (new_mark r) (unmarked r.from r.key (map part_mark xs))
longer_marks r xs i m found is =
    let first = position-Some (stands_for r) xs i m found in
    let stands : stands_for r m ≡ true = ap (stands_for r) is ∙ first.1 in
    let parts = and_parts ((get_or xs i m).part == r.part) (is_same r.from r.key (address (get_or xs i m).from) (key_of (get_or xs i m).key)) first.1 in
    ap (λ (p : PartMark). in_place p (unmarked r.from r.key (map part_mark (remove xs i)))) (same_mark r m stands)
    ∙ ap (in_place (new_mark r)) (unmarked_removed r.from r.key xs i m first.0 parts.1)

-- the state, whose numbers stay
pub longer_state : (r : MarkText) (s : State) (marks : List PartMark) → marks ≡ in_place (new_mark r) (unmarked r.from r.key s.marks) → is_among r.part s.parts ≡ true → record s { marks = marks } ≡ with_mark r s
longer_state r s marks is used =
    let parts : with_number r.part s.parts ≡ s.parts = ap (λ (b : Bool). if b then s.parts else s.parts ++ r.part ∷ []) used in
    ap (λ (ms : List PartMark). record s { marks = ms }) is ∙ ap (λ (ns : List ℕ). record s { marks = in_place (new_mark r) (unmarked r.from r.key s.marks); parts = ns }) (sym parts)

-- the indices say nothing of marks
pub agrees_marks : (x : Index) (s : State) (marks : List PartMark) → Agrees x s → Agrees x (record s { marks = marks })
agrees_marks x s marks agrees = record { received = agrees.received; refused = agrees.refused; queued = agrees.queued; numbers = agrees.numbers; receipts = agrees.receipts; parts = agrees.parts; takes = agrees.takes; below = agrees.below }

pub mark_folds : (r : MarkText) (s : State) → (nat_lt 0 r.part && may_mark r s) ≡ true → fold_step s (Mark r) ≡ Some (with_mark r s)
mark_folds r s keeps = let parts = and_parts (nat_lt 0 r.part) (may_mark r s) keeps in rw (parts.0, parts.1) refl

pub mark_breaks : (r : MarkText) (s : State) → (nat_lt 0 r.part && may_mark r s) ≡ false → fold_step s (Mark r) ≡ None
mark_breaks r s breaks = elim (cases_Bool (nat_lt 0 r.part)) as (λ _. fold_step s (Mark r) ≡ None) [
  | inl numbered ↦ (let rule : may_mark r s ≡ false = sym (ap (λ (b : Bool). b && may_mark r s) numbered) ∙ breaks in rw (numbered, rule) refl)
  | inr zeroth ↦ rw zeroth refl
]

-- an orderly state stays orderly
pub order_longer : (result : Lengthened) (r : MarkText) (old new : State) → Lengthens result r old new → IsOrderly old → IsOrderly new
order_longer Longer r old new (stood, goes) orderly = order_step old (Mark r) new goes orderly
order_longer NoMark r old new (stood, same) orderly = subst IsOrderly (sym same) orderly
order_longer BadFold r old new (stood, breaks, same) orderly = subst IsOrderly (sym same) orderly

-- a mark leaves the files that wait
pub waits_longer : (need : Need) (index : TurnIndex) (result : Lengthened) (r : MarkText) (old new : State) → Lengthens result r old new → IsOrderly old → Turns index (is_needed need old.queue) → Turns index (is_needed need new.queue)
waits_longer need index Longer r old new (stood, goes) orderly turns = indexed_step need index old (Mark r) new goes orderly turns
waits_longer need index NoMark r old new (stood, same) orderly turns = turns_same need index old.queue new.queue (ap (λ (s : State). s.queue) (sym same)) turns
waits_longer need index BadFold r old new (stood, breaks, same) orderly turns = turns_same need index old.queue new.queue (ap (λ (s : State). s.queue) (sym same)) turns
