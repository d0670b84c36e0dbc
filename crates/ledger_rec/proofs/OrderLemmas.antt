-- The numbers of the parts and receipts of a fold.
use Rattle.std.proofs.Common.{◌≡◌, ◌≢◌, ◌⊎◌, inl, inr, ⊎_elim, ℕ, List, [], ◌∷◌, ◌++◌, Bool, true, false, not, refl, sym, ◌∙◌, ap, subst, arith}
use Rattle.std.specs.Prelude.{◌==◌, ◌&&◌, ◌||◌, nat_lt, nat_le}
use Rattle.std.specs.List.{AllByRecursion}
use Rattle.std.proofs.lemmas.Bool.{cases_Bool, true≢false, false≢true, and_parts}
use Rattle.std.proofs.lemmas.Bool.Decides.{nat_tests}
use Rattle.ftn_addr.specs.Address.{Address}
use Rattle.ftn_addr.specs.Files.{is_same}
use Rattle.ftn_addr.specs.Key.{Key}
use Rattle.ledger_rec.specs.Fold.{State, is_among, is_known, is_part_of, may_receive, goes_on, begins, may_mark, new_receipt, new_mark, unmarked, in_place, with_number, with_receipt, with_mark}
use Rattle.ledger_rec.specs.Order.{IsApartFrom, AreApart, IsOrderly}
use Rattle.ledger_rec.specs.Items.{Receipt, PartMark}
use Rattle.ledger_rec.specs.Record.{ReceivedText, MarkText}

left_of : (a b : Bool) → (a && b) ≡ true → a ≡ true
left_of a b both = (and_parts a b both).0

right_of : (a b : Bool) → (a && b) ≡ true → b ≡ true
right_of a b both = (and_parts a b both).1

-- lists

all_map : {A : Type 0} (P Q : A → Type 0) → ((x : A) → P x → Q x) → (xs : List A) → AllByRecursion P xs → AllByRecursion Q xs
all_map P Q f [] all = tt
all_map P Q f (x ∷ xs) (here, rest) = (f x here, all_map P Q f xs rest)

all_last : {A : Type 0} (P : A → Type 0) (xs : List A) (x : A) → AllByRecursion P xs → P x → AllByRecursion P (xs ++ x ∷ [])
all_last P [] x all new = (new, tt)
all_last P (y ∷ ys) x (here, rest) new = (here, all_last P ys x rest new)

pub all_left : (P : PartMark → Type 0) (from : Address) (key : Key) (ms : List PartMark) → AllByRecursion P ms → AllByRecursion P (unmarked from key ms)
all_left P from key [] all = tt
all_left P from key (m ∷ ms) (here, rest) = elim (cases_Bool (is_same from key m.from m.key)) [
  | inl same ↦ rw same (all_left P from key ms rest)
  | inr other ↦ rw other (here, all_left P from key ms rest)
]

all_placed : (P : PartMark → Type 0) (m : PartMark) (ms : List PartMark) → P m → AllByRecursion P ms → AllByRecursion P (in_place m ms)
all_placed P m [] new all = (new, tt)
all_placed P m (x ∷ xs) new (here, rest) = elim (cases_Bool (nat_lt m.number x.number)) [
  | inl lower ↦ rw lower (new, (here, rest))
  | inr higher ↦ rw higher (here, all_placed P m xs new rest)
]

pub apart_left : (from : Address) (key : Key) (ms : List PartMark) → AreApart ms → AreApart (unmarked from key ms)
apart_left from key [] apart = tt
apart_left from key (m ∷ ms) (here, rest) = elim (cases_Bool (is_same from key m.from m.key)) [
  | inl same ↦ rw same (apart_left from key ms rest)
  | inr other ↦ rw other (all_left (λ (x : PartMark). x.number ≢ m.number) from key ms here, apart_left from key ms rest)
]

apart_placed : (m : PartMark) (ms : List PartMark) → IsApartFrom m.number ms → AreApart ms → AreApart (in_place m ms)
apart_placed m [] new apart = (tt, tt)
apart_placed m (x ∷ xs) (new, news) (here, rest) = elim (cases_Bool (nat_lt m.number x.number)) [
  | inl lower ↦ rw lower ((new, news), (here, rest))
  | inr higher ↦ rw higher (all_placed (λ (y : PartMark). y.number ≢ x.number) m xs (λ same. new (sym same)) here, apart_placed m xs news rest)
]

-- numbers

among_last : (n k : ℕ) (ns : List ℕ) → is_among n ns ≡ true → is_among n (ns ++ k ∷ []) ≡ true
among_last n k [] among = absurd (false≢true among)
among_last n k (x ∷ xs) among = elim (cases_Bool (x == n)) [
  | inl here ↦ rw here refl
  | inr there ↦ rw there (among_last n k xs (sym (ap (λ (b : Bool). b || is_among n xs) there) ∙ among))
]

among_itself : (n : ℕ) (ns : List ℕ) → is_among n (ns ++ n ∷ []) ≡ true
among_itself n [] = let e : (n == n) ≡ true = grind (arith, nat_tests) in rw e refl
among_itself n (x ∷ xs) = elim (cases_Bool (x == n)) [
  | inl here ↦ rw here refl
  | inr there ↦ rw there (among_itself n xs)
]

among_more : (n k : ℕ) (ns : List ℕ) → is_among n ns ≡ true → is_among n (with_number k ns) ≡ true
among_more n k ns among = elim (cases_Bool (is_among k ns)) [ inl used ↦ rw used among | inr new ↦ rw new (among_last n k ns among) ]

among_now : (n : ℕ) (ns : List ℕ) → is_among n (with_number n ns) ≡ true
among_now n ns = elim (cases_Bool (is_among n ns)) [ inl used ↦ rw used used | inr new ↦ rw new (among_itself n ns) ]

unused_apart : (n : ℕ) (ns : List ℕ) (ms : List PartMark) → is_among n ns ≡ false → AllByRecursion (λ (m : PartMark). is_among m.number ns ≡ true) ms → IsApartFrom n ms
unused_apart n ns ms unused used =
    all_map (λ (m : PartMark). is_among m.number ns ≡ true) (λ (m : PartMark). m.number ≢ n) (λ m among same. true≢false (sym among ∙ ap (λ (k : ℕ). is_among k ns) same ∙ unused)) ms used

-- a marked part of the sender and key is the only one with its number

part_number : (n k : ℕ) (from : Address) (key : Key) (ms : List PartMark) → is_part_of n from key ms ≡ true → IsApartFrom k ms → n ≢ k
part_number n k from key [] is apart = absurd (false≢true is)
part_number n k from key (m ∷ ms) is (here, rest) = elim (cases_Bool (m.number == n && is_same from key m.from m.key)) [
  | inl this ↦ λ same. here (let e : (m.number == n) ≡ true = left_of (m.number == n) (is_same from key m.from m.key) this in grind (arith, nat_tests))
  | inr later ↦ part_number n k from key ms (sym (ap (λ (b : Bool). b || is_part_of n from key ms) later) ∙ is) rest
]

part_alone : (n : ℕ) (from : Address) (key : Key) (ms : List PartMark) → is_part_of n from key ms ≡ true → AreApart ms → IsApartFrom n (unmarked from key ms)
part_alone n from key [] is apart = tt
part_alone n from key (m ∷ ms) is (here, rest) = elim (cases_Bool (m.number == n && is_same from key m.from m.key)) [
  | inl this ↦
      let same = right_of (m.number == n) (is_same from key m.from m.key) this in
      let number : m.number ≡ n = (let e : (m.number == n) ≡ true = left_of (m.number == n) (is_same from key m.from m.key) this in grind (arith, nat_tests)) in
      rw same (subst (λ (k : ℕ). IsApartFrom k (unmarked from key ms)) number (all_left (λ (x : PartMark). x.number ≢ m.number) from key ms here))
  | inr later ↦
      let is_later = sym (ap (λ (b : Bool). b || is_part_of n from key ms) later) ∙ is in
      let other : m.number ≢ n = λ same. part_number n m.number from key ms is_later here (sym same) in
      elim (cases_Bool (is_same from key m.from m.key)) [
        | inl same ↦ rw same (part_alone n from key ms is_later rest)
        | inr apart ↦ rw apart (other, part_alone n from key ms is_later rest)
      ]
]

part_goes_on : (r : MarkText) (ms : List PartMark) → goes_on r ms ≡ true → is_part_of r.part r.from r.key ms ≡ true
part_goes_on r [] is = absurd (false≢true is)
part_goes_on r (m ∷ ms) is = elim (cases_Bool (m.number == r.part && is_same r.from r.key m.from m.key)) [
  | inl this ↦ rw this refl
  | inr later ↦ rw later (part_goes_on r ms (sym (ap (λ (b : Bool). b || goes_on r ms) (shorter (m.number == r.part) (is_same r.from r.key m.from m.key) (nat_le m.len r.len) later)) ∙ is))
]
  where
    shorter : (a b c : Bool) → (a && b) ≡ false → (a && (b && c)) ≡ false
    shorter true true c is = absurd (true≢false is)
    shorter true false c is = refl
    shorter false b c is = refl

either : (a b : Bool) → (a || b) ≡ true → (a ≡ true) ⊎ (b ≡ true)
either true b is = inl refl
either false b is = inr is

is_false : (a : Bool) → not a ≡ true → a ≡ false
is_false true is = absurd (false≢true is)
is_false false is = refl

-- one receipt more
pub order_received : (s : State) (r : ReceivedText) → may_receive r s ≡ true → IsOrderly s → IsOrderly (with_receipt r s)
order_received s r may o =
    let numbered = either (is_part_of r.receipt r.from r.key s.marks) (not (is_among r.receipt s.parts)) (right_of (not (is_known r.from r.key s)) (is_part_of r.receipt r.from r.key s.marks || not (is_among r.receipt s.parts)) may) in
    let alone : IsApartFrom r.receipt (unmarked r.from r.key s.marks) = ⊎_elim
    (λ part. part_alone r.receipt r.from r.key s.marks part o.apart)
    (λ new. all_left (λ (m : PartMark). m.number ≢ r.receipt) r.from r.key s.marks (unused_apart r.receipt s.parts s.marks (is_false (is_among r.receipt s.parts) new) o.marks)) numbered in
    record {
      queue = o.queue;
      marks = all_left (λ (m : PartMark). is_among m.number (with_number r.receipt s.parts) ≡ true) r.from r.key s.marks
          (all_map (λ (m : PartMark). is_among m.number s.parts ≡ true) (λ (m : PartMark). is_among m.number (with_number r.receipt s.parts) ≡ true) (λ m among. among_more m.number r.receipt s.parts among) s.marks o.marks);
      inbox = all_last (λ (x : Receipt). is_among x.number (with_number r.receipt s.parts) ≡ true) s.inbox (new_receipt r)
          (all_map (λ (x : Receipt). is_among x.number s.parts ≡ true) (λ (x : Receipt). is_among x.number (with_number r.receipt s.parts) ≡ true) (λ x among. among_more x.number r.receipt s.parts among) s.inbox o.inbox)
          (among_now r.receipt s.parts);
      apart = apart_left r.from r.key s.marks o.apart;
      free = all_last (λ (x : Receipt). IsApartFrom x.number (unmarked r.from r.key s.marks)) s.inbox (new_receipt r)
          (all_map (λ (x : Receipt). IsApartFrom x.number s.marks) (λ (x : Receipt). IsApartFrom x.number (unmarked r.from r.key s.marks)) (λ x free. all_left (λ (m : PartMark). m.number ≢ x.number) r.from r.key s.marks free) s.inbox o.free) alone;
    }

-- one mark more
pub order_marked : (s : State) (r : MarkText) → may_mark r s ≡ true → IsOrderly s → IsOrderly (with_mark r s)
order_marked s r may o =
    let numbered = either (goes_on r s.marks) (begins r s) (right_of (nat_le r.len r.key.size) (goes_on r s.marks || begins r s) (right_of (nat_lt 0 r.len) (nat_le r.len r.key.size && (goes_on r s.marks || begins r s)) may)) in
    let unused : begins r s ≡ true → is_among r.part s.parts ≡ false = λ new. is_false (is_among r.part s.parts) (left_of (not (is_among r.part s.parts)) _ new) in
    let alone : IsApartFrom r.part (unmarked r.from r.key s.marks) = ⊎_elim
    (λ goes. part_alone r.part r.from r.key s.marks (part_goes_on r s.marks goes) o.apart)
    (λ new. all_left (λ (m : PartMark). m.number ≢ r.part) r.from r.key s.marks (unused_apart r.part s.parts s.marks (unused new) o.marks)) numbered in
    let new_free : (x : Receipt) → (is_among x.number s.parts ≡ true) × IsApartFrom x.number s.marks → IsApartFrom x.number (in_place (new_mark r) (unmarked r.from r.key s.marks)) = λ x known.
    all_placed (λ (m : PartMark). m.number ≢ x.number) (new_mark r) (unmarked r.from r.key s.marks)
    (⊎_elim (λ goes. part_number r.part x.number r.from r.key s.marks (part_goes_on r s.marks goes) known.1) (λ new same. true≢false (sym known.0 ∙ ap (λ (k : ℕ). is_among k s.parts) (sym same) ∙ unused new)) numbered)
    (all_left (λ (m : PartMark). m.number ≢ x.number) r.from r.key s.marks known.1) in
    record {
      queue = o.queue;
      marks = all_placed (λ (m : PartMark). is_among m.number (with_number r.part s.parts) ≡ true) (new_mark r) (unmarked r.from r.key s.marks) (among_now r.part s.parts)
          (all_left (λ (m : PartMark). is_among m.number (with_number r.part s.parts) ≡ true) r.from r.key s.marks
          (all_map (λ (m : PartMark). is_among m.number s.parts ≡ true) (λ (m : PartMark). is_among m.number (with_number r.part s.parts) ≡ true) (λ m among. among_more m.number r.part s.parts among) s.marks o.marks));
      inbox = all_map (λ (x : Receipt). is_among x.number s.parts ≡ true) (λ (x : Receipt). is_among x.number (with_number r.part s.parts) ≡ true) (λ x among. among_more x.number r.part s.parts among) s.inbox o.inbox;
      apart = apart_placed (new_mark r) (unmarked r.from r.key s.marks) alone (apart_left r.from r.key s.marks o.apart);
      free = both s.inbox o.inbox o.free new_free;
    }
  where
    both : {P Q R : Receipt → Type 0} (xs : List Receipt) → AllByRecursion P xs → AllByRecursion Q xs → ((x : Receipt) → P x × Q x → R x) → AllByRecursion R xs
    both [] ps qs f = tt
    both (x ∷ xs) (p, ps) (q, qs) f = (f x (p, q), both xs ps qs f)
