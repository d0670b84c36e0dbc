-- What look-ups find, of the lists as they lie in memory.
use Rattle.std.proofs.Common.{◌≡◌, ℕ, zero, suc, ◌+◌, ◌-◌, ◌<◌, ◌≤◌, ◌==◌, Bool, true, false, List, [], ◌∷◌, map, length, take, drop, get_or, Option, Some, None, refl, sym, ◌∙◌, ap, inl, inr, arith}
use Rattle.std.proofs.lemmas.Bool.{cases_Bool}
use Rattle.std.proofs.Math.Seq.{take-length}
use Rattle.std.specs.Prelude.{◌||◌, find, option_map, if◌then◌else◌}
use Rattle.ftn_addr.specs.Address.{Address, address}
use Rattle.ftn_addr.specs.Files.{is_same}
use Rattle.ftn_addr.specs.Key.{Key, key_of}
use Rattle.disk_model.specs.World.{World}
use Rattle.ledger_rec.specs.Fold as F
use Rattle.ledger_rec.specs.Fold.{State, is_among}
use Rattle.ledger_rec.specs.Items.{Entry, Receipt, Refusal, PartMark, entry, receipt, part_mark}
use Rattle.ledger_rec.specs.declared.items.InboxItem.{InboxItem}
use Rattle.ledger_rec.specs.declared.items.MarkItem.{MarkItem}
use Rattle.ledger_rec.specs.declared.items.QueueItem.{QueueItem}
use Rattle.node_model.specs.declared.store.PartAt.{PartAt}
use Rattle.node_model.specs.declared.words.Known.TheVariants.{New, Received, Refused}
use Rattle.node_model.specs.Durable.{is_refused, mark_of}
use Rattle.node_model.specs.Items as N
use Rattle.node_model.specs.Lists.{some_passes, first_that}
use Rattle.node_model.specs.Stocks.{known_in}
use Rattle.node_model.specs.StoreWords.{part_at}
use Rattle.node_store.specs.Contents.{Contents, receipt_by, refusal_of, mark_by, durable_by}
use Rattle.node_store.specs.Lookups.{at_mark}
use Rattle.node_store.specs.Stored.{sizes_in}

module _ (from : Address) (key : Key) where
  received_seen : {B : Type 0} (c : Contents B) (rs : List Receipt) → some_passes (λ (r : N.ReceiptOf B). is_same from key r.from r.key) (map (receipt_by c) rs) ≡ F.is_received from key rs
  received_seen c [] = refl
  received_seen c (r ∷ rs) = ap (λ (b : Bool). is_same from key r.from r.key || b) (received_seen c rs)

  refused_seen : (rs : List Refusal) → some_passes (λ (r : N.Refusal). is_same from key r.from r.key) (map refusal_of rs) ≡ F.is_refused from key rs
  refused_seen [] = refl
  refused_seen (r ∷ rs) = ap (λ (b : Bool). is_same from key r.from r.key || b) (refused_seen rs)

  pub known_is : {B : Type 0} (c : Contents B) (s : State) (a b : Bool) → F.is_received from key s.inbox ≡ a → F.is_refused from key s.refused ≡ b → (if a then Received else if b then Refused else New) ≡ known_in from key (durable_by c s)
  known_is c s a b x y =
      sym (ap (λ (v : Bool). if v then Received else if is_refused from key (durable_by c s) then Refused else New) (received_seen c s.inbox ∙ x) ∙ ap (λ (v : Bool). if a then Received else if v then Refused else New) (refused_seen s.refused ∙ y))

  pub received_alone : {B : Type 0} (c : Contents B) (s : State) → F.is_received from key s.inbox ≡ true → Received ≡ known_in from key (durable_by c s)
  received_alone c s x = sym (ap (λ (v : Bool). if v then Received else if is_refused from key (durable_by c s) then Refused else New) (received_seen c s.inbox ∙ x))

  mark_found : (tells : Bool) (w : World) (given : List ℕ) (ms : List MarkItem)
      → option_map part_at (first_that (λ (m : N.MarkOf ℕ). is_same from key m.from m.key) (map (mark_by (sizes_in tells w given)) (map part_mark ms))) ≡ option_map at_mark (find (λ (m : MarkItem). is_same from key (address m.from) (key_of m.key)) ms)
  mark_found tells w given [] = refl
  mark_found tells w given (m ∷ ms) = go (is_same from key (address m.from) (key_of m.key)) (mark_found tells w given ms)
    where
      go : (b : Bool) → option_map part_at (first_that (λ (m : N.MarkOf ℕ). is_same from key m.from m.key) (map (mark_by (sizes_in tells w given)) (map part_mark ms))) ≡ option_map at_mark (find (λ (m : MarkItem). is_same from key (address m.from) (key_of m.key)) ms)
          → option_map part_at (if b then Some (mark_by (sizes_in tells w given) (part_mark m)) else first_that (λ (m : N.MarkOf ℕ). is_same from key m.from m.key) (map (mark_by (sizes_in tells w given)) (map part_mark ms)))
          ≡ option_map at_mark (if b then Some m else find (λ (m : MarkItem). is_same from key (address m.from) (key_of m.key)) ms)
      go true rest = refl
      go false rest = rest

  pub mark_is : (tells : Bool) (w : World) (given : List ℕ) (s : State) (ms : List MarkItem) (o : Option PartAt) → map part_mark ms ≡ s.marks
      → o ≡ option_map at_mark (find (λ (m : MarkItem). is_same from key (address m.from) (key_of m.key)) ms) → o ≡ option_map part_at (mark_of from key (durable_by (sizes_in tells w given) s))
  mark_is tells w given s ms o same is =
      is ∙ sym (mark_found tells w given ms) ∙ ap (λ (l : List PartMark). option_map part_at (first_that (λ (m : N.MarkOf ℕ). is_same from key m.from m.key) (map (mark_by (sizes_in tells w given)) l))) same

-- the first that passes, behind those before

pub find_here : {A : Type 0} (p : A → Bool) (xs : List A) (i : ℕ) (x : A) → i < length xs → x ≡ get_or xs i x → p x ≡ true → find p (drop i xs) ≡ Some x
find_here p [] i x lt is e = absurd (omega (arith, lt))
find_here p (y ∷ ys) zero x lt is e = ap (λ z. if p z then Some z else find p ys) (sym is) ∙ ap (λ b. if b then Some x else find p ys) e
find_here p (y ∷ ys) (suc i) x lt is e = find_here p ys i x (omega (arith, lt)) is e

pub find_next : {A : Type 0} (p : A → Bool) (xs : List A) (i : ℕ) (x : A) → i < length xs → x ≡ get_or xs i x → p x ≡ false → find p (drop (i + 1) xs) ≡ find p (drop i xs)
find_next p [] i x lt is e = absurd (omega (arith, lt))
find_next p (y ∷ ys) zero x lt is e = sym (ap (λ b. if b then Some y else find p ys) (ap p (sym is) ∙ e))
find_next p (y ∷ ys) (suc i) x lt is e =
    ap (λ (k : ℕ). find p (drop k (y ∷ ys))) (let k : suc i + 1 ≡ suc (i + 1) = omega arith in k) ∙ find_next p ys i x (omega (arith, lt)) is e

pub find_end : {A : Type 0} (p : A → Bool) (xs : List A) (i : ℕ) → length xs ≤ i → find p (drop i xs) ≡ None
find_end p [] zero le = refl
find_end p [] (suc i) le = refl
find_end p (x ∷ xs) zero le = absurd (omega (arith, le))
find_end p (x ∷ xs) (suc i) le = find_end p xs i (omega (arith, le))

-- behind items that don't pass the first that passes is the first of all
pub find_behind : {A : Type 0} (number : A → ℕ) (n k : ℕ) (xs : List A) → is_among n (take k (map number xs)) ≡ false → find (λ (x : A). number x == n) (drop k xs) ≡ find (λ (x : A). number x == n) xs
find_behind number n zero xs none = refl
find_behind number n (suc k) [] none = refl
find_behind number n (suc k) (x ∷ xs) none = elim (cases_Bool (number x == n)) as (λ _. find (λ y. number y == n) (drop k xs) ≡ find (λ y. number y == n) (x ∷ xs)) [
  | inl this ↦ absurd (let clash : true ≡ false = sym (ap (λ (b : Bool). b || is_among n (take k (map number xs))) this) ∙ none in cc clash)
  | inr other ↦
      find_behind number n k xs (sym (ap (λ (b : Bool). b || is_among n (take k (map number xs))) other) ∙ none)
      ∙ sym (ap (λ (b : Bool). if b then Some x else find (λ y. number y == n) xs) other)
]

numbers_seen : {A B : Type 0} (f : A → B) (number : B → ℕ) (xs : List A) → map number (map f xs) ≡ map (λ x. number (f x)) xs
numbers_seen f number [] = refl
numbers_seen f number (x ∷ xs) = ap (λ (ns : List ℕ). number (f x) ∷ ns) (numbers_seen f number xs)

-- what isn't among the numbers of these entries, or receipts, isn't among those of the items
pub none_queued : (n k : ℕ) (items : List QueueItem) (queue : List Entry) → map entry items ≡ queue → is_among n (take k (map (λ (e : Entry). e.number) queue)) ≡ false → is_among n (take k (map (λ (e : QueueItem). e.number) items)) ≡ false
none_queued n k items queue same none =
    ap (λ (ns : List ℕ). is_among n (take k ns)) (sym (numbers_seen entry (λ (e : Entry). e.number) items) ∙ ap (map (λ (e : Entry). e.number)) same) ∙ none

pub none_received : (n k : ℕ) (items : List InboxItem) (inbox : List Receipt) → map receipt items ≡ inbox → is_among n (take k (map (λ (r : Receipt). r.number) inbox)) ≡ false → is_among n (take k (map (λ (r : InboxItem). r.receipt) items)) ≡ false
none_received n k items inbox same none =
    ap (λ (ns : List ℕ). is_among n (take k ns)) (sym (numbers_seen receipt (λ (r : Receipt). r.number) items) ∙ ap (map (λ (r : Receipt). r.number)) same) ∙ none

-- the slice from a place on
pub rest_of : {A : Type 0} (k : ℕ) (xs : List A) → take (length xs - k) (drop k xs) ≡ drop k xs
rest_of zero xs = let same : length xs - 0 ≡ length xs = omega arith in ap (λ (n : ℕ). take n xs) same ∙ take-length xs
rest_of (suc k) [] = let none : 0 - suc k ≡ 0 = omega arith in ap (λ (n : ℕ). take n []) none
rest_of (suc k) (x ∷ xs) = let less : length (x ∷ xs) - suc k ≡ length xs - k = omega arith in ap (λ (n : ℕ). take n (drop k xs)) less ∙ rest_of k xs
