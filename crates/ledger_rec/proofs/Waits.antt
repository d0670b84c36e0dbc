-- The files that wait, once a record is folded in.
use Rattle.std.proofs.Common.{◌≡◌, ◌≢◌, ℕ, zero, suc, ◌+◌, ◌<◌, List, [], ◌∷◌, ◌++◌, map, length, get_or, Some, None, Bool, true, false, not, ◌&&◌, ◌||◌, refl, sym, ◌∙◌, ap, subst, inl, inr, arith}
use Rattle.std.specs.Prelude.{option_map, position, slice_get, ◌==◌, ◌-◌, if◌then◌else◌, nat_lt}
use Rattle.std.specs.List.{AllByRecursion, list_any, position_or_len}
use Rattle.std.proofs.lemmas.Bool.{cases_Bool, and_parts, eqb-true, true≢false}
use Rattle.std.proofs.lemmas.List.{length-map, length-append}
use Rattle.std.proofs.lemmas.Option.{slice_get-map}
use Rattle.ftn_addr.specs.Address.{Address, same_address}
use Rattle.file_index.specs.Turns.{Turns, same_turn}
use Rattle.file_index.specs.declared.turns.Turn.{Turn}
use Rattle.file_index.specs.declared.turns.TurnIndex.{TurnIndex}
use Rattle.ledger_rec.specs.Fold.{State, is_among, may_queue, may_receive, may_refuse, may_mark, changed, answered, settled, acted_on, is_live, waits_for_action, waits_for_answer, new_entry, with_queued, with_receipt, with_refusal, with_mark, with_take, fold_step, after}
use Rattle.ledger_rec.specs.Items.{Entry, entry}
use Rattle.ledger_rec.specs.declared.items.QueueItem.{QueueItem}
use Rattle.ledger_rec.specs.Order.{AreDifferent, IsOrderly}
use Rattle.ledger_rec.specs.Record.{RecordText, Queue, Done, Received, Refused, Mark, Taken, Acted, Answered}
use Rattle.ledger_rec.specs.Waiting.{has_need, is_needed, met, needs, needs_at, turn_for, wait_of, WasIndexed}
use Rattle.ledger_rec.specs.declared.waiting.Need.{Need}
use Rattle.ledger_rec.specs.declared.waiting.Need.TheVariants.{Sending, Action}
use Rattle.ledger_rec.proofs.Agreeing.{any_more, mapped_some}
use Rattle.ledger_rec.proofs.Changing.{past_end, none_any}
use Rattle.ledger_rec.proofs.Differing.{number_of}
use Rattle.ledger_rec.proofs.Mapped.{list_any_map}
use Rattle.ledger_rec.proofs.OrderFold.{if_may_some, step_is_after}

-- the turn of a file for its address
abbrev pub is_turn : Need → Address → Turn → Entry → Bool
is_turn need to t e = same_address to e.dest && same_turn t (turn_for need e)

turn_number : (need : Need) (e : Entry) → (turn_for need e).number ≡ e.number
turn_number Sending e = refl
turn_number Action e = refl

-- What a file is, once it waits no more.

met_number : (need : Need) (e : Entry) → (met need e).number ≡ e.number
met_number Sending e = refl
met_number Action e = refl

met_turn : (need : Need) (to : Address) (t : Turn) (e : Entry) → is_turn need to t (met need e) ≡ is_turn need to t e
met_turn Sending to t e = refl
met_turn Action to t e = refl

met_closed : (need : Need) (e : Entry) → has_need need (met need e) ≡ false
met_closed Sending e = refl
met_closed Action e = none (nat_lt 0 e.action)
  where
    none : (b : Bool) → (b && false) ≡ false
    none true = refl
    none false = refl

-- One that begins.

pub begun_waits : (need : Need) (old : List Entry) (e : Entry) (to : Address) (t : Turn) → has_need need e ≡ true → (is_needed need old to t || is_turn need to t e) ≡ is_needed need (old ++ e ∷ []) to t
begun_waits need old e to t waits = sym (any_more (needs_at need to t) old e ∙ rw waits refl)

-- One that ends.

-- a file of another number doesn't wait at that turn
not_its_turn : (need : Need) (to : Address) (t : Turn) (n : ℕ) (e x : Entry) → e.number ≡ n → n ≢ x.number → is_turn need to t e ≡ true → needs_at need to t x ≡ false
not_its_turn need to t n e x is other turn =
    let at : t.number ≡ e.number = eqb-true t.number (turn_for need e).number (and_parts (t.rank == (turn_for need e).rank) (t.number == (turn_for need e).number) (and_parts (same_address to e.dest) (same_turn t (turn_for need e)) turn).1).1 ∙ turn_number need e in
    let apart : (t.number == (turn_for need x).number) ≡ false = differ t.number (turn_for need x).number (λ same. other (sym is ∙ sym at ∙ same ∙ turn_number need x)) in
    rw apart (nothing (has_need need x) (same_address to x.dest) (t.rank == (turn_for need x).rank))
  where
    differ : (m k : ℕ) → m ≢ k → (m == k) ≡ false
    differ m k apart = elim (cases_Bool (m == k)) as (λ _. (m == k) ≡ false) [
      | inl same ↦ absurd (apart (eqb-true m k same))
      | inr different ↦ different
    ]

    nothing : (a b c : Bool) → (a && (b && (c && false))) ≡ false
    nothing true true true = refl
    nothing true true false = refl
    nothing true false c = refl
    nothing false b c = refl

none_waits : (need : Need) (to : Address) (t : Turn) (n : ℕ) (e : Entry) (xs : List Entry) → e.number ≡ n → AllByRecursion (λ k. n ≢ k) (map number_of xs) → is_turn need to t e ≡ true → is_needed need xs to t ≡ false
none_waits need to t n e [] is all turn = refl
none_waits need to t n e (x ∷ xs) is all turn = rw (not_its_turn need to t n e x is all.0 turn, none_waits need to t n e xs is all.1 turn) refl

-- where the first is changed, or a later one
changed_first : {A : Type 0} (p : A → Bool) (f : A → A) (x : A) (xs ys : List A) → p x ≡ true → changed p f (x ∷ xs) ≡ Some ys → f x ∷ xs ≡ ys
changed_first p f x xs ys here is =
    let now : Some (f x ∷ xs) ≡ Some ys = sym (ap (λ (b : Bool). if b then Some (f x ∷ xs) else option_map (λ zs. x ∷ zs) (changed p f xs)) here) ∙ is in
    cc now

changed_later : {A : Type 0} (p : A → Bool) (f : A → A) (x : A) (xs ys : List A) → p x ≡ false → changed p f (x ∷ xs) ≡ Some ys → (zs : List A) × (changed p f xs ≡ Some zs) × (x ∷ zs ≡ ys)
changed_later p f x xs ys there is =
    mapped_some (λ zs. x ∷ zs) (changed p f xs) ys (sym (ap (λ (b : Bool). if b then Some (f x ∷ xs) else option_map (λ zs. x ∷ zs) (changed p f xs)) there) ∙ is)

its_number : (need : Need) (n : ℕ) (x : Entry) → needs need n x ≡ true → x.number ≡ n
its_number need n x is = eqb-true x.number n (and_parts (x.number == n) (has_need need x) is).0

-- the file with that number that waits is among these
needed_there : (need : Need) (n : ℕ) (xs ys : List Entry) → changed (needs need n) (met need) xs ≡ Some ys → AllByRecursion (λ k. n ≢ k) (map number_of xs) → ⊥
needed_there need n [] ys is all = cc is
needed_there need n (x ∷ xs) ys is all = elim (cases_Bool (needs need n x)) as (λ _. ⊥) [
  | inl here ↦ all.0 (sym (its_number need n x here))
  | inr there ↦ (let more = changed_later (needs need n) (met need) x xs ys there is in needed_there need n xs more.0 more.1 all.1)
]

-- the file with that number, once it waits no more
pub record IsEnded (need : Need) (n : ℕ) (xs ys : List Entry) (e : Entry) : Type 0 where
  pub number : e.number ≡ n
  pub waits : (to : Address) (t : Turn) → is_needed need ys to t ≡ (is_needed need xs to t && not (is_turn need to t e))

first_ended : (need : Need) (n : ℕ) (x : Entry) (xs : List Entry) → needs need n x ≡ true → AllByRecursion (λ k. x.number ≢ k) (map number_of xs) → IsEnded need n (x ∷ xs) (met need x ∷ xs) (met need x)
first_ended need n x xs here all = record {
  number = met_number need x ∙ its_number need n x here;
  waits = λ to t.
      let first : is_needed need (met need x ∷ xs) to t ≡ is_needed need xs to t = ap (λ (b : Bool). b && is_turn need to t (met need x) || is_needed need xs to t) (met_closed need x) in
      first ∙ elim (cases_Bool (is_turn need to t x)) as (λ _. is_needed need xs to t ≡ (is_needed need (x ∷ xs) to t && not (is_turn need to t x))) [
        | inl turn ↦ rw (turn, none_waits need to t x.number x xs refl all turn) (nothing (has_need need x && true || false))
        | inr apart ↦ rw apart (rest (has_need need x) (is_needed need xs to t))
      ] ∙ ap (λ (b : Bool). is_needed need (x ∷ xs) to t && not b) (sym (met_turn need to t x));
}
  where
    nothing : (a : Bool) → false ≡ (a && false)
    nothing true = refl
    nothing false = refl

    rest : (has w : Bool) → w ≡ (((has && false) || w) && true)
    rest true true = refl
    rest true false = refl
    rest false true = refl
    rest false false = refl

later_ended : (need : Need) (n : ℕ) (x : Entry) (xs ys : List Entry) (e : Entry) → n ≢ x.number → IsEnded need n xs ys e → IsEnded need n (x ∷ xs) (x ∷ ys) e
later_ended need n x xs ys e other ended = record {
  number = ended.number;
  waits = λ to t. elim (cases_Bool (is_turn need to t e)) as (λ _. is_needed need (x ∷ ys) to t ≡ (is_needed need (x ∷ xs) to t && not (is_turn need to t e))) [
    | inl turn ↦
        let first = not_its_turn need to t n e x ended.number other turn in
        let more : is_needed need ys to t ≡ (is_needed need xs to t && not (is_turn need to t e)) = ended.waits to t in
        rw (first, more, turn) refl
    | inr apart ↦
        let more : is_needed need ys to t ≡ (is_needed need xs to t && not (is_turn need to t e)) = ended.waits to t in
        rw (more, apart) (both (needs_at need to t x) (is_needed need xs to t))
  ];
}
  where
    both : (a b : Bool) → (a || (b && true)) ≡ ((a || b) && true)
    both true b = refl
    both false b = refl

differs_at : (n : ℕ) (xs : List Entry) (j : ℕ) (d : Entry) → AllByRecursion (λ k. n ≢ k) (map number_of xs) → j < length xs → (get_or xs j d).number ≢ n
differs_at n [] j d all within = absurd (omega (arith, within))
differs_at n (x ∷ xs) zero d all within = λ same. all.0 (sym same)
differs_at n (x ∷ xs) (suc j) d all within = differs_at n xs j d all.1 (omega (arith, within))

-- the file that stands with that number
pub ended_at : (need : Need) (n : ℕ) (xs ys : List Entry) (i : ℕ) (d : Entry) → changed (needs need n) (met need) xs ≡ Some ys → AreDifferent (map number_of xs) → i < length ys → (get_or ys i d).number ≡ n → IsEnded need n xs ys (get_or ys i d)
ended_at need n [] ys i d is different within number = absurd (cc is)
ended_at need n (x ∷ xs) ys i d is different within number = elim (cases_Bool (needs need n x)) as (λ _. IsEnded need n (x ∷ xs) ys (get_or ys i d)) [
  | inl here ↦
      let same : met need x ∷ xs ≡ ys = changed_first (needs need n) (met need) x xs ys here is in
      subst (λ (l : List Entry). IsEnded need n (x ∷ xs) l (get_or l i d)) same (first i here (subst (λ (l : List Entry). i < length l) (sym same) within) (subst (λ (l : List Entry). (get_or l i d).number ≡ n) (sym same) number))
  | inr there ↦
      let more = changed_later (needs need n) (met need) x xs ys there is in
      subst (λ (l : List Entry). IsEnded need n (x ∷ xs) l (get_or l i d)) more.2
      (later i more.0 more.1 (λ j within number. ended_at need n xs more.0 j d more.1 different.1 within number) (subst (λ (l : List Entry). i < length l) (sym more.2) within) (subst (λ (l : List Entry). (get_or l i d).number ≡ n) (sym more.2) number))
]
  where
    first : (i : ℕ) → needs need n x ≡ true → i < length (met need x ∷ xs) → (get_or (met need x ∷ xs) i d).number ≡ n → IsEnded need n (x ∷ xs) (met need x ∷ xs) (get_or (met need x ∷ xs) i d)
    first zero here within number = first_ended need n x xs here different.0
    first (suc j) here within number =
        let all : AllByRecursion (λ k. n ≢ k) (map number_of xs) = subst (λ (m : ℕ). AllByRecursion (λ k. m ≢ k) (map number_of xs)) (its_number need n x here) different.0 in
        absurd (differs_at n xs j d all (omega (arith, within)) number)

    apart : (zs : List Entry) → changed (needs need n) (met need) xs ≡ Some zs → n ≢ x.number
    apart zs is same = needed_there need n xs zs is (subst (λ (m : ℕ). AllByRecursion (λ k. m ≢ k) (map number_of xs)) (sym same) different.0)

    later : (i : ℕ) (zs : List Entry) → changed (needs need n) (met need) xs ≡ Some zs → ((j : ℕ) → j < length zs → (get_or zs j d).number ≡ n → IsEnded need n xs zs (get_or zs j d)) → i < length (x ∷ zs) → (get_or (x ∷ zs) i d).number ≡ n → IsEnded need n (x ∷ xs) (x ∷ zs) (get_or (x ∷ zs) i d)
    later zero zs is rest within number = absurd (apart zs is (sym number))
    later (suc j) zs is rest within number = later_ended need n x xs zs (get_or zs j d) (apart zs is) (rest j (omega (arith, within)) number)

-- there is one
pub ended_there : (need : Need) (n : ℕ) (xs ys : List Entry) → changed (needs need n) (met need) xs ≡ Some ys → list_any (λ (e : Entry). e.number == n) ys ≡ true
ended_there need n [] ys is = absurd (cc is)
ended_there need n (x ∷ xs) ys is = elim (cases_Bool (needs need n x)) as (λ _. list_any (λ (e : Entry). e.number == n) ys ≡ true) [
  | inl here ↦
      let same : met need x ∷ xs ≡ ys = changed_first (needs need n) (met need) x xs ys here is in
      let there : (x.number == n) ≡ true = (and_parts (x.number == n) (has_need need x) here).0 in
      subst (λ (l : List Entry). list_any (λ (e : Entry). e.number == n) l ≡ true) same (rw (met_number need x, there) refl)
  | inr there ↦
      let more = changed_later (needs need n) (met need) x xs ys there is in
      subst (λ (l : List Entry). list_any (λ (e : Entry). e.number == n) l ≡ true) more.2 (rw (ended_there need n xs more.0 more.1) (either (x.number == n)))
]
  where
    either : (b : Bool) → (b || true) ≡ true
    either true = refl
    either false = refl

-- One record more.

turns_alike : (need : Need) (index : TurnIndex) (xs ys : List Entry) → ((to : Address) (t : Turn) → is_needed need xs to t ≡ is_needed need ys to t) → Turns index (is_needed need xs) → Turns index (is_needed need ys)
turns_alike need index xs ys alike turns = λ whole to t. turns whole to t ∙ alike to t

pub turns_same : (need : Need) (index : TurnIndex) (xs ys : List Entry) → xs ≡ ys → Turns index (is_needed need xs) → Turns index (is_needed need ys)
turns_same need index xs ys same turns = subst (λ (l : List Entry). Turns index (is_needed need l)) same turns

-- a change that leaves the need and the turn of each file
changed_else : (need : Need) (p : Entry → Bool) (f : Entry → Entry) → ((to : Address) (t : Turn) (x : Entry) → needs_at need to t (f x) ≡ needs_at need to t x) → (xs ys : List Entry) → changed p f xs ≡ Some ys → (to : Address) (t : Turn) → is_needed need xs to t ≡ is_needed need ys to t
changed_else need p f same [] ys is to t = absurd (cc is)
changed_else need p f same (x ∷ xs) ys is to t = elim (cases_Bool (p x)) as (λ _. is_needed need (x ∷ xs) to t ≡ is_needed need ys to t) [
  | inl here ↦
      ap (λ (b : Bool). b || is_needed need xs to t) (sym (same to t x)) ∙ ap (λ (l : List Entry). is_needed need l to t) (changed_first p f x xs ys here is)
  | inr there ↦
      let more = changed_later p f x xs ys there is in
      ap (λ (b : Bool). needs_at need to t x || b) (changed_else need p f same xs more.0 more.1 to t) ∙ ap (λ (l : List Entry). is_needed need l to t) more.2
]

queue_after : (p : Entry → Bool) (f : Entry → Entry) (s t : State) → option_map (λ queue. record s { queue = queue }) (changed p f s.queue) ≡ Some t → changed p f s.queue ≡ Some t.queue
queue_after p f s t is =
    let m = mapped_some (λ queue. record s { queue = queue }) (changed p f s.queue) t is in
    m.1 ∙ ap (λ (x : State). Some x.queue) m.2

indexed_after : (index : TurnIndex) (s : State) (r : RecordText) (need : Need) (t : State) → after s r ≡ Some t → IsOrderly s → Turns index (is_needed need s.queue) → WasIndexed need (wait_of r need) index t.queue
indexed_after index s (Queue r) need t is o turns =
    let m = if_may_some (may_queue r s.queue) (with_queued r s) t is in
    record { old = s.queue; file = new_entry r; is = ap (λ (x : State). x.queue) (sym m.1); turns = turns }
indexed_after index s (Done number session) Sending t is o turns = record { old = s.queue; is = queue_after (is_live number) settled s t is; different = o.queue; turns = turns }
indexed_after index s (Done number session) Action t is o turns = turns_alike Action index s.queue t.queue (changed_else Action (is_live number) settled (λ to u x. refl) s.queue t.queue (queue_after (is_live number) settled s t is)) turns
indexed_after index s (Received r) need t is o turns = let m = if_may_some (may_receive r s) (with_receipt r s) t is in turns_same need index s.queue t.queue (ap (λ (x : State). x.queue) m.1) turns
indexed_after index s (Refused r) need t is o turns = let m = if_may_some (may_refuse r s) (with_refusal r s) t is in turns_same need index s.queue t.queue (ap (λ (x : State). x.queue) m.1) turns
indexed_after index s (Mark r) need t is o turns = let m = if_may_some (may_mark r s) (with_mark r s) t is in turns_same need index s.queue t.queue (ap (λ (x : State). x.queue) m.1) turns
indexed_after index s (Taken take) need t is o turns = let m = if_may_some (not (is_among take s.takes)) (with_take take s) t is in turns_same need index s.queue t.queue (ap (λ (x : State). x.queue) m.1) turns
indexed_after index s (Acted number) Sending t is o turns = turns_alike Sending index s.queue t.queue (changed_else Sending (waits_for_action number) acted_on (λ to u x. refl) s.queue t.queue (queue_after (waits_for_action number) acted_on s t is)) turns
indexed_after index s (Acted number) Action t is o turns = record { old = s.queue; is = queue_after (waits_for_action number) acted_on s t is; different = o.queue; turns = turns }
indexed_after index s (Answered number) need t is o turns =
    let m = mapped_some (λ inbox. record s { inbox = inbox }) (changed (waits_for_answer number) answered s.inbox) t is in
    turns_same need index s.queue t.queue (ap (λ (x : State). x.queue) m.2) turns

pub indexed_step : (need : Need) (index : TurnIndex) (s : State) (r : RecordText) (t : State) → fold_step s r ≡ Some t → IsOrderly s → Turns index (is_needed need s.queue) → WasIndexed need (wait_of r need) index t.queue
indexed_step need index s r t is o turns = indexed_after index s r need t (step_is_after s r t is) o turns

-- What the code finds.

-- the last item of a queue that got one more is that one
pub last_file : (items : List QueueItem) (old : List Entry) (file : Entry) (item : QueueItem) → map entry items ≡ old ++ file ∷ [] → Some item ≡ slice_get items (length items - 1) → entry item ≡ file
last_file items old file item is found =
    let len : length items ≡ length old + 1 = sym (length-map items entry) ∙ ap length is ∙ length-append old (file ∷ []) in
    let place : length items - 1 ≡ length old = omega (arith, len) in
    let at : Some (entry item) ≡ slice_get (old ++ file ∷ []) (length old) =
    ap (option_map entry) found ∙ sym (slice_get-map entry items (length items - 1)) ∙ ap (λ (k : ℕ). slice_get (map entry items) k) place ∙ ap (λ (l : List Entry). slice_get l (length old)) is in
    let both : Some (entry item) ≡ Some file = at ∙ behind old file in
    cc both
  where
    behind : (old : List Entry) (file : Entry) → slice_get (old ++ file ∷ []) (length old) ≡ Some file
    behind [] file = refl
    behind (x ∷ old) file = behind old file

-- a place within these items, by what contracts see of them
pub item_at : (items : List QueueItem) (i : ℕ) (d : QueueItem) → i < length items → get_or (map entry items) i (entry d) ≡ entry (get_or items i d)
item_at [] i d within = refl
item_at (x ∷ items) zero d within = refl
item_at (x ∷ items) (suc i) d within = item_at items i d (omega (arith, within))

-- there is a file with that number
pub number_there : (n : ℕ) (items : List QueueItem) → list_any (λ (e : Entry). e.number == n) (map entry items) ≡ true → None ≡ position (λ x. (entry x).number == n) items → ⊥
number_there n items there none =
    true≢false (sym there ∙ list_any_map (λ (e : Entry). e.number == n) entry items ∙ none_any (λ x. (entry x).number == n) items (past_end (position_or_len (λ x. (entry x).number == n) items) (length items) (sym none)))
