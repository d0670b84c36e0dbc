-- Each record's change of the fold is a change of the durable state that it stands for, whatever the contents.
use Rattle.std.proofs.Common.{◌≡◌, ◌≢◌, inl, inr, ℕ, ◌==◌, List, [], ◌∷◌, ◌++◌, map, Option, Some, None, Bool, true, false, not, ◌&&◌, nat_lt, refl, sym, ◌∙◌, ap, subst}
use Rattle.std.specs.Prelude.{option_map, if◌then◌else◌}
use Rattle.std.specs.List.{AllByRecursion}
use Rattle.std.proofs.lemmas.Bool.{cases_Bool}
use Rattle.std.proofs.lemmas.Bool.Decides.{Decides-eqb}
use Rattle.ftn_addr.specs.Address.{Address}
use Rattle.ftn_addr.specs.Files.{is_same}
use Rattle.ftn_addr.specs.Key.{Key}
use Rattle.ledger_rec.specs.Fold as F
use Rattle.ledger_rec.specs.Fold.{State, changed}
use Rattle.ledger_rec.specs.Items.{Entry, Receipt, PartMark}
use Rattle.ledger_rec.specs.Record.{NewFileText, ReceivedText, RefusedText, MarkText}
use Rattle.node_model.specs.Durable as D
use Rattle.node_model.specs.Durable.{DurableOf}
use Rattle.node_model.specs.Items as N
use Rattle.node_model.proofs.Lists.{some_inj, none_some, and_true}
use Rattle.node_store.specs.Contents.{Contents, entry_by, receipt_by, refusal_of, mark_by, durable_by, with_given}
use Rattle.node_store.specs.Numbers.{AreDifferent}

-- lists

pub map-append : {A B : Type 0} (f : A → B) (xs ys : List A) → map f (xs ++ ys) ≡ map f xs ++ map f ys
map-append f [] ys = refl
map-append f (x ∷ xs) ys = ap (λ l. f x ∷ l) (map-append f xs ys)

-- a test on the number
pub eqb_apart : (k n : ℕ) → k ≢ n → (k == n) ≡ false
eqb_apart k n other = go (k == n) refl
  where
    go : (b : Bool) → (k == n) ≡ b → (k == n) ≡ false
    go true e = absurd (other ((Decides-eqb k n).0 e))
    go false e = e

-- what a change of one item left
pub data Changed {A : Type 0} (p : A → Bool) (f : A → A) (x : A) (xs ys : List A) : Type 0 where
  Here : p x ≡ true → ys ≡ f x ∷ xs → Changed p f x xs ys
  Later : p x ≡ false → (zs : List A) → changed p f xs ≡ Some zs → ys ≡ x ∷ zs → Changed p f x xs ys

pub changed_is : {A : Type 0} (p : A → Bool) (f : A → A) (x : A) (xs ys : List A) → changed p f (x ∷ xs) ≡ Some ys → Changed p f x xs ys
changed_is {A} p f x xs ys is = go (p x) refl is
  where
    later : p x ≡ false → (o : Option (List A)) → changed p f xs ≡ o → option_map (λ zs. x ∷ zs) o ≡ Some ys → Changed p f x xs ys
    later fails None was e = none_some e
    later fails (Some zs) was e = Later fails zs was (sym (some_inj e))

    go : (b : Bool) → p x ≡ b → (if b then Some (f x ∷ xs) else option_map (λ zs. x ∷ zs) (changed p f xs)) ≡ Some ys → Changed p f x xs ys
    go true passes e = Here passes (sym (some_inj e))
    go false fails e = later fails (changed p f xs) refl e

-- One item of a number is changed, where no two have one number: the view of the list changes at that number.
module _ {A C : Type 0} (number : A → ℕ) (p : A → Bool) (f : A → A) (v : A → C) (g : C → C) (n : ℕ)
    (says : (x : A) → p x ≡ true → number x ≡ n) (here : (x : A) → p x ≡ true → g (v x) ≡ v (f x)) (apart : (x : A) → number x ≢ n → g (v x) ≡ v x) where
  found : (k : ℕ) (xs ys : List A) → changed p f xs ≡ Some ys → AllByRecursion (λ m. k ≢ m) (map number xs) → k ≢ n
  found k [] ys is all = none_some is
  found k (x ∷ xs) ys is all = elim (changed_is p f x xs ys is) [
    | Here passes same ↦ λ e. all.0 (e ∙ sym (says x passes))
    | Later fails zs was same ↦ found k xs zs was all.1
  ]

  others : (xs : List A) → AllByRecursion (λ m. n ≢ m) (map number xs) → map g (map v xs) ≡ map v xs
  others [] all = refl
  others (x ∷ xs) all =
      ap (λ (y : C). y ∷ map g (map v xs)) (apart x (λ e. all.0 (sym e))) ∙ ap (λ (l : List C). v x ∷ l) (others xs all.1)

  pub mirrored : (xs ys : List A) → AreDifferent (map number xs) → changed p f xs ≡ Some ys → map g (map v xs) ≡ map v ys
  mirrored [] ys different is = none_some is
  mirrored (x ∷ xs) ys different is = elim (changed_is p f x xs ys is) [
    | Here passes same ↦
        ap (λ (y : C). y ∷ map g (map v xs)) (here x passes)
        ∙ ap (λ (l : List C). v (f x) ∷ l) (others xs (subst (λ (k : ℕ). AllByRecursion (λ m. k ≢ m) (map number xs)) (says x passes) different.0))
        ∙ ap (map v) (sym same)
    | Later fails zs was same ↦
        ap (λ (y : C). y ∷ map g (map v xs)) (apart x (found (number x) xs zs was different.0))
        ∙ ap (λ (l : List C). v x ∷ l) (mirrored xs zs different.1 was)
        ∙ ap (map v) (sym same)
  ]

module _ {B : Type 0} (c : Contents B) where
  -- marks

  marks_left : (from : Address) (key : Key) (ms : List PartMark) → map (mark_by c) (F.unmarked from key ms) ≡ D.unmarked from key (map (mark_by c) ms)
  marks_left from key [] = refl
  marks_left from key (m ∷ ms) = elim (cases_Bool (is_same from key m.from m.key)) [
    | inl same ↦ rw same (marks_left from key ms)
    | inr other ↦ rw other (ap (λ (l : List (N.MarkOf B)). mark_by c m ∷ l) (marks_left from key ms))
  ]

  mark_placed : (m : PartMark) (ms : List PartMark) → map (mark_by c) (F.in_place m ms) ≡ D.in_place (mark_by c m) (map (mark_by c) ms)
  mark_placed m [] = refl
  mark_placed m (x ∷ xs) = elim (cases_Bool (nat_lt m.number x.number)) [
    | inl lower ↦ rw lower refl
    | inr higher ↦ rw higher (ap (λ (l : List (N.MarkOf B)). mark_by c x ∷ l) (mark_placed m xs))
  ]

  -- a file is received
  pub receipt_mirrored : (r : ReceivedText) (s : State) → durable_by c (F.with_receipt r s) ≡ D.with_receipt (receipt_by c (F.new_receipt r)) (durable_by c s)
  receipt_mirrored r s =
      ap (λ (l : List (N.ReceiptOf B)). record { queue = map (entry_by c) s.queue; inbox = l; refused = map refusal_of s.refused; marks = map (mark_by c) (F.unmarked r.from r.key s.marks) }) (map-append (receipt_by c) s.inbox (F.new_receipt r ∷ []))
      ∙ ap (λ (l : List (N.MarkOf B)). record { queue = map (entry_by c) s.queue; inbox = map (receipt_by c) s.inbox ++ receipt_by c (F.new_receipt r) ∷ []; refused = map refusal_of s.refused; marks = l }) (marks_left r.from r.key s.marks)

  -- a file is refused
  pub refusal_mirrored : (r : RefusedText) (s : State) → durable_by c (F.with_refusal r s) ≡ D.with_refusal (refusal_of (F.new_refusal r)) (durable_by c s)
  refusal_mirrored r s =
      ap (λ (l : List N.Refusal). record { queue = map (entry_by c) s.queue; inbox = map (receipt_by c) s.inbox; refused = l; marks = map (mark_by c) (F.unmarked r.from r.key s.marks) }) (map-append refusal_of s.refused (F.new_refusal r ∷ []))
      ∙ ap (λ (l : List (N.MarkOf B)). record { queue = map (entry_by c) s.queue; inbox = map (receipt_by c) s.inbox; refused = map refusal_of s.refused ++ refusal_of (F.new_refusal r) ∷ []; marks = l }) (marks_left r.from r.key s.marks)

  -- a part is marked
  pub mark_mirrored : (r : MarkText) (s : State) → durable_by c (F.with_mark r s) ≡ D.with_mark (mark_by c (F.new_mark r)) (durable_by c s)
  mark_mirrored r s =
      ap (λ (l : List (N.MarkOf B)). record { queue = map (entry_by c) s.queue; inbox = map (receipt_by c) s.inbox; refused = map refusal_of s.refused; marks = l })
      (mark_placed (F.new_mark r) (F.unmarked r.from r.key s.marks) ∙ ap (D.in_place (mark_by c (F.new_mark r))) (marks_left r.from r.key s.marks))

  -- a file is queued behind the others
  pub queue_mirrored : (r : NewFileText) (s : State) → durable_by c (F.with_queued r s) ≡ record (durable_by c s) { queue = (durable_by c s).queue ++ entry_by c (F.new_entry r) ∷ [] }
  queue_mirrored r s =
      ap (λ (l : List (N.EntryOf B)). record { queue = l; inbox = map (receipt_by c) s.inbox; refused = map refusal_of s.refused; marks = map (mark_by c) s.marks }) (map-append (entry_by c) s.queue (F.new_entry r ∷ []))

  -- an entry is settled
  module _ (n : ℕ) where
    live_number : (e : Entry) → F.is_live n e ≡ true → e.number ≡ n
    live_number e is = (Decides-eqb e.number n).0 (and_true (e.number == n) e.live is).0

    settled_here : (e : Entry) → F.is_live n e ≡ true → D.done_entry n (entry_by c e) ≡ entry_by c (F.settled e)
    settled_here e is = rw (and_true (e.number == n) e.live is).0 refl

    settled_apart : (e : Entry) → e.number ≢ n → D.done_entry n (entry_by c e) ≡ entry_by c e
    settled_apart e other = rw (eqb_apart e.number n other) refl

    pub done_mirrored : (s : State) (queue : List Entry) → AreDifferent (map (λ (e : Entry). e.number) s.queue) → changed (F.is_live n) F.settled s.queue ≡ Some queue
        → durable_by c (record s { queue = queue }) ≡ D.with_done n (durable_by c s)
    done_mirrored s queue different is =
        ap (λ (l : List (N.EntryOf B)). record { queue = l; inbox = map (receipt_by c) s.inbox; refused = map refusal_of s.refused; marks = map (mark_by c) s.marks })
        (sym (mirrored (λ (e : Entry). e.number) (F.is_live n) F.settled (entry_by c) (D.done_entry n) n live_number settled_here settled_apart s.queue queue different is))

  -- an entry's action is done
  module _ (n : ℕ) where
    waiting_number : (e : Entry) → F.waits_for_action n e ≡ true → e.number ≡ n
    waiting_number e is = (Decides-eqb e.number n).0 (and_true (e.number == n) (nat_lt 0 e.action && not e.acted) is).0

    acted_here : (e : Entry) → F.waits_for_action n e ≡ true → D.acted_entry n (entry_by c e) ≡ entry_by c (F.acted_on e)
    acted_here e is = rw (and_true (e.number == n) (nat_lt 0 e.action && not e.acted) is).0 refl

    acted_apart : (e : Entry) → e.number ≢ n → D.acted_entry n (entry_by c e) ≡ entry_by c e
    acted_apart e other = rw (eqb_apart e.number n other) refl

    pub acted_mirrored : (s : State) (queue : List Entry) → AreDifferent (map (λ (e : Entry). e.number) s.queue) → changed (F.waits_for_action n) F.acted_on s.queue ≡ Some queue
        → durable_by c (record s { queue = queue }) ≡ D.with_acted n (durable_by c s)
    acted_mirrored s queue different is =
        ap (λ (l : List (N.EntryOf B)). record { queue = l; inbox = map (receipt_by c) s.inbox; refused = map refusal_of s.refused; marks = map (mark_by c) s.marks })
        (sym (mirrored (λ (e : Entry). e.number) (F.waits_for_action n) F.acted_on (entry_by c) (D.acted_entry n) n waiting_number acted_here acted_apart s.queue queue different is))

  -- a request is answered
  module _ (n : ℕ) where
    request_number : (r : Receipt) → F.waits_for_answer n r ≡ true → r.number ≡ n
    request_number r is = (Decides-eqb r.number n).0 (and_true (r.number == n) (F.is_request r.key.name && not r.answered) is).0

    answered_here : (r : Receipt) → F.waits_for_answer n r ≡ true → D.answered_receipt n (receipt_by c r) ≡ receipt_by c (F.answered r)
    answered_here r is = rw (and_true (r.number == n) (F.is_request r.key.name && not r.answered) is).0 refl

    answered_apart : (r : Receipt) → r.number ≢ n → D.answered_receipt n (receipt_by c r) ≡ receipt_by c r
    answered_apart r other = rw (eqb_apart r.number n other) refl

    pub answer_mirrored : (s : State) (inbox : List Receipt) → AreDifferent (map (λ (r : Receipt). r.number) s.inbox) → changed (F.waits_for_answer n) F.answered s.inbox ≡ Some inbox
        → durable_by c (record s { inbox = inbox }) ≡ record (durable_by c s) { inbox = D.all_answered (Some n) (durable_by c s).inbox }
    answer_mirrored s inbox different is =
        ap (λ (l : List (N.ReceiptOf B)). record { queue = map (entry_by c) s.queue; inbox = l; refused = map refusal_of s.refused; marks = map (mark_by c) s.marks })
        (sym (mirrored (λ (r : Receipt). r.number) (F.waits_for_answer n) F.answered (receipt_by c) (D.answered_receipt n) n request_number answered_here answered_apart s.inbox inbox different is))

-- a received file is given: no record says so, but its files do
pub given_mirrored : {B : Type 0} (c : Contents B) (n : ℕ) (s : State) → durable_by (with_given n c) s ≡ D.with_given n (durable_by c s)
given_mirrored {B} c n s =
    ap (λ (l : List (N.ReceiptOf B)). record { queue = map (entry_by c) s.queue; inbox = l; refused = map refusal_of s.refused; marks = map (mark_by c) s.marks }) (all s.inbox)
  where
    one : (r : Receipt) → receipt_by (with_given n c) r ≡ D.given_receipt n (receipt_by c r)
    one r = elim (cases_Bool (r.number == n)) [ inl same ↦ rw same refl | inr other ↦ rw other refl ]

    all : (rs : List Receipt) → map (receipt_by (with_given n c)) rs ≡ D.all_given n (map (receipt_by c) rs)
    all [] = refl
    all (r ∷ rs) = ap (λ (x : N.ReceiptOf B). x ∷ map (receipt_by (with_given n c)) rs) (one r) ∙ ap (λ (l : List (N.ReceiptOf B)). D.given_receipt n (receipt_by c r) ∷ l) (all rs)
