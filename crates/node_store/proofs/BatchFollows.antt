-- The records of a batch follow: what they leave of the fold.
use Rattle.std.proofs.Common.{◌≡◌, ◌≢◌, ℕ, ◌<◌, ◌≤◌, ◌==◌, List, [], ◌∷◌, ◌++◌, map, Option, Some, None, Bool, true, false, not, ◌&&◌, refl, sym, ◌∙◌, ap, arith}
use Rattle.std.specs.Prelude.{nat_lt, find, option_map, option_and_then, if◌then◌else◌}
use Rattle.std.specs.List.{AllByRecursion, list_all, list_any}
use Rattle.std.proofs.lemmas.Bool.Decides.{Decides-eqb, Decides-ltb}
use Rattle.std.proofs.lemmas.List.{append-nil, append_assoc}
use Rattle.ftn_addr.specs.Address.{Address}
use Rattle.ftn_addr.specs.Files.{is_same}
use Rattle.ftn_addr.specs.Key.{Key}
use Rattle.ledger_rec.specs.Batch as B
use Rattle.ledger_rec.specs.Batch.{queue_records}
use Rattle.ledger_rec.specs.Fold.{State, is_among, is_request, may_queue, changed, answered, waits_for_answer, new_entry, with_queued, with_take, fold_step, fold_all, after}
use Rattle.ledger_rec.specs.Items.{Entry, Receipt}
use Rattle.ledger_rec.specs.Record.{RecordText, Queue, Taken, Answered}
use Rattle.node_model.specs.Items as N
use Rattle.node_model.specs.Lists.{Each}
use Rattle.node_model.specs.SendRows as Rows
use Rattle.node_model.specs.Stocks.{NewEntry}
use Rattle.node_model.specs.Stores as S
use Rattle.node_model.specs.StoreWords.{NumbersRise, IsNewTake, IsOpenRequest}
use Rattle.node_model.proofs.Lists.{some_inj, none_some, and_true, and_both, Each-member}
use Rattle.node_store.specs.Contents.{Contents, receipt_by}
use Rattle.node_store.specs.Planned.{new_text, queued_in, queue_with, fresh_with, fresh_in}
use Rattle.node_store.proofs.Found.{seen_from}
use Rattle.node_store.proofs.Listed.{all_last}
use Rattle.node_store.proofs.SettleCall.{changed_some}

-- some records, and then others
then_all : List RecordText → Option State → Option State
then_all rs o = option_and_then (λ t. fold_all t rs) o

pub fold_both : (s t : State) (xs ys : List RecordText) → fold_all s xs ≡ Some t → fold_all s (xs ++ ys) ≡ fold_all t ys
fold_both s t [] ys is = ap (λ u. fold_all u ys) (some_inj is)
fold_both s t (x ∷ xs) ys is = go (fold_step s x) is (λ u. fold_both u t xs ys)
  where
    go : (o : Option State) → option_and_then (λ u. fold_all u xs) o ≡ Some t → ((u : State) → fold_all u xs ≡ Some t → fold_all u (xs ++ ys) ≡ fold_all t ys) → option_and_then (λ u. fold_all u (xs ++ ys)) o ≡ fold_all t ys
    go None none rest = none_some none
    go (Some u) is rest = rest u is

pub fold_one : (s t : State) (r : RecordText) → fold_step s r ≡ Some t → fold_all s (r ∷ []) ≡ Some t
fold_one s t r is = ap (λ o. option_and_then (λ u. fold_all u []) o) is

-- Files.

all_below : (n : ℕ) (es : List Entry) → AllByRecursion (λ (e : Entry). e.number < n) es → list_all (λ (e : Entry). nat_lt e.number n) es ≡ true
all_below n [] all = refl
all_below n (e ∷ es) all = and_both (nat_lt e.number n) _ ((Decides-ltb e.number n).1 all.0) (all_below n es all.1)

none_such : (dest : Address) (key : Key) (es : List Entry) → queued_in dest key es ≡ None → list_any (λ (e : Entry). is_same dest key e.dest e.key) es ≡ false
none_such dest key [] none = refl
none_such dest key (e ∷ es) none = go (is_same dest key e.dest e.key) none (none_such dest key es)
  where
    go : (b : Bool) → (if b then Some e else queued_in dest key es) ≡ None → (queued_in dest key es ≡ None → list_any (λ (x : Entry). is_same dest key x.dest x.key) es ≡ false) → Rattle.std.specs.Prelude.◌||◌ b (list_any (λ (x : Entry). is_same dest key x.dest x.key) es) ≡ false
    go true none rest = none_some (sym none)
    go false none rest = rest none

file_step : (s : State) (f : NewEntry) → 1 ≤ f.number → AllByRecursion (λ (e : Entry). e.number < f.number) s.queue → queued_in f.dest f.key s.queue ≡ None → fold_step s (Queue (new_text f)) ≡ Some (with_queued (new_text f) s)
file_step s f some below none =
    let low : nat_lt 0 f.number ≡ true = (Decides-ltb 0 f.number).1 (omega (arith, some)) in
    let may : may_queue (new_text f) s.queue ≡ true = and_both (list_all (λ (e : Entry). nat_lt e.number f.number) s.queue) _ (all_below f.number s.queue below) (ap not (none_such f.dest f.key s.queue none)) in
    (λ i. if low i && true then after s (Queue (new_text f)) else None) ∙ ap (λ (b : Bool). if b then Some (with_queued (new_text f) s) else None) may

abbrev pub Above : NewEntry → List Entry → Type 0
Above f es = AllByRecursion (λ (e : Entry). e.number < f.number) es

above_more : (es : List Entry) (f : NewEntry) (fs : List NewEntry) → Each (λ (g : NewEntry). f.number < g.number) fs → Each (λ (g : NewEntry). Above g es) fs → Each (λ (g : NewEntry). Above g (es ++ new_entry (new_text f) ∷ [])) fs
above_more es f [] rise all = tt
above_more es f (g ∷ gs) rise all = (all_last (λ (e : Entry). e.number < g.number) es (new_entry (new_text f)) all.0 rise.0, above_more es f gs rise.1 all.1)

pub files_follow : (s : State) (fs : List NewEntry) → NumbersRise fs → Each (λ (f : NewEntry). 1 ≤ f.number) fs → Each (λ (f : NewEntry). Above f s.queue) fs
    → fold_all s (queue_records (fresh_in fs s.queue)) ≡ Some (record s { queue = s.queue ++ map new_entry (fresh_in fs s.queue) })
files_follow s [] rise some above = ap (λ (q : List Entry). Some (record s { queue = q })) (sym (append-nil s.queue))
files_follow s (f ∷ fs) rise some above = go (queued_in f.dest f.key s.queue) refl (λ u. files_follow u fs rise.1 some.1)
  where
    go : (o : Option Entry) → queued_in f.dest f.key s.queue ≡ o
        → ((u : State) → Each (λ (g : NewEntry). Above g u.queue) fs → fold_all u (queue_records (fresh_in fs u.queue)) ≡ Some (record u { queue = u.queue ++ map new_entry (fresh_in fs u.queue) }))
        → fold_all s (queue_records (fresh_with f o ++ fresh_in fs (queue_with f o s.queue))) ≡ Some (record s { queue = s.queue ++ map new_entry (fresh_with f o ++ fresh_in fs (queue_with f o s.queue)) })
    go (Some e) is rest = rest s above.1
    go None is rest =
        let u = with_queued (new_text f) s in
        ap (λ o. option_and_then (λ t. fold_all t (queue_records (fresh_in fs u.queue))) o) (file_step s f some.0 above.0 is)
        ∙ rest u (above_more s.queue f fs rise.0 above.1)
        ∙ ap (λ (q : List Entry). Some (record s { queue = q })) (append_assoc s.queue (new_entry (new_text f) ∷ []) (map new_entry (fresh_in fs u.queue)))

-- The take.

not_among : (n : ℕ) (ns : List ℕ) → Each (λ k. k ≢ n) ns → is_among n ns ≡ false
not_among n [] all = refl
not_among n (k ∷ ks) all = go (k == n) refl (not_among n ks all.1)
  where
    go : (b : Bool) → (k == n) ≡ b → is_among n ks ≡ false → Rattle.std.specs.Prelude.◌||◌ b (is_among n ks) ≡ false
    go true is rest = absurd (all.0 ((Decides-eqb k n).0 is))
    go false is rest = rest

pub take_follows : (s : State) (taken : Option ℕ) → IsNewTake taken s.takes → fold_all s (B.taken_records taken) ≡ Some (record s { takes = S.with_take taken s.takes })
take_follows s None new = refl
take_follows s (Some take) new =
    let low : nat_lt 0 take ≡ true = (Decides-ltb 0 take).1 (let some = new.0 in omega (arith, some)) in
    fold_one s (with_take take s) (Taken take)
    ((λ i. if low i && true then after s (Taken take) else None) ∙ ap (λ (b : Bool). if not b then Some (with_take take s) else None) (not_among take s.takes new.1))

-- The answer.

-- what an answer leaves of the inbox
abbrev pub AnsweredInbox : Option ℕ → List Receipt → List Receipt → Type 0
AnsweredInbox None old new = new ≡ old
AnsweredInbox (Some n) old new = changed (waits_for_answer n) answered old ≡ Some new

pub answer_follows : (c : Contents ℕ) (s : State) (request : Option ℕ) → AllByRecursion (λ (r : Receipt). 1 ≤ r.number) s.inbox → IsOpenRequest request (map (receipt_by c) s.inbox)
    → (inbox : List Receipt) × AnsweredInbox request s.inbox inbox × (fold_all s (B.answered_records request) ≡ Some (record s { inbox = inbox }))
answer_follows c s None some is = (s.inbox, refl, refl)
answer_follows c s (Some n) some is =
    let r = seen_from (receipt_by c) is.0 s.inbox is.1 in
    let item = r.0 in
    let numbered : item.number ≡ n = sym (ap (λ (x : N.ReceiptOf ℕ). x.number) r.2) ∙ is.2 in
    let asks : is_request item.key.name ≡ true = (and_true _ (is_request item.key.name) (sym (ap (λ (x : N.ReceiptOf ℕ). Rows.is_request x.key) r.2) ∙ is.3)).1 in
    let waits : item.answered ≡ false = sym (ap (λ (x : N.ReceiptOf ℕ). x.answered) r.2) ∙ is.4 in
    let new = changed_some (waits_for_answer n) answered item s.inbox r.1 (and_both (item.number == n) _ ((Decides-eqb item.number n).1 numbered) (and_both (is_request item.key.name) _ asks (ap not waits))) in
    let first = Each-member (λ (x : Receipt). 1 ≤ x.number) item s.inbox some r.1 in
    let low : nat_lt 0 n ≡ true = (Decides-ltb 0 n).1 (omega (arith, first, numbered)) in (
      new.0,
      new.1,
      fold_one s (record s { inbox = new.0 }) (Answered n)
          ((λ i. if low i && true then after s (Answered n) else None) ∙ ap (λ o. option_map (λ inbox. record s { inbox = inbox }) o) new.1),
    )

-- What the records of a batch leave.
pub record IsQueued (taken request : Option ℕ) (fs : List NewEntry) (s t : State) : Type 0 where
  pub inbox : List Receipt
  pub answers : AnsweredInbox request s.inbox inbox
  pub is : t ≡ record s { queue = s.queue ++ map new_entry (fresh_in fs s.queue); inbox = inbox; takes = S.with_take taken s.takes }

pub batch_follows : (c : Contents ℕ) (s : State) (taken request : Option ℕ) (fs : List NewEntry) → NumbersRise fs → Each (λ (f : NewEntry). 1 ≤ f.number) fs → Each (λ (f : NewEntry). Above f s.queue) fs → IsNewTake taken s.takes
    → AllByRecursion (λ (r : Receipt). 1 ≤ r.number) s.inbox → IsOpenRequest request (map (receipt_by c) s.inbox)
    → (t : State) × (fold_all s (queue_records (fresh_in fs s.queue) ++ B.taken_records taken ++ B.answered_records request) ≡ Some t) × IsQueued taken request fs s t
batch_follows c s taken request fs rise some above take numbers is =
    let u : State = record s { queue = s.queue ++ map new_entry (fresh_in fs s.queue) } in
    let v : State = record u { takes = S.with_take taken s.takes } in
    let a = answer_follows c v request numbers is in (
      record v { inbox = a.0 },
      fold_both s v (queue_records (fresh_in fs s.queue) ++ B.taken_records taken) (B.answered_records request)
          (fold_both s u (queue_records (fresh_in fs s.queue)) (B.taken_records taken) (files_follow s fs rise some above) ∙ take_follows u taken take)
          ∙ a.2,
      record { inbox = a.0; answers = a.1; is = refl },
    )
