-- Which receipts are kept, as records come.
use Rattle.std.proofs.Common.{◌≡◌, ℕ, ◌==◌, ◌+◌, ◌<◌, Bool, true, false, not, ◌&&◌, List, [], ◌∷◌, ◌++◌, length, map, take, get_or, Option, Some, None, refl, sym, ◌∙◌, ap, subst, arith}
use Rattle.std.specs.Prelude.{◌||◌, option_and_then}
use Rattle.std.specs.List.{AllByRecursion}
use Rattle.std.proofs.lemmas.List.{take_more}
use Rattle.std.proofs.lemmas.Bool.Decides.{Decides-eqb, nat_tests}
use Rattle.file_index.specs.Sets.{Kept}
use Rattle.file_index.specs.declared.sets.NumberSet.{NumberSet}
use Rattle.ledger_rec.specs.Batch.{answered_records, queue_records, taken_records}
use Rattle.ledger_rec.specs.Fold.{State, after, answered, changed, fold_all, fold_step, is_among, is_live, may_mark, may_queue, may_refuse, settled, acted_on, waits_for_action, waits_for_answer, with_mark, with_queued, with_refusal, with_take}
use Rattle.ledger_rec.specs.Items.{Receipt}
use Rattle.ledger_rec.specs.Record.{NewFileText, RecordText, Queue, Done, Received, Refused, Mark, Taken, Acted, Answered}
use Rattle.node_model.proofs.Lists.{none_some, some_inj}
use Rattle.node_store.specs.Books.{Books}
use Rattle.node_store.specs.Giving.{is_kept}
use Rattle.node_store.specs.Stored.{has_receipt}
use Rattle.node_store.proofs.Mirrors.{Here, Later, changed_is}
use Rattle.node_store.proofs.Numbered.{if_may_some, mapped_some, step_is_after}

pub kept_alike : (set : NumberSet) (p q : ℕ → Bool) → ((n : ℕ) → p n ≡ q n) → Kept set p → Kept set q
kept_alike set p q alike kept whole n = kept whole n ∙ alike n

-- the same numbers stand
pub kept_numbers : (set : NumberSet) (given : List ℕ) (old new : List Receipt) → ((n : ℕ) → has_receipt n old ≡ has_receipt n new) → Kept set (is_kept given old) → Kept set (is_kept given new)
kept_numbers set given old new same kept =
    kept_alike set (is_kept given old) (is_kept given new) (λ n. ap (λ (b : Bool). b && not (is_among n given)) (same n)) kept

pub kept_same : (set : NumberSet) (given : List ℕ) (old new : List Receipt) → new ≡ old → Kept set (is_kept given old) → Kept set (is_kept given new)
kept_same set given old new same kept = subst (λ (inbox : List Receipt). Kept set (is_kept given inbox)) (sym same) kept

pub kept_in : (set : NumberSet) (given : List ℕ) (old new : Books) → new.folding.state ≡ old.folding.state → Kept set (is_kept given old.folding.state.inbox) → Kept set (is_kept given new.folding.state.inbox)
kept_in set given old new same kept = kept_same set given old.folding.state.inbox new.folding.state.inbox (ap (λ (s : State). s.inbox) same) kept

-- no file is received by the record
abbrev pub ReceivesNone : RecordText → Type 0
ReceivesNone (Queue r) = Unit {0}
ReceivesNone (Done number session) = Unit {0}
ReceivesNone (Received r) = ⊥
ReceivesNone (Refused r) = Unit {0}
ReceivesNone (Mark r) = Unit {0}
ReceivesNone (Taken take) = Unit {0}
ReceivesNone (Acted number) = Unit {0}
ReceivesNone (Answered receipt) = Unit {0}

-- an answered request has its number
answered_same : (number n : ℕ) (old new : List Receipt) → changed (waits_for_answer number) answered old ≡ Some new → has_receipt n old ≡ has_receipt n new
answered_same number n [] new is = none_some is
answered_same number n (x ∷ xs) new is = elim (changed_is (waits_for_answer number) answered x xs new is) [
  | Here passed e ↦ sym (ap (has_receipt n) e)
  | Later failed zs was e ↦ ap (λ (b : Bool). x.number == n || b) (answered_same number n xs zs was) ∙ sym (ap (has_receipt n) e)
]

same_after : (s : State) (r : RecordText) (t : State) → ReceivesNone r → after s r ≡ Some t → (n : ℕ) → has_receipt n s.inbox ≡ has_receipt n t.inbox
same_after s (Queue r) t none is n = ap (λ (x : State). has_receipt n x.inbox) (if_may_some (may_queue r s.queue) (with_queued r s) t is).1
same_after s (Done number session) t none is n = ap (λ (x : State). has_receipt n x.inbox) (mapped_some (λ queue. record s { queue = queue }) (changed (is_live number) settled s.queue) t is).2
same_after s (Received r) t none is n = absurd none
same_after s (Refused r) t none is n = ap (λ (x : State). has_receipt n x.inbox) (if_may_some (may_refuse r s) (with_refusal r s) t is).1
same_after s (Mark r) t none is n = ap (λ (x : State). has_receipt n x.inbox) (if_may_some (may_mark r s) (with_mark r s) t is).1
same_after s (Taken take) t none is n = ap (λ (x : State). has_receipt n x.inbox) (if_may_some (not (is_among take s.takes)) (with_take take s) t is).1
same_after s (Acted number) t none is n = ap (λ (x : State). has_receipt n x.inbox) (mapped_some (λ queue. record s { queue = queue }) (changed (waits_for_action number) acted_on s.queue) t is).2
same_after s (Answered number) t none is n =
    let m = mapped_some (λ inbox. record s { inbox = inbox }) (changed (waits_for_answer number) answered s.inbox) t is in
    answered_same number n s.inbox m.0 m.1 ∙ ap (λ (x : State). has_receipt n x.inbox) m.2

-- the state between two records
stepped_all : (o : Option State) (rs : List RecordText) (t : State) → option_and_then (λ u. fold_all u rs) o ≡ Some t → (u : State) × (o ≡ Some u) × (fold_all u rs ≡ Some t)
stepped_all None rs t is = none_some is
stepped_all (Some u) rs t is = (u, refl, is)

same_all : (s : State) (rs : List RecordText) (t : State) → AllByRecursion ReceivesNone rs → fold_all s rs ≡ Some t → (n : ℕ) → has_receipt n s.inbox ≡ has_receipt n t.inbox
same_all s [] t none is n = ap (λ (x : State). has_receipt n x.inbox) (some_inj is)
same_all s (r ∷ rs) t none is n =
    let u = stepped_all (fold_step s r) rs t is in same_after s r u.0 none.0 (step_is_after s r u.0 u.1) n ∙ same_all u.0 rs t none.1 u.2 n

-- One record more, or some, of which none receives a file.

pub kept_step : (set : NumberSet) (given : List ℕ) (s : State) (r : RecordText) (t : State) → ReceivesNone r → fold_step s r ≡ Some t → Kept set (is_kept given s.inbox) → Kept set (is_kept given t.inbox)
kept_step set given s r t none step = kept_numbers set given s.inbox t.inbox (same_after s r t none (step_is_after s r t step))

batch_receives_none : (files : List NewFileText) (taken request : Option ℕ) → AllByRecursion ReceivesNone (queue_records files ++ taken_records taken ++ answered_records request)
batch_receives_none files taken request = both (queue_records files ++ taken_records taken) (answered_records request) (both (queue_records files) (taken_records taken) (queued files) (took taken)) (answers request)
  where
    both : (rs qs : List RecordText) → AllByRecursion ReceivesNone rs → AllByRecursion ReceivesNone qs → AllByRecursion ReceivesNone (rs ++ qs)
    both [] qs a b = b
    both (r ∷ rs) qs a b = (a.0, both rs qs a.1 b)

    queued : (files : List NewFileText) → AllByRecursion ReceivesNone (queue_records files)
    queued [] = tt
    queued (f ∷ files) = (tt, queued files)

    took : (taken : Option ℕ) → AllByRecursion ReceivesNone (taken_records taken)
    took None = tt
    took (Some take) = (tt, tt)

    answers : (request : Option ℕ) → AllByRecursion ReceivesNone (answered_records request)
    answers None = tt
    answers (Some n) = (tt, tt)

pub kept_batch : (set : NumberSet) (given : List ℕ) (s : State) (files : List NewFileText) (taken request : Option ℕ) (t : State) → fold_all s (queue_records files ++ taken_records taken ++ answered_records request) ≡ Some t
    → Kept set (is_kept given s.inbox) → Kept set (is_kept given t.inbox)
kept_batch set given s files taken request t folds = kept_numbers set given s.inbox t.inbox (same_all s (queue_records files ++ taken_records taken ++ answered_records request) t (batch_receives_none files taken request) folds)

-- A receipt more, which wasn't given.

or_alone : (b : Bool) → (b || false) ≡ b
or_alone true = refl
or_alone false = refl

or_grouped : (a b c : Bool) → (a || (b || c)) ≡ ((a || b) || c)
or_grouped true b c = refl
or_grouped false b c = refl

eq_flips : (m n : ℕ) → (m == n) ≡ (n == m)
eq_flips m n = grind (arith, nat_tests)

has_receipt-append : (n : ℕ) (rs : List Receipt) (x : Receipt) → has_receipt n (rs ++ x ∷ []) ≡ (has_receipt n rs || x.number == n)
has_receipt-append n [] x = or_alone (x.number == n)
has_receipt-append n (r ∷ rs) x = ap (λ (b : Bool). r.number == n || b) (has_receipt-append n rs x) ∙ or_grouped (r.number == n) (has_receipt n rs) (x.number == n)

pub noted_more : (n : ℕ) (given : List ℕ) (rs : List Receipt) (x : Receipt) → is_among x.number given ≡ false → (is_kept given rs n || n == x.number) ≡ is_kept given (rs ++ x ∷ []) n
noted_more n given rs x ungiven = go (n == x.number) refl ∙ sym (ap (λ (b : Bool). b && not (is_among n given)) (has_receipt-append n rs x ∙ ap (λ (b : Bool). has_receipt n rs || b) (eq_flips x.number n)))
  where
    whole : (a b : Bool) → (a && b || true) ≡ ((a || true) && true)
    whole true true = refl
    whole true false = refl
    whole false b = refl

    alone : (a b : Bool) → (a && b || false) ≡ ((a || false) && b)
    alone true true = refl
    alone true false = refl
    alone false b = refl

    go : (b : Bool) → (n == x.number) ≡ b → (is_kept given rs n || n == x.number) ≡ ((has_receipt n rs || n == x.number) && not (is_among n given))
    go true is =
        let free : not (is_among n given) ≡ true = ap (λ (k : ℕ). not (is_among k given)) ((Decides-eqb n x.number).0 is) ∙ ap not ungiven in
        ap (λ (b : Bool). is_kept given rs n || b) is ∙ whole (has_receipt n rs) (not (is_among n given))
        ∙ sym (ap (λ (b : Bool). (has_receipt n rs || b) && not (is_among n given)) is ∙ ap (λ (b : Bool). (has_receipt n rs || true) && b) free)
    go false is =
        ap (λ (b : Bool). is_kept given rs n || b) is ∙ alone (has_receipt n rs) (not (is_among n given))
        ∙ sym (ap (λ (b : Bool). (has_receipt n rs || b) && not (is_among n given)) is)

pub kept_received : (new : NumberSet) (given : List ℕ) (s t : State) (x : Receipt) → t.inbox ≡ s.inbox ++ x ∷ [] → is_among x.number given ≡ false → Kept new (λ n. is_kept given s.inbox n || n == x.number) → Kept new (is_kept given t.inbox)
kept_received new given s t x inbox ungiven noted =
    kept_same new given (s.inbox ++ x ∷ []) t.inbox inbox
    (kept_alike new (λ n. is_kept given s.inbox n || n == x.number) (is_kept given (s.inbox ++ x ∷ [])) (λ n. noted_more n given s.inbox x ungiven) noted)

-- An inbox that is walked, and numbers that are taken out.

map_append_one : {A B : Type 0} (f : A → B) (xs : List A) (x : A) → map f (xs ++ x ∷ []) ≡ map f xs ++ f x ∷ []
map_append_one f [] x = refl
map_append_one f (y ∷ ys) x = ap (λ (l : List _). f y ∷ l) (map_append_one f ys x)

pub received_more : {A : Type 0} (new : NumberSet) (view : A → Receipt) (xs : List A) (i : ℕ) (x : A) → i < length xs → x ≡ get_or xs i x → Kept new (λ n. has_receipt n (map view (take i xs)) || n == (view x).number)
    → Kept new (λ n. has_receipt n (map view (take (i + 1) xs)))
received_more {A} new view xs i x lt is =
    kept_alike new (λ n. has_receipt n (map view (take i xs)) || n == (view x).number) (λ n. has_receipt n (map view (take (i + 1) xs))) (λ n.
    ap (λ (b : Bool). has_receipt n (map view (take i xs)) || b) (eq_flips n (view x).number)
    ∙ sym (has_receipt-append n (map view (take i xs)) (view x))
    ∙ ap (has_receipt n) (sym (ap (map view) (take_more xs i x lt ∙ ap (λ (y : A). take i xs ++ y ∷ []) (sym is)) ∙ map_append_one view (take i xs) x)))

among-append : (n : ℕ) (ns : List ℕ) (k : ℕ) → is_among n (ns ++ k ∷ []) ≡ (is_among n ns || k == n)
among-append n [] k = or_alone (k == n)
among-append n (m ∷ ns) k = ap (λ (b : Bool). m == n || b) (among-append n ns k) ∙ or_grouped (m == n) (is_among n ns) (k == n)

pub taken_more : (new : NumberSet) (p : ℕ → Bool) (ns : List ℕ) (i k : ℕ) → i < length ns → k ≡ get_or ns i 0 → Kept new (λ n. (p n && not (is_among n (take i ns))) && not (n == k))
    → Kept new (λ n. p n && not (is_among n (take (i + 1) ns)))
taken_more new p ns i k lt is =
    kept_alike new (λ n. (p n && not (is_among n (take i ns))) && not (n == k)) (λ n. p n && not (is_among n (take (i + 1) ns))) (λ n.
    neither (p n) (is_among n (take i ns)) (n == k)
    ∙ ap (λ (b : Bool). p n && not (is_among n (take i ns) || b)) (eq_flips n k)
    ∙ ap (λ (b : Bool). p n && not b) (sym (among-append n (take i ns) k) ∙ ap (is_among n) (sym (take_more ns i 0 lt ∙ ap (λ (m : ℕ). take i ns ++ m ∷ []) (sym is)))))
  where
    neither : (p a b : Bool) → ((p && not a) && not b) ≡ (p && not (a || b))
    neither true true b = refl
    neither true false b = refl
    neither false a b = refl
