-- In each fold no two entries have one number, and no two receipts.
use Rattle.std.proofs.Common.{◌≡◌, ◌≢◌, ◌⊎◌, inl, inr, ⊎_elim, ℕ, ◌<◌, ◌==◌, List, [], ◌∷◌, ◌++◌, map, Option, Some, None, Result, Ok, Err, Bool, true, false, not, ◌&&◌, ◌||◌, nat_lt, refl, sym, ◌∙◌, ap, subst, arith}
use Rattle.std.specs.Prelude.{option_map, if◌then◌else◌}
use Rattle.std.specs.List.{AllByRecursion, list_any, list_all}
use Rattle.std.proofs.lemmas.Bool.{cases_Bool}
use Rattle.std.proofs.lemmas.Bool.Decides.{Decides-eqb, Decides-ltb}
use Rattle.ftn_addr.specs.Address.{Address}
use Rattle.ftn_addr.specs.Files.{is_same}
use Rattle.ftn_addr.specs.Key.{Key}
use Rattle.ledger_rec.specs.declared.fault.RecFault.{RecFault}
use Rattle.ledger_rec.specs.Fold.{State, nothing_folded, is_among, is_known, is_part_of, may_queue, may_receive, may_refuse, may_mark, changed, answered, settled, acted_on, is_live, waits_for_action, waits_for_answer, new_entry, new_receipt, with_queued, with_receipt, with_refusal, with_mark, with_take, fold_step, after, if_may, numbers}
use Rattle.ledger_rec.specs.Items.{Entry, Receipt, PartMark}
use Rattle.ledger_rec.specs.Record.{ReceivedText, RecordText, Queue, Done, Received, Refused, Mark, Taken, Acted, Answered}
use Rattle.ledger_rec.specs.Payloads.{record_in, step_by, stepped, fold_from, fold_of}
use Rattle.ledger_rec.specs.Order.{IsApartFrom, IsOrderly}
use Rattle.ledger_rec.proofs.OrderFold.{order_step}
use Rattle.disk_model.specs.World.{World}
use Rattle.node_model.proofs.Lists.{some_inj, none_some, and_true, or_cases, off}
use Rattle.node_store.specs.Numbers.{AreDifferent, IsNumbered}
use Rattle.node_store.specs.Contents.{Contents, durable_by, durable_after}
use Rattle.node_store.specs.Worlds.{contents_in, durable_in}
use Rattle.node_store.proofs.Mirrors.{Here, Later, changed_is, queue_mirrored, done_mirrored, receipt_mirrored, refusal_mirrored, mark_mirrored, acted_mirrored, answer_mirrored}

-- one more
different_last : {A : Type 0} (f : A → ℕ) (xs : List A) (y : A) → AreDifferent (map f xs) → AllByRecursion (λ k. k ≢ f y) (map f xs) → AreDifferent (map f (xs ++ y ∷ []))
different_last f [] y different other = (tt, tt)
different_last f (x ∷ xs) y different other = (all_last f (f x) xs y different.0 other.0, different_last f xs y different.1 other.1)
  where
    all_last : {A : Type 0} (f : A → ℕ) (n : ℕ) (xs : List A) (y : A) → AllByRecursion (λ k. n ≢ k) (map f xs) → n ≢ f y → AllByRecursion (λ k. n ≢ k) (map f (xs ++ y ∷ []))
    all_last f n [] y all new = (new, tt)
    all_last f n (x ∷ xs) y all new = (all.0, all_last f n xs y all.1 new)

-- one changed, with its number
pub changed_keeps : {A : Type 0} (number : A → ℕ) (p : A → Bool) (f : A → A) → ((x : A) → number (f x) ≡ number x) → (xs ys : List A) → changed p f xs ≡ Some ys → map number ys ≡ map number xs
changed_keeps number p f same [] ys is = none_some is
changed_keeps number p f same (x ∷ xs) ys is = elim (changed_is p f x xs ys is) [
  | Here passed e ↦ ap (map number) e ∙ ap (λ (n : ℕ). n ∷ map number xs) (same x)
  | Later failed zs was e ↦ ap (map number) e ∙ ap (λ (l : List ℕ). number x ∷ l) (changed_keeps number p f same xs zs was)
]

-- numbers below another
below_differ : (n : ℕ) (es : List Entry) → list_all (λ (e : Entry). nat_lt e.number n) es ≡ true → AllByRecursion (λ k. k ≢ n) (map (λ (e : Entry). e.number) es)
below_differ n [] all = tt
below_differ n (e ∷ es) all =
    let h = and_true (nat_lt e.number n) (list_all (λ (x : Entry). nat_lt x.number n) es) all in
    let lt : e.number < n = (Decides-ltb e.number n).0 h.0 in
    ((λ same. omega (arith, lt, same)), below_differ n es h.1)

-- the number of a marked part is that of no receipt
part_is_not : (n k : ℕ) (from : Address) (key : Key) (ms : List PartMark) → is_part_of n from key ms ≡ true → IsApartFrom k ms → k ≢ n
part_is_not n k from key [] is apart = off (sym is)
part_is_not n k from key (m ∷ ms) is apart =
    ⊎_elim
    (λ this same. apart.0 ((Decides-eqb m.number n).0 (and_true (m.number == n) (is_same from key m.from m.key) this).0 ∙ sym same))
    (λ later. part_is_not n k from key ms later apart.1)
    (or_cases (m.number == n && is_same from key m.from m.key) (is_part_of n from key ms) is)

pub receipt_differs : (r : ReceivedText) (s : State) → may_receive r s ≡ true → IsOrderly s → AllByRecursion (λ k. k ≢ r.receipt) (map (λ (x : Receipt). x.number) s.inbox)
receipt_differs r s may o =
    let h = or_cases (is_part_of r.receipt r.from r.key s.marks) (not (is_among r.receipt s.parts)) (and_true (not (is_known r.from r.key s)) (is_part_of r.receipt r.from r.key s.marks || not (is_among r.receipt s.parts)) may).1 in
    each s.inbox o.inbox o.free h
  where
    each : (rs : List Receipt) → AllByRecursion (λ (x : Receipt). is_among x.number s.parts ≡ true) rs → AllByRecursion (λ (x : Receipt). IsApartFrom x.number s.marks) rs
        → (is_part_of r.receipt r.from r.key s.marks ≡ true) ⊎ (not (is_among r.receipt s.parts) ≡ true) → AllByRecursion (λ k. k ≢ r.receipt) (map (λ (x : Receipt). x.number) rs)
    each [] used free h = tt
    each (x ∷ xs) used free h = (
      ⊎_elim (λ part. part_is_not r.receipt x.number r.from r.key s.marks part free.0)
          (λ new same. off (sym (sym (ap not used.0) ∙ ap (λ (k : ℕ). not (is_among k s.parts)) same ∙ new))) h,
      each xs used.1 free.1 h,
    )

-- one record more

pub if_may_some : (b : Bool) (x t : State) → if_may b x ≡ Some t → (b ≡ true) × (x ≡ t)
if_may_some true x t is = (refl, some_inj is)
if_may_some false x t is = none_some is

pub mapped_some : {A : Type 0} (f : A → State) (o : Option A) (t : State) → option_map f o ≡ Some t → (a : A) × (o ≡ Some a) × (f a ≡ t)
mapped_some f None t is = none_some is
mapped_some f (Some a) t is = (a, refl, some_inj is)

numbered_after : (s : State) (r : RecordText) (t : State) → after s r ≡ Some t → IsOrderly s → IsNumbered s → IsNumbered t
numbered_after s (Queue r) t is o n =
    let m = if_may_some (may_queue r s.queue) (with_queued r s) t is in
    let below = (and_true (list_all (λ (e : Entry). nat_lt e.number r.number) s.queue) (not (list_any (λ (e : Entry). is_same r.dest r.key e.dest e.key) s.queue)) m.0).0 in
    subst IsNumbered m.1 (record { queue = different_last (λ (e : Entry). e.number) s.queue (new_entry r) n.queue (below_differ r.number s.queue below); inbox = n.inbox })
numbered_after s (Done number session) t is o n =
    let m = mapped_some (λ queue. record s { queue = queue }) (changed (is_live number) settled s.queue) t is in
    subst IsNumbered m.2 (record { queue = subst AreDifferent (sym (changed_keeps (λ (e : Entry). e.number) (is_live number) settled (λ e. refl) s.queue m.0 m.1)) n.queue; inbox = n.inbox })
numbered_after s (Received r) t is o n =
    let m = if_may_some (may_receive r s) (with_receipt r s) t is in
    subst IsNumbered m.1 (record { queue = n.queue; inbox = different_last (λ (x : Receipt). x.number) s.inbox (new_receipt r) n.inbox (receipt_differs r s m.0 o) })
numbered_after s (Refused r) t is o n =
    let m = if_may_some (may_refuse r s) (with_refusal r s) t is in subst IsNumbered m.1 (record { queue = n.queue; inbox = n.inbox })
numbered_after s (Mark r) t is o n =
    let m = if_may_some (may_mark r s) (with_mark r s) t is in subst IsNumbered m.1 (record { queue = n.queue; inbox = n.inbox })
numbered_after s (Taken take) t is o n =
    let m = if_may_some (not (is_among take s.takes)) (with_take take s) t is in subst IsNumbered m.1 (record { queue = n.queue; inbox = n.inbox })
numbered_after s (Acted number) t is o n =
    let m = mapped_some (λ queue. record s { queue = queue }) (changed (waits_for_action number) acted_on s.queue) t is in
    subst IsNumbered m.2 (record { queue = subst AreDifferent (sym (changed_keeps (λ (e : Entry). e.number) (waits_for_action number) acted_on (λ e. refl) s.queue m.0 m.1)) n.queue; inbox = n.inbox })
numbered_after s (Answered number) t is o n =
    let m = mapped_some (λ inbox. record s { inbox = inbox }) (changed (waits_for_answer number) answered s.inbox) t is in
    subst IsNumbered m.2 (record { queue = n.queue; inbox = subst AreDifferent (sym (changed_keeps (λ (x : Receipt). x.number) (waits_for_answer number) answered (λ x. refl) s.inbox m.0 m.1)) n.inbox })

pub step_is_after : (s : State) (r : RecordText) (t : State) → fold_step s r ≡ Some t → after s r ≡ Some t
step_is_after s r t is = elim (cases_Bool (list_all (λ n. nat_lt 0 n) (numbers r))) [
  | inl numbered ↦ sym (ap (λ (b : Bool). if b then after s r else None) numbered) ∙ is
  | inr zero_there ↦ none_some (sym (ap (λ (b : Bool). if b then after s r else None) zero_there) ∙ is)
]

pub numbered_step : (s : State) (r : RecordText) (t : State) → fold_step s r ≡ Some t → IsOrderly s → IsNumbered s → IsNumbered t
numbered_step s r t is o n = numbered_after s r t (step_is_after s r t is) o n

numbered_read : (s : State) (read : Result RecordText RecFault) (t : State) → step_by s read ≡ Some t → IsOrderly s × IsNumbered s → IsOrderly t × IsNumbered t
numbered_read s (Ok r) t is o = (order_step s r t is o.0, numbered_step s r t is o.0 o.1)
numbered_read s (Err e) t is o = none_some is

numbered_from : (o : Option State) (ps : List (List ℕ)) (t : State) → ((s : State) → o ≡ Some s → IsOrderly s × IsNumbered s) → fold_from o ps ≡ Some t → IsOrderly t × IsNumbered t
numbered_from o [] t so is = so t is
numbered_from None (p ∷ ps) t so is = numbered_from None ps t (λ s none. none_some none) is
numbered_from (Some s) (p ∷ ps) t so is = numbered_from (stepped (Some s) p) ps t (λ u step. numbered_read s (record_in p) u step (so s refl)) is

pub orderly_fold : (ps : List (List ℕ)) (s : State) → fold_of ps ≡ Some s → IsOrderly s
orderly_fold ps s is =
    (numbered_from (Some nothing_folded) ps s (λ t same. subst (λ (x : State). IsOrderly x × IsNumbered x) (some_inj same) (record { queue = tt; marks = tt; inbox = tt; apart = tt; free = tt }, record { queue = tt; inbox = tt })) is).0

pub numbered_fold : (ps : List (List ℕ)) (s : State) → fold_of ps ≡ Some s → IsNumbered s
numbered_fold ps s is =
    (numbered_from (Some nothing_folded) ps s (λ t same. subst (λ (x : State). IsOrderly x × IsNumbered x) (some_inj same) (record { queue = tt; marks = tt; inbox = tt; apart = tt; free = tt }, record { queue = tt; inbox = tt })) is).1

-- one record more is the node's change for it

pub after_mirrored : {B : Type 0} (c : Contents B) (s : State) (r : RecordText) (t : State) → after s r ≡ Some t → IsNumbered s → durable_by c t ≡ durable_after c r (durable_by c s)
after_mirrored c s (Queue r) t is n = let m = if_may_some (may_queue r s.queue) (with_queued r s) t is in ap (durable_by c) (sym m.1) ∙ queue_mirrored c r s
after_mirrored c s (Done number session) t is n =
    let m = mapped_some (λ queue. record s { queue = queue }) (changed (is_live number) settled s.queue) t is in
    ap (durable_by c) (sym m.2) ∙ done_mirrored c number s m.0 n.queue m.1
after_mirrored c s (Received r) t is n = let m = if_may_some (may_receive r s) (with_receipt r s) t is in ap (durable_by c) (sym m.1) ∙ receipt_mirrored c r s
after_mirrored c s (Refused r) t is n = let m = if_may_some (may_refuse r s) (with_refusal r s) t is in ap (durable_by c) (sym m.1) ∙ refusal_mirrored c r s
after_mirrored c s (Mark r) t is n = let m = if_may_some (may_mark r s) (with_mark r s) t is in ap (durable_by c) (sym m.1) ∙ mark_mirrored c r s
after_mirrored c s (Taken take) t is n = let m = if_may_some (not (is_among take s.takes)) (with_take take s) t is in ap (durable_by c) (sym m.1)
after_mirrored c s (Acted number) t is n =
    let m = mapped_some (λ queue. record s { queue = queue }) (changed (waits_for_action number) acted_on s.queue) t is in
    ap (durable_by c) (sym m.2) ∙ acted_mirrored c number s m.0 n.queue m.1
after_mirrored c s (Answered number) t is n =
    let m = mapped_some (λ inbox. record s { inbox = inbox }) (changed (waits_for_answer number) answered s.inbox) t is in
    ap (durable_by c) (sym m.2) ∙ answer_mirrored c number s m.0 n.inbox m.1

pub step_mirrored : {B : Type 0} (c : Contents B) (ps : List (List ℕ)) (s : State) (r : RecordText) (t : State) → fold_of ps ≡ Some s → fold_step s r ≡ Some t → durable_by c t ≡ durable_after c r (durable_by c s)
step_mirrored c ps s r t folds step = after_mirrored c s r t (step_is_after s r t step) (numbered_fold ps s folds)

pub step_in_world : (w : World) (ps : List (List ℕ)) (s : State) (r : RecordText) (t : State) → fold_of ps ≡ Some s → fold_step s r ≡ Some t → durable_in w t ≡ durable_after (contents_in w) r (durable_in w s)
step_in_world w = step_mirrored (contents_in w)
