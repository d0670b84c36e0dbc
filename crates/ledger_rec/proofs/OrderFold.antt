-- Each fold is orderly.
use Rattle.std.proofs.Common.{◌≡◌, ◌≢◌, inl, inr, ℕ, List, [], ◌∷◌, Option, Some, None, Result, Ok, Err, Bool, true, false, not, refl, sym, ◌∙◌, ap, subst}
use Rattle.std.specs.Prelude.{option_map, nat_lt, if◌then◌else◌}
use Rattle.std.specs.List.{AllByRecursion, list_all}
use Rattle.std.proofs.lemmas.Bool.{cases_Bool}
use Rattle.ledger_rec.specs.declared.fault.RecFault.{RecFault}
use Rattle.ledger_rec.specs.Fold.{State, nothing_folded, is_among, may_queue, may_receive, may_refuse, may_mark, changed, answered, settled, acted_on, is_live, waits_for_action, waits_for_answer, unmarked, with_queued, with_receipt, with_refusal, with_mark, with_take, fold_step, after, if_may, numbers}
use Rattle.ledger_rec.specs.Items.{Entry, Receipt, PartMark}
use Rattle.ledger_rec.specs.Record.{RecordText, Queue, Done, Received, Refused, Mark, Taken, Acted, Answered}
use Rattle.ledger_rec.specs.Payloads.{record_in, step_by, stepped, fold_from, fold_of}
use Rattle.ledger_rec.specs.Order.{AreDifferent, IsApartFrom, IsOrderly}
use Rattle.ledger_rec.proofs.Agreeing.{changed_map}
use Rattle.ledger_rec.proofs.OrderLemmas.{all_left, apart_left, order_received, order_marked}
use Rattle.ledger_rec.proofs.Differing.{different_queued}

pub if_may_some : (b : Bool) (x t : State) → if_may b x ≡ Some t → (b ≡ true) × (x ≡ t)
if_may_some true x t is = (refl, cc is)
if_may_some false x t is = absurd (cc is)

mapped_some : {A : Type 0} (f : A → State) (o : Option A) (t : State) → option_map f o ≡ Some t → (a : A) × (o ≡ Some a) × (f a ≡ t)
mapped_some f None t is = absurd (cc is)
mapped_some f (Some a) t is = (a, refl, cc is)

-- the numbers stay
module _ (P : ℕ → Type 0) where
  answered_all : (n : ℕ) (rs ys : List Receipt) → changed (waits_for_answer n) answered rs ≡ Some ys → AllByRecursion (λ (r : Receipt). P r.number) rs → AllByRecursion (λ (r : Receipt). P r.number) ys
  answered_all n [] ys is all = absurd (cc is)
  answered_all n (r ∷ rs) ys is (here, rest) = elim (cases_Bool (waits_for_answer n r)) [
    | inl this ↦
        let now : Some (answered r ∷ rs) ≡ Some ys = sym (ap (λ (b : Bool). if b then Some (answered r ∷ rs) else option_map (λ zs. r ∷ zs) (changed (waits_for_answer n) answered rs)) this) ∙ is in
        let same : answered r ∷ rs ≡ ys = cc now in
        subst (AllByRecursion (λ (x : Receipt). P x.number)) same (here, rest)
    | inr later ↦
        let now : option_map (λ zs. r ∷ zs) (changed (waits_for_answer n) answered rs) ≡ Some ys = sym (ap (λ (b : Bool). if b then Some (answered r ∷ rs) else option_map (λ zs. r ∷ zs) (changed (waits_for_answer n) answered rs)) later) ∙ is in
        behind r ys (changed (waits_for_answer n) answered rs) now here (λ zs found. answered_all n rs zs found rest)
  ]
    where
      behind : (r : Receipt) (ys : List Receipt) (o : Option (List Receipt)) → option_map (λ zs. r ∷ zs) o ≡ Some ys → P r.number → ((zs : List Receipt) → o ≡ Some zs → AllByRecursion (λ (x : Receipt). P x.number) zs) → AllByRecursion (λ (x : Receipt). P x.number) ys
      behind r ys None now here rest = absurd (cc now)
      behind r ys (Some zs) now here rest =
          let same : r ∷ zs ≡ ys = cc now in
          subst (AllByRecursion (λ (x : Receipt). P x.number)) same (here, rest zs refl)

order_after : (s : State) (r : RecordText) (t : State) → after s r ≡ Some t → IsOrderly s → IsOrderly t
order_after s (Queue r) t is o = let m = if_may_some (may_queue r s.queue) (with_queued r s) t is in subst IsOrderly m.1 (record { queue = different_queued r s.queue m.0 o.queue; marks = o.marks; inbox = o.inbox; apart = o.apart; free = o.free })
order_after s (Done number session) t is o = let m = mapped_some (λ queue. record s { queue = queue }) (changed (is_live number) settled s.queue) t is in subst IsOrderly m.2 (record { queue = subst AreDifferent (sym (changed_map (is_live number) settled (λ (e : Entry). e.number) (λ e. refl) s.queue m.0 m.1)) o.queue; marks = o.marks; inbox = o.inbox; apart = o.apart; free = o.free })
order_after s (Received r) t is o = let m = if_may_some (may_receive r s) (with_receipt r s) t is in subst IsOrderly m.1 (order_received s r m.0 o)
order_after s (Refused r) t is o =
    let m = if_may_some (may_refuse r s) (with_refusal r s) t is in
    subst IsOrderly m.1 (record {
      queue = o.queue;
      marks = all_left (λ (x : PartMark). is_among x.number s.parts ≡ true) r.from r.key s.marks o.marks;
      inbox = o.inbox;
      apart = apart_left r.from r.key s.marks o.apart;
      free = fewer s.inbox o.free;
    })
  where
    fewer : (rs : List Receipt) → AllByRecursion (λ (x : Receipt). IsApartFrom x.number s.marks) rs → AllByRecursion (λ (x : Receipt). IsApartFrom x.number (unmarked r.from r.key s.marks)) rs
    fewer [] all = tt
    fewer (x ∷ xs) (here, rest) = (all_left (λ (y : PartMark). y.number ≢ x.number) r.from r.key s.marks here, fewer xs rest)
order_after s (Mark r) t is o = let m = if_may_some (may_mark r s) (with_mark r s) t is in subst IsOrderly m.1 (order_marked s r m.0 o)
order_after s (Taken take) t is o = let m = if_may_some (not (is_among take s.takes)) (with_take take s) t is in subst IsOrderly m.1 (record { queue = o.queue; marks = o.marks; inbox = o.inbox; apart = o.apart; free = o.free })
order_after s (Acted number) t is o = let m = mapped_some (λ queue. record s { queue = queue }) (changed (waits_for_action number) acted_on s.queue) t is in subst IsOrderly m.2 (record { queue = subst AreDifferent (sym (changed_map (waits_for_action number) acted_on (λ (e : Entry). e.number) (λ e. refl) s.queue m.0 m.1)) o.queue; marks = o.marks; inbox = o.inbox; apart = o.apart; free = o.free })
order_after s (Answered number) t is o =
    let m = mapped_some (λ inbox. record s { inbox = inbox }) (changed (waits_for_answer number) answered s.inbox) t is in
    subst IsOrderly m.2 (record {
      queue = o.queue;
      marks = o.marks;
      inbox = answered_all (λ n. is_among n s.parts ≡ true) number s.inbox m.0 m.1 o.inbox;
      apart = o.apart;
      free = answered_all (λ n. IsApartFrom n s.marks) number s.inbox m.0 m.1 o.free;
    })

pub step_is_after : (s : State) (r : RecordText) (t : State) → fold_step s r ≡ Some t → after s r ≡ Some t
step_is_after s r t is = elim (cases_Bool (list_all (λ n. nat_lt 0 n) (numbers r))) as (λ _. after s r ≡ Some t) [
  | inl numbered ↦ sym (ap (λ (b : Bool). if b then after s r else None) numbered) ∙ is
  | inr zero_there ↦ absurd (none_some t (sym (ap (λ (b : Bool). if b then after s r else None) zero_there) ∙ is))
]
  where
    none_some : (t : State) → None ≡ Some t → ⊥
    none_some t is = cc is

pub order_step : (s : State) (r : RecordText) (t : State) → fold_step s r ≡ Some t → IsOrderly s → IsOrderly t
order_step s r t is o = order_after s r t (step_is_after s r t is) o

order_read : (s : State) (read : Result RecordText RecFault) (t : State) → step_by s read ≡ Some t → IsOrderly s → IsOrderly t
order_read s (Ok r) t is o = order_step s r t is o
order_read s (Err e) t is o = absurd (cc is)

order_from : (o : Option State) (ps : List (List ℕ)) (t : State) → ((s : State) → o ≡ Some s → IsOrderly s) → fold_from o ps ≡ Some t → IsOrderly t
order_from o [] t orderly is = orderly t is
order_from None (p ∷ ps) t orderly is = order_from None ps t (λ s none. absurd (cc none)) is
order_from (Some s) (p ∷ ps) t orderly is = order_from (stepped (Some s) p) ps t (λ u step. order_read s (record_in p) u step (orderly s refl)) is

-- whatever the payloads are
pub order_fold : (ps : List (List ℕ)) (s : State) → fold_of ps ≡ Some s → IsOrderly s
order_fold ps s is = order_from (Some nothing_folded) ps s (λ t same. subst IsOrderly (one t same) (record { queue = tt; marks = tt; inbox = tt; apart = tt; free = tt })) is
  where
    one : (t : State) → Some nothing_folded ≡ Some t → nothing_folded ≡ t
    one t same = cc same
