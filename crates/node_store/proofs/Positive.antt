-- Each receipt of a fold has a number.
use Rattle.std.proofs.Common.{◌≡◌, ℕ, ◌<◌, ◌≤◌, List, [], ◌∷◌, Option, Some, None, Result, Ok, Err, Bool, true, not, refl, sym, ◌∙◌, ap, subst, inl, inr, arith}
use Rattle.std.specs.Prelude.{nat_lt, if◌then◌else◌}
use Rattle.std.specs.List.{AllByRecursion, list_all}
use Rattle.std.proofs.lemmas.Bool.{cases_Bool}
use Rattle.std.proofs.lemmas.Bool.Decides.{Decides-ltb}
use Rattle.ledger_rec.specs.Fold.{State, nothing_folded, changed, settled, acted_on, is_live, waits_for_action, waits_for_answer, answered, may_queue, may_receive, may_refuse, may_mark, is_among, with_queued, with_receipt, with_refusal, with_mark, with_take, fold_step, after, numbers, new_receipt}
use Rattle.ledger_rec.specs.Items.{Receipt}
use Rattle.ledger_rec.specs.Payloads.{record_in, step_by, stepped, fold_from, fold_of}
use Rattle.ledger_rec.specs.Record.{RecordText, Queue, Done, Received, Refused, Mark, Taken, Acted, Answered}
use Rattle.ledger_rec.specs.declared.fault.RecFault.{RecFault}
use Rattle.node_model.proofs.Lists.{some_inj, none_some, and_true}
use Rattle.node_store.proofs.Listed.{all_changed, all_last}
use Rattle.node_store.proofs.Numbered.{if_may_some, mapped_some}

abbrev pub IsSome_number : Receipt → Type 0
IsSome_number r = 1 ≤ r.number

abbrev All : State → Type 0
All s = AllByRecursion IsSome_number s.inbox

some_after : (s : State) (r : RecordText) (t : State) → list_all (λ n. nat_lt 0 n) (numbers r) ≡ true → after s r ≡ Some t → All s → All t
some_after s (Queue r) t some is all = let m = if_may_some (may_queue r s.queue) (with_queued r s) t is in subst All m.1 all
some_after s (Done number session) t some is all = let m = mapped_some (λ queue. record s { queue = queue }) (changed (is_live number) settled s.queue) t is in subst All m.2 all
some_after s (Received r) t some is all =
    let m = if_may_some (may_receive r s) (with_receipt r s) t is in
    let low : 0 < r.receipt = (Decides-ltb 0 r.receipt).0 (and_true (nat_lt 0 r.receipt) _ some).0 in
    subst All m.1 (all_last IsSome_number s.inbox (new_receipt r) all (omega (arith, low)))
some_after s (Refused r) t some is all = let m = if_may_some (may_refuse r s) (with_refusal r s) t is in subst All m.1 all
some_after s (Mark r) t some is all = let m = if_may_some (may_mark r s) (with_mark r s) t is in subst All m.1 all
some_after s (Taken take) t some is all = let m = if_may_some (not (is_among take s.takes)) (with_take take s) t is in subst All m.1 all
some_after s (Acted number) t some is all = let m = mapped_some (λ queue. record s { queue = queue }) (changed (waits_for_action number) acted_on s.queue) t is in subst All m.2 all
some_after s (Answered number) t some is all =
    let m = mapped_some (λ inbox. record s { inbox = inbox }) (changed (waits_for_answer number) answered s.inbox) t is in
    subst All m.2 (all_changed IsSome_number (waits_for_answer number) answered (λ r l. l) s.inbox m.0 m.1 all)

some_step : (s : State) (r : RecordText) (t : State) → fold_step s r ≡ Some t → All s → All t
some_step s r t is all = elim (cases_Bool (list_all (λ n. nat_lt 0 n) (numbers r))) [
  | inl numbered ↦ some_after s r t numbered (sym (ap (λ (b : Bool). if b then after s r else None) numbered) ∙ is) all
  | inr zero_there ↦ none_some (sym (ap (λ (b : Bool). if b then after s r else None) zero_there) ∙ is)
]

some_read : (s : State) (read : Result RecordText RecFault) (t : State) → step_by s read ≡ Some t → All s → All t
some_read s (Ok r) t is all = some_step s r t is all
some_read s (Err e) t is all = none_some is

some_from : (o : Option State) (ps : List (List ℕ)) (t : State) → ((s : State) → o ≡ Some s → All s) → fold_from o ps ≡ Some t → All t
some_from o [] t so is = so t is
some_from None (p ∷ ps) t so is = some_from None ps t (λ s none. none_some none) is
some_from (Some s) (p ∷ ps) t so is = some_from (stepped (Some s) p) ps t (λ u step. some_read s (record_in p) u step (so s refl)) is

pub some_fold : (ps : List (List ℕ)) (s : State) → fold_of ps ≡ Some s → AllByRecursion IsSome_number s.inbox
some_fold ps s is = some_from (Some nothing_folded) ps s (λ t same. subst All (some_inj same) tt) is
