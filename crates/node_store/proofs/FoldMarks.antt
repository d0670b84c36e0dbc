-- In each fold a mark has a number, and is no longer than its file.
use Rattle.std.proofs.Common.{◌≡◌, ℕ, ◌≤◌, List, [], ◌∷◌, Option, Some, None, Result, Ok, Err, Bool, true, not, ◌&&◌, ◌||◌, nat_lt, nat_le, refl, sym, ◌∙◌, ap, subst, arith, inl, inr, ⊎_elim}
use Rattle.std.specs.Prelude.{if◌then◌else◌}
use Rattle.std.specs.List.{AllByRecursion, list_all}
use Rattle.std.proofs.lemmas.Bool.{cases_Bool}
use Rattle.std.proofs.lemmas.Bool.Decides.{Decides-ltb, leb_tells}
use Rattle.ledger_rec.specs.declared.fault.RecFault.{RecFault}
use Rattle.ledger_rec.specs.Fold.{State, nothing_folded, fold_step, after, numbers, changed, answered, settled, acted_on, is_among, is_live, waits_for_action, waits_for_answer, may_queue, may_receive, may_refuse, may_mark, goes_on, begins, new_mark, unmarked, with_queued, with_receipt, with_refusal, with_mark, with_take}
use Rattle.ledger_rec.specs.Items.{PartMark}
use Rattle.ledger_rec.specs.Payloads.{record_in, step_by, stepped, fold_from, fold_of}
use Rattle.ledger_rec.specs.Record.{RecordText, Queue, Done, Received, Refused, Mark, Taken, Acted, Answered}
use Rattle.node_model.proofs.Lists.{some_inj, none_some, and_true, off}
use Rattle.node_store.proofs.Marks.{all_in_place}
use Rattle.node_store.proofs.Numbered.{if_may_some, mapped_some, step_is_after}
use Rattle.node_store.proofs.Receipts.{all_marks_left}

pub record IsMarkKept (m : PartMark) : Type 0 where
  pub some : 1 ≤ m.number
  pub within : m.len ≤ m.key.size

abbrev AreKept : State → Type 0
AreKept s = AllByRecursion IsMarkKept s.marks

at_most_is : (a b : ℕ) → nat_le a b ≡ true → a ≤ b
at_most_is a b e = ⊎_elim (λ l. l.1) (λ r. off (sym e ∙ r.0)) (leb_tells a b)

after_kept : (s : State) (r : RecordText) (t : State) → after s r ≡ Some t → list_all (λ n. nat_lt 0 n) (numbers r) ≡ true → AreKept s → AreKept t
after_kept s (Queue r) t is some all = let m = if_may_some (may_queue r s.queue) (with_queued r s) t is in subst AreKept m.1 all
after_kept s (Done number session) t is some all = let m = mapped_some (λ queue. record s { queue = queue }) (changed (is_live number) settled s.queue) t is in subst AreKept m.2 all
after_kept s (Received r) t is some all = let m = if_may_some (may_receive r s) (with_receipt r s) t is in subst AreKept m.1 (all_marks_left IsMarkKept r.from r.key s.marks all)
after_kept s (Refused r) t is some all = let m = if_may_some (may_refuse r s) (with_refusal r s) t is in subst AreKept m.1 (all_marks_left IsMarkKept r.from r.key s.marks all)
after_kept s (Mark r) t is some all =
    let m = if_may_some (may_mark r s) (with_mark r s) t is in
    let number = (Decides-ltb 0 r.part).0 (and_true (nat_lt 0 r.part) true some).0 in
    let fits = and_true (nat_lt 0 r.len) (nat_le r.len r.key.size && (goes_on r s.marks || begins r s)) m.0 in
    let within = at_most_is r.len r.key.size (and_true (nat_le r.len r.key.size) (goes_on r s.marks || begins r s) fits.1).0 in
    subst AreKept m.1 (all_in_place IsMarkKept (new_mark r) (unmarked r.from r.key s.marks) (record { some = omega (arith, number); within = within }) (all_marks_left IsMarkKept r.from r.key s.marks all))
after_kept s (Taken take) t is some all = let m = if_may_some (not (is_among take s.takes)) (with_take take s) t is in subst AreKept m.1 all
after_kept s (Acted number) t is some all = let m = mapped_some (λ queue. record s { queue = queue }) (changed (waits_for_action number) acted_on s.queue) t is in subst AreKept m.2 all
after_kept s (Answered number) t is some all = let m = mapped_some (λ inbox. record s { inbox = inbox }) (changed (waits_for_answer number) answered s.inbox) t is in subst AreKept m.2 all

step_kept : (s : State) (r : RecordText) (t : State) → fold_step s r ≡ Some t → AreKept s → AreKept t
step_kept s r t is all = elim (cases_Bool (list_all (λ n. nat_lt 0 n) (numbers r))) [
  | inl numbered ↦ after_kept s r t (step_is_after s r t is) numbered all
  | inr zero_there ↦ none_some (sym (ap (λ (b : Bool). if b then after s r else None) zero_there) ∙ is)
]

read_kept : (s : State) (read : Result RecordText RecFault) (t : State) → step_by s read ≡ Some t → AreKept s → AreKept t
read_kept s (Ok r) t is all = step_kept s r t is all
read_kept s (Err e) t is all = none_some is

kept_from : (ps : List (List ℕ)) (o : Option State) (t : State) → fold_from o ps ≡ Some t → ((s : State) → o ≡ Some s → AreKept s) → AreKept t
kept_from [] o t is so = so t is
kept_from (p ∷ ps) None t is so = kept_from ps None t is (λ s none. none_some none)
kept_from (p ∷ ps) (Some s) t is so = kept_from ps (stepped (Some s) p) t is (λ u step. read_kept s (record_in p) u step (so s refl))

pub marks_kept : (ps : List (List ℕ)) (s : State) → fold_of ps ≡ Some s → AllByRecursion IsMarkKept s.marks
marks_kept ps s is = kept_from ps (Some nothing_folded) s is (λ t same. subst AreKept (some_inj same) tt)
