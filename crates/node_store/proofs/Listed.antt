-- Each entry of a fold has a number, a key within its limits, and one of the five flavours.
use Rattle.std.proofs.Common.{◌≡◌, ℕ, ◌<◌, ◌≤◌, List, [], ◌∷◌, ◌++◌, Option, Some, None, Result, Ok, Err, Bool, true, not, refl, sym, ◌∙◌, ap, subst, inl, inr, arith}
use Rattle.std.specs.Prelude.{nat_lt, if◌then◌else◌}
use Rattle.std.specs.List.{AllByRecursion, list_all}
use Rattle.std.proofs.lemmas.Bool.{cases_Bool}
use Rattle.std.proofs.lemmas.Bool.Decides.{Decides-ltb}
use Rattle.ftn_addr.specs.Limits.{IsKey}
use Rattle.ledger_rec.specs.Fold.{State, nothing_folded, changed, settled, acted_on, is_live, waits_for_action, waits_for_answer, answered, may_queue, may_receive, may_refuse, may_mark, is_among, with_queued, with_receipt, with_refusal, with_mark, with_take, fold_step, after, numbers, new_entry}
use Rattle.ledger_rec.specs.Items.{Entry}
use Rattle.ledger_rec.specs.Payloads.{record_in, step_by, stepped, fold_from, fold_of}
use Rattle.ledger_rec.specs.Record.{RecordText, Queue, Done, Received, Refused, Mark, Taken, Acted, Answered}
use Rattle.ledger_rec.specs.declared.fault.RecFault.{RecFault}
use Rattle.node_model.proofs.Lists.{some_inj, none_some, and_true}
use Rattle.node_store.proofs.Mirrors.{Here, Later, changed_is}
use Rattle.node_store.proofs.Numbered.{if_may_some, mapped_some}
use Rattle.node_store.proofs.ReadKeys.{HasKey, read_key}

-- such an entry
pub record IsListed (e : Entry) : Type 0 where
  pub some : 1 ≤ e.number
  pub key : IsKey e.key
  pub flavour : e.flavour ≤ 4

-- what holds of each item holds of each after a change of one, where the change keeps it
pub all_changed : {A : Type 0} (P : A → Type 0) (p : A → Bool) (f : A → A) → ((x : A) → P x → P (f x)) → (xs ys : List A) → changed p f xs ≡ Some ys → AllByRecursion P xs → AllByRecursion P ys
all_changed P p f keeps [] ys is all = none_some is
all_changed P p f keeps (x ∷ xs) ys is all = elim (changed_is p f x xs ys is) [
  | Here passed e ↦ subst (AllByRecursion P) (sym e) (keeps x all.0, all.1)
  | Later failed zs was e ↦ subst (AllByRecursion P) (sym e) (all.0, all_changed P p f keeps xs zs was all.1)
]

pub all_last : {A : Type 0} (P : A → Type 0) (xs : List A) (y : A) → AllByRecursion P xs → P y → AllByRecursion P (xs ++ y ∷ [])
all_last P [] y all new = (new, tt)
all_last P (x ∷ xs) y all new = (all.0, all_last P xs y all.1 new)

listed_after : (s : State) (r : RecordText) (t : State) → list_all (λ n. nat_lt 0 n) (numbers r) ≡ true → HasKey r → after s r ≡ Some t → AllByRecursion IsListed s.queue → AllByRecursion IsListed t.queue
listed_after s (Queue r) t some key is all =
    let m = if_may_some (may_queue r s.queue) (with_queued r s) t is in
    let low : 0 < r.number = (Decides-ltb 0 r.number).0 (and_true (nat_lt 0 r.number) true some).0 in
    subst (λ (u : State). AllByRecursion IsListed u.queue) m.1 (all_last IsListed s.queue (new_entry r) all (record { some = omega (arith, low); key = key.0; flavour = key.1 }))
listed_after s (Done number session) t some key is all =
    let m = mapped_some (λ queue. record s { queue = queue }) (changed (is_live number) settled s.queue) t is in
    subst (λ (u : State). AllByRecursion IsListed u.queue) m.2 (all_changed IsListed (is_live number) settled (λ e l. record { some = l.some; key = l.key; flavour = l.flavour }) s.queue m.0 m.1 all)
listed_after s (Received r) t some key is all = let m = if_may_some (may_receive r s) (with_receipt r s) t is in subst (λ (u : State). AllByRecursion IsListed u.queue) m.1 all
listed_after s (Refused r) t some key is all = let m = if_may_some (may_refuse r s) (with_refusal r s) t is in subst (λ (u : State). AllByRecursion IsListed u.queue) m.1 all
listed_after s (Mark r) t some key is all = let m = if_may_some (may_mark r s) (with_mark r s) t is in subst (λ (u : State). AllByRecursion IsListed u.queue) m.1 all
listed_after s (Taken take) t some key is all = let m = if_may_some (not (is_among take s.takes)) (with_take take s) t is in subst (λ (u : State). AllByRecursion IsListed u.queue) m.1 all
listed_after s (Acted number) t some key is all =
    let m = mapped_some (λ queue. record s { queue = queue }) (changed (waits_for_action number) acted_on s.queue) t is in
    subst (λ (u : State). AllByRecursion IsListed u.queue) m.2 (all_changed IsListed (waits_for_action number) acted_on (λ e l. record { some = l.some; key = l.key; flavour = l.flavour }) s.queue m.0 m.1 all)
listed_after s (Answered number) t some key is all =
    let m = mapped_some (λ inbox. record s { inbox = inbox }) (changed (waits_for_answer number) answered s.inbox) t is in subst (λ (u : State). AllByRecursion IsListed u.queue) m.2 all

listed_step : (s : State) (r : RecordText) (t : State) → HasKey r → fold_step s r ≡ Some t → AllByRecursion IsListed s.queue → AllByRecursion IsListed t.queue
listed_step s r t key is all = elim (cases_Bool (list_all (λ n. nat_lt 0 n) (numbers r))) [
  | inl numbered ↦ listed_after s r t numbered key (sym (ap (λ (b : Bool). if b then after s r else None) numbered) ∙ is) all
  | inr zero_there ↦ none_some (sym (ap (λ (b : Bool). if b then after s r else None) zero_there) ∙ is)
]

listed_read : (s : State) (payload : List ℕ) (read : Result RecordText RecFault) (t : State) → record_in payload ≡ read → step_by s read ≡ Some t → AllByRecursion IsListed s.queue → AllByRecursion IsListed t.queue
listed_read s payload (Ok r) t was is all = listed_step s r t (read_key payload r was) is all
listed_read s payload (Err e) t was is all = none_some is

listed_from : (o : Option State) (ps : List (List ℕ)) (t : State) → ((s : State) → o ≡ Some s → AllByRecursion IsListed s.queue) → fold_from o ps ≡ Some t → AllByRecursion IsListed t.queue
listed_from o [] t so is = so t is
listed_from None (p ∷ ps) t so is = listed_from None ps t (λ s none. none_some none) is
listed_from (Some s) (p ∷ ps) t so is = listed_from (stepped (Some s) p) ps t (λ u step. listed_read s p (record_in p) u refl step (so s refl)) is

pub listed_fold : (ps : List (List ℕ)) (s : State) → fold_of ps ≡ Some s → AllByRecursion IsListed s.queue
listed_fold ps s is = listed_from (Some nothing_folded) ps s (λ t same. subst (λ (x : State). AllByRecursion IsListed x.queue) (some_inj same) tt) is
