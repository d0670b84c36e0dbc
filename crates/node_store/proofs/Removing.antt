-- A stray is removed.
use Rattle.std.proofs.Common.{◌≡◌, ◌≢◌, ◌⊎◌, inl, inr, ℕ, List, [], ◌∷◌, get_or, Option, Some, None, true, refl, sym, ◌∙◌, ap, subst, arith}
use Rattle.std.specs.List.{AllByRecursion}
use Rattle.std.specs.Str.{bytes_eq}
use Rattle.std.proofs.lemmas.Slice.Eq.{bytes_eq-Decides}
use Rattle.std.proofs.lemmas.Bool.{cases_Bool}
use Rattle.disk_model.specs.World.{World}
use Rattle.disk_model.specs.Changes.{OnOwn, Puts}
use Rattle.ledger_file.specs.Ledger.{ledger_name, new_name, LedgerIs}
use Rattle.ledger_rec.specs.Fold.{State, is_among}
use Rattle.ledger_rec.specs.Items.{Entry, Receipt, PartMark}
use Rattle.ledger_rec.specs.Payloads.{fold_of}
use Rattle.node_model.proofs.Lists.{none_some, some_inj, off}
use Rattle.node_store.specs.Aside.{IsAside}
use Rattle.node_store.specs.Clearing.{Restores}
use Rattle.node_store.specs.Names.{in_name, is_note, out_name, take_number}
use Rattle.node_store.specs.Strays.{IsStray, nodelist_new}
use Rattle.node_store.specs.Tending.{HasSameFront, Mirrors}
use Rattle.node_store.specs.Worlds.{if_take}
use Rattle.node_store.proofs.Alike.{IsNoTake, ledger_no_take, in_no_take, out_no_take, all_by}
use Rattle.node_store.proofs.NameLaws.{one_in_name, one_out_name, in_not_out, in_not_ledger, out_not_ledger, in_not_new, out_not_new}
use Rattle.node_store.proofs.NoteNames.{in_no_note, new_no_note, nodelist_no_note, note_no_take, other_than, out_no_note}
use Rattle.node_store.proofs.Recovering.{IsSteady, TakesStay, steady_restores}

-- two names are one or not
pub same_or_not : (a b : List ℕ) → (a ≡ b) ⊎ (a ≢ b)
same_or_not a b = elim (cases_Bool (bytes_eq a b)) [
  | inl same ↦ inl ((bytes_eq-Decides a b).0 same)
  | inr other ↦ inr (λ is. off (sym ((bytes_eq-Decides a b).1 is) ∙ other))
]

in_not_nodelist : (n : ℕ) → in_name n ≢ nodelist_new
unfolding in_name
in_not_nodelist n is = let e : 105 ≡ 110 = ap (λ (l : List ℕ). get_or l 0 0) is in omega (arith, e)

out_not_nodelist : (n : ℕ) → out_name n ≢ nodelist_new
unfolding out_name
out_not_nodelist n is = let e : 111 ≡ 110 = ap (λ (l : List ℕ). get_or l 0 0) is in omega (arith, e)

ledger_not_new : ledger_name ≢ new_name
ledger_not_new same = cc same

ledger_not_nodelist : ledger_name ≢ nodelist_new
ledger_not_nodelist same = cc same

pub new_no_take : IsNoTake new_name
unfolding take_number
new_no_take = refl

nodelist_no_take : IsNoTake nodelist_new
unfolding take_number
nodelist_no_take = refl

-- a take's name is none of the others'
pub take_is_none : (name other : List ℕ) (take : ℕ) → take_number name ≡ Some take → IsNoTake other → other ≢ name
take_is_none name other take is none same = none_some (sym none ∙ ap take_number same ∙ is)

pub all_free : {A : Type 0} (P : A → Type 0) → ((x : A) → P x) → (xs : List A) → AllByRecursion P xs
all_free P f [] = tt
all_free P f (x ∷ xs) = (f x, all_free P f xs)

module _ (s : State) (name : List ℕ) where
  abbrev NotLive : Entry → Type 0
  NotLive e = e.live ≡ true → out_name e.number ≢ name

  abbrev NotReceived : Receipt → Type 0
  NotReceived r = in_name r.number ≢ name

  abbrev NotMarked : PartMark → Type 0
  NotMarked m = in_name m.number ≢ name

  -- a stray is no file of the fold, and no ledger

  not_live : IsStray s name → AllByRecursion NotLive s.queue
  not_live (inl (inl work)) = all_free NotLive (λ e live same. out_not_new e.number (same ∙ work)) s.queue
  not_live (inl (inr work)) = all_free NotLive (λ e live same. out_not_nodelist e.number (same ∙ work)) s.queue
  not_live (inr (inl out)) = all_by (λ (e : Entry). e.live ≡ true → e.number ≢ out.number) NotLive (λ e other live same. other live (one_out_name e.number out.number (same ∙ out.named))) s.queue out.unqueued
  not_live (inr (inr (inl part))) = all_free NotLive (λ e live same. in_not_out part.number e.number (sym (same ∙ part.named))) s.queue
  not_live (inr (inr (inr taken))) = all_free NotLive (λ e live. take_is_none name (out_name e.number) taken.take taken.named (out_no_take e.number)) s.queue

  not_received : IsStray s name → AllByRecursion NotReceived s.inbox
  not_received (inl (inl work)) = all_free NotReceived (λ r same. in_not_new r.number (same ∙ work)) s.inbox
  not_received (inl (inr work)) = all_free NotReceived (λ r same. in_not_nodelist r.number (same ∙ work)) s.inbox
  not_received (inr (inl out)) = all_free NotReceived (λ r same. in_not_out r.number out.number (same ∙ out.named)) s.inbox
  not_received (inr (inr (inl part))) = all_by (λ (r : Receipt). r.number ≢ part.number) NotReceived (λ r other same. other (one_in_name r.number part.number (same ∙ part.named))) s.inbox part.unreceived
  not_received (inr (inr (inr taken))) = all_free NotReceived (λ r. take_is_none name (in_name r.number) taken.take taken.named (in_no_take r.number)) s.inbox

  pub not_marked : IsStray s name → AllByRecursion NotMarked s.marks
  not_marked (inl (inl work)) = all_free NotMarked (λ m same. in_not_new m.number (same ∙ work)) s.marks
  not_marked (inl (inr work)) = all_free NotMarked (λ m same. in_not_nodelist m.number (same ∙ work)) s.marks
  not_marked (inr (inl out)) = all_free NotMarked (λ m same. in_not_out m.number out.number (same ∙ out.named)) s.marks
  not_marked (inr (inr (inl part))) = all_by (λ (m : PartMark). m.number ≢ part.number) NotMarked (λ m other same. other (one_in_name m.number part.number (same ∙ part.named))) s.marks part.unmarked
  not_marked (inr (inr (inr taken))) = all_free NotMarked (λ m. take_is_none name (in_name m.number) taken.take taken.named (in_no_take m.number)) s.marks

  not_ledger : IsStray s name → ledger_name ≢ name
  not_ledger (inl (inl work)) same = ledger_not_new (same ∙ work)
  not_ledger (inl (inr work)) same = ledger_not_nodelist (same ∙ work)
  not_ledger (inr (inl out)) same = out_not_ledger out.number (sym (same ∙ out.named))
  not_ledger (inr (inr (inl part))) same = in_not_ledger part.number (sym (same ∙ part.named))
  not_ledger (inr (inr (inr taken))) same = take_is_none name ledger_name taken.take taken.named ledger_no_take same

  -- a stray is no note
  not_note : IsStray s name → (n : List ℕ) → is_note n ≡ true → n ≢ name
  not_note (inl (inl work)) n note same = other_than n note new_name new_no_note (sym (same ∙ work))
  not_note (inl (inr work)) n note same = other_than n note nodelist_new nodelist_no_note (sym (same ∙ work))
  not_note (inr (inl out)) n note same = other_than n note (out_name out.number) (out_no_note out.number) (sym (same ∙ out.named))
  not_note (inr (inr (inl part))) n note same = other_than n note (in_name part.number) (in_no_note part.number) (sym (same ∙ part.named))
  not_note (inr (inr (inr taken))) n note same = none_some (sym (note_no_take n note) ∙ ap take_number same ∙ taken.named)

  -- a stray is the store's
  not_aside : IsStray s name → (n : List ℕ) → IsAside n → n ≢ name
  not_aside (inl (inl work)) n other same = other.work (inl (same ∙ work))
  not_aside (inl (inr work)) n other same = other.work (inr (same ∙ work))
  not_aside (inr (inl out)) n other same = other.queued out.number (same ∙ out.named)
  not_aside (inr (inr (inl part))) n other same = other.received part.number (same ∙ part.named)
  not_aside (inr (inr (inr taken))) n other same = none_some (sym other.taken ∙ ap take_number same ∙ taken.named)

  -- a stray that is a take's is recorded
  stray_take : IsStray s name → (take : ℕ) → take_number name ≡ Some take → is_among take s.takes ≡ true
  stray_take (inl (inl work)) take is = none_some (sym new_no_take ∙ sym (ap take_number work) ∙ is)
  stray_take (inl (inr work)) take is = none_some (sym nodelist_no_take ∙ sym (ap take_number work) ∙ is)
  stray_take (inr (inl out)) take is = none_some (sym (out_no_take out.number) ∙ sym (ap take_number out.named) ∙ is)
  stray_take (inr (inr (inl part))) take is = none_some (sym (in_no_take part.number) ∙ sym (ap take_number part.named) ∙ is)
  stray_take (inr (inr (inr taken))) take is = subst (λ (k : ℕ). is_among k s.takes ≡ true) (some_inj (sym taken.named ∙ is)) taken.recorded

  module _ (stray : IsStray s name) (d c : World) (step : OnOwn (Puts name None) d c) where
    pub removed_steady : IsSteady s d c
    removed_steady = record {
      live = all_by NotLive (λ (e : Entry). e.live ≡ true → c.own (out_name e.number) ≡ d.own (out_name e.number)) (λ e other live. step.own.others (out_name e.number) (other live)) s.queue (not_live stray);
      received = all_by NotReceived (λ (r : Receipt). c.own (in_name r.number) ≡ d.own (in_name r.number)) (λ r other. step.own.others (in_name r.number) other) s.inbox (not_received stray);
      marked = all_by NotMarked (λ (m : PartMark). HasSameFront (in_name m.number) m.len d c) (λ m other b is long. (b, step.own.others (in_name m.number) other ∙ is, refl)) s.marks (not_marked stray);
      outside = step.outside;
      gifts = step.gifts;
    }

    pub removed_ledger : (payloads : List (List ℕ)) → LedgerIs payloads d → LedgerIs payloads c
    removed_ledger payloads ledger = (ledger.0, step.own.others ledger_name (not_ledger stray) ∙ ledger.1, ledger.2)

    removed_takes : TakesStay s d c
    removed_takes n = go (take_number n) refl (same_or_not n name)
      where
        go : (o : Option ℕ) → take_number n ≡ o → (n ≡ name) ⊎ (n ≢ name)
            → (if_take o (c.own n) ≡ if_take o (d.own n)) ⊎ ((take : ℕ) × (o ≡ Some take) × (is_among take s.takes ≡ true) × (if_take o (c.own n) ≡ None))
        go None is both = inl refl
        go (Some take) is (inl same) = inr (take, refl, stray_take stray take (ap take_number (sym same) ∙ is), ap c.own same ∙ step.own.here)
        go (Some take) is (inr other) = inl (step.own.others n other)

    pub removed_restores : (payloads : List (List ℕ)) → fold_of payloads ≡ Some s → LedgerIs payloads d → Restores d c
    removed_restores payloads folds ledger = steady_restores payloads s folds d c (inl ledger) (inl (removed_ledger payloads ledger)) removed_steady removed_takes (λ n note. step.own.others n (not_note stray n note)) (λ n other. step.own.others n (not_aside stray n other))

  -- what is read and what a stop leaves go on being the same
  module _ (stray : IsStray s name) (f f' c c' : World) (read : OnOwn (Puts name None) f f') (left : OnOwn (Puts name None) c c') where
    stays : (n : List ℕ) → n ≢ name → c.own n ≡ f.own n → c'.own n ≡ f'.own n
    stays n other same = left.own.others n other ∙ same ∙ sym (read.own.others n other)

    both_live : (es : List Entry) → AllByRecursion NotLive es → AllByRecursion (λ (e : Entry). e.live ≡ true → c.own (out_name e.number) ≡ f.own (out_name e.number)) es → AllByRecursion (λ (e : Entry). e.live ≡ true → c'.own (out_name e.number) ≡ f'.own (out_name e.number)) es
    both_live [] other same = tt
    both_live (e ∷ es) other same = (λ live. stays (out_name e.number) (other.0 live) (same.0 live), both_live es other.1 same.1)

    both_received : (rs : List Receipt) → AllByRecursion NotReceived rs → AllByRecursion (λ (r : Receipt). c.own (in_name r.number) ≡ f.own (in_name r.number)) rs → AllByRecursion (λ (r : Receipt). c'.own (in_name r.number) ≡ f'.own (in_name r.number)) rs
    both_received [] other same = tt
    both_received (r ∷ rs) other same = (stays (in_name r.number) other.0 same.0, both_received rs other.1 same.1)

    both_marked : (ms : List PartMark) → AllByRecursion NotMarked ms → AllByRecursion (λ (m : PartMark). HasSameFront (in_name m.number) m.len f c) ms → AllByRecursion (λ (m : PartMark). HasSameFront (in_name m.number) m.len f' c') ms
    both_marked [] other same = tt
    both_marked (m ∷ ms) other same = (
      λ b is long.
          let was = same.0 b (sym (read.own.others (in_name m.number) other.0) ∙ is) long in
          (was.0, left.own.others (in_name m.number) other.0 ∙ was.1, was.2),
      both_marked ms other.1 same.1,
    )

    pub removed_mirrors : Mirrors s f c → Mirrors s f' c'
    removed_mirrors a = record {
      live = both_live s.queue (not_live stray) a.live;
      received = both_received s.inbox (not_received stray) a.received;
      marked = both_marked s.marks (not_marked stray) a.marked;
      takes = λ n take is. elim (same_or_not n name) [ inl same ↦ ap c'.own same ∙ left.own.here ∙ sym (ap f'.own same ∙ read.own.here) | inr other ↦ stays n other (a.takes n take is) ];
      outside = left.outside ∙ a.outside ∙ sym read.outside;
      gifts = left.gifts ∙ a.gifts ∙ sym read.gifts;
    }
