-- What opens goes on opening to the same, but for takes that were recorded and marks.
use Rattle.std.proofs.Common.{◌≡◌, ◌⊎◌, inl, inr, ℕ, List, map, Option, Some, None, true, refl, sym, ◌∙◌, ap, subst}
use Rattle.std.specs.List.{AllByRecursion}
use Rattle.disk_model.specs.World as W
use Rattle.disk_model.specs.World.{World}
use Rattle.disk_model.specs.Changes.{Same}
use Rattle.disk_model.specs.Moments.{Leaves}
use Rattle.disk_model.proofs.MomentLemmas.{started, runs_on}
use Rattle.ledger_rec.specs.Fold.{State, is_among}
use Rattle.ledger_rec.specs.Items.{Entry, Receipt, PartMark}
use Rattle.ledger_rec.specs.Payloads.{fold_of}
use Rattle.node_model.specs.StoreStates.{Shelf}
use Rattle.node_model.proofs.Lists.{some_inj}
use Rattle.node_store.specs.Aside.{SameAside}
use Rattle.node_store.specs.Clearing.{Restores}
use Rattle.node_store.specs.Names.{in_name, is_note, out_name, take_number}
use Rattle.node_store.specs.Opening.{IsTidied, Recovers}
use Rattle.node_store.specs.Tending.{HasSameFront}
use Rattle.node_store.specs.Worlds.{durable_in, gift_told, outside_in, shelf_in, takes_in, HasFiles, LedgerOf, OpensAs}
use Rattle.node_store.proofs.Alike.{entries_alike, receipts_alike, marks_alike, live_files, received_files, marked_files}
use Rattle.node_store.proofs.Openings.{one_list}

pub tidied-refl : (a : Shelf) → IsTidied a a
tidied-refl a = record { state = refl; recorded = refl; outside = λ path. inl refl; gifts = refl; takes = λ name. inl refl }

pub tidied-then : (a b c : Shelf) → IsTidied a b → IsTidied b c → IsTidied a c
tidied-then a b c x y = record {
  state = y.state ∙ x.state;
  recorded = y.recorded ∙ x.recorded;
  outside = λ path. there path (x.outside path) (y.outside path);
  gifts = y.gifts ∙ x.gifts;
  takes = λ name. go name (x.takes name) (y.takes name);
}
  where
    there : (path : List ℕ) → (b.outside path ≡ a.outside path) ⊎ (b.outside path ≡ None) → (c.outside path ≡ b.outside path) ⊎ (c.outside path ≡ None) → (c.outside path ≡ a.outside path) ⊎ (c.outside path ≡ None)
    there path (inl p) (inl q) = inl (q ∙ p)
    there path (inr p) (inl q) = inr (q ∙ p)
    there path p (inr q) = inr q

    go : (name : List ℕ) → (b.takes name ≡ a.takes name) ⊎ ((take : ℕ) × (take_number name ≡ Some take) × (is_among take a.recorded ≡ true) × (b.takes name ≡ None))
        → (c.takes name ≡ b.takes name) ⊎ ((take : ℕ) × (take_number name ≡ Some take) × (is_among take b.recorded ≡ true) × (c.takes name ≡ None))
        → (c.takes name ≡ a.takes name) ⊎ ((take : ℕ) × (take_number name ≡ Some take) × (is_among take a.recorded ≡ true) × (c.takes name ≡ None))
    go name (inl p) (inl q) = inl (q ∙ p)
    go name (inr p) (inl q) = inr (p.0, p.1, p.2, q ∙ p.3)
    go name p (inr q) = inr (q.0, q.1, subst (λ (l : List ℕ). is_among q.0 l ≡ true) x.recorded q.2, q.3)

pub recovers-refl : (d : World) → Recovers d d
recovers-refl d = λ shelf opens. (shelf, opens, tidied-refl shelf)

pub recovers-then : (d e c : World) → Recovers d e → Recovers e c → Recovers d c
recovers-then d e c x y = λ shelf opens.
    let first = x shelf opens in
    let second = y first.0 first.1 in
    (second.0, second.1, tidied-then shelf first.0 second.0 first.2 second.2)

-- and nothing outside changed, nor a note, nor an own file that isn't the store's

pub restores-refl : (d : World) → Restores d d
restores-refl d = record { recovers = recovers-refl d; outside = refl; notes = λ name note. refl; aside = λ name other. refl }

pub restores-same : (d c : World) → Same d c → Restores d c
restores-same d c same = subst (Restores d) (sym same) (restores-refl d)

pub restores-then : (d e c : World) → Restores d e → Restores e c → Restores d c
restores-then d e c x y = record {
  recovers = recovers-then d e c x.recovers y.recovers;
  outside = y.outside ∙ x.outside;
  notes = λ name note. y.notes name note ∙ x.notes name note;
  aside = λ name other. y.aside name other ∙ x.aside name other;
}

module _ {D : Type 0} (moment : D → ℕ) (images : D → ℕ → World → Type 0) where
  pub leaves-refl : (d : D) → Leaves moment images Restores d d
  leaves-refl d = started moment images Restores d (λ c now. restores-refl c)

  pub leaves-then : (a b c : D) → Leaves moment images Restores a b → Leaves moment images Restores b c → Leaves moment images Restores a c
  leaves-then a b c first second = runs_on moment images Restores Restores Restores a b c first second (λ d e now r. r) (λ d m e now left r t. restores-then d m e r t)

  pub leaves-same : (a b : D) → Leaves moment images Same a b → Leaves moment images Restores a b
  leaves-same a b run = runs_on moment images Restores Same Restores a a b (leaves-refl a) run (λ d e now r. r) (λ d m e now left r same. restores-then d m e r (restores-same m e same))

-- The files that the fold speaks of are alike, and so is what else outlives a stop, but for takes.
pub record IsSteady (s : State) (d c : World) : Type 0 where
  pub live : AllByRecursion (λ (e : Entry). e.live ≡ true → c.own (out_name e.number) ≡ d.own (out_name e.number)) s.queue
  pub received : AllByRecursion (λ (r : Receipt). c.own (in_name r.number) ≡ d.own (in_name r.number)) s.inbox
  pub marked : AllByRecursion (λ (m : PartMark). HasSameFront (in_name m.number) m.len d c) s.marks
  pub outside : c.outside ≡ d.outside
  pub gifts : c.gifts ≡ d.gifts

-- each take is the same, or was recorded and is gone
abbrev pub TakesStay : State → World → World → Type 0
TakesStay s d c = (name : List ℕ) → (takes_in c name ≡ takes_in d name) ⊎ ((take : ℕ) × (take_number name ≡ Some take) × (is_among take s.takes ≡ true) × (takes_in c name ≡ None))

pub steady_files : (s : State) (d c : World) → HasFiles s d → IsSteady s d c → HasFiles s c
steady_files s d c has a = record {
  live = live_files d c s.queue has.live a.live;
  marked = marked_files d c s.marks has.marked a.marked;
  received = received_files d c s.inbox has.received a.received;
}

pub steady_state : (s : State) (d c : World) → HasFiles s d → IsSteady s d c → durable_in c s ≡ durable_in d s
steady_state s d c has a = λ i. record {
  queue = entries_alike d c s.queue a.live i;
  inbox = receipts_alike d c a.gifts s.inbox a.received i;
  refused = (durable_in d s).refused;
  marks = marks_alike d c s.marks has.marked a.marked i;
}

pub steady_tidied : (s : State) (d c : World) → HasFiles s d → IsSteady s d c → TakesStay s d c → IsTidied (shelf_in d s) (shelf_in c s)
steady_tidied s d c has a takes = record {
  state = steady_state s d c has a;
  recorded = refl;
  outside = λ path. inl (ap (λ (f : List ℕ → Option W.OutFile). outside_in (record d { outside = f }) path) a.outside);
  gifts = ap (map gift_told) a.gifts;
  takes = takes;
}

module _ (payloads : List (List ℕ)) (s : State) (folds : fold_of payloads ≡ Some s) where
  -- what such a world opens to
  pub opened_is : (d : World) (shelf : Shelf) → LedgerOf payloads d → OpensAs d shelf → HasFiles s d × (shelf ≡ shelf_in d s)
  opened_is d shelf ledger opens =
      let same : opens.payloads ≡ payloads = sym (one_list d payloads opens.payloads ledger opens.ledger) in
      let state : opens.state ≡ s = some_inj (sym opens.folds ∙ ap fold_of same ∙ folds) in
      (subst (λ (t : State). HasFiles t d) state opens.files, opens.is ∙ ap (shelf_in d) state)

  pub opens_so : (c : World) → LedgerOf payloads c → HasFiles s c → OpensAs c (shelf_in c s)
  opens_so c ledger files = record { payloads = payloads; ledger = ledger; state = s; folds = folds; files = files; is = refl }

  steady_recovers : (d c : World) → LedgerOf payloads d → LedgerOf payloads c → IsSteady s d c → TakesStay s d c → Recovers d c
  steady_recovers d c was now a takes = λ shelf opens.
      let o = opened_is d shelf was opens in
      (shelf_in c s, opens_so c now (steady_files s d c o.0 a), subst (λ (x : Shelf). IsTidied x (shelf_in c s)) (sym o.1) (steady_tidied s d c o.0 a takes))

  pub steady_restores : (d c : World) → LedgerOf payloads d → LedgerOf payloads c → IsSteady s d c → TakesStay s d c → ((name : List ℕ) → is_note name ≡ true → c.own name ≡ d.own name) → SameAside d c → Restores d c
  steady_restores d c was now a takes notes aside = record { recovers = steady_recovers d c was now a takes; outside = a.outside; notes = notes; aside = aside }
