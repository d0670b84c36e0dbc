-- A source was acted on, and that isn't recorded yet: what is told then, and what a stop leaves.
use Rattle.std.proofs.Common.{◌≡◌, ℕ, ◌<◌, ◌≤◌, List, Option, Some, None, Result, Bool, true, false, refl, sym, ◌∙◌, ap, subst, arith}
use Rattle.std.specs.Prelude.{option_map, if◌then◌else◌}
use Rattle.ftn_addr.specs.declared.refusals.Failed.{Failed}
use Rattle.disk_model.specs.World.{World, Files}
use Rattle.disk_model.specs.Changes.{Every}
use Rattle.disk_model.specs.Moments.{Now, StepOf, Together}
use Rattle.ledger_file.specs.Ledger.{ledger_name, LedgerIs}
use Rattle.ledger_rec.specs.Fold.{State}
use Rattle.ledger_rec.specs.Items.{Entry}
use Rattle.node_model.specs.Items.{EntryOf}
use Rattle.node_model.specs.Outside.{OutFiles, source_acted}
use Rattle.node_model.specs.StoreStates.{Shelf, Stored, shelf_of}
use Rattle.node_model.specs.Stores.{OpensShelf, source_stored, with_source_acted}
use Rattle.node_store.specs.Acting.{SameOutside, ActsOn}
use Rattle.node_store.specs.Contents.{entry_by}
use Rattle.node_store.specs.Keeping.{Beside}
use Rattle.node_store.specs.Names.{in_name}
use Rattle.node_store.specs.Stored.{Memory, sizes_in, stock_by, stored_in, state_of, left_of, IsKept, HasBodies, IsSound}
use Rattle.node_store.specs.Worlds.{outside_in, shelf_in, HasFiles}
use Rattle.node_store.proofs.Calls.{kept_opens}
use Rattle.node_store.proofs.GivenFiles.{SameGiven}
use Rattle.node_store.proofs.Openings.{opens_to}
use Rattle.node_store.proofs.Puts.{same_sizes}

-- a store's disk has the same outside, as it is read and as a stop now leaves it
pub same_outside : {D : Type 0} (tells : Bool) (content : D → World) (files : D → World → Type 0) (moment : D → ℕ) (images : D → ℕ → World → Type 0) (old : D) (m : Memory) → IsSound tells content moment images old m → m.broken ≡ None
    → ((d : D) (w : World) → files d w → (tells ≡ true) × (w ≡ content d)) → Beside files moment images SameOutside old
same_outside tells content files moment images old m sound whole reads = record {
  both = λ f c read image.
      let r = reads old f read in
      ap (λ (d : Shelf). d.outside) ((sound.kept whole c image).same r.0) ∙ sym (ap outside_in r.1);
}

-- Worlds with the same own files and gifts.
module _ (d c : World) (own : c.own ≡ d.own) (gifts : c.gifts ≡ d.gifts) where
  -- the new one, with what is outside the old one
  abbrev inner : World
  inner = record c { outside = d.outside }

  inner_is : inner ≡ d
  inner_is = λ i. record { own = own i; outside = d.outside; gifts = gifts i }

  pub ledger_beside : (ps : List (List ℕ)) → LedgerIs ps d → LedgerIs ps c
  ledger_beside ps is = (is.0, ap (λ (f : Files). f ledger_name) own ∙ is.1, is.2)

  pub files_beside : (s : State) → HasFiles s d → HasFiles s c
  files_beside s has = let h = subst (HasFiles s) (sym inner_is) has in record { live = h.live; marked = h.marked; received = h.received }

  pub bodies_beside : (m : Memory) → HasBodies m d → HasBodies m c
  bodies_beside m has = let h = subst (HasBodies m) (sym inner_is) has in record { parts = h.parts; staged = h.staged; given = h.given }

  pub shelf_beside : (s : State) → shelf_in c s ≡ record (shelf_in d s) { outside = outside_in c }
  shelf_beside s = ap (λ (w : World). record (shelf_in w s) { outside = outside_in c }) inner_is

  pub stored_beside : (m : Memory) → stored_in c m ≡ record (stored_in d m) { outside = outside_in c }
  stored_beside m = ap (λ (w : World). record (stored_in w m) { outside = outside_in c }) inner_is

-- the source of an entry was acted on, or nothing was done
abbrev pub acted_if : Option (Unit {0}) → EntryOf ℕ → ℕ → Stored → Stored
acted_if None e time s = s
acted_if (Some done) e time s = source_stored e time s

abbrev pub shelf_if : Option (Unit {0}) → EntryOf ℕ → ℕ → Shelf → Shelf
shelf_if None e time d = d
shelf_if (Some done) e time d = record d { outside = source_acted e time d.outside }

module _ {D : Type 0} (tells : Bool) (content : D → World) (files : D → World → Type 0) (faults moment : D → ℕ) (images : D → ℕ → World → Type 0) (reads : (d : D) (w : World) → files d w → (tells ≡ true) × (w ≡ content d))
    (told : tells ≡ true → (d : D) → files d (content d)) (old mid : D) (m : Memory) (sound : IsSound tells content moment images old m) (whole : m.broken ≡ None) (x : Entry) (time : ℕ)
    (answer : Result (Unit {0}) Failed) (both : Together files moment images answer (λ _. ActsOn tells x time) old mid) where
  abbrev pub acting_entry : EntryOf ℕ
  acting_entry = entry_by (sizes_in tells (content old) m.given) x

  -- what changed of what is read
  read_step : tells ≡ true → StepOf (λ _. ActsOn tells x time) both.made (content old) (content mid)
  read_step t =
      let was = both.read (content mid) (told t mid) in
      subst (λ (w : World). StepOf (λ _. ActsOn tells x time) both.made w (content mid)) (reads old was.0 was.1).1 was.2

  pub mid_gifts : tells ≡ true → (content mid).gifts ≡ (content old).gifts
  mid_gifts t = go both.made (read_step t)
    where
      go : (o : Option (Unit {0})) → StepOf (λ _. ActsOn tells x time) o (content old) (content mid) → (content mid).gifts ≡ (content old).gifts
      go None same = ap (λ (w : World). w.gifts) same
      go (Some done) acts = acts.gifts

  pub mid_given : tells ≡ true → SameGiven m.given (content old) (content mid)
  mid_given t = go both.made (read_step t)
    where
      go : (o : Option (Unit {0})) → StepOf (λ _. ActsOn tells x time) o (content old) (content mid) → SameGiven m.given (content old) (content mid)
      go None same = λ n among. ap (λ (w : World). w.own (in_name n)) same
      go (Some done) acts = λ n among. ap (λ (f : Files). f (in_name n)) acts.own

  pub mid_stored : tells ≡ true → stored_in (content mid) m ≡ acted_if both.made acting_entry time (stored_in (content old) m)
  mid_stored t = go both.made (read_step t)
    where
      go : (o : Option (Unit {0})) → StepOf (λ _. ActsOn tells x time) o (content old) (content mid) → stored_in (content mid) m ≡ acted_if o acting_entry time (stored_in (content old) m)
      go None same = ap (λ (w : World). stored_in w m) same
      go (Some done) acts = stored_beside (content old) (content mid) acts.own acts.gifts m ∙ ap (λ (o : OutFiles). record (stored_in (content old) m) { outside = o }) (acts.outside t)

  mid_shelf : tells ≡ true → shelf_of (stored_in (content mid) m) ≡ shelf_if both.made acting_entry time (shelf_of (stored_in (content old) m))
  mid_shelf t = ap shelf_of (mid_stored t) ∙ go both.made
    where
      go : (o : Option (Unit {0})) → shelf_of (acted_if o acting_entry time (stored_in (content old) m)) ≡ shelf_if o acting_entry time (shelf_of (stored_in (content old) m))
      go None = refl
      go (Some done) = refl

  -- each image now
  pub mid_kept : Every (Now moment images mid) (IsKept tells (content mid) m)
  mid_kept c image = let was = both.stop.now c image in go both.made was.0 (sound.kept whole was.0 was.1) was.2 mid_shelf
    where
      go : (o : Option (Unit {0})) (d : World) → IsKept tells (content old) m d → StepOf (λ _. ActsOn tells x time) o d c
          → (tells ≡ true → shelf_of (stored_in (content mid) m) ≡ shelf_if o acting_entry time (shelf_of (stored_in (content old) m))) → IsKept tells (content mid) m c
      go None d kept same shelf = record {
        ledger = subst (LedgerIs m.books.payloads) (sym same) kept.ledger;
        files = λ t. subst (HasFiles m.books.folding.state) (sym same) (kept.files t);
        same = λ t. ap (λ (w : World). shelf_in w m.books.folding.state) same ∙ kept.same t ∙ sym (shelf t);
      }
      go (Some done) d kept acts shelf = record {
        ledger = ledger_beside d c acts.own acts.gifts m.books.payloads kept.ledger;
        files = λ t. files_beside d c acts.own acts.gifts m.books.folding.state (kept.files t);
        same = λ t.
            shelf_beside d c acts.own acts.gifts m.books.folding.state
            ∙ ap (λ (o : OutFiles). record (shelf_in d m.books.folding.state) { outside = o }) (acts.outside t)
            ∙ ap (λ (s : Shelf). record s { outside = source_acted acting_entry time s.outside }) (kept.same t) ∙ sym (shelf t);
      }

  pub mid_sound : IsSound tells content moment images mid m
  mid_sound = record { memory = sound.memory; kept = λ _. mid_kept; bodies = λ _ t. go both.made (read_step t) (sound.bodies whole t) }
    where
      go : (o : Option (Unit {0})) → StepOf (λ _. ActsOn tells x time) o (content old) (content mid) → HasBodies m (content old) → HasBodies m (content mid)
      go None same has = subst (HasBodies m) (sym same) has
      go (Some done) acts has = bodies_beside (content old) (content mid) acts.own acts.gifts m has

  -- a fact of what is told then holds of every image since
  pub mid_opens : (Passes : Shelf → Type 0) → (tells ≡ true → Passes (shelf_of (stored_in (content mid) m))) → (k : ℕ) (o : Option Shelf) → moment old < k → k ≤ moment mid → left_of tells (images mid) k o → OpensShelf Passes o
  mid_opens Passes passes k o from to left =
      let at : k ≡ moment mid = omega (arith, from, to, both.stop.next) in
      let now = kept_opens tells left.0 (content mid) m sound.memory.books.folds left.1 (mid_kept left.1 (subst (λ (i : ℕ). images mid i left.1) at left.2)) in
      opens_to Passes left.1 (shelf_in left.1 m.books.folding.state) now.0 (subst Passes (sym now.1) (passes left.0)) o left.3

  -- what is told once it was acted on
  module _ (done : both.made ≡ Some tt) (calm : faults mid ≡ faults old) where
    pub done_stored : tells ≡ true → stored_in (content mid) m ≡ source_stored acting_entry time (stored_in (content old) m)
    done_stored t = mid_stored t ∙ ap (λ (o : Option (Unit {0})). acted_if o acting_entry time (stored_in (content old) m)) done

    pub done_told : state_of tells (content mid) (faults mid) m ≡ with_source_acted acting_entry time (state_of tells (content old) (faults old) m)
    done_told =
        let sized = same_sizes tells (content old) (content mid) m.given mid_gifts mid_given in
        let stored = go tells done_stored in
        λ i. record (state_of tells (content old) (faults old) m) {
          content = stored i;
          stock = stock_by (sized i) m;
          counts = record { faults = calm i; fulls = m.fulls; broken = m.broken };
        }
      where
        go : (b : Bool) → (b ≡ true → stored_in (content mid) m ≡ source_stored acting_entry time (stored_in (content old) m))
            → (if b then Some (stored_in (content mid) m) else None) ≡ option_map (source_stored acting_entry time) (if b then Some (stored_in (content old) m) else None)
        go true same = ap Some (same refl)
        go false same = refl
