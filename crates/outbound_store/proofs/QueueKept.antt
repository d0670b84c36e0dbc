-- Queueing: the files that are staged and the number of their take, in one change.
use Rattle.std.proofs.Common.{◌≡◌, inl, inr, ℕ, ◌<◌, ◌≤◌, ◌==◌, false, List, [], ◌∷◌, ◌++◌, map, length, Option, Some, None, option_map, Ok, Err, refl, sym, ◌∙◌, ap, subst}
use Rattle.std.proofs.lemmas.List.{map_push}
use Rattle.ftn_addr.specs.Files.{is_same}
use Rattle.node_model.specs.declared.store.StoreFault.TheVariants.{Disk}
use Rattle.node_model.specs.Durable.{entry_map}
use Rattle.node_model.specs.Items.{Entry, EntryOf}
use Rattle.node_model.specs.Lists.{Each}
use Rattle.node_model.specs.Node.{Record}
use Rattle.node_model.specs.SendRows.{Slot}
use Rattle.node_model.specs.Stocks.{NewEntry, Sizes, StagedOf, all_queued, entry_with, queue_each, queue_unless, queued_as, sizes, slot_for, slots_of, staged_in, staged_map}
use Rattle.node_model.specs.StoreStates.{IfTold, Shelf, Stored, StoreState, StoreStand, shelf_of, stored_after}
use Rattle.node_model.specs.Stores.{StoreAnswer, StoreCall, StoreDoes, StoreKept, StorePasses, Before_it, Source_first, After_it, IsShelf, OpensShelf, Queue_all, Staged_as, Copied_as, Slots, Part_opened, Came, Gave_so, Acted_on, Well, Refuses, TellsOn, queueing_records, take_stored, with_all_queued}
use Rattle.node_model.proofs.Lists.{none_some}
use Rattle.node_model.proofs.StockMaps.{first-map}
use Rattle.outbound_model.specs.Outbound.{Outbound, is_recorded, outbound_of}
use Rattle.outbound_model.specs.OwnNames.{number_of}
use Rattle.outbound_take.specs.Calls.{Enqueued, QueuesFiles, bodies_of}
use Rattle.outbound_take.specs.Stand.{Tried}
use Rattle.outbound_store.specs.Seen.{content_of, staged_at}
use Rattle.outbound_store.proofs.SeenKept.{Changes, StepAt, if_weaker, out_of, shelf_told, tells_weaker, told_opens}

-- one file after another, each of which is staged
enqueued : (files : List NewEntry) (staged : List (StagedOf (List ℕ))) (queue : List Entry) → Each (λ (f : NewEntry). (bytes : List ℕ) × (staged_at staged f.number ≡ Some bytes)) files
    → Enqueued (staged_at staged) queue files (slots_of files staged queue) (queue_each files staged queue)
enqueued [] staged queue all = refl
enqueued (f ∷ files) staged queue all = go (queued_as f.dest f.key queue) refl (staged_in f.number staged) refl (λ q. enqueued files staged q all.1)
  where
    go : (o : Option Entry) → queued_as f.dest f.key queue ≡ o → (x : Option (StagedOf (List ℕ))) → staged_in f.number staged ≡ x → ((q : List Entry) → Enqueued (staged_at staged) q files (slots_of files staged q) (queue_each files staged q))
        → Enqueued (staged_at staged) queue (f ∷ files) (slot_for f o ∷ slots_of files staged (queue_unless f o x queue)) (queue_each files staged (queue_unless f o x queue))
    go (Some e) is x at rest = (ap (option_map (λ (y : Entry). y.number)) is, rest queue)
    go None is (Some x) at rest =
        (refl, ap (option_map (λ (y : Entry). y.number)) is, x.content, ap (option_map (λ (y : StagedOf (List ℕ)). y.content)) at, rest (queue ++ entry_with f x.content ∷ []))
    go None is None at rest = none_some (sym (ap (option_map (λ (y : StagedOf (List ℕ)). y.content)) at) ∙ all.0.1)

-- the same without the bytes

module _ {A B : Type 0} (g : A → B) where
  slot_map : (f : NewEntry) (o : Option (EntryOf A)) → slot_for f (option_map (entry_map g) o) ≡ slot_for f o
  slot_map f None = refl
  slot_map f (Some e) = refl

  unless_map : (f : NewEntry) (o : Option (EntryOf A)) (x : Option (StagedOf A)) (queue : List (EntryOf A)) → queue_unless f (option_map (entry_map g) o) (option_map (staged_map g) x) (map (entry_map g) queue) ≡ map (entry_map g) (queue_unless f o x queue)
  unless_map f (Some e) x queue = refl
  unless_map f None None queue = refl
  unless_map f None (Some x) queue = sym (map_push (entry_map g) queue (entry_with f x.content))

  pub slots_map : (files : List NewEntry) (staged : List (StagedOf A)) (queue : List (EntryOf A)) → slots_of files (map (staged_map g) staged) (map (entry_map g) queue) ≡ slots_of files staged queue
  slots_map [] staged queue = refl
  slots_map (f ∷ files) staged queue =
      let o = first-map (entry_map g) (λ (e : EntryOf B). is_same f.dest f.key e.dest e.key) queue in
      let x = first-map (staged_map g) (λ (s : StagedOf B). s.number == f.number) staged in
      (λ i. slot_for f (o i) ∷ slots_of files (map (staged_map g) staged) (queue_unless f (o i) (x i) (map (entry_map g) queue)))
      ∙ (λ i. slot_map f (queued_as f.dest f.key queue) i ∷ slots_of files (map (staged_map g) staged) (unless_map f (queued_as f.dest f.key queue) (staged_in f.number staged) queue i))
      ∙ ap (λ (rest : List Slot). slot_for f (queued_as f.dest f.key queue) ∷ rest) (slots_map files staged (queue_unless f (queued_as f.dest f.key queue) (staged_in f.number staged) queue))

-- What must hold of a take that is queued, where the store tells.
pub record Queueing (own : List ℕ) (take : ℕ) (files : List NewEntry) (old : StoreState) : Type 0 where
  pub named : take ≡ number_of own
  pub unrecorded : IfTold old.content (λ a. is_recorded take (out_of a) ≡ false)
  pub stands : IfTold old.content (λ a. (bytes : List ℕ) × (a.takes own ≡ Some bytes))
  pub staged : IfTold old.content (λ a. Each (λ (f : NewEntry). (bytes : List ℕ) × (staged_at a.stock.staged f.number ≡ Some bytes)) files)
  pub outline : IfTold old.content (λ a. old.stock ≡ sizes a.stock)

at_some : (o : Option Stored) (a : Stored) (P : Stored → Type 0) → o ≡ Some a → IfTold o P → P a
at_some o a P is h = subst (λ (c : Option Stored). IfTold c P) is h

shelf_step : (P : Outbound → Outbound → Type 0) (o n : Option Stored) (x : Shelf) → TellsOn (λ a b. P (out_of a) (out_of b)) o n → IsShelf n x → IfTold o (λ a. P (out_of a) (outbound_of x))
shelf_step P None n x t is = tt
shelf_step P (Some a) None x t is = absurd is
shelf_step P (Some a) (Some b) x t is = subst (P (out_of a)) (sym (ap outbound_of is)) t

abbrev call_of : ℕ → List NewEntry → StoreCall
call_of take files = Queue_all (Some take) None files

abbrev Queues : List ℕ → List NewEntry → StoreState → List Slot → Outbound → Outbound → Type 0
Queues own files old slots s t = QueuesFiles (bodies_of (option_map content_of old.content)) own files slots s t

abbrev slots_in : List NewEntry → StoreState → List Slot
slots_in files old = slots_of files old.stock.staged old.stock.state.queue

module _ (own : List ℕ) (take : ℕ) (files : List NewEntry) (old : StoreState) (ready : Queueing own take files old) where
  one : (a : Stored) (slots : List Slot) (rs : List Record) → old.content ≡ Some a → slots ≡ slots_in files old → Queues own files old slots (out_of a) (out_of (take_stored (Some take) (stored_after (all_queued files None) old.seat rs a)))
  one a slots rs is same =
      let stands = at_some old.content a (λ a. (bytes : List ℕ) × (a.takes own ≡ Some bytes)) is ready.stands in
      let outline = at_some old.content a (λ a. old.stock ≡ sizes a.stock) is ready.outline in
      let staged = at_some old.content a (λ a. Each (λ (f : NewEntry). (bytes : List ℕ) × (staged_at a.stock.staged f.number ≡ Some bytes)) files) is ready.staged in
      let told : slots_of files a.stock.staged a.stock.state.queue ≡ slots =
      sym (same ∙ ap (λ (s : Sizes). slots_of files s.staged s.state.queue) outline ∙ slots_map length files a.stock.staged a.stock.state.queue) in
      record {
        bytes = stands.0;
        stands = stands.1;
        first = ap (λ (n : ℕ). is_recorded n (out_of a)) (sym ready.named) ∙ at_some old.content a (λ a. is_recorded take (out_of a) ≡ false) is ready.unrecorded;
        queue = subst (λ (b : ℕ → Option (List ℕ)). Enqueued b a.stock.state.queue files slots (queue_each files a.stock.staged a.stock.state.queue)) (sym (ap (λ (c : Option Stored). bodies_of (option_map content_of c)) is))
            (subst (λ (l : List Slot). Enqueued (staged_at a.stock.staged) a.stock.state.queue files l (queue_each files a.stock.staged a.stock.state.queue)) told (enqueued files a.stock.staged a.stock.state.queue staged));
        recorded = ap (λ (n : ℕ). a.recorded ++ n ∷ []) ready.named;
        takes = refl;
        outside = refl;
      }

  queued : (slots : List Slot) (new : StoreState) → slots ≡ slots_in files old → new ≡ with_all_queued (Some take) None files old → TellsOn (λ a b. Queues own files old slots (out_of a) (out_of b)) old.content new.content
  queued slots new same made =
      subst (TellsOn (λ a b. Queues own files old slots (out_of a) (out_of b)) old.content) (sym (ap (λ (s : StoreState). s.content) made)) (go old.content refl)
    where
      go : (o : Option Stored) → old.content ≡ o → TellsOn (λ a b. Queues own files old slots (out_of a) (out_of b)) o (option_map (take_stored (Some take)) (option_map (stored_after (all_queued files None) old.seat (queueing_records (Some take) None files old)) o))
      go None is = tt
      go (Some a) is = one a slots (queueing_records (Some take) None files old) is same

  passes : (x : Shelf) → StorePasses old (call_of take files) x → IfTold old.content (λ a. StepAt (Queues own files old (slots_in files old)) (out_of a) (outbound_of x))
  passes x (Before_it is) = if_weaker old.content (λ a. outbound_of x ≡ out_of a) (λ a. StepAt (Queues own files old (slots_in files old)) (out_of a) (outbound_of x)) (λ a e. inl e) (shelf_told old.content x is)
  passes x (Source_first first) = absurd first
  passes x (After_it answer new does is) = after answer does
    where
      after : (answer : StoreAnswer) → StoreDoes old (call_of take files) answer new → IfTold old.content (λ a. StepAt (Queues own files old (slots_in files old)) (out_of a) (outbound_of x))
      after (Slots slots) d =
          if_weaker old.content (λ a. Queues own files old (slots_in files old) (out_of a) (outbound_of x)) (λ a. StepAt (Queues own files old (slots_in files old)) (out_of a) (outbound_of x)) (λ a q. inr q)
          (shelf_step (Queues own files old (slots_in files old)) old.content new.content x (queued (slots_in files old) new refl d.2) is)
      after (Staged_as n) d = absurd d
      after (Copied_as s) d = absurd d
      after (Part_opened part len) d = absurd d
      after (Came came) d = absurd d
      after (Gave_so gave) d = absurd d
      after (Acted_on number) d = absurd d
      after Well d = absurd d
      after (Refuses fault) d = absurd d

pub queue_kept : (own : List ℕ) (take : ℕ) (files : List NewEntry) (slots : List Slot) (settles : Type 0) (old new : StoreStand) → Queueing own take files old.state → StoreKept old (call_of take files) (Slots slots) new → (settles → new.state.counts.broken ≡ None)
    → Changes (Tried (Ok slots) (QueuesFiles (bodies_of (option_map content_of old.state.content)) own files)) settles old new
queue_kept own take files slots settles old new ready kept whole = record {
  later = kept.later;
  before = kept.before;
  tells = tells_weaker (λ a b. Queues own files old.state slots (out_of a) (out_of b)) (λ a b. StepAt (Queues own files old.state slots) (out_of a) (out_of b)) (λ a b q. inr q) old.state.content new.state.content made;
  since = λ k d after until image. told_opens old.state.content (StorePasses old.state (call_of take files)) (λ a x. StepAt (Queues own files old.state slots) (out_of a) (outbound_of x)) passed d (kept.since k d after until image);
  ends = λ h. made;
  now = λ h. kept.now (whole h);
}
  where
    made : TellsOn (λ a b. Queues own files old.state slots (out_of a) (out_of b)) old.state.content new.state.content
    made = queued own take files old.state ready slots new.state kept.made.0 kept.made.2

    passed : (x : Shelf) → StorePasses old.state (call_of take files) x → IfTold old.state.content (λ a. StepAt (Queues own files old.state slots) (out_of a) (outbound_of x))
    passed x p = subst (λ (l : List Slot). IfTold old.state.content (λ a. StepAt (Queues own files old.state l) (out_of a) (outbound_of x))) (sym kept.made.0) (passes own take files old.state ready x p)

-- Where the disk failed it was queued, or it wasn't.

abbrev Lost : List ℕ → List NewEntry → StoreState → Outbound → Outbound → Type 0
Lost own files old s t = Tried {T = List Slot} (Err Disk) (Queues own files old) s t

lost_step : (own : List ℕ) (files : List NewEntry) (old : StoreState) (s t : Outbound) → StepAt (Queues own files old (slots_in files old)) s t → StepAt (Lost own files old) s t
lost_step own files old s t (inl same) = inl same
lost_step own files old s t (inr q) = inr (inr (slots_in files old, q))

lost : (own : List ℕ) (take : ℕ) (files : List NewEntry) (old new : StoreStand) → Queueing own take files old.state → old.moment ≤ new.moment → ((k : ℕ) (d : Option Shelf) → k ≤ old.moment → new.images k d → old.images k d)
    → ((k : ℕ) (d : Option Shelf) → old.moment < k → k ≤ new.moment → new.images k d → OpensShelf (StorePasses old.state (call_of take files)) d)
    → TellsOn (λ a b. StepAt (Lost own files old.state) (out_of a) (out_of b)) old.state.content new.state.content → Changes (Tried {T = List Slot} (Err Disk) (Queues own files old.state)) ⊥ old new
lost own take files old new ready later before since tells = record {
  later = later;
  before = before;
  tells = tells;
  since = λ k d after until image. told_opens old.state.content (StorePasses old.state (call_of take files)) (λ a x. StepAt (Lost own files old.state) (out_of a) (outbound_of x))
      (λ x p. if_weaker old.state.content (λ a. StepAt (Queues own files old.state (slots_in files old.state)) (out_of a) (outbound_of x)) (λ a. StepAt (Lost own files old.state) (out_of a) (outbound_of x)) (λ a h. lost_step own files old.state (out_of a) (outbound_of x) h) (passes own take files old.state ready x p))
      d (since k d after until image);
  ends = λ h. absurd h;
  now = λ h. absurd h;
}

broken_tells : (P : Shelf → Type 0) (A B : Stored → Stored → Type 0) (R : Outbound → Outbound → Type 0) (o n : Option Stored) → ((x : Shelf) → P x → IfTold o (λ a. R (out_of a) (outbound_of x))) → TellsOn (λ a b. P (shelf_of b) × A a b × B a b) o n → TellsOn (λ a b. R (out_of a) (out_of b)) o n
broken_tells P A B R None None f t = tt
broken_tells P A B R None (Some b) f t = absurd t
broken_tells P A B R (Some a) None f t = absurd t
broken_tells P A B R (Some a) (Some b) f t = f (shelf_of b) t.0

pub queue_lost : (own : List ℕ) (take : ℕ) (files : List NewEntry) (old new : StoreStand) → Queueing own take files old.state → StoreKept old (call_of take files) (Refuses Disk) new
    → Changes (Tried {T = List Slot} (Err Disk) (QueuesFiles (bodies_of (option_map content_of old.state.content)) own files)) ⊥ old new
queue_lost own take files old new ready kept = lost own take files old new ready kept.later kept.before kept.since told
  where
    told : TellsOn (λ a b. StepAt (Lost own files old.state) (out_of a) (out_of b)) old.state.content new.state.content
    told =
        broken_tells (StorePasses old.state (call_of take files)) _ _ (StepAt (Lost own files old.state)) old.state.content new.state.content
        (λ x p. if_weaker old.state.content (λ a. StepAt (Queues own files old.state (slots_in files old.state)) (out_of a) (outbound_of x)) (λ a. StepAt (Lost own files old.state) (out_of a) (outbound_of x)) (λ a h. lost_step own files old.state (out_of a) (outbound_of x) h) (passes own take files old.state ready x p))
        kept.made.content
