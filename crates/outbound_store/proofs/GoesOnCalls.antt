-- Each call of the store on a disk leaves what the store received.
use Rattle.std.proofs.Common.{◌≡◌, inr, ℕ, ◌+◌, Bool, List, [], ◌∷◌, Option, Some, None, option_map, Result, Ok, Err, refl, sym, ap, subst, arith}
use Rattle.std.specs.Prelude.{MatchResult}
use Rattle.ftn_addr.specs.Address.{Address}
use Rattle.ftn_addr.specs.Counts.{Increased}
use Rattle.ftn_addr.proofs.CountsGrow.{count_grew-increased}
use Rattle.disk_model.specs.World.{World}
use Rattle.node_model.specs.Calls.{Counts}
use Rattle.node_model.specs.declared.store.Staged.TheVariants.{Copied, Absent, Over}
use Rattle.node_model.specs.declared.store.StoreFault.{StoreFault}
use Rattle.node_model.specs.declared.store.StoreFault.TheVariants.{Disk, Read, Full, NoMemory}
use Rattle.node_model.specs.Durable.{with_acted}
use Rattle.node_model.specs.Items.{EntryOf}
use Rattle.node_model.specs.Node.{Acted_record}
use Rattle.node_model.specs.Stocks.{NewEntry, all_queued, file_staged, on_state}
use Rattle.node_model.specs.StoreStates.{IfTold, Shelf, Stored, StoreState, StoreStand, shelf_of, stored_after}
use Rattle.node_model.specs.Stores.{StoreAnswer, StoreCall, StoreDoes, StoreKept, StoreMade, StorePasses, Before_it, Source_first, After_it, Act_next, ActsFirst, IsShelf, IsSourceRead, Queue_all, Stage, Stage_copy, Staged_as, Copied_as, Slots, Part_opened, Came, Gave_so, Acted_on, Well, Refuses, TellsOn, acted, queueing_records, source_stored, take_stored, with_all_queued, with_source_acted, with_staged}
use Rattle.node_store.specs.Asking.{AskedSo, Asks}
use Rattle.node_store.specs.Stored.{Holding, stand_of}
use Rattle.node_store.specs.Taking as G
use Rattle.node_store.specs.Taking.{Around, DrawsTake, MadeOf, StagesOwn, TookSo, around, made_so, stored_around, with_around}
use Rattle.outbound_store.specs.GoesOn.{CountsGoOn, GoesOn, SameReceived}
use Rattle.outbound_store.proofs.AskKept.{asked_content}
use Rattle.outbound_store.proofs.GoesOnLemmas.{SameTold, Same_in, counts_stay, goes_on_none, shelf_same, told_same, unmoved_goes_on}
use Rattle.outbound_store.proofs.SeenKept.{told_opens}

counts_same : (a b : Counts) → b ≡ a → CountsGoOn a b
counts_same a b same = counts_stay a b (ap (λ (c : Counts). c.faults) same) (ap (λ (c : Counts). c.broken) same)

-- the disk failed
counts_broke : (a b : Counts) (n : ℕ) → Increased a.faults b.faults → b ≡ record a { faults = b.faults; broken = Some n } → CountsGoOn a b
counts_broke a b n rose is = record { faults = count_grew-increased a.faults b.faults rose; broken = inr (record { rose = rose; count = n; is = ap (λ (c : Counts). c.broken) is }) }

-- Questions.

asked_counts : {T : Type 0} (memory : Bool) (r : Result T StoreFault) (a b : StoreState) → AskedSo memory r a b → CountsGoOn a.counts b.counts
asked_counts memory (Ok x) a b made = counts_same a.counts b.counts (ap (λ (s : StoreState). s.counts) made)
asked_counts memory (Err Disk) a b made = counts_broke a.counts b.counts b.counts.faults made.rose (ap (λ (s : StoreState). s.counts) made.same)
asked_counts memory (Err Read) a b made = absurd made
asked_counts memory (Err Full) a b made = absurd made
asked_counts memory (Err NoMemory) a b made = counts_same a.counts b.counts (ap (λ (s : StoreState). s.counts) made.1)

pub asks_go_on : {T : Type 0} (memory : Bool) (r : Result T StoreFault) (old new : StoreStand) → Asks memory r old new → GoesOn old new
asks_go_on memory r old new asks = record {
  moments = asks.grew;
  counts = asked_counts memory r old.state new.state asks.made;
  tells = told_same old.state.content new.state.content (asked_content memory r old.state new.state asks.made);
  since = λ k d after until image. told_opens old.state.content (IsShelf old.state.content) Same_in (shelf_same old.state.content) d (asks.since k d (omega (arith, after)) until image);
}

-- Numbers that are drawn.

module _ {D : Type 0} (tells : Bool) (content : D → World) (faults moment : D → ℕ) (images : D → ℕ → World → Type 0) where
  abbrev St : Holding D → StoreStand
  St s = stand_of tells content faults moment images s

  pub draws_go_on : (r : Result ℕ StoreFault) (old new : Holding D) → DrawsTake r old new → GoesOn (St old) (St new)
  draws_go_on (Ok take) old new draws = subst (λ (x : Holding D). GoesOn (St old) (St x)) (sym draws.1) (goes_on_none (St old))
  draws_go_on (Err Disk) old new draws = absurd draws
  draws_go_on (Err Read) old new draws = absurd draws
  draws_go_on (Err Full) old new draws = subst (λ (x : Holding D). GoesOn (St old) (St x)) (sym draws.1) (unmoved_goes_on (St old) _ refl (counts_stay (St old).state.counts _ refl refl))
  draws_go_on (Err NoMemory) old new draws = subst (λ (x : Holding D). GoesOn (St old) (St x)) (sym draws) (goes_on_none (St old))

-- Changes of what is kept.

told_map : (f : Stored → Stored) → ((a : Stored) → SameReceived (shelf_of a) (shelf_of (f a))) → (o n : Option Stored) → n ≡ option_map f o → SameTold o n
told_map f same o n is = subst (SameTold o) (sym is) (go o)
  where
    go : (o : Option Stored) → SameTold o (option_map f o)
    go None = tt
    go (Some a) = same a

told_both : (f g : Stored → Stored) → ((a : Stored) → SameReceived (shelf_of a) (shelf_of (g (f a)))) → (o n : Option Stored) → n ≡ option_map g (option_map f o) → SameTold o n
told_both f g same o n is = subst (SameTold o) (sym is) (go o)
  where
    go : (o : Option Stored) → SameTold o (option_map g (option_map f o))
    go None = tt
    go (Some a) = same a

shelf_after : (o n : Option Stored) (x : Shelf) → SameTold o n → IsShelf n x → IfTold o (λ a. Same_in a x)
shelf_after None n x same is = tt
shelf_after (Some a) None x same is = absurd is
shelf_after (Some a) (Some b) x same is = subst (SameReceived (shelf_of a)) (sym is) same

-- Takes, and marks.

around_same : (f : Around → Around) (o n : Option Stored) → n ≡ option_map (λ (a : Stored). stored_around (f (around a)) a) o → SameTold o n
around_same f o n is = told_map (λ a. stored_around (f (around a)) a) (λ a. record { inbox = refl; refused = refl; marks = refl; gifts = refl }) o n is

took_told : {T : Type 0} (does : T → Around → Around) (r : Result T StoreFault) (a b : StoreState) → TookSo does r a b → SameTold a.content b.content
took_told does (Ok x) a b made = around_same (does x) a.content b.content (ap (λ (s : StoreState). s.content) made)
took_told does (Err Disk) a b made = around_same (made_so does made.made) a.content b.content (ap (λ (s : StoreState). s.content) made.same)
took_told does (Err Read) a b made = absurd made
took_told does (Err Full) a b made = absurd made
took_told does (Err NoMemory) a b made = absurd made

took_counts : {T : Type 0} (does : T → Around → Around) (r : Result T StoreFault) (a b : StoreState) → TookSo does r a b → CountsGoOn a.counts b.counts
took_counts does (Ok x) a b made = counts_same a.counts b.counts (ap (λ (s : StoreState). s.counts) made)
took_counts does (Err Disk) a b made = counts_broke a.counts b.counts b.counts.faults made.rose (ap (λ (s : StoreState). s.counts) made.same)
took_counts does (Err Read) a b made = absurd made
took_counts does (Err Full) a b made = absurd made
took_counts does (Err NoMemory) a b made = absurd made

pub takes_go_on : {T : Type 0} (does : T → Around → Around) (r : Result T StoreFault) (old new : StoreStand) → G.Takes does r old new → GoesOn old new
takes_go_on {T} does r old new takes = record {
  moments = takes.grew;
  counts = took_counts does r old.state new.state takes.made;
  tells = took_told does r old.state new.state takes.made;
  since = λ k d after until image. told_opens old.state.content (λ x. (made : Option T) × MadeOf r made × IsShelf (with_around (made_so does made) old.state).content x) Same_in passed d (takes.since k d (omega (arith, after)) until image);
}
  where
    passed : (x : Shelf) → ((made : Option T) × MadeOf r made × IsShelf (with_around (made_so does made) old.state).content x) → IfTold old.state.content (λ a. Same_in a x)
    passed x (made, of_it, shelf) = shelf_after old.state.content (with_around (made_so does made) old.state).content x (around_same (made_so does made) old.state.content (with_around (made_so does made) old.state).content refl) shelf

-- Calls of the store.

record Leaves (old new : StoreState) : Type 0 where
  told : SameTold old.content new.content
  counts : new.counts ≡ old.counts

-- whatever the call does, what was received stays
record LeavesReceived (old : StoreState) (call : StoreCall) : Type 0 where
  unread : IsSourceRead call → ⊥
  acts : (x : Shelf) → ActsFirst old call x → IfTold old.content (λ a. Same_in a x)
  does : (answer : StoreAnswer) (new : StoreState) → StoreDoes old call answer new → Leaves old new

passes_same : (old : StoreState) (call : StoreCall) → LeavesReceived old call → (x : Shelf) → StorePasses old call x → IfTold old.content (λ a. Same_in a x)
passes_same old call leaves x (Before_it is) = shelf_same old.content x is
passes_same old call leaves x (Source_first first) = leaves.acts x first
passes_same old call leaves x (After_it answer new does is) = shelf_after old.content new.content x (leaves.does answer new does).told is

broken_told : (P : Shelf → Type 0) (A B : Stored → Stored → Type 0) (o n : Option Stored) → ((x : Shelf) → P x → IfTold o (λ a. Same_in a x)) → TellsOn (λ a b. P (shelf_of b) × A a b × B a b) o n → SameTold o n
broken_told P A B None None f t = tt
broken_told P A B None (Some b) f t = absurd t
broken_told P A B (Some a) None f t = absurd t
broken_told P A B (Some a) (Some b) f t = f (shelf_of b) t.0

-- what a call makes of it
record Makes (old new : StoreState) : Type 0 where
  told : SameTold old.content new.content
  counts : CountsGoOn old.counts new.counts

did : (old new : StoreState) → Leaves old new → Makes old new
did old new leaves = record { told = leaves.told; counts = counts_same old.counts new.counts leaves.counts }

made_so_far : (old : StoreState) (call : StoreCall) (answer : StoreAnswer) (new : StoreState) → LeavesReceived old call → StoreMade old call answer new → Makes old new
made_so_far old call (Refuses Disk) new leaves made = record {
  told = broken_told (StorePasses old call) _ _ old.content new.content (passes_same old call leaves) made.content;
  counts = counts_broke old.counts new.counts new.counts.faults made.rose made.counts;
}
made_so_far old call (Refuses Read) new leaves made = absurd (leaves.unread made.0)
made_so_far old call (Refuses Full) new leaves made = record {
  told = told_same old.content new.content (ap (λ (s : StoreState). s.content) made.1);
  counts = counts_stay old.counts new.counts (ap (λ (s : StoreState). s.counts.faults) made.1) (ap (λ (s : StoreState). s.counts.broken) made.1);
}
made_so_far old call (Refuses NoMemory) new leaves made = did old new (record { told = told_same old.content new.content (ap (λ (s : StoreState). s.content) made.1); counts = ap (λ (s : StoreState). s.counts) made.1 })
made_so_far old call (Staged_as n) new leaves made = did old new (leaves.does (Staged_as n) new made)
made_so_far old call (Copied_as s) new leaves made = did old new (leaves.does (Copied_as s) new made)
made_so_far old call (Slots slots) new leaves made = did old new (leaves.does (Slots slots) new made)
made_so_far old call (Part_opened part len) new leaves made = did old new (leaves.does (Part_opened part len) new made)
made_so_far old call (Came bytes) new leaves made = did old new (leaves.does (Came bytes) new made)
made_so_far old call (Gave_so gave) new leaves made = did old new (leaves.does (Gave_so gave) new made)
made_so_far old call (Acted_on number) new leaves made = did old new (leaves.does (Acted_on number) new made)
made_so_far old call Well new leaves made = did old new (leaves.does Well new made)

call_goes_on : (call : StoreCall) (answer : StoreAnswer) (old new : StoreStand) → LeavesReceived old.state call → StoreKept old call answer new → GoesOn old new
call_goes_on call answer old new leaves kept =
    let makes = made_so_far old.state call answer new.state leaves kept.made in
    record {
      moments = record { later = kept.later; before = kept.before };
      counts = makes.counts;
      tells = makes.told;
      since = λ k d after until image. told_opens old.state.content (StorePasses old.state call) Same_in (passes_same old.state call leaves) d (kept.since k d after until image);
    }

-- Staging.

staged_leaves : (bytes : List ℕ) (old new : StoreState) → new ≡ with_staged bytes old → Leaves old new
staged_leaves bytes old new is = record {
  told = told_map (stored_after (file_staged (old.staged + 1) bytes) old.seat []) (λ a. record { inbox = refl; refused = refl; marks = refl; gifts = refl }) old.content new.content (ap (λ (s : StoreState). s.content) is);
  counts = ap (λ (s : StoreState). s.counts) is;
}

still_leaves : (old new : StoreState) → new ≡ old → Leaves old new
still_leaves old new is = record { told = told_same old.content new.content (ap (λ (s : StoreState). s.content) is); counts = ap (λ (s : StoreState). s.counts) is }

stage_does : (bytes : List ℕ) (old : StoreState) (answer : StoreAnswer) (new : StoreState) → StoreDoes old (Stage bytes) answer new → Leaves old new
stage_does bytes old (Staged_as n) new does = staged_leaves bytes old new does.2
stage_does bytes old (Copied_as s) new does = absurd does
stage_does bytes old (Slots slots) new does = absurd does
stage_does bytes old (Part_opened part len) new does = absurd does
stage_does bytes old (Came came) new does = absurd does
stage_does bytes old (Gave_so gave) new does = absurd does
stage_does bytes old (Acted_on number) new does = absurd does
stage_does bytes old Well new does = absurd does
stage_does bytes old (Refuses fault) new does = absurd does

copy_does : (path : List ℕ) (old : StoreState) (answer : StoreAnswer) (new : StoreState) → StoreDoes old (Stage_copy path) answer new → Leaves old new
copy_does path old (Copied_as (Copied n stat)) new does = let more = does.2 in staged_leaves more.0 old new more.2
copy_does path old (Copied_as Absent) new does = still_leaves old new does.2
copy_does path old (Copied_as Over) new does = still_leaves old new does.2
copy_does path old (Staged_as n) new does = absurd does
copy_does path old (Slots slots) new does = absurd does
copy_does path old (Part_opened part len) new does = absurd does
copy_does path old (Came came) new does = absurd does
copy_does path old (Gave_so gave) new does = absurd does
copy_does path old (Acted_on number) new does = absurd does
copy_does path old Well new does = absurd does
copy_does path old (Refuses fault) new does = absurd does

stage_goes_on : (bytes : List ℕ) (answer : StoreAnswer) (old new : StoreStand) → StoreKept old (Stage bytes) answer new → GoesOn old new
stage_goes_on bytes answer old new kept = call_goes_on (Stage bytes) answer old new (record { unread = λ h. h; acts = λ x first. absurd first; does = stage_does bytes old.state }) kept

pub copy_goes_on : (path : List ℕ) (answer : StoreAnswer) (old new : StoreStand) → StoreKept old (Stage_copy path) answer new → GoesOn old new
copy_goes_on path answer old new kept = call_goes_on (Stage_copy path) answer old new (record { unread = λ h. h; acts = λ x first. absurd first; does = copy_does path old.state }) kept

pub own_goes_on : (own : List ℕ) (r : Result (ℕ × ℕ) StoreFault) (old new : StoreStand) → StagesOwn own r old new → GoesOn old new
own_goes_on own (Ok staged) old new stages = stage_goes_on stages.0 (Staged_as staged.0) old new stages.3
own_goes_on own (Err fault) old new stages = stage_goes_on stages.0 (Refuses fault) old new stages.2

-- Queueing.

queued_leaves : (take : Option ℕ) (files : List NewEntry) (old new : StoreState) → new ≡ with_all_queued take None files old → Leaves old new
queued_leaves take files old new is = record {
  told = told_both (stored_after (all_queued files None) old.seat (queueing_records take None files old)) (take_stored take) (λ a. record { inbox = refl; refused = refl; marks = refl; gifts = refl }) old.content new.content (ap (λ (s : StoreState). s.content) is);
  counts = ap (λ (s : StoreState). s.counts) is;
}

queue_does : (take : Option ℕ) (files : List NewEntry) (old : StoreState) (answer : StoreAnswer) (new : StoreState) → StoreDoes old (Queue_all take None files) answer new → Leaves old new
queue_does take files old (Slots slots) new does = queued_leaves take files old new does.2
queue_does take files old (Staged_as n) new does = absurd does
queue_does take files old (Copied_as s) new does = absurd does
queue_does take files old (Part_opened part len) new does = absurd does
queue_does take files old (Came came) new does = absurd does
queue_does take files old (Gave_so gave) new does = absurd does
queue_does take files old (Acted_on number) new does = absurd does
queue_does take files old Well new does = absurd does
queue_does take files old (Refuses fault) new does = absurd does

queue_goes_on : (take : Option ℕ) (files : List NewEntry) (answer : StoreAnswer) (old new : StoreStand) → StoreKept old (Queue_all take None files) answer new → GoesOn old new
queue_goes_on take files answer old new kept = call_goes_on (Queue_all take None files) answer old new (record { unread = λ h. h; acts = λ x first. absurd first; does = queue_does take files old.state }) kept

pub queued_goes_on : {T : Type 0} (take : Option ℕ) (files : List NewEntry) (r : Result T StoreFault) (answer : T → StoreAnswer) (old new : StoreStand)
    → MatchResult r (λ x. StoreKept old (Queue_all take None files) (answer x) new) (λ fault. StoreKept old (Queue_all take None files) (Refuses fault) new) → GoesOn old new
queued_goes_on take files (Ok x) answer old new kept = queue_goes_on take files (answer x) old new kept
queued_goes_on take files (Err fault) answer old new kept = queue_goes_on take files (Refuses fault) old new kept

-- Acting.

acted_leaves : (e : EntryOf ℕ) (time : ℕ) (old new : StoreState) → new ≡ acted e time old → Leaves old new
acted_leaves e time old new is = record {
  told = told_both (source_stored e time) (stored_after (on_state (with_acted e.number)) old.seat (Acted_record e.number ∷ [])) (λ a. record { inbox = refl; refused = refl; marks = refl; gifts = refl }) old.content new.content (ap (λ (s : StoreState). s.content) is);
  counts = ap (λ (s : StoreState). s.counts) is;
}

act_first : (dest : Address) (old : StoreState) (x : Shelf) → ActsFirst old (Act_next dest) x → IfTold old.content (λ a. Same_in a x)
act_first dest old x (number, next, time, shelf) =
    shelf_after old.content (with_source_acted next.entry time old).content x
    (told_map (source_stored next.entry time) (λ a. record { inbox = refl; refused = refl; marks = refl; gifts = refl }) old.content (with_source_acted next.entry time old).content refl) shelf

act_does : (dest : Address) (old : StoreState) (answer : StoreAnswer) (new : StoreState) → StoreDoes old (Act_next dest) answer new → Leaves old new
act_does dest old (Acted_on (Some number)) new does = acted_leaves does.next.entry does.time old new does.after
act_does dest old (Acted_on None) new does = still_leaves old new does.1
act_does dest old (Staged_as n) new does = absurd does
act_does dest old (Copied_as s) new does = absurd does
act_does dest old (Slots slots) new does = absurd does
act_does dest old (Part_opened part len) new does = absurd does
act_does dest old (Came came) new does = absurd does
act_does dest old (Gave_so gave) new does = absurd does
act_does dest old Well new does = absurd does
act_does dest old (Refuses fault) new does = absurd does

pub act_goes_on : (dest : Address) (answer : StoreAnswer) (old new : StoreStand) → StoreKept old (Act_next dest) answer new → GoesOn old new
act_goes_on dest answer old new kept = call_goes_on (Act_next dest) answer old new (record { unread = λ h. h; acts = act_first dest old.state; does = act_does dest old.state }) kept
