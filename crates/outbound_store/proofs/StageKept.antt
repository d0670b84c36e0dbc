-- Staging: what a store keeps stays, and one file more is staged.
use Rattle.std.proofs.Common.{◌≡◌, ◌≢◌, ℕ, ◌+◌, ◌≤◌, List, [], map, length, Option, Some, None, option_map, Result, Ok, Err, refl, sym, ◌∙◌, ap, subst, arith}
use Rattle.std.specs.Prelude.{count_by}
use Rattle.node_model.specs.declared.store.Staged.{Staged}
use Rattle.node_model.specs.declared.store.Staged.TheVariants.{Copied, Absent, Over}
use Rattle.node_model.specs.declared.store.StoreFault.{StoreFault}
use Rattle.node_model.specs.declared.store.StoreFault.TheVariants.{Disk, Read, Full, NoMemory}
use Rattle.node_model.specs.Lists.{Each}
use Rattle.node_model.specs.SendRows.{waits_for_action}
use Rattle.node_model.specs.Stocks.{Sizes, StagedOf, file_staged, sizes, staged_map}
use Rattle.node_model.specs.StoreStates.{IfTold, Stored, StoreState, StoreStand, stored_after}
use Rattle.node_model.specs.Stores.{StoreAnswer, StoreCall, StoreDoes, StoreKept, StoreMade, StoreTied, Stage, Stage_copy, Staged_as, Copied_as, Slots, Part_opened, Came, Gave_so, Acted_on, Well, Refuses, IsOver, IsSourceRead, copy_answer, with_staged}
use Rattle.node_model.proofs.Lists.{none_some, some_inj}
use Rattle.outbound_model.specs.Outbound.{Outbound}
use Rattle.outbound_take.specs.Calls.{CopiesSo, IsLike, StagesAt, StagesBytes, StagesMore, StagesTake, bodies_of}
use Rattle.outbound_take.specs.Stand.{Left, Same, SettledBy, Settles}
use Rattle.outbound_store.specs.Seen.{content_of, memory_of, seen, size_at, staged_at}
use Rattle.outbound_store.proofs.SeenKept.{Changes, KeepsOut, keeps_map, keeps_same, out_in, out_of}
use Rattle.outbound_store.proofs.CallKept.{Stays, stays_kept}
use Rattle.outbound_store.proofs.Staging.{AreDrawn, found_last, found_others, none_is, size_here, size_others, with_bytes}

-- one file more leaves the outbound
staged_keeps : (bytes : List ℕ) (old new : StoreState) → new ≡ with_staged bytes old → KeepsOut old.content new.content
staged_keeps bytes old new is =
    keeps_map (stored_after (file_staged (old.staged + 1) bytes) old.seat []) (λ a. refl) old.content new.content (ap (λ (s : StoreState). s.content) is)

-- a call that leaves the state as it was
pub still_keeps : (old new : StoreState) → new ≡ old → KeepsOut old.content new.content
still_keeps old new is = keeps_same old.content new.content (ap (λ (s : StoreState). s.content) is)

stage_does : (bytes : List ℕ) (old : StoreState) (answer : StoreAnswer) (new : StoreState) → StoreDoes old (Stage bytes) answer new → KeepsOut old.content new.content
stage_does bytes old (Staged_as n) new does = staged_keeps bytes old new does.2
stage_does bytes old (Copied_as s) new does = absurd does
stage_does bytes old (Slots slots) new does = absurd does
stage_does bytes old (Part_opened part len) new does = absurd does
stage_does bytes old (Came came) new does = absurd does
stage_does bytes old (Gave_so gave) new does = absurd does
stage_does bytes old (Acted_on number) new does = absurd does
stage_does bytes old Well new does = absurd does
stage_does bytes old (Refuses fault) new does = absurd does

copy_does : (path : List ℕ) (old : StoreState) (answer : StoreAnswer) (new : StoreState) → StoreDoes old (Stage_copy path) answer new → KeepsOut old.content new.content
copy_does path old (Copied_as (Copied n stat)) new does = let more = does.2 in staged_keeps more.0 old new more.2
copy_does path old (Copied_as Absent) new does = still_keeps old new does.2
copy_does path old (Copied_as Over) new does = still_keeps old new does.2
copy_does path old (Staged_as n) new does = absurd does
copy_does path old (Slots slots) new does = absurd does
copy_does path old (Part_opened part len) new does = absurd does
copy_does path old (Came came) new does = absurd does
copy_does path old (Gave_so gave) new does = absurd does
copy_does path old (Acted_on number) new does = absurd does
copy_does path old Well new does = absurd does
copy_does path old (Refuses fault) new does = absurd does

stage_stays : (bytes : List ℕ) (old : StoreState) → Stays old (Stage bytes)
stage_stays bytes old = record { acts = λ x first. first; does = stage_does bytes old }

copy_stays : (path : List ℕ) (old : StoreState) → Stays old (Stage_copy path)
copy_stays path old = record { acts = λ x first. first; does = copy_does path old }

pub stage_kept : (bytes : List ℕ) (answer : StoreAnswer) (settles : Type 0) (old new : StoreStand) → StoreKept old (Stage bytes) answer new → (settles → new.state.counts.broken ≡ None) → Changes Same settles old new
stage_kept bytes answer settles old new kept whole = stays_kept (Stage bytes) answer settles old new (stage_stays bytes old.state) kept whole

pub copy_kept : (path : List ℕ) (answer : StoreAnswer) (settles : Type 0) (old new : StoreStand) → StoreKept old (Stage_copy path) answer new → (settles → new.state.counts.broken ≡ None) → Changes Same settles old new
copy_kept path answer settles old new kept whole = stays_kept (Stage_copy path) answer settles old new (copy_stays path old.state) kept whole

-- What is staged, in memory.

pub stages_more : (bytes : List ℕ) (n size : ℕ) (old new : StoreStand) (l m : List Left) (p q : Option ℕ) → AreDrawn old.state → n ≡ old.state.staged + 1 → length bytes ≡ size → new.state ≡ with_staged bytes old.state → old.state.counts.broken ≡ None → m ≡ l → q ≡ p
    → StagesMore n size (seen old l p).memory (seen new m q).memory
stages_more bytes n size old new l m p q drawn is long made whole same_left same_drawn = record {
  is = is;
  last = ap (λ (s : StoreState). s.staged) made ∙ sym is;
  here = ap (λ (s : StoreState). size_at s.stock n) made ∙ subst (λ (k : ℕ). size_at (file_staged (old.state.staged + 1) (length bytes) old.state.stock) k ≡ Some size) (sym is) (size_here old.state.stock old.state.staged (old.state.staged + 1) (length bytes) (omega arith) drawn.queued drawn.staged ∙ ap (λ (k : ℕ). Some k) long);
  others = λ k apart. ap (λ (s : StoreState). size_at s.stock k) made ∙ size_others old.state.stock (old.state.staged + 1) (length bytes) k (λ same. apart (same ∙ sym is));
  left = same_left;
  drawn = same_drawn;
  undone = ap (λ (s : StoreState). count_by waits_for_action s.stock.state.queue) made;
  broken = ap (λ (s : StoreState). s.counts.broken) made ∙ whole;
}

same_memory : (old new : StoreState) (l m : List Left) (p q : Option ℕ) → new ≡ old → m ≡ l → q ≡ p → memory_of new m q ≡ memory_of old l p
same_memory old new l m p q same left number = λ i. memory_of (same i) (left i) (number i)

-- And where the bytes are told.

stages_told : (bytes : List ℕ) (n : ℕ) (old : StoreState) (new : Option Stored) (a : Stored) → old.content ≡ Some a → AreDrawn old → StoreTied old → n ≡ old.staged + 1 → new ≡ option_map (stored_after (file_staged (old.staged + 1) bytes) old.seat []) old.content
    → StagesBytes n bytes (option_map content_of old.content) (option_map content_of new)
stages_told bytes n old new a tells drawn tied is made = record {
  here = ap (λ (c : Option Stored). bodies_of (option_map content_of c) n) after ∙ ap (staged_at staged) is ∙ found_last (old.staged + 1) bytes a.stock.staged apart;
  others = λ k other. ap (λ (c : Option Stored). bodies_of (option_map content_of c) k) after ∙ found_others (old.staged + 1) bytes a.stock.staged k (λ same. other (same ∙ sym is)) ∙ sym (ap (λ (c : Option Stored). bodies_of (option_map content_of c) k) tells);
}
  where
    staged : List (StagedOf (List ℕ))
    staged = (file_staged (old.staged + 1) bytes a.stock).staged

    after : new ≡ Some (stored_after (file_staged (old.staged + 1) bytes) old.seat [] a)
    after = made ∙ ap (option_map (stored_after (file_staged (old.staged + 1) bytes) old.seat [])) tells

    outline : old.stock ≡ sizes a.stock
    outline = (subst (λ (c : Option Stored). IfTold c (λ b. (old.stock ≡ sizes b.stock) × (old.recorded ≡ b.recorded) × (old.appended ≡ length b.log))) tells tied.sizes).0

    apart : Each (λ (f : StagedOf (List ℕ)). f.number ≢ old.staged + 1) a.stock.staged
    apart = with_bytes (λ k. k ≢ old.staged + 1) a.stock.staged (none_is (old.staged + 1) old.staged (map (staged_map length) a.stock.staged) (omega arith) (subst (λ (s : Sizes). Each (λ (f : StagedOf ℕ). f.number ≤ old.staged) s.staged) outline drawn.staged))

-- what a call that stages answers, where the store tells
pub told_in : (o : Option Stored) (s : Outbound) → out_in o ≡ Some s → (a : Stored) × (o ≡ Some a) × (out_of a ≡ s)
told_in None s is = none_some is
told_in (Some a) s is = (a, refl, some_inj is)

pub at_told : (o : Option Stored) (a : Stored) (P : Stored → Type 0) → o ≡ Some a → IfTold o P → P a
at_told o a P is h = subst (λ (c : Option Stored). IfTold c P) is h

pub copies_so : (path : List ℕ) (staged : Staged) (old new : StoreStand) (l m : List Left) (p q : Option ℕ) → AreDrawn old.state → StoreDoes old.state (Stage_copy path) (Copied_as staged) new.state → old.state.counts.broken ≡ None → m ≡ l → q ≡ p
    → CopiesSo staged (seen old l p).memory (seen new m q).memory
copies_so path (Copied n stat) old new l m p q drawn does whole left number =
    let more = does.2 in
    let copied = more.1 in
    stages_more more.0 n stat.size old new l m p q drawn does.0 (sym copied.size) more.2 whole left number
copies_so path Absent old new l m p q drawn does whole left number = same_memory old.state new.state l m p q does.2 left number
copies_so path Over old new l m p q drawn does whole left number = same_memory old.state new.state l m p q does.2 left number

pub copies_told : (path : List ℕ) (staged : Staged) (s : Outbound) (old new : StoreStand) → out_in old.state.content ≡ Some s → AreDrawn old.state → StoreTied old.state → StoreDoes old.state (Stage_copy path) (Copied_as staged) new.state
    → StagesAt path staged s (option_map content_of old.state.content) (option_map content_of new.state.content)
copies_told path (Copied n stat) s old new tells drawn tied does =
    let t = told_in old.state.content s tells in
    let more = does.2 in
    let copied = more.1 in
    let there = at_told old.state.content t.0 (λ a. a.outside path ≡ Some (record { bytes = more.0; time = stat.time })) t.1 copied.there in (
      record { bytes = more.0; time = stat.time },
      ap (λ (x : Outbound). x.outside path) (sym t.2) ∙ there,
      copied.within,
      ap (λ (size : ℕ). record { size = size; time = stat.time }) copied.size,
      stages_told more.0 n old.state new.state.content t.0 t.1 drawn tied does.0 (ap (λ (x : StoreState). x.content) more.2),
    )
copies_told path Absent s old new tells drawn tied does =
    let t = told_in old.state.content s tells in
    let there = at_told old.state.content t.0 (λ a. a.outside path ≡ None) t.1 does.1 in
    (ap (λ (x : Outbound). x.outside path) (sym t.2) ∙ there, ap (λ (x : StoreState). option_map content_of x.content) does.2)
copies_told path Over s old new tells drawn tied does =
    let t = told_in old.state.content s tells in
    let over = at_told old.state.content t.0 (IsOver path) t.1 does.1 in
    ((over.file, ap (λ (x : Outbound). x.outside path) (sym t.2) ∙ over.there, over.over), ap (λ (x : StoreState). option_map content_of x.content) does.2)

pub take_told : (own bytes : List ℕ) (n size : ℕ) (s : Outbound) (old new : StoreStand) → out_in old.state.content ≡ Some s → AreDrawn old.state → StoreTied old.state → length bytes ≡ size → IfTold old.state.content (λ a. a.takes own ≡ Some bytes) → StoreDoes old.state (Stage bytes) (Staged_as n) new.state
    → StagesTake own n size s (option_map content_of old.state.content) (option_map content_of new.state.content)
take_told own bytes n size s old new tells drawn tied long stands does =
    let t = told_in old.state.content s tells in
    let there = at_told old.state.content t.0 (λ a. a.takes own ≡ Some bytes) t.1 stands in
    (bytes, ap (λ (x : Outbound). x.takes own) (sym t.2) ∙ there, long, stages_told bytes n old.state new.state.content t.0 t.1 drawn tied does.0 (ap (λ (x : StoreState). x.content) does.2))

-- Refusals.

pub whole_refused : (call : StoreCall) (fault : StoreFault) (old new : StoreState) → (IsSourceRead call → ⊥) → StoreMade old call (Refuses fault) new → SettledBy fault → old.counts.broken ≡ None → new.counts.broken ≡ None
whole_refused call Disk old new unread made settled whole = absurd settled
whole_refused call Read old new unread made settled whole = absurd (unread made.0)
whole_refused call Full old new unread made settled whole = ap (λ (s : StoreState). s.counts.broken) made.1 ∙ whole
whole_refused call NoMemory old new unread made settled whole = ap (λ (s : StoreState). s.counts.broken) made.1 ∙ whole

same_actions : (call : StoreCall) (fault : StoreFault) (old new : StoreState) → (IsSourceRead call → ⊥) → StoreMade old call (Refuses fault) new → SettledBy fault → count_by waits_for_action new.stock.state.queue ≡ count_by waits_for_action old.stock.state.queue
same_actions call Disk old new unread made settled = absurd settled
same_actions call Read old new unread made settled = absurd (unread made.0)
same_actions call Full old new unread made settled = ap (λ (s : StoreState). count_by waits_for_action s.stock.state.queue) made.1
same_actions call NoMemory old new unread made settled = ap (λ (s : StoreState). count_by waits_for_action s.stock.state.queue) made.1

pub like_refused : (call : StoreCall) (fault : StoreFault) (old new : StoreStand) (l m : List Left) (p q : Option ℕ) → (IsSourceRead call → ⊥) → StoreMade old.state call (Refuses fault) new.state → SettledBy fault → old.state.counts.broken ≡ None → m ≡ l → q ≡ p
    → IsLike (seen old l p).memory (seen new m q).memory
like_refused call fault old new l m p q unread made settled whole left number = record {
  left = left;
  drawn = number;
  undone = same_actions call fault old.state new.state unread made settled;
  broken = whole_refused call fault old.state new.state unread made settled whole;
}

-- After each answer that settles the store is whole.

pub copy_whole : (path : List ℕ) (r : Result Staged StoreFault) (old new : StoreState) → StoreMade old (Stage_copy path) (copy_answer r) new → old.counts.broken ≡ None → Settles r → new.counts.broken ≡ None
copy_whole path (Ok (Copied n stat)) old new made whole settled =
    let more = made.2 in ap (λ (s : StoreState). s.counts.broken) more.2 ∙ whole
copy_whole path (Ok Absent) old new made whole settled = ap (λ (s : StoreState). s.counts.broken) made.2 ∙ whole
copy_whole path (Ok Over) old new made whole settled = ap (λ (s : StoreState). s.counts.broken) made.2 ∙ whole
copy_whole path (Err fault) old new made whole settled = whole_refused (Stage_copy path) fault old new (λ h. h) made settled whole
