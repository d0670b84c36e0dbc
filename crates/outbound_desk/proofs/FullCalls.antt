-- A call of a take-in that finds no place, or no number, is a row that finds none.
use Rattle.std.proofs.Common.{◌≡◌, ℕ, zero, suc, ◌+◌, ◌<◌, List, [], ◌∷◌, ◌++◌, Option, Some, None, option_map, map, length, refl, sym, ◌∙◌, ap, subst, inl, inr, arith, length-append}
use Rattle.ftn_addr.specs.Address.{Address}
use Rattle.ftn_addr.specs.Counts.{next_count}
use Rattle.ftn_addr.specs.declared.limits.TheConstants.{MAX_NUMBER}
use Rattle.ftn_addr.specs.declared.source_file.Action.TheVariants.{Leave}
use Rattle.node_model.specs.declared.store.Staged.TheVariants.{Copied, Absent, Over}
use Rattle.node_model.specs.declared.store.StoreFault.TheVariants.{Full as No_place}
use Rattle.node_model.specs.declared.words.Flavour.TheVariants.{Normal}
use Rattle.std.specs.Prelude.{count_by}
use Rattle.node_model.specs.Calls.{Call, Queue_call, Act_call, Refused, Full, FindsFull, IsQueue, Tells}
use Rattle.node_model.specs.Calls as C
use Rattle.node_model.specs.Node.{Node}
use Rattle.node_model.specs.Rows.{LacksRoom}
use Rattle.node_model.specs.SendRows.{ActFull, NewFile, NextActed, Slot, answered_records, is_new, taken_records}
use Rattle.node_model.specs.Stocks.{NewEntry, Sizes, entry_records, file_staged, slots_of}
use Rattle.node_model.specs.Stores.{Shelf, Stored, StoreState, StoreStand, StoreAnswer, StoreCall, StoreDoes, StoreKept, StorePasses, IfTold, Stage, Stage_copy, Queue_all, Read_part, Act_next, Staged_as, Copied_as, Refuses, Before_it, Source_first, After_it, IsFull, IsShelf, queueing_records, stored_after, with_staged}
use Rattle.node_model.proofs.QueuedSizes.{slots-map}
use Rattle.hub_core.specs.Hubs.{Fitted, HubState, HubFits, knows_over, node_with}
use Rattle.hub_core.proofs.Keeping.{leaves_as}
use Rattle.take_steps.specs.Steps.{KeepsState, Quiet, TakesIn}
use Rattle.outbound_desk.specs.Answering.{MoreStaged}
use Rattle.outbound_desk.proofs.OneRow.{IsIdle, OneRow, RowImages, RowPasses}
use Rattle.outbound_desk.proofs.QuietRows.{keeps_passes, quiet_change, quiet_images, still_change}
use Rattle.outbound_desk.proofs.QueuedFiles.{records_few, with_bytes}
use Rattle.outbound_desk.proofs.Refusals.{full_row}
use Rattle.outbound_desk.proofs.StoreCalls.{call_of, kept_leaves, row_images}
use Rattle.outbound_desk.proofs.ActRows.{next_told}

-- So many files, whatever they are.

some_file : NewFile
some_file = record {
  dest = record { zone = 0; net = 0; node = 0; point = 0; domain = [] };
  key = record { name = []; size = 0; time = 0 };
  flavour = Normal;
  source = [];
  action = Leave;
  bytes = [];
}

many_files : (n : ℕ) → (files : List NewFile) × (length files ≡ n)
many_files zero = ([], refl)
many_files (suc n) = let m = many_files n in (some_file ∷ m.0, ap suc m.1)

-- more files than numbers are left
no_number : (seat : ℕ) (m : Node) (n : ℕ) → MAX_NUMBER < m.staged + n → FindsFull seat m (Queue_call (many_files n).0 None None)
no_number seat m n more =
    record { cause = inr (subst (λ (k : ℕ). MAX_NUMBER < m.staged + k) (sym (many_files n).1) more) }

-- What finds none, by call.

-- the node has no place for the records of the files that aren't queued yet
abbrev LacksPlaces : Node → List NewFile → Option ℕ → Option ℕ → Type 0
LacksPlaces n files taken answered = LacksRoom n (count_by (is_new n.state.queue) files + length (taken_records taken ++ answered_records answered))

queue_lacks : (h : HubState) (a : Stored) (s : StoreState) (taken answered : Option ℕ) (files : List NewEntry) → HubFits a s h → IsFull (Queue_all taken answered files) s → LacksPlaces (node_with a s h) (map (with_bytes a.stock.staged) files) taken answered
queue_lacks h a s taken answered files f full =
    let told : slots_of files s.stock.staged s.stock.state.queue ≡ slots_of files a.stock.staged a.stock.state.queue = ap (λ (x : Sizes). slots_of files x.staged x.state.queue) f.stock ∙ slots-map files a.stock.staged a.stock.state.queue in
    let few = records_few files a.stock.staged a.stock.state.queue a.stock.state.queue (λ dest key t. t) in
    let new = entry_records files (slots_of files s.stock.staged s.stock.state.queue) in
    let all : length (queueing_records taken answered files s) ≡ length (new ++ taken_records taken) + length (answered_records answered) = length-append (new ++ taken_records taken) (answered_records answered) in
    let front = length-append new (taken_records taken) in
    let back = length-append (taken_records taken) (answered_records answered) in
    let same = ap (λ (l : List Slot). length (entry_records files l)) told in
    omega (arith, full, few, all, front, back, same)

act_finds : (h : HubState) (a : Stored) (s : StoreState) (dest : Address) → HubFits a s h → IsFull (Act_next dest) s → FindsFull s.seat (node_with a s h) (Act_call dest)
act_finds h a s dest f full = record {
  number = full.0.0;
  next = next_told dest full.0.0 a.stock.state.queue (subst (λ (x : Sizes). NextActed dest full.0.0 x.state.queue) f.stock full.0.1);
  lacks = full.1;
}

-- Staging leaves the durable state.

before_keeps : (c : Option Stored) (x : Shelf) → IsShelf c x → KeepsState c x
before_keeps None x is = is
before_keeps (Some a) x is = ap (λ (e : Shelf). e.state) is

staged_keeps : (s : StoreState) (bytes : List ℕ) (t : StoreState) (x : Shelf) → t ≡ with_staged bytes s → IsShelf t.content x → KeepsState s.content x
staged_keeps s bytes t x same is = go s.content (subst (λ (u : StoreState). IsShelf u.content x) same is)
  where
    go : (c : Option Stored) → IsShelf (option_map (stored_after (file_staged (s.staged + 1) bytes) s.seat []) c) x → KeepsState c x
    go None e = e
    go (Some a) e = ap (λ (e : Shelf). e.state) e

same_keeps : (s t : StoreState) (x : Shelf) → t ≡ s → IsShelf t.content x → KeepsState s.content x
same_keeps s t x same is = before_keeps s.content x (subst (λ (u : StoreState). IsShelf u.content x) same is)

stage_keeps : (s : StoreState) (bytes : List ℕ) (x : Shelf) → StorePasses s (Stage bytes) x → KeepsState s.content x
stage_keeps s bytes x (Before_it is) = before_keeps s.content x is
stage_keeps s bytes x (Source_first first) = absurd first
stage_keeps s bytes x (After_it answer t does is) = go answer does
  where
    go : (answer : StoreAnswer) → StoreDoes s (Stage bytes) answer t → KeepsState s.content x
    go (Staged_as number) does = staged_keeps s bytes t x does.2 is
    go answer does = absurd does

copy_keeps : (s : StoreState) (path : List ℕ) (x : Shelf) → StorePasses s (Stage_copy path) x → KeepsState s.content x
copy_keeps s path x (Before_it is) = before_keeps s.content x is
copy_keeps s path x (Source_first first) = absurd first
copy_keeps s path x (After_it answer t does is) = go answer does
  where
    go : (answer : StoreAnswer) → StoreDoes s (Stage_copy path) answer t → KeepsState s.content x
    go (Copied_as (Copied number stat)) does = staged_keeps s does.2.0 t x does.2.2 is
    go (Copied_as Absent) does = same_keeps s t x does.2 is
    go (Copied_as Over) does = same_keeps s t x does.2 is
    go answer does = absurd does

-- The rows.

abbrev FullNow : StoreStand → StoreStand → Type 0
FullNow old new = new.state ≡ record old.state { counts = record old.state.counts { fulls = next_count old.state.counts.fulls } }

full_change : (h : HubState) (call : Call) (old new : StoreStand) (o : IsIdle h old) → C.TakesIn call → FullNow old new → FindsFull old.state.seat (node_with o.fitted.keeps old.state h) call → RowImages h call old new → OneRow h call (Refused Full) old new
full_change h call old new o takes is finds images =
    let counts : new.state.counts ≡ record old.state.counts { fulls = next_count old.state.counts.fulls } = ap (λ (u : StoreState). u.counts) is in
    full_row h call old new o takes (still_change old.state new.state (is ∙ (λ i. record old.state { counts = sym counts i }))) counts finds images

-- the call finds no place at the hub's node, whatever numbers were drawn there
abbrev FullAnyway : HubState → StoreStand → Call → Type 0
FullAnyway h old call =
    (n m : Node) → knows_over old.state.content old.state h old.state.seat ≡ Tells m → MoreStaged (Tells n) (Tells m) → FindsFull old.state.seat n call

-- a row of the seat that finds no place
pub record FullRow (h : HubState) (old new : StoreStand) : Type 0 where
  pub call : Call
  pub row : OneRow h call (Refused Full) old new
  pub anyway : FullAnyway h old call

-- one that queues files
pub record QueuesFull (h : HubState) (old new : StoreStand) : Type 0 where
  pub call : Call
  pub queues : IsQueue call
  pub row : OneRow h call (Refused Full) old new
  pub anyway : FullAnyway h old call

full_of : (h : HubState) (old new : StoreStand) → QueuesFull h old new → FullRow h old new
full_of h old new x = record { call = x.call; row = x.row; anyway = x.anyway }

-- the node that is told
told_node : (h : HubState) (old : StoreStand) (f : Fitted old.state h) (m : Node) → knows_over old.state.content old.state h old.state.seat ≡ Tells m → m ≡ node_with f.keeps old.state h
told_node h old f m told = go old.state.content f.tells told
  where
    go : (c : Option Stored) → IfTold c (λ b. b ≡ f.keeps) → knows_over c old.state h old.state.seat ≡ Tells m → m ≡ node_with f.keeps old.state h
    go (Some a) is told = let same : m ≡ node_with a old.state h = cc in same ∙ ap (λ (x : Stored). node_with x old.state h) is
    go None is told = absurd (cc)

acts_anyway : (dest : Address) (n m : Node) → m ≡ record n { staged = m.staged } → ActFull dest m → ActFull dest n
acts_anyway dest n m same full =
    let f = subst (ActFull dest) same full in record { number = f.number; next = f.next; lacks = f.lacks }

lacks_anyway : (files : List NewFile) (taken answered : Option ℕ) (n m : Node) → m ≡ record n { staged = m.staged } → LacksPlaces m files taken answered → LacksPlaces n files taken answered
lacks_anyway files taken answered n m same lacks = subst (λ (x : Node). LacksPlaces x files taken answered) same lacks

staging_full : (h : HubState) (old : StoreStand) (o : IsIdle h old) (call : StoreCall) (new : StoreStand) → FullNow old new → StoreKept old call (Refuses No_place) new → ((x : Shelf) → StorePasses old.state call x → KeepsState old.state.content x) → QueuesFull h old new
staging_full h old o call new is kept keeps =
    let row : Call = Queue_call (many_files (MAX_NUMBER + 1)).0 None None in
    let passes : (x : Shelf) → StorePasses old.state call x → RowPasses h row old x = λ x p. keeps_passes old.state.content old.state h old.state.seat row x (keeps x p) in
    let leaves = leaves_as (StorePasses old.state call) (RowPasses h row old) old new passes (kept_leaves old call (Refuses No_place) new kept) in
    record {
      call = row;
      queues = tt;
      row = full_change h row old new o tt is (no_number old.state.seat (node_with o.fitted.keeps old.state h) (MAX_NUMBER + 1) (omega arith)) (record { leaves = leaves; settled = kept.now });
      anyway = λ n m told more. no_number old.state.seat n (MAX_NUMBER + 1) (omega arith);
    }

pub copy_full : (h : HubState) (old : StoreStand) (o : IsIdle h old) (path : List ℕ) (new : StoreStand) → StoreKept old (Stage_copy path) (Refuses No_place) new → QueuesFull h old new
copy_full h old o path new kept = staging_full h old o (Stage_copy path) new kept.made.1 kept (λ x p. copy_keeps old.state path x p)

pub queue_full : (h : HubState) (old : StoreStand) (o : IsIdle h old) (taken answered : Option ℕ) (files : List NewEntry) (new : StoreStand) → TakesIn (Queue_all taken answered files) old.state → StoreKept old (Queue_all taken answered files) (Refuses No_place) new → QueuesFull h old new
queue_full h old o taken answered files new takes kept =
    let call = Queue_all taken answered files in
    let all = map (with_bytes o.fitted.keeps.stock.staged) files in
    let lacks = queue_lacks h o.fitted.keeps old.state taken answered files o.fitted.fits kept.made.0 in
    record {
      call = call_of o.fitted.keeps call;
      queues = tt;
      row = full_change h (call_of o.fitted.keeps call) old new o tt kept.made.1 (record { cause = inl lacks }) (row_images h old o call (Refuses No_place) new takes kept);
      anyway = λ n m told more. record { cause = inl (lacks_anyway all taken answered n m more.0 (subst (λ (x : Node). LacksPlaces x all taken answered) (sym (told_node h old o.fitted m told)) lacks)) };
    }

pub full_call : (h : HubState) (old : StoreStand) (o : IsIdle h old) (call : StoreCall) (new : StoreStand) → TakesIn call old.state → StoreKept old call (Refuses No_place) new → FullRow h old new
full_call h old o (Stage bytes) new takes kept =
    full_of h old new (staging_full h old o (Stage bytes) new kept.made.1 kept (λ x p. stage_keeps old.state bytes x p))
full_call h old o (Stage_copy path) new takes kept = full_of h old new (copy_full h old o path new kept)
full_call h old o (Queue_all taken answered files) new takes kept = full_of h old new (queue_full h old o taken answered files new takes kept)
full_call h old o (Act_next dest) new takes kept =
    let finds = act_finds h o.fitted.keeps old.state dest o.fitted.fits kept.made.0 in
    record {
      call = Act_call dest;
      row = full_change h (Act_call dest) old new o tt kept.made.1 finds (row_images h old o (Act_next dest) (Refuses No_place) new takes kept);
      anyway = λ n m told more. acts_anyway dest n m more.0 (subst (ActFull dest) (sym (told_node h old o.fitted m told)) finds);
    }
full_call h old o (Read_part receipt at room) new takes kept = absurd kept.made.0
full_call h old o call new takes kept = absurd takes

-- a take found no number
pub full_quietly : (h : HubState) (old new : StoreStand) → IsIdle h old → Quiet old new → new.state.counts ≡ record old.state.counts { fulls = next_count old.state.counts.fulls } → FullRow h old new
full_quietly h old new o quiet counts =
    let row : Call = Queue_call (many_files (MAX_NUMBER + 1)).0 None None in
    let finds = no_number old.state.seat (node_with o.fitted.keeps old.state h) (MAX_NUMBER + 1) (omega arith) in
    record {
      call = row;
      row = full_row h row old new o tt (quiet_change old.state new.state quiet.told quiet.same) counts finds (quiet_images h row old new quiet);
      anyway = λ n m told more. no_number old.state.seat n (MAX_NUMBER + 1) (omega arith);
    }
