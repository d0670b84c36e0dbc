-- The answer to a request, as it is to the node of a hub whose sessions look anew for what they offer: one row of the seat whose turn
-- it is, and what a stop leaves of it (own).
use Rattle.std.specs.Prelude.{◌≡◌, ℕ, ◌+◌, ◌≤◌, ◌<◌, length, List, [], ◌∷◌, Option, Some, None, Result, Ok, Err}
use Rattle.ftn_addr.specs.Address.{Address}
use Rattle.ftn_addr.specs.Limits.{IsKey}
use Rattle.ftn_addr.specs.Moments.{MomentsGrew}
use Rattle.ftn_addr.specs.declared.source_file.Action.TheVariants.{Leave}
use Rattle.node_model.specs.declared.store.OutStat.{OutStat}
use Rattle.node_model.specs.declared.store.StoreFault.{StoreFault}
use Rattle.node_model.specs.declared.words.Flavour.TheVariants.{Hold as Held_back}
use Rattle.node_model.specs.Calls.{Answer, Call, Caused, Counts_alone, IsQueue, Knows, KnownStep, Tells, one}
use Rattle.node_model.specs.Images.{IsState, KnownPasses}
use Rattle.node_model.specs.Items.{EntryOf}
use Rattle.node_model.specs.Lists.{Each}
use Rattle.node_model.specs.SendRows.{Slot}
use Rattle.node_model.specs.Stocks.{NewEntry}
use Rattle.node_model.specs.StoreWords.{NumbersRise, WasStaged}
use Rattle.node_model.specs.Stores.{OpensShelf, Queue_all, Shelf, Slots, StoreDoes, StoreStand, StoreState, with_staged}
use Rattle.hub_core.specs.Anew.{LooksAnew}
use Rattle.hub_core.specs.Hubs.{Fitted, HubState, IsSettled, knows_over}
use Rattle.outbound_store.specs.Calls.{want_in}
use Rattle.take_steps.specs.declared.wanting.Wanting.{Wanting}
use Rattle.outbound_desk.specs.TakenIn.{AreDrawn, EndsSo}

-- what a hub tells over a store
abbrev pub told_at : HubState → ℕ → StoreStand → Knows
told_at h seat w = knows_over w.state.content w.state h seat

-- the same node, but that more numbers may be drawn for files that are staged
abbrev pub MoreStaged : Knows → Knows → Type 0
MoreStaged (Tells a) (Tells b) = (b ≡ record a { staged = b.staged }) × (a.staged ≤ b.staged)
MoreStaged (Counts_alone c) (Counts_alone d) = d ≡ c
MoreStaged (Tells a) (Counts_alone d) = ⊥
MoreStaged (Counts_alone c) (Tells b) = ⊥

-- Files may have been staged, and nothing else changed: each image since is the node's state, and the store fits the hub as before.
pub record Staging (h : HubState) (seat : ℕ) (old new : StoreStand) : Type 0 where
  pub knows : MoreStaged (told_at h seat old) (told_at h seat new)
  pub counts : new.state.counts ≡ old.state.counts
  pub moments : MomentsGrew old.moment old.images new.moment new.images
  pub since : (k : ℕ) (d : Option Shelf) → old.moment < k → k ≤ new.moment → new.images k d → OpensShelf (λ x. IsState (told_at h seat old) x.state) d
  pub settled : IsSettled new
  pub fitted : Fitted new.state h
  pub drawn : AreDrawn new.state
  pub turn : new.state.seat ≡ seat

-- One row of the seat: files were queued, or that was refused. It is so from each node that is the same but for numbers that were
-- drawn, and every image since is a state that the row passes. Unless the disk failed, the store fits the hub as before.
pub record Answered (h : HubState) (seat : ℕ) (old new : StoreStand) (now : Option Wanting) : Type 0 where
  pub call : Call
  pub answer : Answer
  pub queues : IsQueue call
  pub caused : Caused old.state.counts call answer new.state.counts
  pub step : (a : Knows) → MoreStaged a (told_at h seat old) → KnownStep seat a call answer (told_at h seat new)
  pub ends : EndsSo (one call answer) new.state.counts.broken now
  pub moments : MomentsGrew old.moment old.images new.moment new.images
  pub since : (a : Knows) → MoreStaged a (told_at h seat old) → (k : ℕ) (d : Option Shelf) → old.moment < k → k ≤ new.moment → new.images k d → OpensShelf (λ x. KnownPasses seat a call x.state) d
  pub settled : new.state.counts.broken ≡ None → IsSettled new
  pub fitted : new.state.counts.broken ≡ None → Fitted new.state h
  pub drawn : new.state.counts.broken ≡ None → AreDrawn new.state
  pub turn : new.state.seat ≡ seat

-- it is so at every hub that fits the store and whose sessions look anew
abbrev pub Stages : StoreStand → StoreStand → Type 0
Stages old new = (h : HubState) → LooksAnew h → Fitted old.state h → AreDrawn old.state → IsSettled old → Staging h old.state.seat old new

abbrev pub Answers : StoreStand → StoreStand → Option Wanting → Type 0
Answers old new now =
    (h : HubState) → LooksAnew h → Fitted old.state h → AreDrawn old.state → IsSettled old → Answered h old.state.seat old new now

-- What a call that stages leaves: it did, and the store is whole; or that is the answer to the request, which was refused.
abbrev pub StagesSo : {X : Type 0} → Result X StoreFault → StoreStand → StoreStand → Type 0
StagesSo (Ok x) old new = (new.state.counts.broken ≡ None) × Stages old new
StagesSo {X} (Err fault) old new = Answers old new (want_in {T = X} (Err fault))

-- a file that answers a request: it waits for that address to call, and its source stays
pub record IsAnswerFile (dest : Address) (f : NewEntry) : Type 0 where
  pub dest_is : f.dest ≡ dest
  pub held_back : f.flavour ≡ Held_back
  pub stays : f.action ≡ Leave
  pub unnamed : f.source ≡ []

-- That request is answered, by files for that address, in one durable change. What was received and queued before it is as it was.
pub record AnswersRequest (receipt : ℕ) (dest : Address) (old new : StoreState) : Type 0 where
  pub mid : StoreState
  pub state : mid.stock.state ≡ old.stock.state
  pub files : List NewEntry
  pub for_dest : Each (IsAnswerFile dest) files
  pub slots : List Slot
  pub queued : StoreDoes mid (Queue_all None (Some receipt) files) (Slots slots) new

-- the file of an answer that is queued for a staged copy
abbrev pub names_answer : Address → List ℕ → ℕ → OutStat → NewEntry
names_answer dest name number stat =
    record { number = number; dest = dest; key = record { name = name; size = stat.size; time = stat.time }; flavour = Held_back; source = []; action = Leave }

-- a file of an answer was staged under the next number, with as many bytes as its key says
pub record StagesFile (dest : Address) (f : NewEntry) (old new : StoreState) : Type 0 where
  pub bytes : List ℕ
  pub staged : new ≡ with_staged bytes old
  pub number : f.number ≡ old.staged + 1
  pub size : f.key.size ≡ length bytes
  pub key : IsKey f.key
  pub is : IsAnswerFile dest f

abbrev pub StagesOne : Address → Option NewEntry → StoreState → StoreState → Type 0
StagesOne dest None old new = new ≡ old
StagesOne dest (Some f) old new = StagesFile dest f old new

-- it, if there is one
abbrev pub listed : Option NewEntry → List NewEntry
listed None = []
listed (Some f) = f ∷ []

-- These files of an answer were staged, and may be queued together. The durable state is as it was.
pub record IsBatch (dest : Address) (files : List NewEntry) (old new : StoreState) : Type 0 where
  pub state : new.stock.state ≡ old.stock.state
  pub for_dest : Each (IsAnswerFile dest) files
  pub keys : Each (λ (f : NewEntry). IsKey f.key) files
  pub staged : Each (WasStaged new.stock.staged) files
  pub low : Each (λ (f : NewEntry). f.number ≤ new.staged) files
  pub rise : NumbersRise files
  pub above : Each (λ (f : NewEntry). Each (λ (e : EntryOf ℕ). e.number < f.number) new.stock.state.queue) files
