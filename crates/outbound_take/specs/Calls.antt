-- What each call of a store of takes does, by its answer (own).
use Rattle.std.specs.Prelude.{◌≡◌, ◌≢◌, ◌⊎◌, ℕ, ◌<◌, ◌≤◌, ◌+◌, ◌==◌, ◌||◌, Bool, false, List, [], ◌∷◌, ◌++◌, length, map, Option, Some, None, option_map}
use Rattle.std.specs.Str.{bytes_eq}
use Rattle.ftn_addr.specs.Address.{Address}
use Rattle.ftn_addr.specs.declared.limits.TheConstants.{MAX_NUMBER, MAX_SIZE}
use Rattle.bso_outbound.specs.declared.kind.Kind.{Kind}
use Rattle.disk_model.specs.declared.answers.Moved.{Moved}
use Rattle.disk_model.specs.declared.answers.Moved.TheVariants.{Done as MoveDone, Absent as NoFile}
use Rattle.disk_model.specs.declared.answers.Marking.{Marking}
use Rattle.disk_model.specs.declared.answers.Marking.TheVariants.{Made as MarkMade, Exists as MarkExists}
use Rattle.node_model.specs.declared.store.OutStat.{OutStat}
use Rattle.node_model.specs.declared.store.Staged.{Staged}
use Rattle.node_model.specs.declared.store.Staged.TheVariants.{Copied, Absent, Over}
use Rattle.node_model.specs.Items.{Entry}
use Rattle.node_model.specs.Lists.{Member, Each, without}
use Rattle.node_model.specs.Outside.{OutFile}
use Rattle.node_model.specs.SendRows.{Slot, New, Again}
use Rattle.node_model.specs.Stocks.{NewEntry}
use Rattle.node_model.specs.StoreWords.{FitsQueue, NumbersRise}
use Rattle.outbound_model.specs.Outbound.{Outbound, is_recorded}
use Rattle.outbound_model.specs.OwnNames.{number_of, kind_of, IsFor}
use Rattle.outbound_model.specs.Fates.{number_at, with_new}
use Rattle.outbound_model.specs.Steps.{Step, Hit, Acted, Moves, Marks, Unmarks}
use Rattle.outbound_take.specs.declared.outgoing.TakeLeft.{TakeLeft}
use Rattle.outbound_take.specs.Stand.{Content, Left, Memory}

-- The takes that stand.

-- a take of that kind for that address
pub record IsTakeFor (dest : Address) (kind : Kind) (own : List ℕ) : Type 0 where
  pub addressed : IsFor dest own
  pub named : kind_of own ≡ Some kind

abbrev pub owns : List Left → List (List ℕ)
owns left = map (λ (t : Left). t.own) left

-- where it is a take for that address, its number is such a one
abbrev pub IfFor : Address → (ℕ → Type 0) → List ℕ → Type 0
IfFor dest P own = (kind : Kind) → IsTakeFor dest kind own → P (number_of own)

-- such a take stands
abbrev pub Has : List ℕ → Bool → List Left → Type 0
Has own recorded left = Member (record { own = own; recorded = recorded }) left

-- the least number above that one, or of all
abbrev pub next_above : Option ℕ → ℕ
next_above None = 0
next_above (Some above) = above + 1

-- of the takes for an address that have at least that number, the one with the least
pub record IsFirst (dest : Address) (from : ℕ) (t : TakeLeft) (left : List Left) : Type 0 where
  pub named : IsTakeFor dest t.kind t.own
  pub stands : Has t.own t.recorded left
  pub numbered : number_of t.own ≡ t.take
  pub above : from ≤ t.take
  pub within : t.take ≤ MAX_NUMBER
  pub first : Each (IfFor dest (λ n. (n < from) ⊎ (t.take ≤ n))) (owns left)

abbrev pub FirstFor : Address → ℕ → Option TakeLeft → List Left → Type 0
FirstFor dest from None left = Each (IfFor dest (λ n. n < from)) (owns left)
FirstFor dest from (Some t) left = IsFirst dest from t left

-- a take more, which isn't recorded
abbrev pub with_take : List ℕ → List Left → List Left
with_take own left = left ++ record { own = own; recorded = false } ∷ []

-- the takes of that number are recorded
abbrev pub noted : ℕ → Left → Left
noted number t = record t { recorded = t.recorded || number == number_of t.own }

abbrev pub names_without : List ℕ → List (List ℕ) → List (List ℕ)
names_without own names = without (λ (o : List ℕ). bytes_eq o own) names

abbrev pub without_take : List ℕ → List Left → List Left
without_take own left = without (λ (t : Left). bytes_eq t.own own) left

-- a store that isn't broken, with these takes, this number drawn and so many actions to do
pub record Holds (takes : List Left) (number : Option ℕ) (actions : ℕ) (m : Memory) : Type 0 where
  pub left : m.left ≡ takes
  pub drawn : m.drawn ≡ number
  pub undone : m.undone ≡ actions
  pub broken : m.broken ≡ None

-- the same takes, number drawn and actions, in a store that isn't broken
pub record IsLike (old new : Memory) : Type 0 where
  pub left : new.left ≡ old.left
  pub drawn : new.drawn ≡ old.drawn
  pub undone : new.undone ≡ old.undone
  pub broken : new.broken ≡ None

-- Looking, and taking a file.

abbrev pub stat_of : OutFile → OutStat
stat_of f = record { size = length f.bytes; time = f.time }

abbrev pub TakesFile : (path own : List ℕ) → Moved → Outbound → Outbound → Type 0
TakesFile path own MoveDone s t = (bytes : List ℕ) × Moves path own bytes s t
TakesFile path own NoFile s t = (s.outside path ≡ None) × (t ≡ s)

-- Staging.

-- the bytes that are staged
abbrev pub bodies_of : Option Content → ℕ → Option (List ℕ)
bodies_of None n = None
bodies_of (Some c) n = c.bodies n

-- under the next number so many bytes are staged, and under every other as before
pub record StagesMore (n size : ℕ) (old new : Memory) : Type 0 where
  pub is : n ≡ old.last + 1
  pub last : new.last ≡ n
  pub here : new.sizes n ≡ Some size
  pub others : (m : ℕ) → m ≢ n → new.sizes m ≡ old.sizes m
  pub left : new.left ≡ old.left
  pub drawn : new.drawn ≡ old.drawn
  pub undone : new.undone ≡ old.undone
  pub broken : new.broken ≡ None

-- the same where the bytes are told
pub record StagesBytes (n : ℕ) (bytes : List ℕ) (old new : Option Content) : Type 0 where
  pub here : bodies_of new n ≡ Some bytes
  pub others : (m : ℕ) → m ≢ n → bodies_of new m ≡ bodies_of old m

-- the bytes of a take, which are so many
abbrev pub StagesTake : (own : List ℕ) → (n size : ℕ) → Outbound → Option Content → Option Content → Type 0
StagesTake own n size s old new = (bytes : List ℕ) × (s.takes own ≡ Some bytes) × (length bytes ≡ size) × StagesBytes n bytes old new

abbrev pub CopiesSo : Staged → Memory → Memory → Type 0
CopiesSo (Copied n stat) old new = StagesMore n stat.size old new
CopiesSo Absent old new = new ≡ old
CopiesSo Over old new = new ≡ old

abbrev pub StagesAt : List ℕ → Staged → Outbound → Option Content → Option Content → Type 0
StagesAt path (Copied n stat) s old new =
    (f : OutFile) × (s.outside path ≡ Some f) × (length f.bytes ≤ MAX_SIZE) × (stat ≡ stat_of f) × StagesBytes n f.bytes old new
StagesAt path Absent s old new = (s.outside path ≡ None) × (new ≡ old)
StagesAt path Over s old new = ((f : OutFile) × (s.outside path ≡ Some f) × (MAX_SIZE < length f.bytes)) × (new ≡ old)

-- Queueing.

-- a file was staged under its number, with as many bytes as its key says
abbrev pub IsStaged : Memory → NewEntry → Type 0
IsStaged m f = (m.sizes f.number ≡ Some f.key.size) × (f.number ≤ m.last)

-- files that may be queued together
pub record AreNew (files : List NewEntry) (m : Memory) : Type 0 where
  pub limits : Each FitsQueue files
  pub staged : Each (IsStaged m) files
  pub rise : NumbersRise files

-- each file in order: where its address has that key, Again with that number, else a live entry with what was staged
abbrev pub Enqueued : (ℕ → Option (List ℕ)) → List Entry → List NewEntry → List Slot → List Entry → Type 0
Enqueued bodies queue [] [] after = after ≡ queue
Enqueued bodies queue (f ∷ fs) (New n ∷ slots) after =
    (n ≡ f.number) × (number_at f.dest f.key queue ≡ None) × (bytes : List ℕ) × (bodies f.number ≡ Some bytes) × Enqueued bodies (with_new f bytes queue) fs slots after
Enqueued bodies queue (f ∷ fs) (Again n ∷ slots) after = (number_at f.dest f.key queue ≡ Some n) × Enqueued bodies queue fs slots after
Enqueued bodies queue [] (slot ∷ slots) after = ⊥
Enqueued bodies queue (f ∷ fs) [] after = ⊥

-- the files and the take number, in one durable change
pub record QueuesFiles (bodies : ℕ → Option (List ℕ)) (own : List ℕ) (files : List NewEntry) (slots : List Slot) (s t : Outbound) : Type 0 where
  pub bytes : List ℕ
  pub stands : s.takes own ≡ Some bytes
  pub first : is_recorded (number_of own) s ≡ false
  pub queue : Enqueued bodies s.queue files slots t.queue
  pub recorded : t.recorded ≡ s.recorded ++ number_of own ∷ []
  pub takes : t.takes ≡ s.takes
  pub outside : t.outside ≡ s.outside

-- Marks.

abbrev pub MarksAt : (path text : List ℕ) → Marking → Outbound → Outbound → Type 0
MarksAt path text MarkMade s t = Marks path text s t
MarksAt path text MarkExists s t = ((f : OutFile) × (s.outside path ≡ Some f)) × (t ≡ s)

-- the mark goes where it holds the text, and else nothing changes
abbrev pub UnmarksAt : (path text : List ℕ) → Outbound → Outbound → Type 0
UnmarksAt path text s t = Unmarks path text s t ⊎ ((option_map (λ (f : OutFile). f.bytes) (s.outside path) ≢ Some text) × (t ≡ s))

-- Actions.

abbrev pub IsAction : Step → Type 0
IsAction (Hit n) = Unit {0}
IsAction (Acted n) = Unit {0}
IsAction _ = ⊥

-- What the memory of a store fits: where it tells its takes, no other take stands.
pub record Tied (m : Memory) (told : Option Outbound) : Type 0 where
  pub left : (t : Outbound) → told ≡ Some t → (own : List ℕ) → t.takes own ≢ None → Member own (owns m.left)
