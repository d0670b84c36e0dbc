-- The words of a store's calls: what they are given and what they answer, without where it lies in memory (own).
use Rattle.std.specs.Prelude.{◌≡◌, ◌≢◌, ◌⊎◌, ℕ, true, false, ◌==◌, ◌≤◌, ◌<◌, List, [], ◌∷◌, Option, Some, None, length}
use Rattle.ftn_addr.specs.Address.{address}
use Rattle.ftn_addr.specs.Key.{Key, key_of}
use Rattle.ftn_addr.specs.Limits.{IsAddress, IsKey}
use Rattle.node_model.specs.declared.store.NewFile.{NewFile}
use Rattle.node_model.specs.declared.store.PartAt.{PartAt}
use Rattle.node_model.specs.declared.store.Slot.{Slot}
use Rattle.node_model.specs.declared.store.Slot.TheVariants as S
use Rattle.node_model.specs.Items.{EntryOf, ReceiptOf, MarkOf}
use Rattle.node_model.specs.Lists.{Member, Each, first_that}
use Rattle.node_model.specs.SendRows.{Slot as SlotWord, New, Again, is_request}
use Rattle.node_model.specs.Stocks.{NewEntry, StagedOf, staged_in}
use Rattle.node_model.specs.Stores.{StoreState}

abbrev pub entry_of : NewFile → NewEntry
entry_of f =
    record { number = f.number; dest = address f.dest; key = key_of f.key; flavour = f.flavour; source = f.source.list; action = f.action }

abbrev pub slot_of : Slot → SlotWord
slot_of (S.New number) = New number
slot_of (S.Again number) = Again number

abbrev pub part_at : MarkOf ℕ → PartAt
part_at m = record { part = m.number; len = m.bytes }

-- an entry has that number
abbrev pub HasEntry : {B : Type 0} → ℕ → List (EntryOf B) → Type 0
HasEntry {B} number queue = (e : EntryOf B) × Member e queue × (e.number ≡ number)

-- the entry with that number has that key
abbrev pub KeyOf : {B : Type 0} → ℕ → Key → List (EntryOf B) → Type 0
KeyOf {B} number key queue = (e : EntryOf B) × Member e queue × (e.number ≡ number) × (e.key ≡ key)

abbrev pub size_in : {B : Type 0} → Option (EntryOf B) → ℕ
size_in None = 0
size_in (Some e) = e.key.size

-- the size of the first entry with that number
abbrev pub size_of_entry : {B : Type 0} → ℕ → List (EntryOf B) → ℕ
size_of_entry {B} number queue = size_in (first_that (λ (e : EntryOf B). e.number == number) queue)

abbrev pub size_in_receipt : {B : Type 0} → Option (ReceiptOf B) → ℕ
size_in_receipt None = 0
size_in_receipt (Some r) = r.key.size

-- the size of the first receipt with that number
abbrev pub size_of_receipt : {B : Type 0} → ℕ → List (ReceiptOf B) → ℕ
size_of_receipt {B} number inbox = size_in_receipt (first_that (λ (r : ReceiptOf B). r.number == number) inbox)

-- a file is refused for its name, or for its size
abbrev pub IsReason : ℕ → Type 0
IsReason reason = (reason ≡ 1) ⊎ (reason ≡ 2)

-- an address and a key within their limits, and a source of at most 1,024 bytes
pub record FitsQueue (f : NewEntry) : Type 0 where
  pub dest : IsAddress f.dest
  pub key : IsKey f.key
  pub source : length f.source ≤ 1024

-- it was staged under its number, with as many bytes as its key says
abbrev pub WasStaged : List (StagedOf ℕ) → NewEntry → Type 0
WasStaged staged f = (x : StagedOf ℕ) × (staged_in f.number staged ≡ Some x) × (x.content ≡ f.key.size)

-- numbers rise from one to the next
abbrev pub NumbersRise : List NewEntry → Type 0
NumbersRise [] = Unit {0}
NumbersRise (f ∷ files) = Each (λ (g : NewEntry). f.number < g.number) files × NumbersRise files

-- a take with that number isn't recorded
abbrev pub IsNewTake : Option ℕ → List ℕ → Type 0
IsNewTake None recorded = Unit {0}
IsNewTake (Some take) recorded = (take ≢ 0) × Each (λ n. n ≢ take) recorded

-- a received request that wasn't answered
abbrev pub IsOpenRequest : {B : Type 0} → Option ℕ → List (ReceiptOf B) → Type 0
IsOpenRequest None inbox = Unit {0}
IsOpenRequest {B} (Some number) inbox =
    (r : ReceiptOf B) × Member r inbox × (r.number ≡ number) × (is_request r.key ≡ true) × (r.answered ≡ false)

-- files that may be queued together, with a take and as the answer to a request
pub record IsNewBatch (taken answered : Option ℕ) (files : List NewEntry) (s : StoreState) : Type 0 where
  pub limits : Each FitsQueue files
  pub staged : Each (WasStaged s.stock.staged) files
  pub rise : NumbersRise files
  pub above : Each (λ (f : NewEntry). Each (λ (e : EntryOf ℕ). e.number < f.number) s.stock.state.queue) files
  pub take : IsNewTake taken s.recorded
  pub request : IsOpenRequest answered s.stock.state.inbox
