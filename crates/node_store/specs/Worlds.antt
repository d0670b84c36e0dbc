-- What an opening makes of a world: the fold of its ledger, with the bytes of its own files and of what was given (own).
use Rattle.std.specs.Prelude.{◌≡◌, ◌⊎◌, ℕ, ◌==◌, ◌≤◌, Bool, true, false, ◌&&◌, List, [], ◌∷◌, length, take, drop, map, Option, Some, None, option_map, unwrap_or, if◌then◌else◌}
use Rattle.std.specs.List.{AllByRecursion}
use Rattle.std.specs.Str.{bytes_eq}
use Rattle.disk_model.specs.World as W
use Rattle.disk_model.specs.World.{World}
use Rattle.ledger_file.specs.Ledger.{ledger_name, LedgerIs}
use Rattle.ledger_rec.specs.Fold.{State}
use Rattle.ledger_rec.specs.Items.{Entry, Receipt, PartMark}
use Rattle.ledger_rec.specs.Payloads.{fold_of}
use Rattle.node_model.specs.Durable.{Durable}
use Rattle.node_model.specs.Lists.{Member}
use Rattle.node_model.specs.Outside.{OutFile, OutFiles, Gift}
use Rattle.node_model.specs.StoreStates.{Shelf}
use Rattle.node_store.specs.Contents.{Contents, durable_by}
use Rattle.node_store.specs.Names.{hex_value, in_name, out_name, take_number}

-- The bytes of files.

-- the bytes of a file, none where it doesn't stand
abbrev pub bytes_of : Option (List ℕ) → List ℕ
bytes_of None = []
bytes_of (Some bytes) = bytes

abbrev pub or_else : {A : Type 0} → Option A → Option A → Option A
or_else (Some a) other = Some a
or_else None other = other

-- the bytes of the last gift that had that own name and that size
abbrev pub gift_of : List ℕ → ℕ → List W.Gift → Option (List ℕ)
gift_of own size [] = None
gift_of own size (g ∷ gs) =
    or_else (gift_of own size gs) (if bytes_eq g.own own && length g.bytes == size then Some g.bytes else None)

abbrev pub is_absent : Option (List ℕ) → Bool
is_absent None = true
is_absent (Some bytes) = false

-- A live entry has its `out.` file, a mark the front of its `in.` file. A receipt has its `in.` file where that stands, else
-- the last gift of that name and size; it is given where that file doesn't stand.
abbrev pub contents_in : World → Contents (List ℕ)
contents_in w =
    record { queued = λ number size. bytes_of (w.own (out_name number)); received = λ number size. or_else (w.own (in_name number)) (gift_of (in_name number) size w.gifts); front = λ number len. take len (bytes_of (w.own (in_name number))); given = λ number. is_absent (w.own (in_name number)) }

-- the durable state of a world whose ledger leaves that fold
abbrev pub durable_in : World → State → Durable
durable_in w s = durable_by (contents_in w) s

-- What else outlives a stop.

abbrev pub out_file_of : W.OutFile → OutFile
out_file_of f = record { bytes = f.bytes; time = f.time }

abbrev pub outside_in : World → OutFiles
outside_in w = λ path. option_map out_file_of (w.outside path)

-- the number of the receipt whose own file had that name
abbrev pub receipt_named : List ℕ → ℕ
receipt_named own = unwrap_or (hex_value (drop 3 own)) 0

abbrev pub gift_told : W.Gift → Gift
gift_told g = record { receipt = receipt_named g.own; folder = g.folder; name = g.name; bytes = g.bytes }

abbrev pub if_take : Option ℕ → Option (List ℕ) → Option (List ℕ)
if_take None file = None
if_take (Some take) file = file

-- the takes that stand, by their own names
abbrev pub takes_in : World → List ℕ → Option (List ℕ)
takes_in w = λ name. if_take (take_number name) (w.own name)

-- what outlives a stop, of a world whose ledger leaves that fold
abbrev pub shelf_in : World → State → Shelf
shelf_in w s =
    record { state = durable_in w s; recorded = s.takes; takes = takes_in w; outside = outside_in w; gifts = map gift_told w.gifts }

-- Which files an opening refuses.

-- the own file of that name has so many bytes
abbrev pub HasLength : List ℕ → ℕ → World → Type 0
HasLength name n w = (bytes : List ℕ) × (w.own name ≡ Some bytes) × (length bytes ≡ n)

-- and at least so many
abbrev pub HasFront : List ℕ → ℕ → World → Type 0
HasFront name n w = (bytes : List ℕ) × (w.own name ≡ Some bytes) × (n ≤ length bytes)

-- where a file of that name stands, it has so many bytes
abbrev pub HasNoOther : List ℕ → ℕ → World → Type 0
HasNoOther name n w = (bytes : List ℕ) → w.own name ≡ Some bytes → length bytes ≡ n

-- The file of each live entry has the size of its key, that of each mark is as long as the mark, and where that of a receipt
-- stands it has the size of its key.
pub record HasFiles (s : State) (w : World) : Type 0 where
  pub live : AllByRecursion (λ (e : Entry). e.live ≡ true → HasLength (out_name e.number) e.key.size w) s.queue
  pub marked : AllByRecursion (λ (m : PartMark). HasFront (in_name m.number) m.len w) s.marks
  pub received : AllByRecursion (λ (r : Receipt). HasNoOther (in_name r.number) r.key.size w) s.inbox

-- the file of that name is bad
pub data IsBadFile (s : State) (w : World) (name : List ℕ) : Type 0 where
  Of_entry : (e : Entry) → Member e s.queue → e.live ≡ true → name ≡ out_name e.number → (HasLength name e.key.size w → ⊥) → IsBadFile s w name
  Of_mark : (m : PartMark) → Member m s.marks → name ≡ in_name m.number → (HasFront name m.len w → ⊥) → IsBadFile s w name
  Of_receipt : (r : Receipt) → Member r s.inbox → name ≡ in_name r.number → (HasNoOther name r.key.size w → ⊥) → IsBadFile s w name

-- Opening.

-- the ledger of this world has these payloads; where none stands, an opening makes one without payloads
abbrev pub LedgerOf : List (List ℕ) → World → Type 0
LedgerOf payloads w = LedgerIs payloads w ⊎ ((w.own ledger_name ≡ None) × (payloads ≡ []))

-- an opening of this world finds that on the shelf
pub record OpensAs (w : World) (shelf : Shelf) : Type 0 where
  pub payloads : List (List ℕ)
  pub ledger : LedgerOf payloads w
  pub state : State
  pub folds : fold_of payloads ≡ Some state
  pub files : HasFiles state w
  pub is : shelf ≡ shelf_in w state

-- what an opening of this world finds, if anything
abbrev pub Opens : World → Option Shelf → Type 0
Opens w None = (shelf : Shelf) → OpensAs w shelf → ⊥
Opens w (Some shelf) = OpensAs w shelf
