-- Files that are queued together: what their records say, and where each stands (own).
use Rattle.std.specs.Prelude.{◌≡◌, ◌⊎◌, ℕ, List, [], ◌∷◌, ◌++◌, Option, Some, None, find, length, map, replicate}
use Rattle.std.specs.List.{AllByRecursion}
use Rattle.disk_model.specs.World.{World}
use Rattle.disk_model.specs.Changes.{Only, Stands}
use Rattle.file_index.specs.Filed.{Files}
use Rattle.file_index.specs.declared.files.FileIndex.{FileIndex}
use Rattle.ftn_addr.specs.Address.{Address}
use Rattle.ftn_addr.specs.Files.{is_same}
use Rattle.ftn_addr.specs.Key.{Key}
use Rattle.ledger_file.specs.Ledger.{ledger_name, LedgerIs}
use Rattle.ledger_rec.specs.Fold.{new_entry, fold_all}
use Rattle.ledger_rec.specs.Indexed.{is_queued}
use Rattle.ledger_rec.specs.Items.{Entry}
use Rattle.ledger_rec.specs.Record.{NewFileText, RecordText}
use Rattle.node_model.specs.SendRows.{Slot, New, Again}
use Rattle.node_model.specs.Stocks.{NewEntry}
use Rattle.node_store.specs.Books.{Books}
use Rattle.node_store.specs.Logs.{action_number, flavour_number}
use Rattle.node_store.specs.Names.{out_name}
use Rattle.node_store.specs.Recording.{IsSynced}

-- the record of a file that is queued
abbrev pub new_text : NewEntry → NewFileText
new_text f = record { number = f.number; dest = f.dest; key = f.key; source = f.source; action = action_number f.action; flavour = flavour_number f.flavour }

-- the entry of that address and key
abbrev pub queued_in : Address → Key → List Entry → Option Entry
queued_in dest key queue = find (λ (e : Entry). is_same dest key e.dest e.key) queue

-- One file more, unless its address has that key already.

abbrev pub queue_with : NewEntry → Option Entry → List Entry → List Entry
queue_with f (Some e) queue = queue
queue_with f None queue = queue ++ new_entry (new_text f) ∷ []

abbrev pub fresh_with : NewEntry → Option Entry → List NewFileText
fresh_with f (Some e) = []
fresh_with f None = new_text f ∷ []

abbrev pub slot_with : NewEntry → Option Entry → Slot
slot_with f (Some e) = Again e.number
slot_with f None = New f.number

-- how each file is queued
abbrev pub slots_in : List NewEntry → List Entry → List Slot
slots_in [] queue = []
slots_in (f ∷ files) queue =
    slot_with f (queued_in f.dest f.key queue) ∷ slots_in files (queue_with f (queued_in f.dest f.key queue) queue)

-- the records of those that are new
abbrev pub fresh_in : List NewEntry → List Entry → List NewFileText
fresh_in [] queue = []
fresh_in (f ∷ files) queue =
    fresh_with f (queued_in f.dest f.key queue) ++ fresh_in files (queue_with f (queued_in f.dest f.key queue) queue)

-- an index has exactly the files that are new
abbrev pub HasFiles : FileIndex → List NewFileText → Type 0
HasFiles index files = Files index (λ dest key. is_queued dest key (map new_entry files))

-- Files that are made durable before their records.

abbrev pub AllStand : List NewFileText → World → Type 0
AllStand files w = AllByRecursion (λ (f : NewFileText). Stands (out_name f.number) 0 w) files

-- each is as it was read
abbrev pub AllSynced : (World → Type 0) → List NewFileText → World → Type 0
AllSynced read files c = AllByRecursion (λ (f : NewFileText). IsSynced read (out_name f.number) c) files

-- What a stop may leave: nothing but the ledger changed. It has the old payloads; or it has the new ones too, and then P holds.
pub record Adds (P : World → Type 0) (old more : List (List ℕ)) (d c : World) : Type 0 where
  pub others : Only ledger_name d c
  pub ledger : LedgerIs old c ⊎ (LedgerIs (old ++ more) c × P c)

-- Some records more: their payloads stand behind the others, they are folded, and the seat of each is noted.
pub record IsBatched (more : List (List ℕ)) (rs : List RecordText) (seat : ℕ) (old new : Books) : Type 0 where
  pub payloads : new.payloads ≡ old.payloads ++ more
  pub places : new.reserved ≡ old.reserved
  pub opened : new.opened ≡ old.opened
  pub seats : new.seats ≡ old.seats ++ replicate (length more) seat
  pub folded : fold_all old.folding.state rs ≡ Some new.folding.state
  pub holds : new.folding.holds ≡ old.folding.holds
