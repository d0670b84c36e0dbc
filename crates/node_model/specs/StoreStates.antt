-- What a store keeps and tells (own).
use Rattle.std.specs.Prelude.{◌≡◌, ℕ, ◌+◌, ◌-◌, List, ◌++◌, Option, Some, None, length, option_map}
use Rattle.node_model.specs.Items.{Entry, Live, Receipt}
use Rattle.node_model.specs.Lists.{Member}
use Rattle.node_model.specs.Durable.{Durable}
use Rattle.node_model.specs.Node.{Logged, Record}
use Rattle.node_model.specs.Outside.{OutFiles, Gift}
use Rattle.node_model.specs.Rows.{all_by}
use Rattle.node_model.specs.Calls.{Counts}
use Rattle.node_model.specs.Stocks.{Stock, Sizes}

-- what outlives a stop: the durable state, the takes recorded and those that stand by their own names, the files of other
-- programs by their paths, and what was given away
pub record Shelf : Type 0 where
  pub state : Durable
  pub recorded : List ℕ
  pub takes : List ℕ → Option (List ℕ)
  pub outside : OutFiles
  pub gifts : List Gift

-- what a store keeps, where it tells that: what outlives a stop, its stock with all bytes, and the records since it was
-- opened or made
pub record Stored : Type 0 where
  pub stock : Stock
  pub recorded : List ℕ
  pub takes : List ℕ → Option (List ℕ)
  pub outside : OutFiles
  pub gifts : List Gift
  pub log : List Logged

abbrev pub shelf_of : Stored → Shelf
shelf_of s = record { state = s.stock.state; recorded = s.recorded; takes = s.takes; outside = s.outside; gifts = s.gifts }

-- What every store tells: its stock without the bytes and the takes recorded; how many records it has, and the places
-- reserved; the greatest numbers of a staged file and of a part that were drawn; the seat of its next records, how many
-- were appended since it was opened or made, and its counts. Some tell all bytes beside.
pub record StoreState : Type 0 where
  pub content : Option Stored
  pub stock : Sizes
  pub recorded : List ℕ
  pub records : ℕ
  pub reserved : ℕ
  pub staged : ℕ
  pub drawn : ℕ
  pub seat : ℕ
  pub appended : ℕ
  pub last_given : ℕ
  pub counts : Counts

-- the state, the moment, and what a stop at each moment may have left
pub record StoreStand : Type 1 where
  pub state : StoreState
  pub moment : ℕ
  pub images : ℕ → Option Shelf → Type 0

-- a fact of what the store keeps, where it tells that
abbrev pub IfTold : Option Stored → (Stored → Type 0) → Type 0
IfTold None P = Unit {0}
IfTold (Some s) P = P s

-- The same change of the stock, seen with the bytes and without them, and records of that seat behind the log.

abbrev pub stored_after : (Stock → Stock) → ℕ → List Record → Stored → Stored
stored_after f seat rs s = record s { stock = f s.stock; log = s.log ++ all_by seat rs }

abbrev pub changed : (Sizes → Sizes) → (Stock → Stock) → List Record → StoreState → StoreState
changed f g rs s =
    record s { content = option_map (stored_after g s.seat rs) s.content; stock = f s.stock; records = s.records + length rs; appended = s.appended + length rs }

-- a record that uses a reserved place
abbrev pub placed : StoreState → StoreState
placed s = record s { reserved = s.reserved - 1 }

-- the content of a live entry, and of a receipt that has any
pub record Source (number : ℕ) (bytes : List ℕ) (s : Stored) : Type 0 where
  pub entry : Entry
  pub there : Member entry s.stock.state.queue
  pub numbered : entry.number ≡ number
  pub live : entry.body ≡ Live bytes

pub record PartFile (number : ℕ) (bytes : List ℕ) (s : Stored) : Type 0 where
  pub receipt : Receipt
  pub there : Member receipt s.stock.state.inbox
  pub numbered : receipt.number ≡ number
  pub some : receipt.bytes ≡ Some bytes
