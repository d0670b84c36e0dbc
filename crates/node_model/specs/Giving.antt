-- What a store does with files of other programs: copies of them, sources that are acted on, and received files that are
-- given (own).
use Rattle.std.specs.Prelude.{◌≡◌, ℕ, ◌+◌, ◌≤◌, ◌<◌, List, [], ◌∷◌, ◌++◌, Some, length, option_map}
use Rattle.ftn_addr.specs.Address.{Address}
use Rattle.node_model.specs.declared.words.TheConstants.{MOST_RECORDS}
use Rattle.ftn_addr.specs.declared.limits.TheConstants.{MAX_SIZE}
use Rattle.node_model.specs.declared.store.OutStat.{OutStat}
use Rattle.node_model.specs.Items.{EntryOf, ReceiptOf}
use Rattle.node_model.specs.Durable.{with_acted, with_given}
use Rattle.node_model.specs.Node.{Acted_record}
use Rattle.node_model.specs.Outside.{OutFile, Gift, put_at, path_in, source_acted, inbound_for, BothInUse, GivenAs}
use Rattle.node_model.specs.SendRows.{NextActed, NextGiven}
use Rattle.node_model.specs.Stocks.{on_state}
use Rattle.node_model.specs.StoreStates.{Stored, StoreState, IfTold, changed, PartFile}

-- the file of another program that a copy was made of: not over the limit, of that size and time
pub record IsCopied (path : List ℕ) (stat : OutStat) (bytes : List ℕ) (s : StoreState) : Type 0 where
  pub size : stat.size ≡ length bytes
  pub within : length bytes ≤ MAX_SIZE
  pub there : IfTold s.content (λ a. a.outside path ≡ Some (record { bytes = bytes; time = stat.time }))

-- it has more bytes than a file may have
pub record IsOver (path : List ℕ) (s : Stored) : Type 0 where
  pub file : OutFile
  pub there : s.outside path ≡ Some file
  pub over : MAX_SIZE < length file.bytes

-- a received file as it is given: under a name that was free
pub record IsGift (r : ReceiptOf ℕ) (folder : List ℕ) (g : Gift) (s : Stored) : Type 0 where
  pub content : PartFile r.number g.bytes s
  pub name : GivenAs folder r.number r.key.name s.outside g.name

-- it is a file of another program from then on, of some time
abbrev pub gift_made : Gift → ℕ → Stored → Stored
gift_made g time s =
    record s { outside = put_at (path_in g.folder g.name) (Some (record { bytes = g.bytes; time = time })) s.outside; gifts = s.gifts ++ g ∷ [] }

abbrev pub given : Gift → ℕ → StoreState → StoreState
given g time s =
    let new = changed (on_state (with_given g.receipt)) (on_state (with_given g.receipt)) [] s in
    record new { content = option_map (gift_made g time) new.content; last_given = g.receipt }

-- the source of an entry is acted on, where that is told
abbrev pub source_stored : EntryOf ℕ → ℕ → Stored → Stored
source_stored e time s = record s { outside = source_acted e time s.outside }

abbrev pub with_source_acted : EntryOf ℕ → ℕ → StoreState → StoreState
with_source_acted e time s = record s { content = option_map (source_stored e time) s.content }

-- then the entry is recorded as acted on
abbrev pub acted : EntryOf ℕ → ℕ → StoreState → StoreState
acted e time s =
    changed (on_state (with_acted e.number)) (on_state (with_acted e.number)) (Acted_record e.number ∷ []) (with_source_acted e time s)

-- what giving the next received file does
pub record GivesNext (inbound nonsecure : List ℕ) (number : ℕ) (old new : StoreState) : Type 0 where
  pub next : NextGiven number old.last_given old.stock.state.inbox
  pub gift : Gift
  pub time : ℕ
  pub receipt : gift.receipt ≡ number
  pub folder : gift.folder ≡ inbound_for next.receipt.secure inbound nonsecure
  pub told : IfTold old.content (IsGift next.receipt gift.folder gift)
  pub after : new ≡ given gift time old

-- both its names are in use: it stays, and the one behind it is next
pub record HoldsNext (inbound nonsecure : List ℕ) (number : ℕ) (old new : StoreState) : Type 0 where
  pub next : NextGiven number old.last_given old.stock.state.inbox
  pub told : IfTold old.content (λ s. BothInUse (inbound_for next.receipt.secure inbound nonsecure) number next.receipt.key.name s.outside)
  pub after : new ≡ record old { last_given = number }

-- what acting on the next source of an address does
pub record ActsNext (dest : Address) (number : ℕ) (old new : StoreState) : Type 0 where
  pub next : NextActed dest number old.stock.state.queue
  pub room : old.records + old.reserved + 1 ≤ MOST_RECORDS
  pub time : ℕ
  pub after : new ≡ acted next.entry time old
