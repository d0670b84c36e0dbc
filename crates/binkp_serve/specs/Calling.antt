-- Whom a node that serves may call, and when it last did (own).
use Rattle.std.specs.Prelude.{◌≡◌, ℕ, Bool, List, Option, Some, filter, is_some, map, max, unwrap_or, if◌then◌else◌}
use Rattle.ftn_addr.specs.Address.{Address, address, same_address}
use Rattle.call_hosts.specs.Hosts.{host_at}
use Rattle.call_sched.specs.Tries.{last_try}
use Rattle.call_sched.specs.declared.words.Try.{Try}
use Rattle.call_sched.specs.declared.words.Wanted.{Wanted}
use Rattle.mail_conf.specs.Conf.{ConfText}
use Rattle.node_model.specs.Items.{EntryOf}
use Rattle.node_model.specs.Stocks.{is_live}
use Rattle.node_model.specs.StoreStates.{StoreStand}
use Rattle.node_model.specs.declared.words.Flavour.{Flavour}
use Rattle.nodelist_comp.specs.Node.{ListedNode}

-- a file that waits, without where its address lies in memory
pub record Waits : Type 0 where
  pub dest : Address
  pub flavour : Flavour
  pub callable : Bool

abbrev pub waits : Wanted → Waits
waits item = record { dest = address item.addr; flavour = item.flavour; callable = item.callable }

-- An address may be called where the settings or the index have a host for it.
abbrev pub item_of : ConfText → Option (List ListedNode) → EntryOf ℕ → Waits
item_of conf index e = record { dest = e.dest; flavour = e.flavour; callable = is_some (host_at conf index e.dest) }

-- one item for each entry of a queue that waits to be sent
abbrev pub items_of : ConfText → Option (List ListedNode) → List (EntryOf ℕ) → List Waits
items_of conf index queue = map (item_of conf index) (filter (λ (e : EntryOf ℕ). is_live e.body) queue)

-- what a store has queued
abbrev pub queue_of : StoreStand → List (EntryOf ℕ)
queue_of store = store.state.stock.state.queue

-- the last call of an address, where one more is made
abbrev pub tried_so : Address → ℕ → List Try → Address → Option ℕ
tried_so addr at tries a = if same_address addr a then Some (max at (unwrap_or (last_try tries a) 0)) else last_try tries a

-- one call more was made; the last call of each other address is the same
abbrev pub IsTried : Address → ℕ → List Try → List Try → Type 0
IsTried addr at old new = (a : Address) → last_try new a ≡ tried_so addr at old a
