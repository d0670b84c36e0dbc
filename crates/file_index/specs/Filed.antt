-- Which files of which addresses an index has (own).
use Rattle.std.specs.Prelude.{◌≡◌, Bool, true, false, List, Option, Some, None}
use Rattle.std.specs.BTreeSet.{BTreeSet}
use Rattle.std.specs.List.{list_any}
use Rattle.std.specs.Map.{lookup}
use Rattle.ftn_addr.specs.Address.{Address, address, same_address}
use Rattle.ftn_addr.specs.Key.{Key, key_of, same_key}
use Rattle.ftn_addr.specs.declared.addr.Addr.{Addr}
use Rattle.ftn_addr.specs.declared.addr.FileKey.{FileKey}
use Rattle.file_index.specs.declared.files.FileIndex.{FileIndex}

abbrev pub has_address : Option (BTreeSet Addr) → Address → Bool
has_address None from = false
has_address (Some addresses) from = list_any (λ a. same_address from (address a)) addresses.keys

-- the address is among those of the key
abbrev pub has : List (FileKey × BTreeSet Addr) → Address → Key → Bool
has entries from key = has_address (lookup (λ k. same_key key (key_of k)) entries) from

-- while it is whole, the index has exactly the files of which this is true
abbrev pub Files : FileIndex → (Address → Key → Bool) → Type 0
Files index p = index.whole ≡ true → (from : Address) (key : Key) → has index.senders.entries from key ≡ p from key
