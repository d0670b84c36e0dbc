-- A file of a sender, or for a receiver: an address and a key together (own).
use Rattle.std.specs.Prelude.{Bool, ◌&&◌}
use Rattle.ftn_addr.specs.Address.{Address, same_address}
use Rattle.ftn_addr.specs.Key.{Key, same_key}

-- the same sender, or receiver, and the same key
abbrev pub is_same : Address → Key → Address → Key → Bool
is_same from key a k = same_address from a && same_key key k
