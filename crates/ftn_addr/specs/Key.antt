-- What contracts see of a `FileKey`.
use Rattle.std.specs.Prelude.{ℕ, Bool, ◌==◌, ◌&&◌, nat_eq, List}
use Rattle.std.specs.Cmp.Lexicographic.{pointwise}
use Rattle.ftn_addr.specs.declared.addr.FileKey.{FileKey}

-- a key without where its name lies in memory
pub record Key : Type 0 where
  pub name : List ℕ
  pub size : ℕ
  pub time : ℕ

abbrev pub key_of : FileKey → Key
key_of k = record { name = k.name.list; size = k.size; time = k.time }

-- two keys agree in name, size and time
abbrev pub same_key : Key → Key → Bool
same_key a b = pointwise nat_eq a.name b.name && (a.size == b.size && a.time == b.time)
