-- The names of own files: 1 to 64 bytes of a-z, 0-9, '.' and '-' (own).
use Rattle.std.specs.Prelude.{◌≡◌, ℕ, ◌-◌, Bool, true, nat_le, nat_eq, ◌&&◌, ◌||◌, List, ◌++◌, length, take, replicate}
use Rattle.std.specs.List.{list_all}

abbrev pub is_name_byte : ℕ → Bool
is_name_byte b = (nat_le 97 b && nat_le b 122) || (nat_le 48 b && nat_le b 57) || nat_eq b 46 || nat_eq b 45

abbrev pub is_name : List ℕ → Bool
is_name bytes = nat_le 1 (length bytes) && nat_le (length bytes) 64 && list_all is_name_byte bytes

-- a name as it is kept: filled with zeros to 64 bytes
abbrev pub padded : List ℕ → List ℕ
padded name = name ++ replicate (64 - length name) 0

pub record IsKept (len : ℕ) (bytes : List ℕ) : Type 0 where
  pub within : length (take len bytes) ≡ len
  pub short : nat_le len 64 ≡ true
  pub filled : bytes ≡ padded (take len bytes)
  pub valid : is_name (take len bytes) ≡ true
