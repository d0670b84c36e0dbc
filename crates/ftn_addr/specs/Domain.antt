-- The domain of an address (FTS-5005).
use Rattle.std.specs.Prelude.{ℕ, ◌==◌, Bool, ◌&&◌, ◌||◌, nat_lt, nat_le, List, length}
use Rattle.std.specs.Char.{is_ascii_alphanumeric}
use Rattle.std.specs.List.{list_all}
use Rattle.ftn_addr.specs.declared.limits.TheConstants.{MAX_DOMAIN}

abbrev pub domain_byte : ℕ → Bool
domain_byte byte = is_ascii_alphanumeric byte || byte == 45 || byte == 95 || byte == 46

-- 1 to 32 letters, digits, `-`, `_` and `.`
abbrev pub is_domain : List ℕ → Bool
is_domain bytes = nat_lt 0 (length bytes) && nat_le (length bytes) MAX_DOMAIN && list_all domain_byte bytes
