-- Words that are compared with the case of letters ignored.
use Rattle.std.specs.Prelude.{ℕ, Bool, nat_eq, List, map}
use Rattle.std.specs.Char.{to_ascii_lowercase}
use Rattle.std.specs.Cmp.Lexicographic.{pointwise}

-- two words differ in nothing but the case of ASCII letters
abbrev pub same_word : List ℕ → List ℕ → Bool
same_word a b = pointwise nat_eq (map to_ascii_lowercase a) (map to_ascii_lowercase b)
