-- Spaces and tabs.
use Rattle.std.specs.Prelude.{ℕ, ◌==◌, Bool, ◌||◌, List, [], ◌∷◌, reverse, if◌then◌else◌}

abbrev pub is_blank : ℕ → Bool
is_blank byte = byte == 32 || byte == 9

-- the bytes from the first on that is no blank
abbrev pub without_front : List ℕ → List ℕ
without_front [] = []
without_front (byte ∷ bytes) = if is_blank byte then without_front bytes else byte ∷ bytes

-- the bytes up to the last that is no blank
abbrev pub without_back : List ℕ → List ℕ
without_back bytes = reverse (without_front (reverse bytes))

-- the bytes without the blanks at their ends
abbrev pub trimmed : List ℕ → List ℕ
trimmed bytes = without_back (without_front bytes)
