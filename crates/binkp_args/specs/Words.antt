-- The words of an argument (FTS-1026).
use Rattle.std.specs.Prelude.{ℕ, ◌-◌, ◌==◌, Bool, ◌&&◌, not, nat_lt, List, length, take, filter, slice_index, if◌then◌else◌}
use Rattle.std.specs.List.{slice_split, join_with_byte}

-- the last byte is a 0
abbrev pub ends_in_zero : List ℕ → Bool
ends_in_zero args = nat_lt 0 (length args) && slice_index args (length args - 1) == 0

-- One byte 0 at the end of an argument is dropped (own).
abbrev pub without_end : List ℕ → List ℕ
without_end args = if ends_in_zero args then take (length args - 1) args else args

-- what stands between runs of spaces
abbrev pub words_of : List ℕ → List (List ℕ)
words_of text = filter (λ word. not (length word == 0)) (slice_split (λ byte. byte == 32) text)

-- words with one space between them
abbrev pub spaced : List (List ℕ) → List ℕ
spaced words = join_with_byte 32 words
