-- The words of a line.
use Rattle.std.specs.Prelude.{ℕ, ◌==◌, not, List, [], length, take, drop, filter, position, Option, Some, None}
use Rattle.std.specs.List.{slice_split}
use Rattle.ftn_addr.specs.Blanks.{is_blank, without_front}

-- what stands between runs of blanks
abbrev pub words_of : List ℕ → List (List ℕ)
words_of line = filter (λ word. not (length word == 0)) (slice_split is_blank line)

abbrev pub split_before : List ℕ → Option ℕ → List ℕ × List ℕ
split_before bytes None = (bytes, [])
split_before bytes (Some i) = (take i bytes, drop i bytes)

-- the first word, which is empty where there is none, and what stands behind it
abbrev pub first_word : List ℕ → List ℕ × List ℕ
first_word line = split_before (without_front line) (position is_blank (without_front line))
