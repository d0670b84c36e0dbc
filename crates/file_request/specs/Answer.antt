-- The answer to a request (own).
use Rattle.std.specs.Prelude.{ℕ, ◌-◌, ◌==◌, not, nat_lt, List, [], ◌∷◌, length, take, filter, Option, None, if◌then◌else◌}
use Rattle.std.specs.List.{filter_map}
use Rattle.std.specs.Str.Lines.{lines}
use Rattle.ftn_addr.specs.Word.{words_of}
use Rattle.file_request.specs.Share.{SharedFolder, path_in}

pub record AnswerText : Type 0 where
  pub files : List (List ℕ)
  pub passed : ℕ

-- one word asks for the path that it has, and no other list of words does
abbrev pub asked_word : (List ℕ → Option (List ℕ)) → List (List ℕ) → Option (List ℕ)
asked_word path [] = None
asked_word path (word ∷ []) = path word
asked_word path (word ∷ next ∷ words) = None

-- the path of the file that a line asks for
abbrev pub asked_by : List SharedFolder → List ℕ → Option (List ℕ)
asked_by shares line = asked_word (λ word. path_in word shares) (words_of line)

-- the lines that aren't empty
abbrev pub full_lines : List ℕ → List (List ℕ)
full_lines text = filter (λ line. not (length line == 0)) (lines text)

-- the files that the lines ask for
abbrev pub all_asked : List SharedFolder → List ℕ → List (List ℕ)
all_asked shares text = filter_map (asked_by shares) (full_lines text)

-- the first 64 of them; the other full lines are passed
unfoldable pub answer_short : List SharedFolder → List ℕ → AnswerText
answer_short shares text =
    let files = take 64 (all_asked shares text) in record { files = files; passed = length (full_lines text) - length files }

-- what a text gets; over 65536 bytes it asks for nothing
abbrev pub answer_of : List SharedFolder → List ℕ → AnswerText
answer_of shares text = if nat_lt 65536 (length text) then record { files = []; passed = 0 } else answer_short shares text
