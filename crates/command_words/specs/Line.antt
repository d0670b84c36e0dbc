-- Plain words, split into a command and what stands behind it.
use Rattle.std.specs.Prelude.{◌≡◌, ℕ, List, [], ◌∷◌, Option, Some, None, codes, length, option_map}
use Rattle.clap.specs.Words.{first_value, found_of, matched_of, raw_values}
use Rattle.clap.specs.declared.parser.matches.ArgMatches.{ArgMatches}
use Rattle.command_words.specs.declared.line.Line.{Line}

abbrev pub values_of : List (List ℕ) → Option (List (List ℕ))
values_of [] = None
values_of (word ∷ rest) = Some (word ∷ rest)

-- `clap` found the first word as the command, and those behind it, if there are any, as the values
pub record IsSplitOf (words : List (List ℕ)) (found : ArgMatches) : Type 0 where
  pub word : List ℕ
  pub rest : List (List ℕ)
  pub words-are : words ≡ word ∷ rest
  pub command : first_value (found_of found) (codes "command") ≡ Some word
  pub values : option_map raw_values (matched_of (found_of found) (codes "values")) ≡ values_of rest

-- the line has the first word as its command, and counts those behind it
pub record IsLineOf (words : List (List ℕ)) (line : Line) : Type 0 where
  pub rest : List (List ℕ)
  pub words-are : words ≡ line.command.now ∷ rest
  pub count : line.values ≡ length rest
