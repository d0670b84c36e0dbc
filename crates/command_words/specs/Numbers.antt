-- Words that are numbers (own).
use Rattle.std.specs.Prelude.{◌≡◌, ◌≤◌, ℕ, List, true}
use Rattle.ftn_addr.specs.Digits.{is_numeral, number_of}

-- a word of digits alone spells that number, which is within these bounds
pub record SpellsWithin (low high : ℕ) (word : List ℕ) (number : ℕ) : Type 0 where
  pub digits : is_numeral word ≡ true
  pub spells : number_of word ≡ number
  pub from_low : low ≤ number
  pub to_high : number ≤ high
