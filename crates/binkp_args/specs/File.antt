-- A file's name, size, time and offset as words (FTS-1026, M_FILE, M_GOT, M_GET and M_SKIP).
use Rattle.std.specs.Prelude.{ℕ, ◌-◌, nat_lt, List, length, slice_get, Option, Some, None, Result, Ok, Err, if◌then◌else◌}
use Rattle.ftn_addr.specs.Digits.{saturated_number}
use Rattle.ftn_addr.specs.Key.{Key}
use Rattle.ftn_addr.specs.declared.limits.TheConstants.{MAX_NAME, MAX_SIZE}
use Rattle.binkp_args.specs.Escape.{unescaped}
use Rattle.ftn_addr.specs.Outcomes.{◌>>=◌}
use Rattle.binkp_args.specs.declared.fault.ArgFault.{ArgFault}
use Rattle.binkp_args.specs.declared.fault.ArgFault.TheVariants.{MissingWord, BadNumber, LongName, TooLarge, PastEnd}

abbrev pub or_missing : ℕ → Option (List ℕ) → Result (List ℕ) ArgFault
or_missing n None = Err (MissingWord n)
or_missing n (Some word) = Ok word

-- the nth word, counted from 1
unfoldable pub word_at : ℕ → List (List ℕ) → Result (List ℕ) ArgFault
word_at n words = or_missing n (slice_get words (n - 1))

-- a number of at most 63 bits
abbrev pub or_bad : ℕ → Option ℕ → Result ℕ ArgFault
or_bad n None = Err (BadNumber n)
or_bad n (Some number) = if nat_lt 9223372036854775807 number then Err (BadNumber n) else Ok number

unfoldable pub number_at : ℕ → List (List ℕ) → Result ℕ ArgFault
number_at n words = do
  digits ← word_at n words
  or_bad n (saturated_number digits)

-- the first word, as a name of at most 200 bytes
unfoldable pub name_of : List (List ℕ) → Result (List ℕ) ArgFault
name_of words = do
  word ← word_at 1 words
  if nat_lt MAX_NAME (length (unescaped word)) then Err LongName else Ok (unescaped word)

-- the name, the size and the time
unfoldable pub key_words : List (List ℕ) → Result Key ArgFault
key_words words = do
  name ← name_of words
  size ← number_at 2 words
  time ← number_at 3 words
  Ok (record { name = name; size = size; time = time })

-- the fourth word, or 0 where it is missing
unfoldable pub offset_or_0 : List (List ℕ) → Result ℕ ArgFault
offset_or_0 words = if nat_lt 3 (length words) then number_at 4 words else Ok 0

-- a file of at most 2147483647 bytes
unfoldable pub not_large : Key → Result Key ArgFault
not_large key = if nat_lt MAX_SIZE key.size then Err TooLarge else Ok key

-- a place in a file: at its end at the most
unfoldable pub place_in : Key → ℕ → Result (Key × ℕ) ArgFault
place_in key offset = do
  file ← not_large key
  if nat_lt file.size offset then Err PastEnd else Ok (file, offset)

-- M_GOT and M_SKIP
unfoldable pub file_of : List (List ℕ) → Result Key ArgFault
file_of words = do
  key ← key_words words
  not_large key

-- M_FILE, whose offset may be missing
unfoldable pub offered_of : List (List ℕ) → Result (Key × ℕ) ArgFault
offered_of words = do
  key ← key_words words
  offset ← offset_or_0 words
  place_in key offset

-- M_GET
unfoldable pub wanted_of : List (List ℕ) → Result (Key × ℕ) ArgFault
wanted_of words = do
  key ← key_words words
  offset ← number_at 4 words
  place_in key offset
