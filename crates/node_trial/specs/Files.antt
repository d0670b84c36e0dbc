-- The files of a trial, as they are drawn (own).
use Rattle.std.specs.Prelude.{ℕ, zero, suc, ◌+◌, ◌%◌, nat_eq, List, [], ◌∷◌, ◌++◌, map, length, sum_by, codes, if◌then◌else◌}
use Rattle.std.specs.Int.{to_be_bytes, w32}
use Rattle.hex.specs.Hex.{encode_lower}
use Rattle.node_trial.specs.Draws.{drawn, draws, next, behind}
use Rattle.node_trial.specs.declared.file.Sender.{Sender}
use Rattle.node_trial.specs.declared.file.Sender.TheVariants.{First, Second}
use Rattle.node_trial.specs.declared.file.TrialFile.{TrialFile}

pub record File : Type 0 where
  pub name : List ℕ
  pub bytes : List ℕ
  pub time : ℕ
  pub sender : Sender

-- `f`, the number in eight hexadecimal digits, and `.dat`
abbrev pub name_of : ℕ → List ℕ
name_of number = codes "f" ++ encode_lower (to_be_bytes w32 number) ++ codes ".dat"

-- odd numbers are sent by the first node, and even ones by the second
abbrev pub sender_of : ℕ → Sender
sender_of number = if nat_eq (number % 2) 1 then First else Second

-- The file of that number: its size is drawn, below 10,000, and then each of its bytes.
abbrev pub file_at : ℕ → ℕ → File
file_at number x =
    record { name = name_of number; bytes = map (λ d. d % 256) (draws (drawn x % 10000) (next x)); time = 1000000000 + number; sender = sender_of number }

-- the generator's state behind a file
abbrev pub behind_file : ℕ → ℕ
behind_file x = behind (drawn x % 10000) (next x)

-- so many files, from that number on
abbrev pub files_from : ℕ → ℕ → ℕ → List File
files_from zero number x = []
files_from (suc n) number x = file_at number x ∷ files_from n (number + 1) (behind_file x)

-- the files of a trial
abbrev pub trial_files : (count start : ℕ) → List File
trial_files count start = files_from count 1 start

-- the sizes of files together
abbrev pub bytes_in : List File → ℕ
bytes_in files = sum_by (λ (f : File). length f.bytes) files

-- a file of the code, without where it lies in memory
abbrev pub file_text : TrialFile → File
file_text f = record { name = f.key.name.list; bytes = f.bytes.list; time = f.key.time; sender = f.sender }
