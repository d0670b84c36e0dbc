-- The image of a stop that a number picks, and how many numbers pick one (own).
use Rattle.std.specs.Prelude.{ℕ, ◌+◌, ◌-◌, ◌/◌, ◌%◌, ◌^◌, nat_lt, List, [], ◌∷◌, Option, Some, None, option_map, unwrap_or, cond, count_by, if◌then◌else◌}
use Rattle.std.specs.Map.{values_of}
use Rattle.mem_disk.specs.Kept.{Kept, settled, is_changed, chosen}
use Rattle.mem_disk.specs.Holding.{Holding, is_named, under, play}
use Rattle.mem_disk.specs.declared.call.Call.{Call}
use Rattle.mem_disk.specs.declared.call.Call.TheVariants.{Nothing, Wrote, Shortened, Synced, Created, Removed, Renamed, Placed, PutOut, LostOut, Moved, Copied, Given}

-- the files with unsynced changes, in the order of their names, each take the next digit of the pick in base 4
abbrev pub digit_for : ℕ → Kept → ℕ
digit_for pick file = if is_changed file then pick % 4 else 0

abbrev pub rest_for : ℕ → Kept → ℕ
rest_for pick file = if is_changed file then pick / 4 else pick

abbrev pub digit_of : ℕ → List (List ℕ × Kept) → List ℕ → ℕ
digit_of pick [] name = 0
digit_of pick (e ∷ es) name = if is_named name e.0 then digit_for pick e.1 else digit_of (rest_for pick e.1) es name

abbrev pub stopped_files : ℕ → List (List ℕ × Kept) → List (List ℕ × Kept)
stopped_files pick [] = []
stopped_files pick (e ∷ es) = (e.0, settled (chosen (digit_for pick e.1) e.1)) ∷ stopped_files (rest_for pick e.1) es

-- the first where there is one, else the second
abbrev pub either : {X : Type 0} → Option X → Option X → Option X
either None b = b
either (Some a) b = Some a

-- how many files have unsynced changes
abbrev pub changed_in : List (List ℕ × Kept) → ℕ
changed_in files = count_by is_changed (values_of files)

-- how many numbers pick an image where so many files take a digit, up to the greatest number of 64 bits
abbrev pub picks_of : ℕ → ℕ
picks_of n = if nat_lt 31 n then 2 ^ 64 - 1 else 4 ^ n

-- the same count after each call of a log
abbrev pub counts_along : Holding → List Call → List ℕ
counts_along h [] = []
counts_along h (x ∷ xs) = changed_in (play x h).own ∷ counts_along (play x h) xs

-- how many files with unsynced changes stand under a name, and under the own names of a call
abbrev pub changed_at : List ℕ → List (List ℕ × Kept) → ℕ
changed_at name files = unwrap_or (option_map (λ f. cond (is_changed f) 1 0) (under name files)) 0

abbrev pub touched : Call → List (List ℕ × Kept) → ℕ
touched Nothing files = 0
touched (Wrote name at bytes) files = changed_at name files
touched (Shortened name len) files = changed_at name files
touched (Synced name) files = changed_at name files
touched (Created name) files = changed_at name files
touched (Removed name) files = changed_at name files
touched (Renamed from to) files = if is_named from to then changed_at from files else changed_at from files + changed_at to files
touched (Placed path bytes time) files = 0
touched (PutOut path bytes time) files = 0
touched (LostOut path) files = 0
touched (Moved path name) files = changed_at name files
touched (Copied name bytes) files = changed_at name files
touched (Given own folder name path) files = changed_at own files
