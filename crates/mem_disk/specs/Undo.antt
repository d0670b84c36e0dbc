-- How a file in memory finds what its last sync left: by taking its changes back, the newest first (own).
use Rattle.std.specs.Prelude.{ℕ, ◌+◌, List, [], ◌∷◌, ◌++◌, take, drop, map}
use Rattle.mem_disk.specs.Kept.{Kept}
use Rattle.mem_disk.specs.declared.file.Change.{Change}

abbrev pub taken_back : Change → List ℕ → List ℕ
taken_back c bytes = take c.at bytes ++ c.old ++ drop (c.at + c.len) bytes

abbrev pub all_taken_back : List Change → List ℕ → List ℕ
all_taken_back [] bytes = bytes
all_taken_back (c ∷ cs) bytes = taken_back c (all_taken_back cs bytes)

abbrev pub range_of : Change → ℕ × ℕ
range_of c = (c.at, c.len)

abbrev pub kept_file : List ℕ → List Change → Kept
kept_file bytes changes = record { written = bytes; synced = all_taken_back changes bytes; ranges = map range_of changes }
