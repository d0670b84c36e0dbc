-- What a disk in memory keeps, and how its calls change it (own).
use Rattle.std.specs.Prelude.{ℕ, ◌-◌, ◌/◌, nat_eq, count_by, length, take, List, [], ◌∷◌, ◌++◌, Option, Some, None, option_map, Bool, true, false, not, map, if◌then◌else◌}
use Rattle.std.specs.List.{filter}
use Rattle.std.specs.Map.{lookup, set_value}
use Rattle.std.specs.BTreeMap.{is_at, insert_entry}
use Rattle.std.specs.Ordering.{nat_cmp}
use Rattle.std.specs.Cmp.Lexicographic.{slice_cmp}
use Rattle.disk_model.specs.World.{OutFile, Gift, World}
use Rattle.mem_disk.specs.Kept.{Kept, settled, unsynced, written_over, shortened, made_durable, chosen}
use Rattle.mem_disk.specs.declared.call.Call.{Call}
use Rattle.mem_disk.specs.declared.call.Call.TheVariants.{Nothing, Wrote, Shortened, Synced, Created, Removed, Renamed, Placed, PutOut, LostOut, Moved, Copied, Given}

-- the own files and the outside files in the order of their names, and the gifts
pub record Holding : Type 0 where
  pub own : List (List ℕ × Kept)
  pub outside : List (List ℕ × OutFile)
  pub gifts : List Gift

abbrev pub empty : Holding
empty = record { own = []; outside = []; gifts = [] }

abbrev pub is_named : List ℕ → List ℕ → Bool
is_named name = is_at (slice_cmp nat_cmp name)

-- what stands under a name
abbrev pub under : {X : Type 0} → List ℕ → List (List ℕ × X) → Option X
under name files = lookup (is_at (slice_cmp nat_cmp name)) files

-- the files with one under the name, with none under it, and with a change of the one that stands there
abbrev pub adding : {X : Type 0} → List ℕ → X → List (List ℕ × X) → List (List ℕ × X)
adding name file files = insert_entry (slice_cmp nat_cmp) files name file

abbrev pub without : {X : Type 0} → List ℕ → List (List ℕ × X) → List (List ℕ × X)
without name files = filter (λ e. not (is_at (slice_cmp nat_cmp name) e.0)) files

abbrev pub amend : {X : Type 0} → Option X → List ℕ → (X → X) → List (List ℕ × X) → List (List ℕ × X)
amend None name how files = files
amend (Some file) name how files = set_value (is_at (slice_cmp nat_cmp name)) files (how file)

abbrev pub amending : {X : Type 0} → List ℕ → (X → X) → List (List ℕ × X) → List (List ℕ × X)
amending name how files = amend (under name files) name how files

abbrev pub with_own : List (List ℕ × Kept) → Holding → Holding
with_own own h = record { own = own; outside = h.outside; gifts = h.gifts }

abbrev pub with_outside : List (List ℕ × OutFile) → Holding → Holding
with_outside outside h = record { own = h.own; outside = outside; gifts = h.gifts }

abbrev pub renamed : Option Kept → List ℕ → List ℕ → Holding → Holding
renamed None from to h = h
renamed (Some file) from to h = if is_named from to then h else with_own (without from (adding to file h.own)) h

abbrev pub moved : Option OutFile → List ℕ → List ℕ → Holding → Holding
moved None path name h = h
moved (Some file) path name h = record { own = adding name (settled file.bytes) h.own; outside = without path h.outside; gifts = h.gifts }

abbrev pub given : Option Kept → List ℕ → List ℕ → List ℕ → List ℕ → Holding → Holding
given None own folder name path h = h
given (Some file) own folder name path h = record {
  own = without own h.own;
  outside = adding path (record { bytes = file.written; time = 0 }) h.outside;
  gifts = h.gifts ++ record { own = own; folder = folder; name = name; bytes = file.written } ∷ [];
}

-- what is kept after a call
abbrev pub play : Call → Holding → Holding
play Nothing h = h
play (Wrote name at bytes) h = with_own (amending name (written_over at bytes) h.own) h
play (Shortened name len) h = with_own (amending name (shortened len) h.own) h
play (Synced name) h = with_own (amending name made_durable h.own) h
play (Created name) h = with_own (adding name (settled []) h.own) h
play (Removed name) h = with_own (without name h.own) h
play (Renamed from to) h = renamed (under from h.own) from to h
play (Placed path bytes time) h = with_outside (adding path (record { bytes = bytes; time = time }) h.outside) h
play (PutOut path bytes time) h = with_outside (adding path (record { bytes = bytes; time = time }) h.outside) h
play (LostOut path) h = with_outside (without path h.outside) h
play (Moved path name) h = moved (under path h.outside) path name h
play (Copied name bytes) h = with_own (adding name (unsynced bytes) h.own) h
play (Given own folder name path) h = given (under own h.own) own folder name path h

-- what a test puts outside is no call
abbrev pub is_call : Call → Bool
is_call (Placed path bytes time) = false
is_call x = true

-- what is left of a call that fails: of a write the first half of its bytes, rounded down, and of the others nothing
abbrev pub in_part : Call → Call
in_part (Wrote name at bytes) = Wrote name at (take (length bytes / 2) bytes)
in_part x = Nothing

abbrev pub is_sync : Call → Bool
is_sync (Synced name) = true
is_sync x = false

-- how many of these are calls
abbrev pub calls_in : List Call → ℕ
calls_in log = count_by is_call log

-- the first calls, so many, and what was put outside before the next
abbrev pub first_calls : ℕ → List Call → List Call
first_calls n [] = []
first_calls n (x ∷ xs) = if is_call x then (if nat_eq n 0 then [] else x ∷ first_calls (n - 1) xs) else x ∷ first_calls n xs

-- and after many
abbrev pub replay : Holding → List Call → Holding
replay h [] = h
replay h (x ∷ xs) = replay (play x h) xs

-- the files all synced
abbrev pub calm : Holding → Holding
calm h = record { own = map (λ e. (e.0, settled e.1.written)) h.own; outside = h.outside; gifts = h.gifts }

-- the world as a read gives it
abbrev pub shown : Holding → World
shown h = record { own = λ name. option_map (λ f. f.written) (under name h.own); outside = λ path. under path h.outside; gifts = h.gifts }

-- the world that a stop may leave, with a digit for each name
abbrev pub picked : (List ℕ → ℕ) → Holding → World
picked digits h = record { own = λ name. option_map (λ f. chosen (digits name) f) (under name h.own); outside = λ path. under path h.outside; gifts = h.gifts }
