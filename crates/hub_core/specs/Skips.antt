-- Which entries a session has skipped, and the place that it goes on from (own).
use Rattle.std.specs.Prelude.{◌≡◌, ◌<◌, ◌==◌, ℕ, Bool, true, false, List, Option, Some, None, is_some, vec_len}
use Rattle.std.specs.BTreeMap.{BTreeMap, get}
use Rattle.std.specs.List.{list_any}
use Rattle.std.specs.Ordering.{nat_cmp}
use Rattle.std.specs.Global.{Vec}
use Rattle.std.specs.Vec.{vec_capacity}
use Rattle.ftn_addr.specs.Address.{Address}
use Rattle.node_model.specs.declared.words.Flavour.{Flavour}
use Rattle.node_model.specs.Items.{EntryOf}
use Rattle.node_model.specs.Lists.{Member}
use Rattle.node_model.specs.Stocks.{is_live, IsBehind}

abbrev pub is_skipped : List ℕ → ℕ → Bool
is_skipped skipped number = list_any (λ n. n == number) skipped

-- In the code: by its number an entry is found to be skipped, or only to have room for the note.

abbrev pub is_yes : Option Bool → Bool
is_yes None = false
is_yes (Some b) = b

-- exactly what is skipped is found so
abbrev pub NotesSkips : BTreeMap ℕ Bool → List ℕ → Type 0
NotesSkips noted skipped = (n : ℕ) → is_yes (get nat_cmp noted n) ≡ is_skipped skipped n

-- the note of that entry takes no memory
abbrev pub HasRoom : ℕ → BTreeMap ℕ Bool → Vec ℕ → Type 0
HasRoom number noted list = (is_some (get nat_cmp noted number) ≡ true) × (vec_len list < vec_capacity list)

-- What may be offered.

-- a live entry for one of these addresses that isn't kept back
pub record IsFree (dests : List Address) (Back : ℕ → Type 0) (queue : List (EntryOf ℕ)) (e : EntryOf ℕ) : Type 0 where
  pub there : Member e queue
  pub live : is_live e.body ≡ true
  pub addressed : Member e.dest dests
  pub free : Back e.number → ⊥

abbrev pub Skipped : List ℕ → ℕ → Type 0
Skipped skipped number = is_skipped skipped number ≡ true

-- each live entry for these addresses that isn't skipped stands behind the place, by flavour, then by number
abbrev pub AllBehind : List Address → List ℕ → List (EntryOf ℕ) → Option (Flavour × ℕ) → Type 0
AllBehind dests skipped queue at = (e : EntryOf ℕ) → IsFree dests (Skipped skipped) queue e → IsBehind at e
