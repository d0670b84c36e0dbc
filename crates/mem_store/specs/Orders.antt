-- What stands in a store's lists beside one another (own).
use Rattle.std.specs.Prelude.{◌≡◌, ◌≢◌, ℕ, Bool, true, false, not, ◌&&◌, ◌==◌, ◌+◌, ◌≤◌, nat_le, if◌then◌else◌, List, [], ◌∷◌, map}
use Rattle.std.specs.List.{list_all}
use Rattle.ftn_addr.specs.Files.{is_same}
use Rattle.ftn_addr.specs.declared.limits.TheConstants.{MAX_DOMAIN, MAX_NAME}
use Rattle.node_model.specs.Items.{Mark, Entry, Receipt}
use Rattle.node_model.specs.Lists.{Each}
use Rattle.mem_store.specs.Comings.{Coming, part_of}

-- a part has room for all its bytes; its mark is in it, and its sender and key fit a place
pub record FitsRoom (have spare size marked domain name : ℕ) : Type 0 where
  pub room : size ≤ have + spare
  pub in_part : marked ≤ have
  pub short_domain : domain ≤ MAX_DOMAIN
  pub short_name : name ≤ MAX_NAME

-- two parts have neither one number nor one sender and key
abbrev pub Apart : Coming → Coming → Type 0
Apart p q = (p.number ≢ q.number) × (is_same p.from p.key q.from q.key ≡ false)

abbrev pub AllApart : List Coming → Type 0
AllApart [] = Unit {0}
AllApart (p ∷ parts) = Each (Apart p) parts × AllApart parts

-- numbers start at 1, and none is above the greatest drawn
abbrev pub IsDrawn : ℕ → Coming → Type 0
IsDrawn drawn p = (1 ≤ p.number) × (p.number ≤ drawn)

-- the same, as tests
abbrev pub are_apart : Coming → Coming → Bool
are_apart p q = not (p.number == q.number) && not (is_same p.from p.key q.from q.key)

abbrev pub is_drawn : ℕ → Coming → Bool
is_drawn drawn p = nat_le 1 p.number && nat_le p.number drawn

abbrev pub is_orderly : ℕ → List Coming → Bool
is_orderly drawn [] = true
is_orderly drawn (p ∷ parts) = is_drawn drawn p && (list_all (are_apart p) parts && is_orderly drawn parts)

-- what is told of open parts that are in order; of others nothing is told
abbrev pub told_parts : ℕ → List Coming → List Mark
told_parts drawn parts = if is_orderly drawn parts then map part_of parts else []

-- no two have one number
abbrev pub OneEach : {A : Type 0} → (A → ℕ) → List A → Type 0
OneEach number [] = Unit {0}
OneEach {A} number (x ∷ xs) = Each (λ (y : A). number y ≢ number x) xs × OneEach number xs

-- no two entries, no two receipts and no two open parts have one number, nor a receipt and a part
pub record IsOrderly (queue : List Entry) (inbox : List Receipt) (parts : List Coming) (drawn : ℕ) : Type 0 where
  pub apart : AllApart parts
  pub numbers : Each (IsDrawn drawn) parts
  pub entries : OneEach (λ (e : Entry). e.number) queue
  pub receipts : OneEach (λ (r : Receipt). r.number) inbox
  pub receipts_drawn : Each (λ (r : Receipt). r.number ≤ drawn) inbox
  pub unreceived : Each (λ (p : Coming). Each (λ (r : Receipt). r.number ≢ p.number) inbox) parts

-- there is room for the receipt of each open part, and for each record that has a place
pub record HasRoom (parts reserved inbox_spare log_spare places : ℕ) : Type 0 where
  pub receipts : parts ≤ inbox_spare
  pub records : reserved ≤ log_spare
  pub places_left : reserved ≤ places
