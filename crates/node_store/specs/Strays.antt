-- Own files that belong to nothing that a ledger says (own).
use Rattle.std.specs.Prelude.{◌≡◌, ◌≢◌, ◌⊎◌, ℕ, ◌<◌, ◌^◌, true, List, Some, codes}
use Rattle.std.specs.List.{AllByRecursion}
use Rattle.disk_model.specs.World.{World}
use Rattle.ledger_file.specs.Ledger.{new_name}
use Rattle.ledger_rec.specs.Fold.{State, is_among}
use Rattle.ledger_rec.specs.Items.{Entry, Receipt, PartMark}
use Rattle.node_store.specs.Names.{in_name, out_name, take_number}

-- the file in which a nodelist or its index is made
abbrev pub nodelist_new : List ℕ
nodelist_new = codes "nodelist.new"

-- no live entry has that number, no mark, no receipt

abbrev pub IsUnqueued : ℕ → List Entry → Type 0
IsUnqueued number es = AllByRecursion (λ (e : Entry). e.live ≡ true → e.number ≢ number) es

abbrev pub IsUnmarked : ℕ → List PartMark → Type 0
IsUnmarked number ms = AllByRecursion (λ (m : PartMark). m.number ≢ number) ms

abbrev pub IsUnreceived : ℕ → List Receipt → Type 0
IsUnreceived number rs = AllByRecursion (λ (r : Receipt). r.number ≢ number) rs

-- a file in the making; a queued file of no live entry; a received file with neither mark nor receipt; a take that is recorded

abbrev pub IsWork : List ℕ → Type 0
IsWork name = (name ≡ new_name) ⊎ (name ≡ nodelist_new)

pub record IsStrayOut (es : List Entry) (name : List ℕ) : Type 0 where
  pub number : ℕ
  pub four_bytes : number < 2 ^ 32
  pub named : name ≡ out_name number
  pub unqueued : IsUnqueued number es

pub record IsStrayIn (ms : List PartMark) (rs : List Receipt) (name : List ℕ) : Type 0 where
  pub number : ℕ
  pub four_bytes : number < 2 ^ 32
  pub named : name ≡ in_name number
  pub unmarked : IsUnmarked number ms
  pub unreceived : IsUnreceived number rs

pub record IsTaken (takes : List ℕ) (name : List ℕ) : Type 0 where
  pub take : ℕ
  pub named : take_number name ≡ Some take
  pub recorded : is_among take takes ≡ true

abbrev pub IsStray : State → List ℕ → Type 0
IsStray s name = IsWork name ⊎ (IsStrayOut s.queue name ⊎ (IsStrayIn s.marks s.inbox name ⊎ IsTaken s.takes name))

-- no stray stands
abbrev pub HasNoStray : State → World → Type 0
HasNoStray s w = (name bytes : List ℕ) → w.own name ≡ Some bytes → IsStray s name → ⊥
