-- A disk that an opening has looked through: what it still changes, and what stays (own).
use Rattle.std.specs.Prelude.{◌≡◌, ℕ, ◌≤◌, Bool, true, false, List, length, take, Some, None}
use Rattle.std.specs.List.{AllByRecursion}
use Rattle.disk_model.specs.Changes.{Every, OnOwn, Puts, Rewrites, SameAt, Stands}
use Rattle.disk_model.specs.Moments.{Now}
use Rattle.disk_model.specs.World.{World}
use Rattle.ledger_file.specs.Ledger.{LedgerIs}
use Rattle.ledger_rec.specs.Fold.{State}
use Rattle.ledger_rec.specs.Items.{Entry, Receipt, PartMark}
use Rattle.ledger_rec.specs.Payloads.{fold_of}
use Rattle.node_model.specs.Lists.{Each, Member}
use Rattle.node_store.specs.Keeping.{Beside}
use Rattle.node_store.specs.Names.{AreDistinct, in_name, out_name, take_number}
use Rattle.node_store.specs.Strays.{IsStray}
use Rattle.node_store.specs.Worlds.{HasFiles, HasLength}

-- the front of the file is the same
abbrev pub HasSameFront : List ℕ → ℕ → World → World → Type 0
HasSameFront name n f c = (b : List ℕ) → f.own name ≡ Some b → n ≤ length b → (e : List ℕ) × (c.own name ≡ Some e) × (take n e ≡ take n b)

-- what outlives a stop of this fold is the same in both worlds
pub record Mirrors (s : State) (f c : World) : Type 0 where
  pub live : AllByRecursion (λ (e : Entry). e.live ≡ true → SameAt (out_name e.number) f c) s.queue
  pub received : AllByRecursion (λ (r : Receipt). SameAt (in_name r.number) f c) s.inbox
  pub marked : AllByRecursion (λ (m : PartMark). HasSameFront (in_name m.number) m.len f c) s.marks
  pub takes : (name : List ℕ) (take : ℕ) → take_number name ≡ Some take → SameAt name f c
  pub outside : c.outside ≡ f.outside
  pub gifts : c.gifts ≡ f.gifts

-- The takes, what is outside and the gifts are the same in both worlds, and a file of a receipt is in neither or in the first.
pub record IsNear (s : State) (f c : World) : Type 0 where
  pub takes : (name : List ℕ) (take : ℕ) → take_number name ≡ Some take → SameAt name f c
  pub outside : c.outside ≡ f.outside
  pub gifts : c.gifts ≡ f.gifts
  pub absent : AllByRecursion (λ (r : Receipt). f.own (in_name r.number) ≡ None → c.own (in_name r.number) ≡ None) s.inbox

-- A stop now leaves the ledger of these payloads, and of the fold the same as is read; and what is read has its files.
pub record IsTended {D : Type 0} (files : D → World → Type 0) (moment : D → ℕ) (images : D → ℕ → World → Type 0) (payloads : List (List ℕ)) (s : State) (disk : D) : Type 0 where
  pub folds : fold_of payloads ≡ Some s
  pub ledger : Every (Now moment images disk) (LedgerIs payloads)
  pub fits : Every (files disk) (HasFiles s)
  pub same : Beside files moment images (Mirrors s) disk

-- the file of that name was removed, or is no stray
abbrev pub Tidies : State → List ℕ → Bool → World → World → Type 0
Tidies s name true d c = OnOwn (Puts name None) d c × IsStray s name
Tidies s name false d c = (c ≡ d) × (IsStray s name → ⊥)

-- These names stand, each once, and are those of all strays.
pub record HasRest (s : State) (names : List (List ℕ)) (w : World) : Type 0 where
  pub stand : Each (λ (name : List ℕ). Stands name 0 w) names
  pub apart : AreDistinct names
  pub strays : (name bytes : List ℕ) → w.own name ≡ Some bytes → IsStray s name → Member name names

-- the part was cut to its mark
abbrev pub CutsPart : PartMark → World → World → Type 0
CutsPart m d c = OnOwn (Rewrites (in_name m.number) (λ b e. e ≡ take m.len b)) d c

-- each part has the length of its mark
abbrev pub HasCutParts : State → World → Type 0
HasCutParts s w = AllByRecursion (λ (m : PartMark). HasLength (in_name m.number) m.len w) s.marks
