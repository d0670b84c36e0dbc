-- A nodelist's text and its index on their way to their places (own).
use Rattle.std.specs.Prelude.{◌≡◌, ◌⊎◌, ℕ, ◌≤◌, List, length, Some, Ok}
use Rattle.disk_model.specs.World.{World}
use Rattle.disk_model.specs.Changes.{Every, IsFree}
use Rattle.nodelist_comp.specs.Index.{index_of}
use Rattle.nodelist_comp.specs.List.{compiled}
use Rattle.nodelist_comp.specs.Node.{ListedNode}
use Rattle.nodelist_files.specs.Files.{list_name, index_name, new_name}
use Rattle.nodelist_files.specs.Compiling.{text_at, judged, HasNodes, OldPair}

-- the outside file has so many bytes, not too many, and the own file has the same
pub record IsCopied (path : List ℕ) (len : ℕ) (d c : World) : Type 0 where
  pub text : List ℕ
  pub file : text_at path d ≡ Some text
  pub own : c.own new_name ≡ Some text
  pub size : len ≡ length text
  pub few : len ≤ 16777216

-- these are the index of a text's nodes, and their number
pub record IsPrepared (text bytes : List ℕ) (many : ℕ) : Type 0 where
  pub nodes : List ListedNode
  pub spells : compiled text ≡ Ok nodes
  pub index : bytes ≡ index_of nodes
  pub count : many ≡ length nodes

-- the file's text stands, durable, and this is the index of its nodes, and that their number
pub record IsStaged (old now : World → Type 0) (path bytes : List ℕ) (many : ℕ) : Type 0 where
  pub text : List ℕ
  pub nodes : List ListedNode
  pub has : HasNodes old path text nodes
  pub judged : Every old (λ w. judged (text_at path w) ≡ Ok many)
  pub index : bytes ≡ index_of nodes
  pub stands : Every now (λ w. w.own new_name ≡ Some text)

-- the list is what was made
pub record Placed (d c : World) : Type 0 where
  pub list : c.own list_name ≡ d.own new_name
  pub index : c.own index_name ≡ d.own index_name

-- and the index has these bytes
pub record Replaced (bytes : List ℕ) (d c : World) : Type 0 where
  pub list : c.own list_name ≡ d.own new_name
  pub index : c.own index_name ≡ Some bytes
  pub free : IsFree new_name c

-- the list's place is taken, and then the index's
abbrev pub Replaces : List ℕ → World → World → Type 0
Replaces bytes d c = OldPair d c ⊎ (Placed d c ⊎ ((c.own list_name ≡ d.own new_name) × (c.own index_name ≡ Some bytes)))
