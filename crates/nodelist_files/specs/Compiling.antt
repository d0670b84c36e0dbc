-- Compiling a nodelist into the own folder (own).
use Rattle.std.specs.Prelude.{◌≡◌, ◌≢◌, ◌⊎◌, ℕ, nat_lt, List, length, Option, Some, None, option_map, Result, Ok, Err, if◌then◌else◌}
use Rattle.disk_model.specs.World.{World}
use Rattle.disk_model.specs.Changes.{Every, IsFree, Only}
use Rattle.nodelist_comp.specs.Index.{index_of}
use Rattle.nodelist_comp.specs.List.{compiled}
use Rattle.nodelist_comp.specs.Node.{ListedNode}
use Rattle.nodelist_comp.specs.declared.fault.ListTextFault.{ListTextFault}
use Rattle.nodelist_files.specs.Files.{list_name, index_name, new_name}
use Rattle.nodelist_files.specs.declared.fault.CompileFault.{CompileFault}
use Rattle.nodelist_files.specs.declared.fault.CompileFault.TheVariants.{Disk, NoFile, ListBad, NoMemory}

-- the bytes of the outside file under a path
abbrev pub text_at : List ℕ → World → Option (List ℕ)
text_at path w = option_map (λ file. file.bytes) (w.outside path)

-- the number of nodes, or the first line that can't be taken
abbrev pub counted : Result (List ListedNode) ListTextFault → Result ℕ CompileFault
counted (Ok nodes) = Ok (length nodes)
counted (Err fault) = Err (ListBad fault)

-- What compiling a file comes to. That there is none, or one of more than 16,777,216 bytes, is told first.
abbrev pub judged : Option (List ℕ) → Result ℕ CompileFault
judged None = Err NoFile
judged (Some text) = if nat_lt 16777216 (length text) then Err NoFile else counted (compiled text)

-- what may come whatever the file has
abbrev pub MayCome : CompileFault → Type 0
MayCome fault = (fault ≡ Disk) ⊎ (fault ≡ NoMemory)

-- the file under this path has this text, with these nodes
pub record HasNodes (old : World → Type 0) (path text : List ℕ) (nodes : List ListedNode) : Type 0 where
  pub file : Every old (λ w. text_at path w ≡ Some text)
  pub spells : compiled text ≡ Ok nodes

-- list and index are as before
pub record OldPair (d c : World) : Type 0 where
  pub list : c.own list_name ≡ d.own list_name
  pub index : c.own index_name ≡ d.own index_name

-- the list is the file's text, and the index is as before or that of its nodes
pub record NewList (old : World → Type 0) (path : List ℕ) (d c : World) : Type 0 where
  pub text : List ℕ
  pub nodes : List ListedNode
  pub has : HasNodes old path text nodes
  pub list : c.own list_name ≡ Some text
  pub index : (c.own index_name ≡ d.own index_name) ⊎ (c.own index_name ≡ Some (index_of nodes))

-- list and index changed so, and beside them and the file in which they are made nothing did
pub record OnLists (pair : World → World → Type 0) (d c : World) : Type 0 where
  pub others : (n : List ℕ) → n ≢ list_name → n ≢ index_name → n ≢ new_name → c.own n ≡ d.own n
  pub outside : c.outside ≡ d.outside
  pub gifts : c.gifts ≡ d.gifts
  pub both : pair d c

-- both are as before, or the new list stands with the old or the new index
abbrev pub Compiles : (World → Type 0) → List ℕ → World → World → Type 0
Compiles old path = OnLists (λ d c. OldPair d c ⊎ NewList old path d c)

-- list and index are those of the file, and nothing is being made
pub record IsCompiled (old : World → Type 0) (path : List ℕ) (c : World) : Type 0 where
  pub text : List ℕ
  pub nodes : List ListedNode
  pub has : HasNodes old path text nodes
  pub list : c.own list_name ≡ Some text
  pub index : c.own index_name ≡ Some (index_of nodes)
  pub free : IsFree new_name c

-- nothing changed, but that nothing is being made any more
pub record Clears (d c : World) : Type 0 where
  pub only : Only new_name d c
  pub free : IsFree new_name c
