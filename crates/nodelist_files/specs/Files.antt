-- The files of a nodelist in the own folder (own).
use Rattle.std.specs.Prelude.{ℕ, List, codes}

-- the list
abbrev pub list_name : List ℕ
list_name = codes "nodelist.txt"

-- its index
abbrev pub index_name : List ℕ
index_name = codes "nodelist.idx"

-- the name of both while they are made
abbrev pub new_name : List ℕ
new_name = codes "nodelist.new"
