-- What a mark says: which program made it, at which node (own; FTS-5005 leaves the content of a `.bsy` file open).
use Rattle.std.specs.Prelude.{ℕ, List, [], ◌∷◌, ◌++◌, codes}
use Rattle.ftn_addr.specs.Address.{Address}
use Rattle.ftn_addr.specs.Writing.{canonical}

-- `binkp 2:5020/1042@fidonet` and LF
abbrev pub mark_text : Address → List ℕ
mark_text home = codes "binkp " ++ canonical home ++ 10 ∷ []
