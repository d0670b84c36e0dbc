-- The lines of `take` (own).
use Rattle.std.specs.Prelude.{ℕ, List, [], ◌∷◌, ◌++◌, codes}
use Rattle.std.specs.Fmt.{decimal}
use Rattle.ftn_addr.specs.Address.{Address}
use Rattle.ftn_addr.specs.Writing.{canonical}
use Rattle.outbound_lines.specs.declared.taking.TookCounts.{TookCounts}

-- `took ADDR queued Q again A missing M over O passed P` and LF
abbrev pub took_text : Address → TookCounts → List ℕ
took_text a c = codes "took " ++ canonical a ++ codes " queued " ++ decimal c.queued ++ codes " again " ++ decimal c.again ++ codes " missing " ++ decimal c.missing ++ codes " over " ++ decimal c.over ++ codes " passed " ++ decimal c.passed ++ 10 ∷ []

-- `marked ADDR` and LF
abbrev pub marked_text : Address → List ℕ
marked_text a = codes "marked " ++ canonical a ++ 10 ∷ []
