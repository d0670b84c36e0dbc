-- In which order files are taken in (own).
use Rattle.std.specs.Prelude.{ℕ, ◌+◌, List}
use Rattle.std.specs.List.Sorted.{IsNonDecreasingBy}
use Rattle.bso_outbound.specs.declared.kind.Kind.{Kind}
use Rattle.bso_outbound.specs.declared.kind.Kind.TheVariants.{Flow, Mail, Request}
use Rattle.node_model.specs.declared.words.Flavour.{Flavour}
use Rattle.node_model.specs.declared.words.Flavour.TheVariants.{Immediate, Crash, Direct, Normal, Hold}
use Rattle.outbound_intake.specs.declared.words.Found.{Found}

abbrev pub flavour_rank : Flavour → ℕ
flavour_rank Immediate = 0
flavour_rank Crash = 1
flavour_rank Direct = 2
flavour_rank Normal = 3
flavour_rank Hold = 4

-- netmail and then flow files, each from immediate to hold, and then requests
abbrev pub rank_of : Kind → ℕ
rank_of (Mail flavour) = flavour_rank flavour
rank_of (Flow flavour) = 5 + flavour_rank flavour
rank_of Request = 10

abbrev pub IsInOrder : List Found → Type 0
IsInOrder found = IsNonDecreasingBy (λ (f : Found). rank_of f.kind) found
