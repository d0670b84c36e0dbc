-- How the names of outbound files end (FTS-5005).
use Rattle.std.specs.Prelude.{ℕ, List, codes}
use Rattle.node_model.specs.declared.words.Flavour.{Flavour}
use Rattle.node_model.specs.declared.words.Flavour.TheVariants.{Immediate, Crash, Direct, Normal, Hold}
use Rattle.bso_outbound.specs.declared.kind.Kind.{Kind}
use Rattle.bso_outbound.specs.declared.kind.Kind.TheVariants.{Flow, Mail, Request}

abbrev pub flow_ending : Flavour → List ℕ
flow_ending Immediate = codes ".ilo"
flow_ending Crash = codes ".clo"
flow_ending Direct = codes ".dlo"
flow_ending Normal = codes ".flo"
flow_ending Hold = codes ".hlo"

abbrev pub mail_ending : Flavour → List ℕ
mail_ending Immediate = codes ".iut"
mail_ending Crash = codes ".cut"
mail_ending Direct = codes ".dut"
mail_ending Normal = codes ".out"
mail_ending Hold = codes ".hut"

abbrev pub ending : Kind → List ℕ
ending (Flow flavour) = flow_ending flavour
ending (Mail flavour) = mail_ending flavour
ending Request = codes ".req"
