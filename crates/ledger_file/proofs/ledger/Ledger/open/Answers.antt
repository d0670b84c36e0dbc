use Rattle.std.proofs.Common.{inr, ℕ, List, length, sym, ap, ◌∙◌, refl}
use Rattle.std.specs.Prelude.{option_map}
use Rattle.ledger_file.specs.Ledger.{ledger_name}
use Rattle.ledger_file.proofs.OpenLemmas.{stands_as_read}
use Rattle.ledger_file.proofs.ledger.Ledger.open.Goals as goal

pub returns-in-Err-read_standing-clause-stood : goal.returns-in-Err-read_standing-clause-stood
returns-in-Err-read_standing-clause-stood g c =
    inr (inr (λ w read.
    stands_as_read w ledger_name c.in-Some.len refl (sym c.in-Some.is ∙ c.in-Ok.ensures.told w read ∙ ap (λ (n : List ℕ). option_map length (w.own n)) c.ledger_file_name.ensures)))
