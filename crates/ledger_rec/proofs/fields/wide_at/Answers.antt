use Rattle.std.proofs.Common.{◌++◌, List, ℕ, sym, ap, ◌∙◌, arith, rules}
use Rattle.std.proofs.lemmas.Nat.{be_bytes_8}
use Rattle.ledger_rec.proofs.Fronts.{front_of_bytes}
use Rattle.ledger_rec.proofs.fields.wide_at.Goals as goal

pub returns-clause-spelled : goal.returns-clause-spelled
returns-clause-spelled c =
    let front = c.in_ok-front.front.now in
    let rest = c.in_ok-front.rest.now in
    let spelled = be_bytes_8 front c.from_be_bytes-number.result c.in_ok-front.ensures.len (front_of_bytes c.args.bytes.now front rest c.in_ok-front.ensures.spelled (λ i. let fits = c.type_inv.bytes i in omega (arith, fits))) (search rules) in
    c.in_ok-front.ensures.spelled ∙ ap (λ (l : List ℕ). l ++ rest) (sym spelled)
