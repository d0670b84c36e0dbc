use Rattle.std.proofs.Common.{◌≡◌, List, ℕ, ◌++◌, length, ◌∙◌, ap, arith}
use Rattle.ledger_rec.proofs.ReadBack.{record_of_payload}
use Rattle.ledger_rec.specs.Payloads.{nowhere}
use Rattle.ledger_rec.specs.Record.{record_of}
use Rattle.ledger_rec.specs.Spelling.{spelling}
use Rattle.node_store.proofs.spelling.spell.Goals as goal

pub returns-clause-spells : goal.returns-clause-spells
returns-clause-spells c =
    let r = record_of c.args.rec.now in
    let text = c.in-Ok.ensures.ok ∙ ap (λ (l : List ℕ). l ++ spelling r) c.clear.ensures.empty in
    record_of_payload nowhere c.write_record.new.out.list r c.in-Ok.ensures.numbers (record { text = text; fits = c.requires.fits })

pub returns-clause-size : goal.returns-clause-size
returns-clause-size c =
    let r = record_of c.args.rec.now in
    let text : c.write_record.new.out.list ≡ spelling r = c.in-Ok.ensures.ok ∙ ap (λ (l : List ℕ). l ++ spelling r) c.clear.ensures.empty in
    let long = ap length text in
    record { some = omega (arith, long, c.fits_a_payload.ensures.some r); most = omega (arith, long, c.fits_a_payload.ensures.short r c.requires.fits) }
