use Rattle.std.proofs.Common.{◌∙◌, sym, ap, map}
use Rattle.std.specs.Prelude.{position}
use Rattle.ledger_rec.specs.Fold.{waits_for_answer}
use Rattle.ledger_rec.specs.Items.{Receipt, receipt}
use Rattle.ledger_rec.proofs.Starting.{started_view, length_twice, is_number, later, rest_of}
use Rattle.ledger_rec.proofs.rules.request_at.Goals as goal

pub returns-in-Some : goal.returns-in-Some
returns-in-Some c =
    let xs = c.args.inbox.now in
    let none = c.start-start.ensures.none (map (λ (e : Receipt). e.number) (map receipt xs)) (length_twice (λ (e : Receipt). e.number) receipt xs) c.requires in
    let there = started_view receipt (waits_for_answer c.args.number) (λ (e : Receipt). e.number) c.args.number (λ e passes. is_number e.number c.args.number _ passes) c.start-start.result xs none in
    ap (later c.start-start.result) (c.in-Some.ensures ∙ ap (position (λ x. waits_for_answer c.args.number (receipt x))) (rest_of c.start-start.result xs)) ∙ sym there

pub returns-in-None : goal.returns-in-None
returns-in-None c =
    let xs = c.args.inbox.now in
    let none = c.start-start.ensures.none (map (λ (e : Receipt). e.number) (map receipt xs)) (length_twice (λ (e : Receipt). e.number) receipt xs) c.requires in
    let there = started_view receipt (waits_for_answer c.args.number) (λ (e : Receipt). e.number) c.args.number (λ e passes. is_number e.number c.args.number _ passes) c.start-start.result xs none in
    ap (later c.start-start.result) (c.in-None.ensures ∙ ap (position (λ x. waits_for_answer c.args.number (receipt x))) (rest_of c.start-start.result xs)) ∙ sym there
