use Rattle.std.proofs.Common.{◌==◌, ℕ, Bool, ◌∙◌, sym, ap, map}
use Rattle.std.specs.Prelude.{position}
use Rattle.ledger_rec.specs.Items.{Entry, entry}
use Rattle.ledger_rec.proofs.Starting.{started_view, length_twice, same_number, later, rest_of}
use Rattle.ledger_rec.proofs.waiting.file_at.Goals as goal

abbrev pub is_at : ℕ → Entry → Bool
is_at n e = e.number == n

pub returns-in-Some : goal.returns-in-Some
returns-in-Some c =
    let xs = c.args.queue.now in
    let none = c.start-start.ensures.none (map (λ (e : Entry). e.number) (map entry xs)) (length_twice (λ (e : Entry). e.number) entry xs) c.requires in
    let there = started_view entry (is_at c.args.number) (λ (e : Entry). e.number) c.args.number (λ e passes. same_number e.number c.args.number passes) c.start-start.result xs none in
    ap (later c.start-start.result) (c.in-Some.ensures ∙ ap (position (λ x. is_at c.args.number (entry x))) (rest_of c.start-start.result xs)) ∙ sym there

pub returns-in-None : goal.returns-in-None
returns-in-None c =
    let xs = c.args.queue.now in
    let none = c.start-start.ensures.none (map (λ (e : Entry). e.number) (map entry xs)) (length_twice (λ (e : Entry). e.number) entry xs) c.requires in
    let there = started_view entry (is_at c.args.number) (λ (e : Entry). e.number) c.args.number (λ e passes. same_number e.number c.args.number passes) c.start-start.result xs none in
    ap (later c.start-start.result) (c.in-None.ensures ∙ ap (position (λ x. is_at c.args.number (entry x))) (rest_of c.start-start.result xs)) ∙ sym there
