use Rattle.std.proofs.Common.{ℕ, ◌≤◌, List, sym, ◌∙◌, ap, subst, refl, rules, arith}
use Rattle.disk_model.specs.Changes.{Every, Stands}
use Rattle.node_store.specs.Books.{Books}
use Rattle.node_store.specs.Names.{in_name}
use Rattle.node_store.proofs.NameLaws.{in_not_ledger}
use Rattle.node_store.proofs.Recorded.{recorded_books}
use Rattle.node_store.proofs.books.Books.record_mark.Goals as goal

pub record_file-requires-clause-own : goal.record_file-requires-clause-own
record_file-requires-clause-own g c = λ same. in_not_ledger c.number.result (sym c.in_file-name.ensures ∙ same)

pub record_file-requires-clause-stands : goal.record_file-requires-clause-stands
record_file-requires-clause-stands g c =
    subst (λ (k : List ℕ). Every (g.D.Disk.files c.args.disk.now) (Stands k 0)) (ap in_name (sym c.number.ensures) ∙ sym c.in_file-name.ensures) c.requires.stands

pub invariant_of-self-2 : goal.invariant_of-self-2
invariant_of-self-2 g c =
    let s = c.self.inside in
    let b : Books = record { payloads = s.ledger.payloads; reserved = s.ledger.reserved; opened = s.opened; seats = s.seats.items; folding = s.folded } in
    let d : Books = record { payloads = c.record_file.new.ledger.payloads; reserved = c.record_file.new.ledger.reserved; opened = s.opened; seats = c.note.new.seats.items; folding = c.fold_mark.new.folded } in
    let place : 1 ≤ s.ledger.reserved = search rules in (
      recorded_books b d c.args.payload.now c.args.part.now.next_mark c.args.seat c.self.invariant.0 c.requires.spells c.fold_mark.ensures.folded c.in_ok-record_file.ensures.appended refl c.note.ensures.items c.in_ok-record_file.ensures.places c.fold_mark.ensures.room,
      omega (arith, c.note.ensures.len, c.note.ensures.capacity, c.in_ok-record_file.ensures.places, c.self.invariant.1, place),
    )

pub returns-clause-books : goal.returns-clause-books
returns-clause-books g c =
    let s = c.self.inside in
    let b : Books = record { payloads = s.ledger.payloads; reserved = s.ledger.reserved; opened = s.opened; seats = s.seats.items; folding = s.folded } in
    let d : Books = record { payloads = c.record_file.new.ledger.payloads; reserved = c.record_file.new.ledger.reserved; opened = s.opened; seats = c.note.new.seats.items; folding = c.fold_mark.new.folded } in
    recorded_books b d c.args.payload.now c.args.part.now.next_mark c.args.seat c.self.invariant.0 c.requires.spells c.fold_mark.ensures.folded c.in_ok-record_file.ensures.appended refl c.note.ensures.items c.in_ok-record_file.ensures.places c.fold_mark.ensures.room
