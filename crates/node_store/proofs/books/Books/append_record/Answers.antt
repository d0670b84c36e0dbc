use Rattle.std.proofs.Common.{◌≤◌, refl, rules, arith}
use Rattle.ledger_rec.specs.Record.{record_of}
use Rattle.node_store.specs.Books.{Books}
use Rattle.node_store.proofs.Recorded.{recorded_books}
use Rattle.node_store.proofs.books.Books.append_record.Goals as goal

pub invariant_of-self-2 : goal.invariant_of-self-2
invariant_of-self-2 g c =
    let s = c.self.inside in
    let b : Books = record { payloads = s.ledger.payloads; reserved = s.ledger.reserved; opened = s.opened; seats = s.seats.items; folding = s.folded } in
    let d : Books = record { payloads = c.append.new.ledger.payloads; reserved = c.append.new.ledger.reserved; opened = s.opened; seats = c.note.new.seats.items; folding = c.fold_in.new.folded } in
    let place : 1 ≤ s.ledger.reserved = search rules in (
      recorded_books b d c.args.payload.now (record_of c.args.rec) c.args.seat c.self.invariant.0 c.requires.spells c.fold_in.ensures.folded c.in_ok-append.ensures.appended refl c.note.ensures.items c.in_ok-append.ensures.places c.fold_in.ensures.room,
      omega (arith, c.note.ensures.len, c.note.ensures.capacity, c.in_ok-append.ensures.places, c.self.invariant.1, place),
    )

pub returns-clause-books : goal.returns-clause-books
returns-clause-books g c =
    let s = c.self.inside in
    let b : Books = record { payloads = s.ledger.payloads; reserved = s.ledger.reserved; opened = s.opened; seats = s.seats.items; folding = s.folded } in
    let d : Books = record { payloads = c.append.new.ledger.payloads; reserved = c.append.new.ledger.reserved; opened = s.opened; seats = c.note.new.seats.items; folding = c.fold_in.new.folded } in
    recorded_books b d c.args.payload.now (record_of c.args.rec) c.args.seat c.self.invariant.0 c.requires.spells c.fold_in.ensures.folded c.in_ok-append.ensures.appended refl c.note.ensures.items c.in_ok-append.ensures.places c.fold_in.ensures.room
