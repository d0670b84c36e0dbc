use Rattle.std.proofs.Common.{◌≡◌, ◌∙◌, ◌<◌, ◌&&◌, ℕ, not, get_or, length, map, sym, ap, subst}
use Rattle.std.specs.Prelude.{◌==◌}
use Rattle.std.proofs.lemmas.Bool.{eqb-true}
use Rattle.std.proofs.lemmas.List.{length-map}
use Rattle.std.proofs.lemmas.List.Quantifiers.{position-Some}
use Rattle.ftn_addr.specs.Address.{address, same_address}
use Rattle.file_index.specs.Turns.{same_turn}
use Rattle.file_index.specs.declared.turns.Turn.{Turn}
use Rattle.ledger_rec.specs.Items.{Entry, entry}
use Rattle.ledger_rec.specs.Waiting.{is_needed}
use Rattle.ledger_rec.proofs.Waits.{ended_at, ended_there, is_turn, item_at, number_there}
use Rattle.ledger_rec.proofs.waiting.end.Goals as goal

pub unreachable-requires : goal.unreachable-requires
unreachable-requires c = number_there c.args.number c.args.queue.now (ended_there c.args.need c.args.number c.requires.was.old (map entry c.args.queue.now) c.requires.was.is) c.in-None.ensures

pub returns : goal.returns
returns c = λ whole to t.
    let need = c.args.need in
    let was = c.requires.was in
    let items = c.args.queue.now in
    let item = c.index-queue-i.result in
    let i = c.in-Some.i in
    let stands = position-Some (λ x. (entry x).number == c.args.number) items i item (sym c.in-Some.ensures) in
    let at : get_or (map entry items) i (entry item) ≡ entry item = item_at items i item stands.0 ∙ ap entry (sym c.index-queue-i.is) in
    let number : (get_or (map entry items) i (entry item)).number ≡ c.args.number = ap (λ (e : Entry). e.number) (item_at items i item stands.0) ∙ eqb-true _ c.args.number stands.1 in
    let len : length (map entry items) ≡ length items = length-map items entry in
    let ended = ended_at need c.args.number was.old (map entry items) i (entry item) was.is was.different (subst (λ (n : ℕ). i < n) (sym len) stands.0) number in
    c.remove.ensures (is_needed need was.old) was.turns whole to t
    ∙ ap (λ (u : Turn). is_needed need was.old to t && not (same_address to (address item.dest) && same_turn t u)) c.turn.ensures
    ∙ ap (λ (e : Entry). is_needed need was.old to t && not (is_turn need to t e)) (sym at)
    ∙ sym (ended.waits to t)
