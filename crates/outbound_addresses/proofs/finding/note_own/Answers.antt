use Rattle.std.proofs.Common.{List, map, subst, ◌∙◌, ap}
use Rattle.std.proofs.lemmas.Result.{on_ok_weaker}
use Rattle.ledger_rec.specs.Fold.{Folding}
use Rattle.ledger_rec.specs.Items.{Entry, entry}
use Rattle.node_store.specs.declared.takes.TakeName.{TakeName}
use Rattle.outbound_places.specs.Outbound.{Adds, OneOf}
use Rattle.outbound_places.proofs.Added.{grows-then}
use Rattle.outbound_addresses.specs.Own.{IsActionFor, IsOwnFor, IsTakeOf}
use Rattle.outbound_addresses.proofs.Noting.{both_added, on_ok_both}
use Rattle.outbound_addresses.proofs.finding.note_own.Goals as goal

pub returns-in-Ok-clause-grows : goal.returns-in-Ok-clause-grows
returns-in-Ok-clause-grows g c =
    on_ok_weaker c.note_actions.result (grows-then c.args.found.now c.note_takes.new.found c.note_actions.new.found c.in-Ok.ensures.grows) c.note_actions.ensures.grows

pub returns-in-Ok-clause-adds : goal.returns-in-Ok-clause-adds
returns-in-Ok-clause-adds g c =
    let domain = c.args.domain.now.list in
    let left = c.takes_left.ensures.left in
    let queue = c.queue.ensures ∙ ap (λ (f : Folding). f.state.queue) c.state.ensures in
    on_ok_both c.note_actions.result
    (λ grows adds.
    subst (λ (l : List TakeName). Adds (IsOwnFor domain l c.args.store.now.memory.books.folding.state.queue) c.args.found.now c.note_actions.new.found) left
    (subst (λ (q : List Entry). Adds (IsOwnFor domain c.takes_left.result.now q) c.args.found.now c.note_actions.new.found) queue
    (both_added (OneOf IsTakeOf c.takes_left.result.now) (OneOf (IsActionFor domain) (map entry c.queue.result.now)) c.args.found.now c.note_takes.new.found c.note_actions.new.found c.in-Ok.ensures.adds adds grows)))
    c.note_actions.ensures.grows c.note_actions.ensures.adds
