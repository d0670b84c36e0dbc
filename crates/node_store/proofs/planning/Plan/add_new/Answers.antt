use Rattle.std.proofs.Common.{[], ◌∷◌, ◌++◌, map, ◌∙◌, ap}
use Rattle.ledger_rec.specs.Record.{NewFileText, new_file}
use Rattle.node_store.proofs.Mirrors.{map-append}
use Rattle.node_store.proofs.planning.Plan.add_new.Goals as goal

pub returns-clause-fresh : goal.returns-clause-fresh
returns-clause-fresh c =
    let old = c.args.self.now.fresh.items in
    ap (map new_file) c.in_ok-push.ensures.items ∙ map-append new_file old (c.in_ok-record_for.field-0 ∷ []) ∙ ap (λ (r : NewFileText). map new_file old ++ r ∷ []) c.in_ok-record_for.ensures
