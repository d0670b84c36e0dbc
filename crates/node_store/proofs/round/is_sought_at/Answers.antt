use Rattle.std.proofs.Common.{◌∙◌, ap}
use Rattle.node_store.specs.Seeking.{is_sought}
use Rattle.node_store.proofs.Known.{none_received}
use Rattle.node_store.proofs.Walked.{item_found, item_is}
use Rattle.node_store.proofs.round.is_sought_at.Goals as goal

pub receipt_of-requires-clause-none : goal.receipt_of-requires-clause-none
receipt_of-requires-clause-none c =
    none_received c.args.number c.inbox_start.result c.inbox.result.now c.args.folded.now.state.inbox c.inbox.ensures c.inbox_start.ensures.none

pub receipt_of-requires-clause-there : goal.receipt_of-requires-clause-there
receipt_of-requires-clause-there c = item_found c.args.number c.inbox.result.now c.args.folded.now.state.inbox c.inbox.ensures c.requires.there

pub returns : goal.returns
returns c = λ r there is.
    c.is_sought.ensures ∙ ap (is_sought c.args.sought) (item_is c.args.number c.inbox.result.now c.args.folded.now.state.inbox c.inbox.ensures c.receipt_of.result.now c.requires.numbered c.receipt_of.ensures r there is)
