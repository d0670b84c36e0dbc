use Rattle.std.proofs.Common.{Option, sym, subst}
use Rattle.std.specs.Prelude.{map}
use Rattle.ftn_addr.specs.Address.{address}
use Rattle.file_index.specs.declared.turns.Turn.{Turn}
use Rattle.file_index.specs.Turns.{NextTurn}
use Rattle.ledger_rec.specs.Waiting.{is_waiting}
use Rattle.node_model.specs.Stocks.{NextLive}
use Rattle.node_store.specs.Contents.{entry_by}
use Rattle.node_store.proofs.Listed.{listed_fold}
use Rattle.node_store.proofs.Offering.{next_is}
use Rattle.node_store.proofs.offers.next_of.Goals as goal

pub returns : goal.returns
returns c = λ payloads k folds.
    let s = c.args.folded.now.state in
    let next = subst (λ (after : Option Turn). NextTurn (is_waiting s.queue (address c.args.dest.now)) after c.next_waiting.result) c.turn_of.ensures c.next_waiting.ensures in
    subst (NextLive (address c.args.dest.now) c.args.after (map (entry_by k) s.queue)) (sym c.place_of.ensures)
    (next_is k s.queue (address c.args.dest.now) c.args.after (listed_fold payloads s folds) c.next_waiting.result next)
