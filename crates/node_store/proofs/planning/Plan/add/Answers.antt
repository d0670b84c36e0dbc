use Rattle.std.proofs.Common.{List, ◌++◌, map, subst, sym}
use Rattle.ftn_addr.specs.Address.{address}
use Rattle.ftn_addr.specs.Key.{key_of}
use Rattle.ledger_rec.specs.Fold.{new_entry}
use Rattle.ledger_rec.specs.Indexed.{is_queued}
use Rattle.ledger_rec.specs.Record.{NewFileText, new_file}
use Rattle.node_model.specs.StoreWords.{entry_of}
use Rattle.node_store.specs.Planned.{HasFiles, queued_in}
use Rattle.node_store.proofs.PlanLemmas.{fresh_records, one_more}
use Rattle.node_store.proofs.planning.Plan.add.Goals as goal

pub returns-clause-numbers : goal.returns-clause-numbers
returns-clause-numbers c =
    fresh_records (entry_of c.args.file.now) (queued_in (address c.args.file.now.dest) (key_of c.args.file.now.key) (c.args.folded.now.state.queue ++ map new_entry (map new_file c.args.self.now.fresh.items))) c.requires.fits c.in_ok-add_new.ensures.numbers

pub returns-clause-index : goal.returns-clause-index
returns-clause-index c =
    let old = c.args.self.now.fresh.items in
    let noted = c.note.ensures (λ dest key. is_queued dest key (map new_entry (map new_file old))) c.requires.index in
    subst (λ (l : List NewFileText). HasFiles c.note.new.self l) (sym c.in_ok-add_new.ensures.fresh) (one_more c.note.new.self (map new_file old) (entry_of c.args.file.now) noted)
