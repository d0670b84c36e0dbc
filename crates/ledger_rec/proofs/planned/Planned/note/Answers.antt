use Rattle.std.proofs.Common.{false, map, refl}
use Rattle.ledger_rec.proofs.Planning.{plans_more}
use Rattle.ledger_rec.specs.Fold.{new_entry}
use Rattle.ledger_rec.specs.Indexed.{is_queued}
use Rattle.ledger_rec.specs.Record.{new_file}
use Rattle.ledger_rec.specs.declared.planned.Planned.{Planned}
use Rattle.ledger_rec.proofs.planned.Planned.note.Goals as goal

pub returns : goal.returns
returns c = λ those s plans rising.
    let q : Planned = record { files = c.note.new.self; greatest = c.args.file.now.number; none = false } in
    plans_more c.args.self.now q those (new_file c.args.file.now) s plans rising (c.note.ensures (λ dest key. is_queued dest key (map new_entry those)) plans.files) refl refl
