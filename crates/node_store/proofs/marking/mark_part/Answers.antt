use Rattle.std.proofs.Common.{sym, subst}
use Rattle.node_store.specs.Stored.{IsMarking}
use Rattle.node_store.proofs.Marks.{marking_all}
use Rattle.node_store.proofs.marking.mark_part.Goals as goal

pub record_mark-requires-clause-marking : goal.record_mark-requires-clause-marking
record_mark-requires-clause-marking g c =
    subst (IsMarking c.args.books.now.folding.state) (sym c.mark_all.ensures) (marking_all c.args.books.now.folding.state c.args.part.now c.requires.marking)
