use Rattle.std.proofs.Common.{[]}
use Rattle.ftn_addr.specs.Address.{address}
use Rattle.node_model.specs.StoreWords.{entry_of}
use Rattle.outbound_take.proofs.OurLemmas.{our_same}
use Rattle.outbound_take.proofs.WholeLemmas.{new_whole, new_of_file}
use Rattle.outbound_take.proofs.whole.plan_whole.Goals as goal

pub returns-in-Err-clause-works : goal.returns-in-Err-clause-works
returns-in-Err-clause-works g c = ([], our_same _ _ _ _ _ c.in-Err.ensures.kept)

pub returns-then-size-gt-MAX_SIZE-clause-works : goal.returns-then-size-gt-MAX_SIZE-clause-works
returns-then-size-gt-MAX_SIZE-clause-works g c = our_same _ _ _ _ _ c.in-Ok.ensures.kept

pub returns-in-Err-whole_file-clause-works : goal.returns-in-Err-whole_file-clause-works
returns-in-Err-whole_file-clause-works g c = ([], our_same _ _ _ _ _ c.in-Ok.ensures.kept)

pub returns-in-Ok-of_file-clause-works : goal.returns-in-Ok-of_file-clause-works
returns-in-Ok-of_file-clause-works g c = our_same _ _ _ _ _ c.in-Ok.ensures.kept

pub returns-in-Err-of_file-clause-works : goal.returns-in-Err-of_file-clause-works
returns-in-Err-of_file-clause-works g c = ([], our_same _ _ _ _ _ c.in-Ok.ensures.kept)

pub returns-in-Ok-of_file-clause-staged : goal.returns-in-Ok-of_file-clause-staged
returns-in-Ok-of_file-clause-staged g c =
    new_of_file c.in-Ok-of_file.plans.files.items c.in-Ok-whole_file.file _ c.in-Ok-of_file.ensures.files
    (new_whole c.args.kind (address c.args.dest.now) c.args.now c.in-Ok.staged.1 c.in-Ok.staged.0 (entry_of c.in-Ok-whole_file.file) _ _ c.requires.address c.requires.kind c.in-Ok-whole_file.ensures c.in-Ok.ensures.memory)
