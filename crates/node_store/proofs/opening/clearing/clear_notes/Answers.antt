use Rattle.std.proofs.Common.{List, ℕ, sym, subst}
use Rattle.node_store.specs.Clearing.{HasNotesAmong}
use Rattle.node_store.proofs.ClearedStore.{aside_leaves, aside_quiet, clears_leaves, clears_quiet, notes_listed, outside_quiet, reads_on, reads_quiet}
use Rattle.node_store.proofs.opening.clearing.clear_notes.Goals as goal

pub returns-in-Err-clause-read : goal.returns-in-Err-clause-read
returns-in-Err-clause-read g c = reads_quiet c.args.text.now.list (g.D.Disk.files c.args.disk.now) (g.D.Disk.files c.list_names.new.disk) c.list_names.ensures.untouched.read

pub returns-in-Err-clause-stop : goal.returns-in-Err-clause-stop
returns-in-Err-clause-stop g c = λ t. clears_quiet g.D.Disk.moment g.D.Disk.images c.args.text.now.list c.args.disk.now c.list_names.new.disk c.list_names.ensures.untouched.stop

pub returns-in-Err-clause-aside : goal.returns-in-Err-clause-aside
returns-in-Err-clause-aside g c = aside_quiet g.D.Disk.moment g.D.Disk.images c.args.disk.now c.list_names.new.disk c.list_names.ensures.untouched.stop

pub clear_each-requires-clause-outside : goal.clear_each-requires-clause-outside
clear_each-requires-clause-outside g c = outside_quiet g.D.Disk.files g.D.Disk.moment g.D.Disk.images c.args.disk.now c.list_names.new.disk c.list_names.ensures.untouched.read c.list_names.ensures.untouched.stop c.requires.outside

pub clear_each-requires-clause-among : goal.clear_each-requires-clause-among
clear_each-requires-clause-among g c = λ w read. subst (λ (l : List (List ℕ)). HasNotesAmong l w) (sym c.as_slice.ensures.value) (notes_listed c.in-Ok.names.items w (c.in-Ok.ensures.listed w read))

pub returns-clause-read : goal.returns-clause-read
returns-clause-read g c = reads_on c.args.text.now.list (g.D.Disk.files c.args.disk.now) (g.D.Disk.files c.list_names.new.disk) (g.D.Disk.files c.clear_each.new.disk) (reads_quiet c.args.text.now.list (g.D.Disk.files c.args.disk.now) (g.D.Disk.files c.list_names.new.disk) c.list_names.ensures.untouched.read) c.clear_each.ensures.read

pub returns-clause-stop : goal.returns-clause-stop
returns-clause-stop g c = λ t. clears_leaves g.D.Disk.moment g.D.Disk.images c.args.text.now.list c.args.disk.now c.list_names.new.disk c.clear_each.new.disk (clears_quiet g.D.Disk.moment g.D.Disk.images c.args.text.now.list c.args.disk.now c.list_names.new.disk c.list_names.ensures.untouched.stop) (c.clear_each.ensures.stop t)

pub returns-clause-aside : goal.returns-clause-aside
returns-clause-aside g c = aside_leaves g.D.Disk.moment g.D.Disk.images c.args.disk.now c.list_names.new.disk c.clear_each.new.disk (aside_quiet g.D.Disk.moment g.D.Disk.images c.args.disk.now c.list_names.new.disk c.list_names.ensures.untouched.stop) c.clear_each.ensures.aside
