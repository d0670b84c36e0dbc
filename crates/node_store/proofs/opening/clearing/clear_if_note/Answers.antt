use Rattle.std.proofs.Common.{refl}
use Rattle.node_store.proofs.ClearedNotes.{clears-same, run_of}
use Rattle.node_store.proofs.ClearedStore.{aside_leaves, aside_quiet, aside_refl, clears_leaves, clears_quiet, clears_refl, note_absent, outside_quiet, reads_on, reads_quiet, stands_there}
use Rattle.node_store.proofs.opening.clearing.clear_if_note.Goals as goal

pub returns-then-not-is_note-clause-read : goal.returns-then-not-is_note-clause-read
returns-then-not-is_note-clause-read g c = λ w read. (w, read, clears-same c.args.text.now.list w w refl)

pub returns-then-not-is_note-clause-stop : goal.returns-then-not-is_note-clause-stop
returns-then-not-is_note-clause-stop g c = λ t. clears_refl g.D.Disk.moment g.D.Disk.images c.args.text.now.list c.args.disk.now

pub returns-then-not-is_note-clause-aside : goal.returns-then-not-is_note-clause-aside
returns-then-not-is_note-clause-aside g c = aside_refl g.D.Disk.moment g.D.Disk.images c.args.disk.now

pub clear_standing-requires-clause-stands : goal.clear_standing-requires-clause-stands
clear_standing-requires-clause-stands g c = λ w read. stands_there c.args.name.now w c.in-Ok-Some.field-0 c.in-Ok-Some.field-0-0 c.in-Ok-Some.field-0-is (c.in-Ok-Some.ensures.told w (c.stat.ensures.read w read))

pub clear_standing-requires-clause-outside : goal.clear_standing-requires-clause-outside
clear_standing-requires-clause-outside g c = outside_quiet g.D.Disk.files g.D.Disk.moment g.D.Disk.images c.args.disk.now c.stat.new.self c.stat.ensures.read (run_of g.D.Disk.moment g.D.Disk.images c.args.disk.now c.stat.new.self c.stat.ensures.stop) c.requires.outside

pub returns-in-Ok-Some-clause-read : goal.returns-in-Ok-Some-clause-read
returns-in-Ok-Some-clause-read g c = reads_on c.args.text.now.list (g.D.Disk.files c.args.disk.now) (g.D.Disk.files c.stat.new.self) (g.D.Disk.files c.clear_standing.new.disk) (reads_quiet c.args.text.now.list (g.D.Disk.files c.args.disk.now) (g.D.Disk.files c.stat.new.self) c.stat.ensures.read) c.clear_standing.ensures.read

pub returns-in-Ok-Some-clause-stop : goal.returns-in-Ok-Some-clause-stop
returns-in-Ok-Some-clause-stop g c = λ t. clears_leaves g.D.Disk.moment g.D.Disk.images c.args.text.now.list c.args.disk.now c.stat.new.self c.clear_standing.new.disk (clears_quiet g.D.Disk.moment g.D.Disk.images c.args.text.now.list c.args.disk.now c.stat.new.self (run_of g.D.Disk.moment g.D.Disk.images c.args.disk.now c.stat.new.self c.stat.ensures.stop)) (c.clear_standing.ensures.stop t)

pub returns-in-Ok-Some-clause-aside : goal.returns-in-Ok-Some-clause-aside
returns-in-Ok-Some-clause-aside g c = aside_leaves g.D.Disk.moment g.D.Disk.images c.args.disk.now c.stat.new.self c.clear_standing.new.disk (aside_quiet g.D.Disk.moment g.D.Disk.images c.args.disk.now c.stat.new.self (run_of g.D.Disk.moment g.D.Disk.images c.args.disk.now c.stat.new.self c.stat.ensures.stop)) c.clear_standing.ensures.aside

pub returns-in-Ok-None-clause-read : goal.returns-in-Ok-None-clause-read
returns-in-Ok-None-clause-read g c = reads_quiet c.args.text.now.list (g.D.Disk.files c.args.disk.now) (g.D.Disk.files c.stat.new.self) c.stat.ensures.read

pub returns-in-Ok-None-clause-stop : goal.returns-in-Ok-None-clause-stop
returns-in-Ok-None-clause-stop g c = λ t. clears_quiet g.D.Disk.moment g.D.Disk.images c.args.text.now.list c.args.disk.now c.stat.new.self (run_of g.D.Disk.moment g.D.Disk.images c.args.disk.now c.stat.new.self c.stat.ensures.stop)

pub returns-in-Ok-None-clause-aside : goal.returns-in-Ok-None-clause-aside
returns-in-Ok-None-clause-aside g c = aside_quiet g.D.Disk.moment g.D.Disk.images c.args.disk.now c.stat.new.self (run_of g.D.Disk.moment g.D.Disk.images c.args.disk.now c.stat.new.self c.stat.ensures.stop)

pub returns-in-Err-clause-read : goal.returns-in-Err-clause-read
returns-in-Err-clause-read g c = reads_quiet c.args.text.now.list (g.D.Disk.files c.args.disk.now) (g.D.Disk.files c.stat.new.self) c.stat.ensures.read

pub returns-in-Err-clause-stop : goal.returns-in-Err-clause-stop
returns-in-Err-clause-stop g c = λ t. clears_quiet g.D.Disk.moment g.D.Disk.images c.args.text.now.list c.args.disk.now c.stat.new.self (run_of g.D.Disk.moment g.D.Disk.images c.args.disk.now c.stat.new.self c.stat.ensures.stop)

pub returns-in-Err-clause-aside : goal.returns-in-Err-clause-aside
returns-in-Err-clause-aside g c = aside_quiet g.D.Disk.moment g.D.Disk.images c.args.disk.now c.stat.new.self (run_of g.D.Disk.moment g.D.Disk.images c.args.disk.now c.stat.new.self c.stat.ensures.stop)

pub returns-in-Ok-None-clause-outside : goal.returns-in-Ok-None-clause-outside
returns-in-Ok-None-clause-outside g c = outside_quiet g.D.Disk.files g.D.Disk.moment g.D.Disk.images c.args.disk.now c.stat.new.self c.stat.ensures.read (run_of g.D.Disk.moment g.D.Disk.images c.args.disk.now c.stat.new.self c.stat.ensures.stop) c.requires.outside

pub returns-in-Ok-None-clause-gone : goal.returns-in-Ok-None-clause-gone
returns-in-Ok-None-clause-gone g c = λ note w read. note_absent c.args.name.now w c.in-Ok-None.field-0 c.in-Ok-None.field-0-is (c.in-Ok-None.ensures.told w (c.stat.ensures.read w read))
