use Rattle.std.proofs.Common.{Ok}
use Rattle.node_store.proofs.ClearedNotes.{cleared_aside, cleared_gone, cleared_outside, cleared_read, cleared_stop, quiet_aside, run_of, sync_failed_read, sync_failed_stop}
use Rattle.node_store.proofs.opening.clearing.clear_standing.Goals as goal

pub returns-in-Err-clause-read : goal.returns-in-Err-clause-read
returns-in-Err-clause-read g c =
    sync_failed_read g.D.Disk.tells g.D.Disk.content g.D.Disk.files g.D.Disk.moment g.D.Disk.images g.met.D.Disk.reads g.met.D.Disk.told c.args.text.now.list c.args.name.now c.requires.note c.args.disk.now c.sync.new.self c.sync.new.self c.sync.ensures.read (run_of g.D.Disk.moment g.D.Disk.images c.args.disk.now c.sync.new.self c.sync.ensures.stop) c.requires.outside

pub returns-in-Err-clause-stop : goal.returns-in-Err-clause-stop
returns-in-Err-clause-stop g c = λ t.
    sync_failed_stop g.D.Disk.tells g.D.Disk.content g.D.Disk.files g.D.Disk.moment g.D.Disk.images g.met.D.Disk.reads g.met.D.Disk.told c.args.text.now.list c.args.name.now c.requires.note c.args.disk.now c.sync.new.self c.sync.new.self c.sync.ensures.read (run_of g.D.Disk.moment g.D.Disk.images c.args.disk.now c.sync.new.self c.sync.ensures.stop) c.requires.outside

pub returns-in-Err-clause-aside : goal.returns-in-Err-clause-aside
returns-in-Err-clause-aside g c =
    quiet_aside g.D.Disk.tells g.D.Disk.content g.D.Disk.files g.D.Disk.moment g.D.Disk.images g.met.D.Disk.reads g.met.D.Disk.told c.args.text.now.list c.args.name.now c.requires.note c.args.disk.now c.sync.new.self c.sync.new.self c.sync.ensures.read (run_of g.D.Disk.moment g.D.Disk.images c.args.disk.now c.sync.new.self c.sync.ensures.stop) c.requires.outside

pub returns-in-Ok-clear_note-clause-read : goal.returns-in-Ok-clear_note-clause-read
returns-in-Ok-clear_note-clause-read g c =
    cleared_read g.D.Disk.tells g.D.Disk.content g.D.Disk.files g.D.Disk.moment g.D.Disk.images g.met.D.Disk.reads g.met.D.Disk.told c.args.text.now.list c.args.name.now c.requires.note c.args.disk.now c.sync.new.self c.clear_note.new.disk c.sync.ensures.read (run_of g.D.Disk.moment g.D.Disk.images c.args.disk.now c.sync.new.self c.sync.ensures.stop) c.requires.outside c.in-Ok.ensures.durable c.clear_note.result c.clear_note.ensures.undoes c.clear_note.ensures.stop

pub returns-in-Ok-clear_note-clause-stop : goal.returns-in-Ok-clear_note-clause-stop
returns-in-Ok-clear_note-clause-stop g c =
    cleared_stop g.D.Disk.tells g.D.Disk.content g.D.Disk.files g.D.Disk.moment g.D.Disk.images g.met.D.Disk.reads g.met.D.Disk.told c.args.text.now.list c.args.name.now c.requires.note c.args.disk.now c.sync.new.self c.clear_note.new.disk c.sync.ensures.read (run_of g.D.Disk.moment g.D.Disk.images c.args.disk.now c.sync.new.self c.sync.ensures.stop) c.requires.outside c.in-Ok.ensures.durable c.clear_note.result c.clear_note.ensures.undoes c.clear_note.ensures.stop

pub returns-in-Ok-clear_note-clause-aside : goal.returns-in-Ok-clear_note-clause-aside
returns-in-Ok-clear_note-clause-aside g c =
    cleared_aside g.D.Disk.tells g.D.Disk.content g.D.Disk.files g.D.Disk.moment g.D.Disk.images g.met.D.Disk.reads g.met.D.Disk.told c.args.text.now.list c.args.name.now c.requires.note c.args.disk.now c.sync.new.self c.clear_note.new.disk c.sync.ensures.read (run_of g.D.Disk.moment g.D.Disk.images c.args.disk.now c.sync.new.self c.sync.ensures.stop) c.requires.outside c.in-Ok.ensures.durable c.clear_note.result c.clear_note.ensures.undoes c.clear_note.ensures.stop

pub returns-in-Err-Failed-clause-read : goal.returns-in-Err-Failed-clause-read
returns-in-Err-Failed-clause-read g c =
    cleared_read g.D.Disk.tells g.D.Disk.content g.D.Disk.files g.D.Disk.moment g.D.Disk.images g.met.D.Disk.reads g.met.D.Disk.told c.args.text.now.list c.args.name.now c.requires.note c.args.disk.now c.sync.new.self c.clear_note.new.disk c.sync.ensures.read (run_of g.D.Disk.moment g.D.Disk.images c.args.disk.now c.sync.new.self c.sync.ensures.stop) c.requires.outside c.in-Ok.ensures.durable c.clear_note.result c.clear_note.ensures.undoes c.clear_note.ensures.stop

pub returns-in-Err-Failed-clause-stop : goal.returns-in-Err-Failed-clause-stop
returns-in-Err-Failed-clause-stop g c =
    cleared_stop g.D.Disk.tells g.D.Disk.content g.D.Disk.files g.D.Disk.moment g.D.Disk.images g.met.D.Disk.reads g.met.D.Disk.told c.args.text.now.list c.args.name.now c.requires.note c.args.disk.now c.sync.new.self c.clear_note.new.disk c.sync.ensures.read (run_of g.D.Disk.moment g.D.Disk.images c.args.disk.now c.sync.new.self c.sync.ensures.stop) c.requires.outside c.in-Ok.ensures.durable c.clear_note.result c.clear_note.ensures.undoes c.clear_note.ensures.stop

pub returns-in-Err-Failed-clause-aside : goal.returns-in-Err-Failed-clause-aside
returns-in-Err-Failed-clause-aside g c =
    cleared_aside g.D.Disk.tells g.D.Disk.content g.D.Disk.files g.D.Disk.moment g.D.Disk.images g.met.D.Disk.reads g.met.D.Disk.told c.args.text.now.list c.args.name.now c.requires.note c.args.disk.now c.sync.new.self c.clear_note.new.disk c.sync.ensures.read (run_of g.D.Disk.moment g.D.Disk.images c.args.disk.now c.sync.new.self c.sync.ensures.stop) c.requires.outside c.in-Ok.ensures.durable c.clear_note.result c.clear_note.ensures.undoes c.clear_note.ensures.stop

pub returns-in-Err-NoMemory-clause-read : goal.returns-in-Err-NoMemory-clause-read
returns-in-Err-NoMemory-clause-read g c =
    cleared_read g.D.Disk.tells g.D.Disk.content g.D.Disk.files g.D.Disk.moment g.D.Disk.images g.met.D.Disk.reads g.met.D.Disk.told c.args.text.now.list c.args.name.now c.requires.note c.args.disk.now c.sync.new.self c.clear_note.new.disk c.sync.ensures.read (run_of g.D.Disk.moment g.D.Disk.images c.args.disk.now c.sync.new.self c.sync.ensures.stop) c.requires.outside c.in-Ok.ensures.durable c.clear_note.result c.clear_note.ensures.undoes c.clear_note.ensures.stop

pub returns-in-Err-NoMemory-clause-stop : goal.returns-in-Err-NoMemory-clause-stop
returns-in-Err-NoMemory-clause-stop g c =
    cleared_stop g.D.Disk.tells g.D.Disk.content g.D.Disk.files g.D.Disk.moment g.D.Disk.images g.met.D.Disk.reads g.met.D.Disk.told c.args.text.now.list c.args.name.now c.requires.note c.args.disk.now c.sync.new.self c.clear_note.new.disk c.sync.ensures.read (run_of g.D.Disk.moment g.D.Disk.images c.args.disk.now c.sync.new.self c.sync.ensures.stop) c.requires.outside c.in-Ok.ensures.durable c.clear_note.result c.clear_note.ensures.undoes c.clear_note.ensures.stop

pub returns-in-Err-NoMemory-clause-aside : goal.returns-in-Err-NoMemory-clause-aside
returns-in-Err-NoMemory-clause-aside g c =
    cleared_aside g.D.Disk.tells g.D.Disk.content g.D.Disk.files g.D.Disk.moment g.D.Disk.images g.met.D.Disk.reads g.met.D.Disk.told c.args.text.now.list c.args.name.now c.requires.note c.args.disk.now c.sync.new.self c.clear_note.new.disk c.sync.ensures.read (run_of g.D.Disk.moment g.D.Disk.images c.args.disk.now c.sync.new.self c.sync.ensures.stop) c.requires.outside c.in-Ok.ensures.durable c.clear_note.result c.clear_note.ensures.undoes c.clear_note.ensures.stop

pub returns-in-Ok-clear_note-clause-gone : goal.returns-in-Ok-clear_note-clause-gone
returns-in-Ok-clear_note-clause-gone g c =
    cleared_gone g.D.Disk.tells g.D.Disk.content g.D.Disk.files g.D.Disk.moment g.D.Disk.images g.met.D.Disk.reads g.met.D.Disk.told c.args.text.now.list c.args.name.now c.requires.note c.args.disk.now c.sync.new.self c.clear_note.new.disk c.sync.ensures.read (run_of g.D.Disk.moment g.D.Disk.images c.args.disk.now c.sync.new.self c.sync.ensures.stop) c.requires.outside c.in-Ok.ensures.durable (Ok tt) c.in-Ok-clear_note.ensures.undoes c.clear_note.ensures.stop (λ made is. is)

pub returns-in-Ok-clear_note-clause-outside : goal.returns-in-Ok-clear_note-clause-outside
returns-in-Ok-clear_note-clause-outside g c =
    cleared_outside g.D.Disk.tells g.D.Disk.content g.D.Disk.files g.D.Disk.moment g.D.Disk.images g.met.D.Disk.reads g.met.D.Disk.told c.args.text.now.list c.args.name.now c.requires.note c.args.disk.now c.sync.new.self c.clear_note.new.disk c.sync.ensures.read (run_of g.D.Disk.moment g.D.Disk.images c.args.disk.now c.sync.new.self c.sync.ensures.stop) c.requires.outside c.in-Ok.ensures.durable (Ok tt) c.in-Ok-clear_note.ensures.undoes c.clear_note.ensures.stop (λ made is. is)
