use Rattle.std.proofs.Common.{ℕ, List, subst}
use Rattle.busy_marks.specs.Text.{mark_text}
use Rattle.disk_model.specs.Changes.{Follows}
use Rattle.disk_model.specs.Moments.{Leaves}
use Rattle.ftn_addr.specs.Address.{address}
use Rattle.node_store.specs.Clearing.{ClearsMarks}
use Rattle.node_store.proofs.AsideFiles.{all_aside, all_aside_read, look_aside, look_aside_read, none_aside, none_aside_read}
use Rattle.node_store.proofs.ClearedStore.{all_read, all_stop, found_then, look_marks, look_marks_read, look_read, look_stop, marks_read, marks_stop, none_marks, none_marks_read, none_read, none_stop}
use Rattle.node_store.proofs.opening.finding.find.Goals as goal

pub returns-in-Err-clause-stop : goal.returns-in-Err-clause-stop
returns-in-Err-clause-stop g c = λ t. none_stop g.D.Disk.moment g.D.Disk.images c.args.disk.now

pub returns-in-Err-clause-read : goal.returns-in-Err-clause-read
returns-in-Err-clause-read g c = none_read (g.D.Disk.files c.args.disk.now)

pub returns-in-Err-clause-marks_stop : goal.returns-in-Err-clause-marks_stop
returns-in-Err-clause-marks_stop g c = λ t. none_marks g.D.Disk.moment g.D.Disk.images (mark_text (address c.args.home.now)) c.args.disk.now

pub returns-in-Err-clause-marks_read : goal.returns-in-Err-clause-marks_read
returns-in-Err-clause-marks_read g c = none_marks_read (mark_text (address c.args.home.now)) (g.D.Disk.files c.args.disk.now)

pub returns-in-Err-look_over-clause-stop : goal.returns-in-Err-look_over-clause-stop
returns-in-Err-look_over-clause-stop g c = λ t. look_stop g.D.Disk.moment g.D.Disk.images c.args.disk.now c.look_over.new.disk (c.look_over.ensures.stop t)

pub returns-in-Err-look_over-clause-read : goal.returns-in-Err-look_over-clause-read
returns-in-Err-look_over-clause-read g c = look_read (g.D.Disk.files c.args.disk.now) (g.D.Disk.files c.look_over.new.disk) c.look_over.ensures.read

pub returns-in-Err-look_over-clause-marks_stop : goal.returns-in-Err-look_over-clause-marks_stop
returns-in-Err-look_over-clause-marks_stop g c = λ t. look_marks g.D.Disk.moment g.D.Disk.images (mark_text (address c.args.home.now)) c.args.disk.now c.look_over.new.disk (c.look_over.ensures.stop t)

pub returns-in-Err-look_over-clause-marks_read : goal.returns-in-Err-look_over-clause-marks_read
returns-in-Err-look_over-clause-marks_read g c = look_marks_read (mark_text (address c.args.home.now)) (g.D.Disk.files c.args.disk.now) (g.D.Disk.files c.look_over.new.disk) c.look_over.ensures.read

pub clear_notes-requires : goal.clear_notes-requires
clear_notes-requires g c =
    record { outside = record { both = λ f w read now. (c.in-Ok-look_over.ensures.found.tended.same.both f w read now).outside } }

pub returns-in-Ok-clear_notes-clause-stop : goal.returns-in-Ok-clear_notes-clause-stop
returns-in-Ok-clear_notes-clause-stop g c = all_stop g.D.Disk.files g.D.Disk.moment g.D.Disk.images g.D.Disk.tells g.D.Disk.content g.met.D.Disk.as_read g.met.D.Disk.reads c.in-Ok.text.list c.args.disk.now c.look_over.new.disk c.clear_notes.new.disk c.clear_notes.ensures.read c.clear_notes.ensures.stop c.look_over.ensures.stop

pub returns-in-Ok-clear_notes-clause-read : goal.returns-in-Ok-clear_notes-clause-read
returns-in-Ok-clear_notes-clause-read g c = all_read g.D.Disk.files g.D.Disk.moment g.D.Disk.images g.D.Disk.tells g.D.Disk.content g.met.D.Disk.as_read g.met.D.Disk.reads c.in-Ok.text.list c.args.disk.now c.look_over.new.disk c.clear_notes.new.disk c.clear_notes.ensures.read c.clear_notes.ensures.stop c.look_over.ensures.read

pub returns-in-Ok-clear_notes-clause-marks_stop : goal.returns-in-Ok-clear_notes-clause-marks_stop
returns-in-Ok-clear_notes-clause-marks_stop g c = λ t.
    subst (λ (l : List ℕ). Leaves g.D.Disk.moment g.D.Disk.images (ClearsMarks l) c.args.disk.now c.clear_notes.new.disk) c.in-Ok.ensures (marks_stop g.D.Disk.files g.D.Disk.moment g.D.Disk.images g.D.Disk.tells g.D.Disk.content g.met.D.Disk.as_read g.met.D.Disk.reads c.in-Ok.text.list c.args.disk.now c.look_over.new.disk c.clear_notes.new.disk c.clear_notes.ensures.read c.clear_notes.ensures.stop c.look_over.ensures.stop t)

pub returns-in-Ok-clear_notes-clause-marks_read : goal.returns-in-Ok-clear_notes-clause-marks_read
returns-in-Ok-clear_notes-clause-marks_read g c =
    subst (λ (l : List ℕ). Follows (ClearsMarks l) (g.D.Disk.files c.args.disk.now) (g.D.Disk.files c.clear_notes.new.disk)) c.in-Ok.ensures (marks_read g.D.Disk.files g.D.Disk.moment g.D.Disk.images g.D.Disk.tells g.D.Disk.content g.met.D.Disk.as_read g.met.D.Disk.reads c.in-Ok.text.list c.args.disk.now c.look_over.new.disk c.clear_notes.new.disk c.clear_notes.ensures.read c.clear_notes.ensures.stop c.look_over.ensures.read)

pub returns-clause-stop : goal.returns-clause-stop
returns-clause-stop g c = all_stop g.D.Disk.files g.D.Disk.moment g.D.Disk.images g.D.Disk.tells g.D.Disk.content g.met.D.Disk.as_read g.met.D.Disk.reads c.in-Ok.text.list c.args.disk.now c.look_over.new.disk c.clear_notes.new.disk c.clear_notes.ensures.read c.clear_notes.ensures.stop c.look_over.ensures.stop

pub returns-clause-read : goal.returns-clause-read
returns-clause-read g c = all_read g.D.Disk.files g.D.Disk.moment g.D.Disk.images g.D.Disk.tells g.D.Disk.content g.met.D.Disk.as_read g.met.D.Disk.reads c.in-Ok.text.list c.args.disk.now c.look_over.new.disk c.clear_notes.new.disk c.clear_notes.ensures.read c.clear_notes.ensures.stop c.look_over.ensures.read

pub returns-clause-marks_stop : goal.returns-clause-marks_stop
returns-clause-marks_stop g c = λ t.
    subst (λ (l : List ℕ). Leaves g.D.Disk.moment g.D.Disk.images (ClearsMarks l) c.args.disk.now c.clear_notes.new.disk) c.in-Ok.ensures (marks_stop g.D.Disk.files g.D.Disk.moment g.D.Disk.images g.D.Disk.tells g.D.Disk.content g.met.D.Disk.as_read g.met.D.Disk.reads c.in-Ok.text.list c.args.disk.now c.look_over.new.disk c.clear_notes.new.disk c.clear_notes.ensures.read c.clear_notes.ensures.stop c.look_over.ensures.stop t)

pub returns-clause-marks_read : goal.returns-clause-marks_read
returns-clause-marks_read g c =
    subst (λ (l : List ℕ). Follows (ClearsMarks l) (g.D.Disk.files c.args.disk.now) (g.D.Disk.files c.clear_notes.new.disk)) c.in-Ok.ensures (marks_read g.D.Disk.files g.D.Disk.moment g.D.Disk.images g.D.Disk.tells g.D.Disk.content g.met.D.Disk.as_read g.met.D.Disk.reads c.in-Ok.text.list c.args.disk.now c.look_over.new.disk c.clear_notes.new.disk c.clear_notes.ensures.read c.clear_notes.ensures.stop c.look_over.ensures.read)

pub returns-in-Ok-clear_notes-clause-found : goal.returns-in-Ok-clear_notes-clause-found
returns-in-Ok-clear_notes-clause-found g c =
    found_then g.D.Disk.files g.D.Disk.moment g.D.Disk.images g.D.Disk.tells g.D.Disk.content g.met.D.Disk.as_read g.met.D.Disk.reads c.in-Ok.text.list c.args.disk.now c.look_over.new.disk c.clear_notes.new.disk c.clear_notes.ensures.read c.clear_notes.ensures.stop c.clear_notes.ensures.aside c.in-Ok-clear_notes.ensures.outside c.in-Ok-look_over.found.books c.in-Ok-look_over.found.given.items c.in-Ok-look_over.found.takes c.in-Ok-look_over.ensures.found

pub returns-in-Err-clause-aside_stop : goal.returns-in-Err-clause-aside_stop
returns-in-Err-clause-aside_stop g c = λ t. none_aside g.D.Disk.moment g.D.Disk.images c.args.disk.now

pub returns-in-Err-clause-aside_read : goal.returns-in-Err-clause-aside_read
returns-in-Err-clause-aside_read g c = none_aside_read (g.D.Disk.files c.args.disk.now)

pub returns-in-Err-look_over-clause-aside_stop : goal.returns-in-Err-look_over-clause-aside_stop
returns-in-Err-look_over-clause-aside_stop g c = λ t. look_aside g.D.Disk.moment g.D.Disk.images c.args.disk.now c.look_over.new.disk (c.look_over.ensures.stop t)

pub returns-in-Err-look_over-clause-aside_read : goal.returns-in-Err-look_over-clause-aside_read
returns-in-Err-look_over-clause-aside_read g c = look_aside_read (g.D.Disk.files c.args.disk.now) (g.D.Disk.files c.look_over.new.disk) c.look_over.ensures.read

pub returns-in-Ok-clear_notes-clause-aside_stop : goal.returns-in-Ok-clear_notes-clause-aside_stop
returns-in-Ok-clear_notes-clause-aside_stop g c = λ t. all_aside g.D.Disk.moment g.D.Disk.images c.in-Ok.text.list c.args.disk.now c.look_over.new.disk c.clear_notes.new.disk (c.look_over.ensures.stop t) (c.clear_notes.ensures.stop t)

pub returns-in-Ok-clear_notes-clause-aside_read : goal.returns-in-Ok-clear_notes-clause-aside_read
returns-in-Ok-clear_notes-clause-aside_read g c =
    all_aside_read c.in-Ok.text.list (g.D.Disk.files c.args.disk.now) (g.D.Disk.files c.look_over.new.disk) (g.D.Disk.files c.clear_notes.new.disk) c.look_over.ensures.read c.clear_notes.ensures.read

pub returns-clause-aside_stop : goal.returns-clause-aside_stop
returns-clause-aside_stop g c = λ t. all_aside g.D.Disk.moment g.D.Disk.images c.in-Ok.text.list c.args.disk.now c.look_over.new.disk c.clear_notes.new.disk (c.look_over.ensures.stop t) (c.clear_notes.ensures.stop t)

pub returns-clause-aside_read : goal.returns-clause-aside_read
returns-clause-aside_read g c =
    all_aside_read c.in-Ok.text.list (g.D.Disk.files c.args.disk.now) (g.D.Disk.files c.look_over.new.disk) (g.D.Disk.files c.clear_notes.new.disk) c.look_over.ensures.read c.clear_notes.ensures.read
