use Rattle.std.proofs.Common.{refl, sym, subst}
use Rattle.busy_marks.specs.Text.{mark_text}
use Rattle.disk_model.specs.Moments.{Leaves}
use Rattle.ftn_addr.specs.Address.{address}
use Rattle.node_store.specs.Aside.{SameAside}
use Rattle.node_store.specs.Clearing.{ClearsMarks}
use Rattle.node_store.specs.Finding.{IsOpened}
use Rattle.node_store.specs.Opening.{Recovers}
use Rattle.node_store.specs.Stored.{Memory}
use Rattle.node_store.proofs.AsideFiles.{content_aside, none_aside}
use Rattle.node_store.proofs.ClearedNotes.{clears-same}
use Rattle.node_store.proofs.ClearedStore.{content_clears, none_marks, none_stop}
use Rattle.node_store.proofs.OpenSound.{content_recovers, opened_told}
use Rattle.node_store.proofs.Recovering.{recovers-refl}
use Rattle.node_store.proofs.store.NodeStore.open.Goals as goal

pub returns-in-Ok-find-clause-told : goal.returns-in-Ok-find-clause-told
returns-in-Ok-find-clause-told g c = λ t.
    let before = g.D.Disk.content c.args.disk in
    let new = c.find.new.disk in
    subst (λ (d : g.row.D.Denot). IsOpened before (g.D.Disk.content d) c.of_found.result.memory) (sym c.of_found.ensures.disk)
    (subst (λ (m : Memory). IsOpened before (g.D.Disk.content new) m) (sym c.of_found.ensures.memory)
    (opened_told g.D.Disk.files g.D.Disk.moment g.D.Disk.images g.D.Disk.tells g.D.Disk.content g.met.D.Disk.as_read g.met.D.Disk.reads g.met.D.Disk.told c.args.disk new c.in-Ok-find.found.books c.in-Ok-find.found.given.items c.in-Ok-find.found.takes c.in-Ok-find.ensures.found c.in-Ok-find.ensures.none c.find.ensures.read t))

pub returns-in-Ok-find-clause-read : goal.returns-in-Ok-find-clause-read
returns-in-Ok-find-clause-read g c = λ t.
    subst (λ (d : g.row.D.Denot). Recovers (g.D.Disk.content c.args.disk) (g.D.Disk.content d)) (sym c.of_found.ensures.disk)
    (content_recovers g.D.Disk.files g.D.Disk.tells g.D.Disk.content g.met.D.Disk.reads g.met.D.Disk.told c.args.disk c.find.new.disk c.find.ensures.read t)

pub returns-in-Err-find-clause-read : goal.returns-in-Err-find-clause-read
returns-in-Err-find-clause-read g c = λ t.
    content_recovers g.D.Disk.files g.D.Disk.tells g.D.Disk.content g.met.D.Disk.reads g.met.D.Disk.told c.args.disk c.find.new.disk c.find.ensures.read t

pub returns-in-Ok-find-clause-marks_read : goal.returns-in-Ok-find-clause-marks_read
returns-in-Ok-find-clause-marks_read g c = λ t.
    subst (λ (d : g.row.D.Denot). ClearsMarks (mark_text (address c.args.home.now)) (g.D.Disk.content c.args.disk) (g.D.Disk.content d)) (sym c.of_found.ensures.disk)
    (content_clears g.D.Disk.files g.D.Disk.tells g.D.Disk.content g.met.D.Disk.reads g.met.D.Disk.told (mark_text (address c.args.home.now)) c.args.disk c.find.new.disk c.find.ensures.marks_read t)

pub returns-in-Err-find-clause-marks_read : goal.returns-in-Err-find-clause-marks_read
returns-in-Err-find-clause-marks_read g c = λ t.
    content_clears g.D.Disk.files g.D.Disk.tells g.D.Disk.content g.met.D.Disk.reads g.met.D.Disk.told (mark_text (address c.args.home.now)) c.args.disk c.find.new.disk c.find.ensures.marks_read t

pub returns-in-Ok-find-clause-marks_stop : goal.returns-in-Ok-find-clause-marks_stop
returns-in-Ok-find-clause-marks_stop g c = λ t.
    subst (λ (d : g.row.D.Denot). Leaves g.D.Disk.moment g.D.Disk.images (ClearsMarks (mark_text (address c.args.home.now))) c.args.disk d) (sym c.of_found.ensures.disk) (c.find.ensures.marks_stop t)

pub returns-in-Err-clause-marks_stop : goal.returns-in-Err-clause-marks_stop
returns-in-Err-clause-marks_stop g c = λ t. none_marks g.D.Disk.moment g.D.Disk.images (mark_text (address c.args.home.now)) c.args.disk

pub returns-in-Err-clause-stop : goal.returns-in-Err-clause-stop
returns-in-Err-clause-stop g c = λ t. none_stop g.D.Disk.moment g.D.Disk.images c.args.disk

pub returns-in-Err-clause-marks_read : goal.returns-in-Err-clause-marks_read
returns-in-Err-clause-marks_read g c = λ t. (clears-same (mark_text (address c.args.home.now)) (g.D.Disk.content c.args.disk) (g.D.Disk.content c.args.disk) refl).marks

pub returns-in-Err-clause-read : goal.returns-in-Err-clause-read
returns-in-Err-clause-read g c = λ t. recovers-refl (g.D.Disk.content c.args.disk)

pub returns-in-Ok-find-clause-aside_read : goal.returns-in-Ok-find-clause-aside_read
returns-in-Ok-find-clause-aside_read g c = λ t.
    subst (λ (d : g.row.D.Denot). SameAside (g.D.Disk.content c.args.disk) (g.D.Disk.content d)) (sym c.of_found.ensures.disk)
    (content_aside g.D.Disk.files g.D.Disk.tells g.D.Disk.content g.met.D.Disk.reads g.met.D.Disk.told c.args.disk c.find.new.disk c.find.ensures.aside_read t)

pub returns-in-Err-find-clause-aside_read : goal.returns-in-Err-find-clause-aside_read
returns-in-Err-find-clause-aside_read g c = λ t.
    content_aside g.D.Disk.files g.D.Disk.tells g.D.Disk.content g.met.D.Disk.reads g.met.D.Disk.told c.args.disk c.find.new.disk c.find.ensures.aside_read t

pub returns-in-Ok-find-clause-aside_stop : goal.returns-in-Ok-find-clause-aside_stop
returns-in-Ok-find-clause-aside_stop g c = λ t.
    subst (λ (d : g.row.D.Denot). Leaves g.D.Disk.moment g.D.Disk.images SameAside c.args.disk d) (sym c.of_found.ensures.disk) (c.find.ensures.aside_stop t)

pub returns-in-Err-clause-aside_stop : goal.returns-in-Err-clause-aside_stop
returns-in-Err-clause-aside_stop g c = λ t. none_aside g.D.Disk.moment g.D.Disk.images c.args.disk

pub returns-in-Err-clause-aside_read : goal.returns-in-Err-clause-aside_read
returns-in-Err-clause-aside_read g c = λ t name other. refl
