use Rattle.std.proofs.Common.{◌≡◌, ℕ, None, Some, Ok, Err, sym, ◌∙◌, ap, subst}
use Rattle.busy_marks.specs.Undoing.{Undoes}
use Rattle.disk_model.specs.Answers.{UnmarkOf}
use Rattle.disk_model.specs.Changes.{Every}
use Rattle.disk_model.specs.declared.answers.Hit.{Hit}
use Rattle.node_model.specs.declared.store.StoreFault.{StoreFault}
use Rattle.node_model.specs.declared.store.StoreFault.TheVariants.{Disk}
use Rattle.node_store.specs.OutboundMarks.{mark_gone}
use Rattle.node_store.specs.Stored.{Holding, Memory, stand_of}
use Rattle.node_store.specs.Taking.{Takes}
use Rattle.node_store.proofs.AroundCall.{around_done, around_failed, around_sound, around_takes}
use Rattle.node_store.proofs.OutboundCalls.{outside_agrees, unmark_around}
use Rattle.node_store.proofs.store.NodeStore.unmark.Goals as goal

pub invariant_of-self : goal.invariant_of-self
invariant_of-self g c =
    let s = c.self.inside in
    let m : Memory = record { books = s.books; given = s.given.items; parts = s.parts.items; staged = s.staged.items; drawn = s.drawn; last_staged = s.last_staged; seat = s.seat; last_given = s.last_given; fulls = s.fulls; broken = s.broken } in
    let whole : s.broken ≡ None = ap (λ (x : Holding g.row.D.Denot). x.memory.broken) c.self.view_is ∙ c.requires.whole in
    let own = c.args.own.now in
    let path = c.args.path.now.list in
    let text = c.args.text.now.list in
    let new = c.unmark_addr.new.disk in
    let agree = outside_agrees g.D.Disk.tells g.D.Disk.content g.D.Disk.moment g.D.Disk.images s.disk m c.self.invariant.0 whole in
    let call = unmark_around g.D.Disk.tells g.D.Disk.content g.D.Disk.files g.D.Disk.moment g.D.Disk.images g.met.D.Disk.reads g.met.D.Disk.told own path text c.requires.note s.disk new agree (Ok tt) c.in-Ok.ensures.undoes c.in-Ok.ensures.stop in
    let does = mark_gone path text in (
      around_sound g.D.Disk.tells g.D.Disk.content g.D.Disk.fault_count g.D.Disk.moment g.D.Disk.images s.disk new m c.self.invariant.0 whole does (Ok tt) call,
      c.self.invariant.1,
      c.self.invariant.2,
      λ still. around_takes g.D.Disk.tells g.D.Disk.content g.D.Disk.fault_count g.D.Disk.moment g.D.Disk.images s.disk new m c.self.invariant.0 whole does (Ok tt) call s.takes (c.self.invariant.3 still),
    )

pub returns-in-Ok-clause-marks : goal.returns-in-Ok-clause-marks
returns-in-Ok-clause-marks g c =
    let s = c.self.inside in
    let m : Memory = record { books = s.books; given = s.given.items; parts = s.parts.items; staged = s.staged.items; drawn = s.drawn; last_staged = s.last_staged; seat = s.seat; last_given = s.last_given; fulls = s.fulls; broken = s.broken } in
    let whole : s.broken ≡ None = ap (λ (x : Holding g.row.D.Denot). x.memory.broken) c.self.view_is ∙ c.requires.whole in
    let own = c.args.own.now in
    let path = c.args.path.now.list in
    let text = c.args.text.now.list in
    let new = c.unmark_addr.new.disk in
    let agree = outside_agrees g.D.Disk.tells g.D.Disk.content g.D.Disk.moment g.D.Disk.images s.disk m c.self.invariant.0 whole in
    let call = unmark_around g.D.Disk.tells g.D.Disk.content g.D.Disk.files g.D.Disk.moment g.D.Disk.images g.met.D.Disk.reads g.met.D.Disk.told own path text c.requires.note s.disk new agree (Ok tt) c.in-Ok.ensures.undoes c.in-Ok.ensures.stop in
    let does = mark_gone path text in
    subst (λ (x : Holding g.row.D.Denot). Takes does (Ok tt) (stand_of g.D.Disk.tells g.D.Disk.content g.D.Disk.fault_count g.D.Disk.moment g.D.Disk.images x) (stand_of g.D.Disk.tells g.D.Disk.content g.D.Disk.fault_count g.D.Disk.moment g.D.Disk.images (record { disk = new; takes = s.takes; memory = m }))) c.self.view_is
    (around_done g.D.Disk.tells g.D.Disk.content g.D.Disk.fault_count g.D.Disk.moment g.D.Disk.images s.disk new m c.self.invariant.0 whole does tt call c.in-Ok.ensures.cause.calm)

pub returns-in-Err-clause-marks : goal.returns-in-Err-clause-marks
returns-in-Err-clause-marks g c =
    let s = c.self.inside in
    let m : Memory = record { books = s.books; given = s.given.items; parts = s.parts.items; staged = s.staged.items; drawn = s.drawn; last_staged = s.last_staged; seat = s.seat; last_given = s.last_given; fulls = s.fulls; broken = s.broken } in
    let whole : s.broken ≡ None = ap (λ (x : Holding g.row.D.Denot). x.memory.broken) c.self.view_is ∙ c.requires.whole in
    let own = c.args.own.now in
    let path = c.args.path.now.list in
    let text = c.args.text.now.list in
    let new = c.unmark_addr.new.disk in
    let agree = outside_agrees g.D.Disk.tells g.D.Disk.content g.D.Disk.moment g.D.Disk.images s.disk m c.self.invariant.0 whole in
    let call = unmark_around g.D.Disk.tells g.D.Disk.content g.D.Disk.files g.D.Disk.moment g.D.Disk.images g.met.D.Disk.reads g.met.D.Disk.told own path text c.requires.note s.disk new agree (Err c.in-Err.field-0) c.in-Err.ensures.undoes c.in-Err.ensures.stop in
    let does = mark_gone path text in
    let failed = around_failed g.D.Disk.tells g.D.Disk.content g.D.Disk.fault_count g.D.Disk.moment g.D.Disk.images s.disk new m c.self.invariant.0 whole does call c.in-Err.ensures.cause.failed in
    let counted = subst (λ (k : ℕ). Takes does (Err Disk) (stand_of g.D.Disk.tells g.D.Disk.content g.D.Disk.fault_count g.D.Disk.moment g.D.Disk.images (record { disk = s.disk; takes = s.takes; memory = m })) (stand_of g.D.Disk.tells g.D.Disk.content g.D.Disk.fault_count g.D.Disk.moment g.D.Disk.images (record { disk = new; takes = s.takes; memory = record m { broken = Some k } }))) (sym c.faults.ensures) failed in
    subst (λ (x : Holding g.row.D.Denot). Takes does (Err Disk) (stand_of g.D.Disk.tells g.D.Disk.content g.D.Disk.fault_count g.D.Disk.moment g.D.Disk.images x) (stand_of g.D.Disk.tells g.D.Disk.content g.D.Disk.fault_count g.D.Disk.moment g.D.Disk.images (record { disk = new; takes = s.takes; memory = record { books = s.books; given = s.given.items; parts = s.parts.items; staged = s.staged.items; drawn = s.drawn; last_staged = s.last_staged; seat = s.seat; last_given = s.last_given; fulls = s.fulls; broken = Some c.faults.result } }))) c.self.view_is counted

pub returns-in-Err-clause-undoes : goal.returns-in-Err-clause-undoes
returns-in-Err-clause-undoes g c =
    let own = c.args.own.now in
    let path = c.args.path.now.list in
    let text = c.args.text.now.list in
    subst (λ (x : Holding g.row.D.Denot). Every (g.D.Disk.files x.disk) (λ w. (hit : Hit) → UnmarkOf hit text (w.outside path) → Undoes {E = StoreFault} g.D.Disk.files g.D.Disk.moment g.D.Disk.images (Err Disk) (w.own own) hit own path x.disk c.unmark_addr.new.disk)) c.self.view_is
    (λ w read hit is.
    let undone = c.in-Err.ensures.undoes w read hit is in
    record { stop = undone.stop; ends = record { made = undone.ends.made; answered = tt; read = undone.ends.read; left = undone.ends.left } })
