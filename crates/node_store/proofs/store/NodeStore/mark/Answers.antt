use Rattle.std.proofs.Common.{◌≡◌, ℕ, None, Some, Ok, Err, sym, ◌∙◌, ap, subst}
use Rattle.node_model.specs.declared.store.StoreFault.TheVariants.{Disk}
use Rattle.node_model.specs.StoreStates.{IfTold}
use Rattle.node_store.specs.OutboundMarks.{HasMarked, marked_so}
use Rattle.node_store.specs.Stored.{Holding, Memory, stand_of}
use Rattle.node_store.specs.Taking.{Takes}
use Rattle.node_store.proofs.AroundCall.{around_done, around_failed, around_sound, around_takes}
use Rattle.node_store.proofs.OutboundCalls.{has_marked, mark_around, outside_agrees}
use Rattle.node_store.proofs.store.NodeStore.mark.Goals as goal

pub invariant_of-self : goal.invariant_of-self
invariant_of-self g c =
    let s = c.self.inside in
    let m : Memory = record { books = s.books; given = s.given.items; parts = s.parts.items; staged = s.staged.items; drawn = s.drawn; last_staged = s.last_staged; seat = s.seat; last_given = s.last_given; fulls = s.fulls; broken = s.broken } in
    let whole : s.broken ≡ None = ap (λ (x : Holding g.row.D.Denot). x.memory.broken) c.self.view_is ∙ c.requires.whole in
    let own = c.args.own.now in
    let path = c.args.path.now.list in
    let text = c.args.text.now.list in
    let new = c.mark_addr.new.disk in
    let agree = outside_agrees g.D.Disk.tells g.D.Disk.content g.D.Disk.moment g.D.Disk.images s.disk m c.self.invariant.0 whole in
    let call = mark_around g.D.Disk.tells g.D.Disk.content g.D.Disk.files g.D.Disk.moment g.D.Disk.images g.met.D.Disk.reads g.met.D.Disk.told own path text c.requires.note s.disk new agree c.in-Ok.ensures.marks.0 (Ok c.in-Ok.marking) c.in-Ok.ensures.marks.1 c.in-Ok.ensures.told c.in-Ok.ensures.exists in
    let does = marked_so path text c.in-Ok.ensures.marks.0 in (
      around_sound g.D.Disk.tells g.D.Disk.content g.D.Disk.fault_count g.D.Disk.moment g.D.Disk.images s.disk new m c.self.invariant.0 whole does (Ok c.in-Ok.marking) call,
      c.self.invariant.1,
      c.self.invariant.2,
      λ still. around_takes g.D.Disk.tells g.D.Disk.content g.D.Disk.fault_count g.D.Disk.moment g.D.Disk.images s.disk new m c.self.invariant.0 whole does (Ok c.in-Ok.marking) call s.takes (c.self.invariant.3 still),
    )

pub returns-in-Ok-clause-marks : goal.returns-in-Ok-clause-marks
returns-in-Ok-clause-marks g c =
    let s = c.self.inside in
    let m : Memory = record { books = s.books; given = s.given.items; parts = s.parts.items; staged = s.staged.items; drawn = s.drawn; last_staged = s.last_staged; seat = s.seat; last_given = s.last_given; fulls = s.fulls; broken = s.broken } in
    let whole : s.broken ≡ None = ap (λ (x : Holding g.row.D.Denot). x.memory.broken) c.self.view_is ∙ c.requires.whole in
    let own = c.args.own.now in
    let path = c.args.path.now.list in
    let text = c.args.text.now.list in
    let new = c.mark_addr.new.disk in
    let agree = outside_agrees g.D.Disk.tells g.D.Disk.content g.D.Disk.moment g.D.Disk.images s.disk m c.self.invariant.0 whole in
    let call = mark_around g.D.Disk.tells g.D.Disk.content g.D.Disk.files g.D.Disk.moment g.D.Disk.images g.met.D.Disk.reads g.met.D.Disk.told own path text c.requires.note s.disk new agree c.in-Ok.ensures.marks.0 (Ok c.in-Ok.marking) c.in-Ok.ensures.marks.1 c.in-Ok.ensures.told c.in-Ok.ensures.exists in
    let does = marked_so path text c.in-Ok.ensures.marks.0 in (
      c.in-Ok.ensures.marks.0,
      subst (λ (x : Holding g.row.D.Denot). Takes does (Ok c.in-Ok.marking) (stand_of g.D.Disk.tells g.D.Disk.content g.D.Disk.fault_count g.D.Disk.moment g.D.Disk.images x) (stand_of g.D.Disk.tells g.D.Disk.content g.D.Disk.fault_count g.D.Disk.moment g.D.Disk.images (record { disk = new; takes = s.takes; memory = m }))) c.self.view_is
          (around_done g.D.Disk.tells g.D.Disk.content g.D.Disk.fault_count g.D.Disk.moment g.D.Disk.images s.disk new m c.self.invariant.0 whole does c.in-Ok.marking call c.in-Ok.ensures.cause.calm),
    )

pub returns-in-Err-clause-marks : goal.returns-in-Err-clause-marks
returns-in-Err-clause-marks g c =
    let s = c.self.inside in
    let m : Memory = record { books = s.books; given = s.given.items; parts = s.parts.items; staged = s.staged.items; drawn = s.drawn; last_staged = s.last_staged; seat = s.seat; last_given = s.last_given; fulls = s.fulls; broken = s.broken } in
    let whole : s.broken ≡ None = ap (λ (x : Holding g.row.D.Denot). x.memory.broken) c.self.view_is ∙ c.requires.whole in
    let own = c.args.own.now in
    let path = c.args.path.now.list in
    let text = c.args.text.now.list in
    let new = c.mark_addr.new.disk in
    let agree = outside_agrees g.D.Disk.tells g.D.Disk.content g.D.Disk.moment g.D.Disk.images s.disk m c.self.invariant.0 whole in
    let call = mark_around g.D.Disk.tells g.D.Disk.content g.D.Disk.files g.D.Disk.moment g.D.Disk.images g.met.D.Disk.reads g.met.D.Disk.told own path text c.requires.note s.disk new agree c.in-Err.ensures.marks.0 (Err c.in-Err.field-0) c.in-Err.ensures.marks.1 tt c.in-Err.ensures.exists in
    let does = marked_so path text c.in-Err.ensures.marks.0 in
    let failed = around_failed g.D.Disk.tells g.D.Disk.content g.D.Disk.fault_count g.D.Disk.moment g.D.Disk.images s.disk new m c.self.invariant.0 whole does call c.in-Err.ensures.cause.failed in
    let counted = subst (λ (k : ℕ). Takes does (Err Disk) (stand_of g.D.Disk.tells g.D.Disk.content g.D.Disk.fault_count g.D.Disk.moment g.D.Disk.images (record { disk = s.disk; takes = s.takes; memory = m })) (stand_of g.D.Disk.tells g.D.Disk.content g.D.Disk.fault_count g.D.Disk.moment g.D.Disk.images (record { disk = new; takes = s.takes; memory = record m { broken = Some k } }))) (sym c.faults.ensures) failed in
    (c.in-Err.ensures.marks.0, subst (λ (x : Holding g.row.D.Denot). Takes does (Err Disk) (stand_of g.D.Disk.tells g.D.Disk.content g.D.Disk.fault_count g.D.Disk.moment g.D.Disk.images x) (stand_of g.D.Disk.tells g.D.Disk.content g.D.Disk.fault_count g.D.Disk.moment g.D.Disk.images (record { disk = new; takes = s.takes; memory = record { books = s.books; given = s.given.items; parts = s.parts.items; staged = s.staged.items; drawn = s.drawn; last_staged = s.last_staged; seat = s.seat; last_given = s.last_given; fulls = s.fulls; broken = Some c.faults.result } }))) c.self.view_is counted)

pub returns-in-Ok-clause-told : goal.returns-in-Ok-clause-told
returns-in-Ok-clause-told g c =
    let s = c.self.inside in
    let m : Memory = record { books = s.books; given = s.given.items; parts = s.parts.items; staged = s.staged.items; drawn = s.drawn; last_staged = s.last_staged; seat = s.seat; last_given = s.last_given; fulls = s.fulls; broken = s.broken } in
    let path = c.args.path.now.list in
    subst (λ (x : Holding g.row.D.Denot). IfTold (stand_of g.D.Disk.tells g.D.Disk.content g.D.Disk.fault_count g.D.Disk.moment g.D.Disk.images x).state.content (λ a. HasMarked c.in-Ok.marking (a.outside path))) c.self.view_is
    (has_marked g.D.Disk.tells g.D.Disk.content g.D.Disk.files g.met.D.Disk.told s.disk (g.D.Disk.fault_count s.disk) m path c.in-Ok.marking c.in-Ok.ensures.told)
