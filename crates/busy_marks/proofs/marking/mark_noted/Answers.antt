use Rattle.std.proofs.Common.{◌∙◌, Some, Ok, Err, ap}
use Rattle.ftn_addr.specs.declared.refusals.Failed.{Failed}
use Rattle.busy_marks.proofs.MarkLemmas.{alone_nothing, marks_stop, marks_failed, marks_made, still_noted, alone_removed, exists_stop, exists_ends, told_exists}
use Rattle.busy_marks.proofs.marking.mark_noted.Goals as goal

pub returns-in-Ok-Made-clause-marks : goal.returns-in-Ok-Made-clause-marks
returns-in-Ok-Made-clause-marks g c = (
  c.in-Ok-Made.ensures.both.0,
  record {
    stop = marks_stop g.D.Disk.files g.D.Disk.moment g.D.Disk.images g.met.D.Disk.as_read c.args.own.now c.args.path.now.list c.args.text.now.list c.in-Ok-Made.ensures.both.0 c.args.disk.now c.mark.new.self
        c.requires.noted (Ok c.in-Ok-Made.field-0) c.in-Ok-Made.ensures.both.1;
    ends = marks_made g.D.Disk.files g.D.Disk.moment g.D.Disk.images g.met.D.Disk.as_read c.args.own.now c.args.path.now.list c.args.text.now.list c.in-Ok-Made.ensures.both.0 c.args.disk.now c.mark.new.self
        c.requires.noted (Ok c.in-Ok-Made.field-0) c.in-Ok-Made.ensures.both.1 (c.in-Ok-Made.ensures.both.1.answered ∙ ap Some c.in-Ok-Made.field-0-is) Failed;
  },
)

pub returns-in-Ok-Made-clause-exists : goal.returns-in-Ok-Made-clause-exists
returns-in-Ok-Made-clause-exists g c = λ w read stands.
    alone_nothing g.D.Disk.files g.D.Disk.moment g.D.Disk.images g.met.D.Disk.as_read c.args.own.now c.args.path.now.list c.args.text.now.list 0 c.args.disk.now c.mark.new.self (c.in-Ok-Made.ensures.exists w read stands)

pub remove_unused-requires : goal.remove_unused-requires
remove_unused-requires g c =
    still_noted g.D.Disk.files g.D.Disk.moment g.D.Disk.images g.met.D.Disk.as_read c.args.own.now c.args.path.now.list c.args.text.now.list c.in-Ok-Exists.ensures.both.0 c.args.disk.now c.mark.new.self
    c.requires.noted (Ok c.in-Ok-Exists.field-0) c.in-Ok-Exists.ensures.both.1 (c.in-Ok-Exists.ensures.both.1.answered ∙ ap Some c.in-Ok-Exists.field-0-is)

pub returns-in-Ok-Exists-clause-told : goal.returns-in-Ok-Exists-clause-told
returns-in-Ok-Exists-clause-told g c =
    told_exists (g.D.Disk.files c.args.disk.now) c.args.path.now.list c.in-Ok-Exists.field-0 c.remove_unused.result c.in-Ok-Exists.field-0-is c.in-Ok-Exists.ensures.told c.remove_unused.ensures.exists

pub returns-in-Ok-Exists-clause-marks : goal.returns-in-Ok-Exists-clause-marks
returns-in-Ok-Exists-clause-marks g c = (
  c.in-Ok-Exists.ensures.both.0,
  record {
    stop = exists_stop g.D.Disk.files g.D.Disk.moment g.D.Disk.images g.met.D.Disk.as_read c.args.own.now c.args.path.now.list c.args.text.now.list c.in-Ok-Exists.ensures.both.0 c.args.disk.now c.mark.new.self
        c.requires.noted (Ok c.in-Ok-Exists.field-0) c.in-Ok-Exists.ensures.both.1 (c.in-Ok-Exists.ensures.both.1.answered ∙ ap Some c.in-Ok-Exists.field-0-is)
        c.remove_unused.new.disk c.remove_unused.result c.remove_unused.ensures.read c.remove_unused.ensures.stop;
    ends = exists_ends g.D.Disk.files g.D.Disk.moment g.D.Disk.images g.met.D.Disk.as_read c.args.own.now c.args.path.now.list c.args.text.now.list c.in-Ok-Exists.ensures.both.0 c.args.disk.now c.mark.new.self
        c.requires.noted (Ok c.in-Ok-Exists.field-0) c.in-Ok-Exists.ensures.both.1 (c.in-Ok-Exists.ensures.both.1.answered ∙ ap Some c.in-Ok-Exists.field-0-is)
        c.remove_unused.new.disk c.remove_unused.result c.remove_unused.ensures.read c.remove_unused.ensures.stop c.remove_unused.ensures.exists;
  },
)

pub returns-in-Ok-Exists-clause-exists : goal.returns-in-Ok-Exists-clause-exists
returns-in-Ok-Exists-clause-exists g c = λ w read stands.
    alone_removed g.D.Disk.files g.D.Disk.moment g.D.Disk.images g.met.D.Disk.as_read c.args.own.now c.args.path.now.list c.args.text.now.list c.in-Ok-Exists.ensures.both.0 c.args.disk.now c.mark.new.self
    c.requires.noted (Ok c.in-Ok-Exists.field-0) c.in-Ok-Exists.ensures.both.1 (c.in-Ok-Exists.ensures.both.1.answered ∙ ap Some c.in-Ok-Exists.field-0-is)
    c.remove_unused.new.disk c.remove_unused.result c.remove_unused.ensures.read c.remove_unused.ensures.stop

pub returns-in-Err-clause-marks : goal.returns-in-Err-clause-marks
returns-in-Err-clause-marks g c = (
  c.in-Err.ensures.both.0,
  record {
    stop = marks_stop g.D.Disk.files g.D.Disk.moment g.D.Disk.images g.met.D.Disk.as_read c.args.own.now c.args.path.now.list c.args.text.now.list c.in-Err.ensures.both.0 c.args.disk.now c.mark.new.self
        c.requires.noted (Err c.in-Err.field-0) c.in-Err.ensures.both.1;
    ends = marks_failed g.D.Disk.files g.D.Disk.moment g.D.Disk.images g.met.D.Disk.as_read c.args.own.now c.args.path.now.list c.args.text.now.list c.in-Err.ensures.both.0 c.args.disk.now c.mark.new.self
        c.requires.noted (Err c.in-Err.field-0) c.in-Err.ensures.both.1 c.in-Err.field-0;
  },
)

pub returns-in-Err-clause-exists : goal.returns-in-Err-clause-exists
returns-in-Err-clause-exists g c = λ w read stands.
    alone_nothing g.D.Disk.files g.D.Disk.moment g.D.Disk.images g.met.D.Disk.as_read c.args.own.now c.args.path.now.list c.args.text.now.list 0 c.args.disk.now c.mark.new.self (c.in-Err.ensures.exists w read stands)
