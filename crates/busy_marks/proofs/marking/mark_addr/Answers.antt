use Rattle.std.proofs.Common.{◌∙◌, Some, ap}
use Rattle.busy_marks.proofs.MarkLemmas.{put_failed_stop, put_failed, put_alone, marked_stop, marked_ends, told_before, exists_before}
use Rattle.busy_marks.proofs.marking.mark_addr.Goals as goal

pub mark_noted-requires : goal.mark_noted-requires
mark_noted-requires g c = record { noted = λ w now. c.in-Ok.ensures.durable w now ∙ ap Some c.as_slice.ensures }

pub returns-in-Ok-clause-told : goal.returns-in-Ok-clause-told
returns-in-Ok-clause-told g c =
    told_before g.D.Disk.files g.D.Disk.moment g.D.Disk.images c.args.own.now c.args.path.now.list c.args.text.now.list c.mark_noted.ensures.marks.0 c.args.disk.now c.put_file.new.disk c.put_file.ensures.read c.put_file.ensures.stop c.mark_noted.new.disk
    g.D.Disk.tells g.D.Disk.content g.met.D.Disk.reads g.met.D.Disk.told c.mark_noted.result c.mark_noted.ensures.told

pub returns-in-Ok-clause-marks : goal.returns-in-Ok-clause-marks
returns-in-Ok-clause-marks g c =
    let marks = c.mark_noted.ensures.marks in (
      marks.0,
      record {
        stop = marked_stop g.D.Disk.files g.D.Disk.moment g.D.Disk.images c.args.own.now c.args.path.now.list c.args.text.now.list marks.0 c.args.disk.now c.put_file.new.disk c.put_file.ensures.read c.put_file.ensures.stop c.mark_noted.new.disk marks.1.stop;
        ends = marked_ends g.D.Disk.files g.D.Disk.moment g.D.Disk.images c.args.own.now c.args.path.now.list c.args.text.now.list marks.0 c.args.disk.now c.put_file.new.disk c.put_file.ensures.read c.put_file.ensures.stop c.mark_noted.new.disk c.mark_noted.result marks.1.ends;
      },
    )

pub returns-in-Ok-clause-exists : goal.returns-in-Ok-clause-exists
returns-in-Ok-clause-exists g c =
    exists_before g.D.Disk.files g.D.Disk.moment g.D.Disk.images c.args.own.now c.args.path.now.list c.args.text.now.list c.mark_noted.ensures.marks.0 c.args.disk.now c.put_file.new.disk c.put_file.ensures.read c.put_file.ensures.stop c.mark_noted.new.disk
    g.D.Disk.tells g.D.Disk.content g.met.D.Disk.reads g.met.D.Disk.told c.mark_noted.ensures.exists

pub returns-in-Err-clause-marks : goal.returns-in-Err-clause-marks
returns-in-Err-clause-marks g c = (
  0,
  record {
    stop = put_failed_stop g.D.Disk.files g.D.Disk.moment g.D.Disk.images c.args.own.now c.args.path.now.list c.args.text.now.list 0 c.args.disk.now c.put_file.new.disk c.put_file.ensures.read c.put_file.ensures.stop;
    ends = put_failed g.D.Disk.files g.D.Disk.moment g.D.Disk.images c.args.own.now c.args.path.now.list c.args.text.now.list 0 c.args.disk.now c.put_file.new.disk c.put_file.ensures.read c.put_file.ensures.stop c.in-Err.field-0;
  },
)

pub returns-in-Err-clause-exists : goal.returns-in-Err-clause-exists
returns-in-Err-clause-exists g c = λ w read stands.
    put_alone g.D.Disk.files g.D.Disk.moment g.D.Disk.images c.args.own.now c.args.path.now.list c.args.text.now.list 0 c.args.disk.now c.put_file.new.disk c.put_file.ensures.read c.put_file.ensures.stop
