use Rattle.std.proofs.Common.{length}
use Rattle.disk_model.proofs.TwiceLemmas.{first_reads, both_read, every_reads, first_leaves, both_leave, all_leave}
use Rattle.disk_model.proofs.example.write_twice.Goals as goal

pub returns-in_err-write_at-clause-read : goal.returns-in_err-write_at-clause-read
returns-in_err-write_at-clause-read g c =
    let one = c.args.first in
    let two = c.args.second in
    first_reads c.args.name.now one.at (length one.bytes.now) two.at (length two.bytes.now) (g.D.Disk.files c.args.disk.now) (g.D.Disk.files c.write_at.new.self) c.write_at.ensures.read

pub returns-in_err-write_at-clause-stop : goal.returns-in_err-write_at-clause-stop
returns-in_err-write_at-clause-stop g c =
    let one = c.args.first in
    let two = c.args.second in
    first_leaves g.D.Disk.moment g.D.Disk.images c.args.name.now one.at (length one.bytes.now) two.at (length two.bytes.now) c.args.disk.now c.write_at.new.self c.write_at.ensures.stop

pub returns-in_err-write_at-2-clause-read : goal.returns-in_err-write_at-2-clause-read
returns-in_err-write_at-2-clause-read g c =
    let one = c.args.first in
    let two = c.args.second in
    both_read c.args.name.now one.at (length one.bytes.now) two.at (length two.bytes.now) (g.D.Disk.files c.args.disk.now) (g.D.Disk.files c.write_at.new.self) (g.D.Disk.files c.write_at-2.new.self) c.write_at.ensures.read c.write_at-2.ensures.read

pub returns-in_err-write_at-2-clause-stop : goal.returns-in_err-write_at-2-clause-stop
returns-in_err-write_at-2-clause-stop g c =
    let one = c.args.first in
    let two = c.args.second in
    both_leave g.D.Disk.moment g.D.Disk.images c.args.name.now one.at (length one.bytes.now) two.at (length two.bytes.now) c.args.disk.now c.write_at.new.self c.write_at-2.new.self c.write_at.ensures.stop c.write_at-2.ensures.stop

pub returns-clause-read : goal.returns-clause-read
returns-clause-read g c =
    let one = c.args.first in
    let two = c.args.second in
    let old = g.D.Disk.files c.args.disk.now in
    let mid = g.D.Disk.files c.write_at.new.self in
    let new = g.D.Disk.files c.write_at-2.new.self in
    every_reads c.args.name.now one.at (length one.bytes.now) two.at (length two.bytes.now) old new (g.D.Disk.files c.sync.new.self)
    (both_read c.args.name.now one.at (length one.bytes.now) two.at (length two.bytes.now) old mid new c.write_at.ensures.read c.write_at-2.ensures.read) c.sync.ensures.read

pub returns-clause-stop : goal.returns-clause-stop
returns-clause-stop g c =
    let one = c.args.first in
    let two = c.args.second in
    all_leave g.D.Disk.moment g.D.Disk.images c.args.name.now one.at (length one.bytes.now) two.at (length two.bytes.now)
    c.args.disk.now c.write_at.new.self c.write_at-2.new.self c.sync.new.self c.write_at.ensures.stop c.write_at-2.ensures.stop c.sync.ensures.stop
