use Rattle.std.proofs.Common.{rules, ◌≡◌}
use Rattle.nodelist_files.proofs.Staged.{staged_so, unstaged_so}
use Rattle.nodelist_files.specs.declared.staging.Prepared.{Prepared}
use Rattle.nodelist_files.proofs.staging.stage.Goals as goal

pub returns-clause-staged : goal.returns-clause-staged
returns-clause-staged g c =
    let same : c.deref.result.now ≡ c.in_ok-text.text.items = search rules in
    staged_so g.D.Disk.tells g.D.Disk.content g.D.Disk.files g.D.Disk.moment g.D.Disk.images g.met.D.Disk.reads g.met.D.Disk.told g.met.D.Disk.as_read
    c.args.path.now.list c.in_ok-len.len c.args.disk.now c.copy_text.new.disk c.in_ok-len.ensures.copied
    c.new_file.result c.new_file.ensures c.in_ok-text.text.items c.in_ok-text.ensures.bytes
    (λ (made : Prepared). made.index.list) (λ (made : Prepared). made.count) c.deref.result.now same c.read_whole.new.disk c.read_whole.ensures.stop c.prepare.result c.prepare.ensures.ok

pub returns-clause-fault : goal.returns-clause-fault
returns-clause-fault g c =
    let same : c.deref.result.now ≡ c.in_ok-text.text.items = search rules in
    unstaged_so g.D.Disk.tells g.D.Disk.content g.D.Disk.files g.D.Disk.moment g.D.Disk.images g.met.D.Disk.reads g.met.D.Disk.told g.met.D.Disk.as_read
    c.args.path.now.list c.in_ok-len.len c.args.disk.now c.copy_text.new.disk c.in_ok-len.ensures.copied
    c.new_file.result c.new_file.ensures c.in_ok-text.text.items c.in_ok-text.ensures.bytes
    (λ (made : Prepared). made.index.list) (λ (made : Prepared). made.count) c.deref.result.now same c.prepare.result c.prepare.ensures.err
