use Rattle.std.proofs.Common.{◌≡◌, length, Some, rules}
use Rattle.std.proofs.lemmas.Result.{IfOk-weaker}
use Rattle.node_store.proofs.AskCall.{came_own}
use Rattle.node_store.proofs.GiveAs.{read_back}
use Rattle.node_store.proofs.asking.read_own.Goals as goal

pub returns-in-Some-clause-told : goal.returns-in-Some-clause-told
returns-in-Some-clause-told g c =
    let back = read_back g.D.Disk.tells g.D.Disk.content g.D.Disk.files g.met.D.Disk.reads g.met.D.Disk.told c.args.disk.now c.stat.new.self c.stat.ensures.read in
    let size : c.in_ok-size.field-0 ≡ Some c.in-Some.size = search rules in
    IfOk-weaker c.read_some.result _ _ (λ count h w read. came_own w c.args.name.now c.in-Some.size count c.args.at (length c.args.out.now) c.read_some.new.out c.in_ok-size.field-0 (c.in_ok-size.ensures.told w read) size (h w (back w read))) c.read_some.ensures.told
