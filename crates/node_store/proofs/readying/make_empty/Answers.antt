use Rattle.disk_model.specs.Answers.{Creates}
use Rattle.disk_model.specs.Changes.{AtOnce, Cut, OnOwn, Rewrites}
use Rattle.node_store.proofs.MadeReady.{created, cut_readies, one_leaves, two_leave}
use Rattle.node_store.proofs.readying.make_empty.Goals as goal

pub returns-in_err-create-clause-stop : goal.returns-in_err-create-clause-stop
returns-in_err-create-clause-stop g c =
    one_leaves g.D.Disk.moment g.D.Disk.images c.args.name.now 0 (AtOnce c.create.result (Creates c.args.name.now)) c.args.disk.now c.create.new.self (created c.args.name.now c.create.result) c.create.ensures.stop

pub returns-in-Exists-clause-stop : goal.returns-in-Exists-clause-stop
returns-in-Exists-clause-stop g c =
    two_leave g.D.Disk.moment g.D.Disk.images c.args.name.now (AtOnce c.create.result (Creates c.args.name.now)) (OnOwn (Rewrites c.args.name.now (Cut 0))) c.args.disk.now c.create.new.self c.cut.new.self
    (created c.args.name.now c.create.result) (cut_readies c.args.name.now 0) c.create.ensures.stop c.cut.ensures.stop
