use Rattle.std.proofs.Common.{map}
use Rattle.std.proofs.lemmas.Result.{IfOk-weaker}
use Rattle.outbound_addresses.proofs.Asked.{one_asked}
use Rattle.outbound_addresses.proofs.Told.{listed_there}
use Rattle.outbound_addresses.proofs.asking.list.Goals as goal

pub returns-clause-told : goal.returns-clause-told
returns-clause-told g c =
    IfOk-weaker c.names.result _ _
    (λ names told. listed_there g.D.Disk.tells g.D.Disk.content g.D.Disk.files c.args.store.now.disk c.args.store.now.memory c.args.folder.now.list (map (λ name. name.list) names.items) (λ t. g.met.D.Disk.told t c.args.store.now.disk) told) c.names.ensures.told

pub returns-clause-asks : goal.returns-clause-asks
returns-clause-asks g c = one_asked c.names.result _ _ c.names.ensures.asks
