use Rattle.std.proofs.Common.{◌++◌, ◌∷◌, rules}
use Rattle.ftn_addr.specs.Address.{address}
use Rattle.outbound_places.proofs.Spelled.{for_none}
use Rattle.outbound_places.proofs.files.file_in.Goals as goal

pub returns-in-None : goal.returns-in-None
returns-in-None c =
    for_none c.args.base.now.list (c.args.folder.now.list ++ 47 ∷ c.args.name.now.list) c.args.zone (address c.args.home.now) c.requires (search rules)
