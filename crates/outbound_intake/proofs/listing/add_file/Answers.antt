use Rattle.std.proofs.Common.{◌++◌, ◌∷◌, rules}
use Rattle.ftn_addr.specs.Address.{address}
use Rattle.outbound_intake.proofs.FileLemmas.{adds_one, finds_file}
use Rattle.outbound_intake.proofs.listing.add_file.Goals as goal

pub returns-in_ok-push-in-Some-clause-finds : goal.returns-in_ok-push-in-Some-clause-finds
returns-in_ok-push-in-Some-clause-finds c =
    finds_file c.args.outbound.now.base.now.list c.args.outbound.now.zone c.args.outbound.now.home.now.domain.list (address c.args.dest.now) c.args.folder.now.list c.args.name.now.list c.args.found.now.items c.push.new.self.items c.in-Some.file c.requires.address (search rules) c.in_ok-push-in-Some.ensures.items

pub returns-in_ok-push-in-Some-clause-only : goal.returns-in_ok-push-in-Some-clause-only
returns-in_ok-push-in-Some-clause-only c =
    adds_one c.args.outbound.now.base.now.list c.args.outbound.now.zone c.args.outbound.now.home.now.domain.list (address c.args.dest.now) c.args.found.now.items c.push.new.self.items c.in-Some.file (c.args.folder.now.list ++ 47 ∷ c.args.name.now.list) (search rules) c.in_ok-push-in-Some.ensures.items
