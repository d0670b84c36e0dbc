use Rattle.std.proofs.Common.{◌++◌, ◌∷◌, ◌∙◌, sym, rules}
use Rattle.ftn_addr.specs.Address.{address}
use Rattle.node_model.proofs.SameFiles.{same_address_is}
use Rattle.outbound_intake.proofs.FileLemmas.{for_it, for_nobody, for_other, other_address}
use Rattle.outbound_intake.proofs.listing.file_at.Goals as goal

pub returns-in-None : goal.returns-in-None
returns-in-None c =
    for_nobody c.args.outbound.now.base.now.list c.args.outbound.now.zone c.args.outbound.now.home.now.domain.list (address c.args.dest.now) (c.args.folder.now.list ++ 47 ∷ c.args.name.now.list) c.requires.address (search rules)

pub returns-then-not-is_same_address : goal.returns-then-not-is_same_address
returns-then-not-is_same_address c =
    for_other c.args.outbound.now.base.now.list c.args.outbound.now.zone c.args.outbound.now.home.now.domain.list (address c.args.dest.now) (c.args.folder.now.list ++ 47 ∷ c.args.name.now.list) (address c.in-Some.addr) c.in-Some.kind c.requires.address (search rules) (other_address _ _ (sym c.is_same_address.ensures ∙ c.if-not-is_same_address.true))

pub returns-in_ok-path-in-Some : goal.returns-in_ok-path-in-Some
returns-in_ok-path-in-Some c =
    (c.in_ok-path-in-Some.ensures, for_it c.args.outbound.now.base.now.list c.args.outbound.now.zone c.args.outbound.now.home.now.domain.list (address c.args.dest.now) (c.args.folder.now.list ++ 47 ∷ c.args.name.now.list) (address c.in-Some.addr) c.in-Some.kind (search rules) (same_address_is _ _ (sym c.is_same_address.ensures ∙ c.if-not-is_same_address.false)))
