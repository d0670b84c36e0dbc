use Rattle.std.proofs.Common.{◌∙◌, ap, arith, subst, sym}
use Rattle.ftn_addr.specs.Address.{address}
use Rattle.outbound_model.specs.OwnNames.{number_of}
use Rattle.outbound_take.specs.Calls.{IsTakeFor}
use Rattle.outbound_store.proofs.NameFacts.{own_named, own_number}
use Rattle.outbound_store.proofs.taking_store.TakingStoreOutgoing.own_name.Goals as goal

pub returns-clause-number : goal.returns-clause-number
returns-clause-number g c = ap number_of c.take_file.ensures ∙ own_number c.args.take (address c.args.dest.now) c.take_kind.result (let fits = c.ranges.take.fits in omega (arith, fits))

pub returns-clause-named : goal.returns-clause-named
returns-clause-named g c = subst (IsTakeFor (address c.args.dest.now) c.args.kind) (sym c.take_file.ensures) (own_named c.args.take (address c.args.dest.now) c.take_kind.result c.args.kind c.take_kind.ensures c.has_place.ensures)
