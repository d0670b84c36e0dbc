use Rattle.ftn_addr.specs.Address.{address}
use Rattle.outbound_take.proofs.WholeLemmas.{request_by}
use Rattle.outbound_take.proofs.whole.request_name.Goals as goal

pub returns : goal.returns
returns c = request_by (address c.args.dest.now) c.in_ok-name.name.list _ _ _ _ c.new-base.ensures c.in_ok-name.ensures c.len.ensures c.saturating_sub-front.ensures c.drop_front.ensures
