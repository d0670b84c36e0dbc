use Rattle.ftn_addr.specs.Address.{address}
use Rattle.outbound_intake.proofs.MarkLemmas.{mark_named}
use Rattle.outbound_intake.proofs.marking.mark_path.Goals as goal

pub returns : goal.returns
returns c = mark_named (address c.args.dest.now) c.args.outbound.now.base.now.list c.args.outbound.now.zone c.in_ok-path.path.list _ _ _ _ c.in_ok-path.ensures c.len.ensures c.saturating_sub-front.ensures c.truncate.ensures.front c.in_ok-push_slice.ensures.ok
