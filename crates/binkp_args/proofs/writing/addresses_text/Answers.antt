use Rattle.ftn_addr.specs.Address.{address}
use Rattle.ftn_addr.specs.Writing.{canonical}
use Rattle.binkp_args.proofs.Spacing.{all_spaced, all_viewed}
use Rattle.binkp_args.proofs.writing.addresses_text.Goals as goal

pub returns : goal.returns
returns c =
    all_viewed canonical address c.args.addrs.now _ (all_spaced _ _ _ _ _ _ _ _ c.in-Some.ensures.cases.0 c.loop-addr-test.false c.new-text.ensures c.in_ok-write_addr.ensures.ok c.loop-addr.invariant)
