use Rattle.ftn_addr.specs.Address.{address}
use Rattle.ftn_addr.specs.Limits.{IsAddress}
use Rattle.outbound_intake.proofs.FileLemmas.{there_at}
use Rattle.outbound_take.proofs.RuledLemmas.{ruled_on}
use Rattle.outbound_desk.proofs.EachPeer.{all_there}
use Rattle.outbound_desk.proofs.peers.take_each.Goals as goal

pub take_peer-requires-clause-address : goal.take_peer-requires-clause-address
take_peer-requires-clause-address g c =
    all_there IsAddress _ _ c.requires.limits (there_at address c.args.peers.now c.loop-peer.peer-index c.peer-item.result c.loop-peer-test.true c.peer-item.is)

pub returns-in-Some-clause-ruled : goal.returns-in-Some-clause-ruled
returns-in-Some-clause-ruled g c = ruled_on _ _ _ _ c.loop-peer.invariant.ruled c.take_peer.ensures.ruled

pub returns-then-is_some-clause-ruled : goal.returns-then-is_some-clause-ruled
returns-then-is_some-clause-ruled g c = ruled_on _ _ _ _ c.loop-peer.invariant.ruled c.take_peer.ensures.ruled
