use Rattle.std.proofs.Common.{true, false, sym, ◌∙◌}
use Rattle.ftn_addr.specs.Address.{address}
use Rattle.ftn_addr.specs.Key.{key_of}
use Rattle.node_store.specs.Stored.{sizes_in}
use Rattle.node_store.proofs.Known.{known_is, received_alone}
use Rattle.node_store.proofs.lookups.known.Goals as goal

pub returns-then-is_received : goal.returns-then-is_received
returns-then-is_received c = λ tells w given.
    received_alone (address c.args.from.now) (key_of c.args.key.now) (sizes_in tells w given) c.args.folded.now.state (sym c.is_received.ensures ∙ c.if-is_received.true)

pub returns-then-is_refused : goal.returns-then-is_refused
returns-then-is_refused c = λ tells w given.
    known_is (address c.args.from.now) (key_of c.args.key.now) (sizes_in tells w given) c.args.folded.now.state false true (sym c.is_received.ensures ∙ c.if-is_received.false) (sym c.is_refused.ensures ∙ c.if-is_refused.true)

pub returns-else-is_refused : goal.returns-else-is_refused
returns-else-is_refused c = λ tells w given.
    known_is (address c.args.from.now) (key_of c.args.key.now) (sizes_in tells w given) c.args.folded.now.state false false (sym c.is_received.ensures ∙ c.if-is_received.false) (sym c.is_refused.ensures ∙ c.if-is_refused.false)
