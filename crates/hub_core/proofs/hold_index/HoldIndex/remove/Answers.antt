use Rattle.std.proofs.Common.{◌∙◌, sym, refl, None}
use Rattle.ftn_addr.specs.Address.{address}
use Rattle.hub_core.proofs.Holding.{get-holder, unchanged}
use Rattle.hub_core.proofs.hold_index.HoldIndex.remove.Goals as goal

pub returns-then-remove_sender : goal.returns-then-remove_sender
returns-then-remove_sender c = λ a k.
    let mid = c.remove_sender.new.seats in
    unchanged mid c.remove.new.self c.args.key.now None c.remove.ensures.updates.0
    (λ b. sym (get-holder mid c.args.key.now b ∙ c.if-remove_sender.ensures.last refl (address b))) a k
    ∙ c.if-remove_sender.ensures.removed a k
