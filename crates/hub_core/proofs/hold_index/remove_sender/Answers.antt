use Rattle.std.proofs.Common.{◌∙◌, sym, ap, cond, ℕ, Some, None}
use Rattle.std.specs.BTreeMap.{BTreeMap, is_at}
use Rattle.ftn_addr.specs.declared.addr.Addr.{Addr}
use Rattle.ftn_addr.specs.declared.addr.FileKey.{FileKey}
use Rattle.file_index.proofs.Filing.{an_address, some_there}
use Rattle.file_index.proofs.Order.{by_address}
use Rattle.hub_core.specs.Holders.{holder_in}
use Rattle.hub_core.proofs.Holding.{changed, emptied, get-holder, get_in, without_none}
use Rattle.hub_core.proofs.hold_index.remove_sender.Goals as goal

pub returns-in-Some-clause-removed : goal.returns-in-Some-clause-removed
returns-in-Some-clause-removed c = λ a k.
    let senders = c.remove.new.self in
    let updates = (c.get_mut.follows.holds senders).3 (some_there _ _ c.in-Some.ensures.value) in
    changed c.args.seats.now (c.get_mut.follows.lender senders) c.args.key.now c.args.from.now (Some senders) None updates.0
    (λ b. c.remove.ensures.updates.0 b ∙ ap (λ found. cond (is_at (by_address c.args.from.now) b) None (get_in found b)) c.in-Some.ensures.value) a k

pub returns-in-Some-clause-last : goal.returns-in-Some-clause-last
returns-in-Some-clause-last c = λ last a.
    let senders = c.remove.new.self in
    let new = c.get_mut.follows.lender senders in
    let updates = (c.get_mut.follows.holds senders).3 (some_there _ _ c.in-Some.ensures.value) in
    let b = an_address a in
    sym (get-holder new c.args.key.now b) ∙ (ap (λ found. get_in found b) updates.1 ∙ emptied senders c.is_empty.result c.is_empty.ensures last b)

pub returns-in-None-clause-removed : goal.returns-in-None-clause-removed
returns-in-None-clause-removed c = λ a k.
    ap (λ (m : BTreeMap FileKey (BTreeMap Addr ℕ)). holder_in m.entries a k) c.get_mut.follows.holds-at-none
    ∙ without_none c.args.seats.now c.args.from.now c.args.key.now c.in-None.ensures.value a k
