use Rattle.std.proofs.Common.{◌≡◌, ◌∙◌, sym, ap, cond, ℕ, List, Some}
use Rattle.std.specs.BTreeMap.{BTreeMap, is_at}
use Rattle.std.specs.Map.{lookup}
use Rattle.ftn_addr.specs.Address.{Address, address}
use Rattle.ftn_addr.specs.Files.{is_same}
use Rattle.ftn_addr.specs.Key.{Key, key_of}
use Rattle.ftn_addr.specs.declared.addr.Addr.{Addr}
use Rattle.ftn_addr.specs.declared.addr.FileKey.{FileKey}
use Rattle.file_index.proofs.Filing.{some_there}
use Rattle.file_index.proofs.Order.{by_address}
use Rattle.hub_core.specs.Holders.{holder_in}
use Rattle.hub_core.proofs.Holding.{changed, empty_get, get-holder, get_in, none_under, on_err, unchanged}
use Rattle.hub_core.proofs.hold_index.HoldIndex.note.Goals as goal

pub returns-in_ok-insert-in-Some-clause-noted : goal.returns-in_ok-insert-in-Some-clause-noted
returns-in_ok-insert-in-Some-clause-noted c = λ a k.
    let old = c.args.self.now.seats in
    let senders = c.insert.new.self in
    let new = c.get_mut.follows.lender senders in
    let from = c.in_ok-from.from in
    let updates = (c.get_mut.follows.holds senders).3 (some_there _ _ c.in-Some.ensures.value) in
    changed old new c.args.key.now from (Some senders) (Some c.args.seat) updates.0
    (λ b. c.in_ok-insert-in-Some.ensures.updates.0 b ∙ ap (λ found. cond (is_at (by_address from) b) (Some c.args.seat) (get_in found b)) c.in-Some.ensures.value) a k
    ∙ ap (λ (f : Address). cond (is_same a k f (key_of c.args.key.now)) (Some c.args.seat) (holder_in old.entries a k)) c.in_ok-from.ensures

pub returns-in_err-insert-in-Some-clause-kept : goal.returns-in_err-insert-in-Some-clause-kept
returns-in_err-insert-in-Some-clause-kept c =
    let old = c.args.self.now.seats in
    let senders = c.insert.new.self in
    let new = c.get_mut.follows.lender senders in
    let updates = (c.get_mut.follows.holds senders).3 (some_there _ _ c.in-Some.ensures.value) in
    on_err ((a : Address) (k : Key) → holder_in new.entries a k ≡ holder_in old.entries a k) _ (λ a k. unchanged old new c.args.key.now (Some senders) updates.0
    (λ b. ap (λ (es : List (Addr × ℕ)). lookup (is_at (by_address b)) es) c.in_err-insert-in-Some.ensures.err ∙ ap (λ found. get_in found b) c.in-Some.ensures.value) a k)

pub returns-in_ok-insert-in-None-2-clause-noted : goal.returns-in_ok-insert-in-None-2-clause-noted
returns-in_ok-insert-in-None-2-clause-noted c = λ a k.
    let old = c.args.self.now.seats in
    let same = c.get_mut.follows.holds-at-none in
    let before = c.get_mut.follows.lender-at-none in
    let senders = c.insert-in-None.new.self in
    let new = c.insert-in-None-2.new.self in
    let key = c.in_ok-copy-in-None.field-0 in
    let from = c.in_ok-from.from in
    let seat = Some c.args.seat in
    let fresh = λ (b : Addr). empty_get (is_at (by_address b)) c.new-senders.result c.new-senders.ensures.empty in
    let none = λ (b : Addr).
    get-holder before key b ∙ (ap (λ (m : BTreeMap FileKey (BTreeMap Addr ℕ)). holder_in m.entries (address b) (key_of key)) same
    ∙ (ap (λ (l : Key). holder_in old.entries (address b) l) c.in_ok-copy-in-None.ensures ∙ none_under old c.args.key.now c.in-None.ensures.value (address b))) in
    changed before new key from (Some senders) seat c.in_ok-insert-in-None-2.ensures.updates.0
    (λ b. c.in_ok-insert-in-None.ensures.updates.0 b ∙ ap (λ found. cond (is_at (by_address from) b) seat found) (fresh b ∙ sym (none b))) a k
    ∙ ap (λ (f : Address). cond (is_same a k f (key_of key)) seat (holder_in before.entries a k)) c.in_ok-from.ensures
    ∙ ap (λ (l : Key). cond (is_same a k (address c.args.from.now) l) seat (holder_in before.entries a k)) c.in_ok-copy-in-None.ensures
    ∙ ap (λ (m : BTreeMap FileKey (BTreeMap Addr ℕ)). cond (is_same a k (address c.args.from.now) (key_of c.args.key.now)) seat (holder_in m.entries a k)) same
