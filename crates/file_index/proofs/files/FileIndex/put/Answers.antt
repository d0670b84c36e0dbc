use Rattle.std.proofs.Common.{◌∙◌, sym, ap, cond, true}
use Rattle.std.specs.Prelude.{◌||◌}
use Rattle.std.specs.BTreeMap.{BTreeMap, is_at}
use Rattle.std.specs.BTreeSet.{BTreeSet}
use Rattle.ftn_addr.specs.Address.{Address, address}
use Rattle.ftn_addr.specs.Files.{is_same}
use Rattle.ftn_addr.specs.Key.{Key, key_of}
use Rattle.ftn_addr.specs.declared.addr.Addr.{Addr}
use Rattle.ftn_addr.specs.declared.addr.FileKey.{FileKey}
use Rattle.file_index.specs.Filed.{has}
use Rattle.file_index.proofs.Order.{by_address}
use Rattle.file_index.proofs.Filing.{put_in, is_in, some_there, empty_at, none_at}
use Rattle.file_index.proofs.files.FileIndex.put.Goals as goal

pub returns-in_ok-insert-in-Some-clause-noted : goal.returns-in_ok-insert-in-Some-clause-noted
returns-in_ok-insert-in-Some-clause-noted c = λ a k.
    let old = c.args.self.now.senders in
    let addresses = c.insert.new.self in
    let new = c.get_mut.follows.lender addresses in
    let updates = (c.get_mut.follows.holds addresses).3 (some_there _ _ c.in-Some.ensures.value) in
    put_in old new c.args.key.now c.in_ok-from.from addresses updates.0
    (λ b. c.in_ok-insert-in-Some.ensures.updates.0 b ∙ ap (λ found. cond (is_at (by_address c.in_ok-from.from) b) true (is_in found b)) c.in-Some.ensures.value) a k
    ∙ ap (λ (from : Address). has old.entries a k || is_same a k from (key_of c.args.key.now)) c.in_ok-from.ensures

pub returns-in_ok-insert-in-None-2-clause-noted : goal.returns-in_ok-insert-in-None-2-clause-noted
returns-in_ok-insert-in-None-2-clause-noted c = λ a k.
    let old = c.args.self.now.senders in
    let same = c.get_mut.follows.holds-at-none in
    let before = c.get_mut.follows.lender-at-none in
    let addresses = c.insert-in-None.new.self in
    let new = c.insert-in-None-2.new.self in
    let key = c.in_ok-copy-in-None.field-0 in
    let from = c.in_ok-from.from in
    let fresh = λ (b : Addr). empty_at (is_at (by_address b)) c.new-senders.result c.new-senders.ensures.empty in
    let none = λ (b : Addr). none_at old before c.args.key.now key b same c.in_ok-copy-in-None.ensures c.in-None.ensures.value in
    put_in before new key from addresses c.in_ok-insert-in-None-2.ensures.updates.0
    (λ b. c.in_ok-insert-in-None.ensures.updates.0 b ∙ ap (λ found. cond (is_at (by_address from) b) true found) (fresh b ∙ sym (none b))) a k
    ∙ ap (λ (f : Address). has before.entries a k || is_same a k f (key_of key)) c.in_ok-from.ensures
    ∙ ap (λ (l : Key). has before.entries a k || is_same a k (address c.args.from.now) l) c.in_ok-copy-in-None.ensures
    ∙ ap (λ (m : BTreeMap FileKey (BTreeSet Addr)). has m.entries a k || is_same a k (address c.args.from.now) (key_of c.args.key.now)) same
