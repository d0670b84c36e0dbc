use Rattle.std.proofs.Common.{◌∙◌, sym, ap, cond, true, ◌&&◌}
use Rattle.std.specs.Prelude.{◌||◌}
use Rattle.std.specs.BTreeMap.{BTreeMap, is_at}
use Rattle.std.specs.BTreeSet.{BTreeSet}
use Rattle.ftn_addr.specs.Address.{Address, address, same_address}
use Rattle.ftn_addr.specs.declared.addr.Addr.{Addr}
use Rattle.file_index.specs.declared.turns.Turn.{Turn}
use Rattle.file_index.specs.Turns.{has_turn, same_turn, waits}
use Rattle.file_index.proofs.Filing.{some_there}
use Rattle.file_index.proofs.Turning.{by_turn, changed_at, contains-turn, get-turns, no_turns, or_there}
use Rattle.file_index.proofs.turns.TurnIndex.put.Goals as goal

pub returns-in_ok-insert-in-Some-clause-noted : goal.returns-in_ok-insert-in-Some-clause-noted
returns-in_ok-insert-in-Some-clause-noted c = λ a t.
    let old = c.args.self.now.turns in
    let turns = c.insert.new.self in
    let new = c.get_mut.follows.lender turns in
    let updates = (c.get_mut.follows.holds turns).3 (some_there _ _ c.in-Some.ensures.value) in
    changed_at old new c.args.to.now c.args.turn turns true updates.0
    (λ u. c.in_ok-insert-in-Some.ensures.updates.0 u ∙ ap (λ found. cond (is_at (by_turn c.args.turn) u) true found) (contains-turn c.in-Some.turns.now u ∙ ap (λ found. has_turn found u) c.in-Some.ensures.value)) a t
    ∙ or_there (same_address a (address c.args.to.now) && same_turn t c.args.turn) (waits old.entries a t)

pub returns-in_ok-insert-in-None-2-clause-noted : goal.returns-in_ok-insert-in-None-2-clause-noted
returns-in_ok-insert-in-None-2-clause-noted c = λ a t.
    let old = c.args.self.now.turns in
    let same = c.get_mut.follows.holds-at-none in
    let before = c.get_mut.follows.lender-at-none in
    let turns = c.insert-in-None.new.self in
    let new = c.insert-in-None-2.new.self in
    let to = c.in_ok-copy-in-None.field-0 in
    changed_at before new to c.args.turn turns true c.in_ok-insert-in-None-2.ensures.updates.0
    (λ u. c.in_ok-insert-in-None.ensures.updates.0 u
    ∙ ap (λ found. cond (is_at (by_turn c.args.turn) u) true found)
    (contains-turn c.new-turns.result u ∙ no_turns c.new-turns.result before to u c.new-turns.ensures.empty
    (get-turns before to u ∙ ap (λ (x : Address). waits before.entries x u) c.in_ok-copy-in-None.ensures
    ∙ ap (λ (m : BTreeMap Addr (BTreeSet Turn)). waits m.entries (address c.args.to.now) u) same
    ∙ sym (get-turns old c.args.to.now u) ∙ ap (λ found. has_turn found u) (sym c.in-None.ensures.value)))) a t
    ∙ or_there (same_address a (address to) && same_turn t c.args.turn) (waits before.entries a t)
    ∙ ap (λ (x : Address). waits before.entries a t || (same_address a x && same_turn t c.args.turn)) c.in_ok-copy-in-None.ensures
    ∙ ap (λ (m : BTreeMap Addr (BTreeSet Turn)). waits m.entries a t || (same_address a (address c.args.to.now) && same_turn t c.args.turn)) same
