use Rattle.std.proofs.Common.{◌∙◌, sym, ap, cond, false, Bool, ◌&&◌, not}
use Rattle.std.specs.BTreeMap.{BTreeMap, is_at}
use Rattle.std.specs.BTreeSet.{BTreeSet}
use Rattle.ftn_addr.specs.Address.{address, same_address}
use Rattle.ftn_addr.specs.declared.addr.Addr.{Addr}
use Rattle.file_index.specs.declared.turns.Turn.{Turn}
use Rattle.file_index.specs.Turns.{has_turn, same_turn, waits}
use Rattle.file_index.proofs.Filing.{some_there}
use Rattle.file_index.proofs.Turning.{by_turn, changed_at, contains-turn, and_not, without_none}
use Rattle.file_index.proofs.turns.TurnIndex.remove.Goals as goal

pub returns-in-Some : goal.returns-in-Some
returns-in-Some c = λ p has whole a t.
    let old = c.args.self.now.turns in
    let turns = c.remove.new.self in
    let new = c.get_mut.follows.lender turns in
    let updates = (c.get_mut.follows.holds turns).3 (some_there _ _ c.in-Some.ensures.value) in
    changed_at old new c.args.to.now c.args.turn turns false updates.0
    (λ u. c.remove.ensures.updates.0 u ∙ ap (λ found. cond (is_at (by_turn c.args.turn) u) false found) (contains-turn c.in-Some.turns.now u ∙ ap (λ found. has_turn found u) c.in-Some.ensures.value)) a t
    ∙ and_not (same_address a (address c.args.to.now) && same_turn t c.args.turn) (waits old.entries a t)
    ∙ ap (λ (b : Bool). b && not (same_address a (address c.args.to.now) && same_turn t c.args.turn)) (has whole a t)

pub returns-in-None : goal.returns-in-None
returns-in-None c = λ p has whole a t.
    let old = c.args.self.now.turns in
    let same = c.get_mut.follows.holds-at-none in
    ap (λ (m : BTreeMap Addr (BTreeSet Turn)). waits m.entries a t) same
    ∙ without_none old c.args.to.now c.args.turn (sym c.in-None.ensures.value) a t
    ∙ ap (λ (b : Bool). b && not (same_address a (address c.args.to.now) && same_turn t c.args.turn)) (has whole a t)
