use Rattle.std.proofs.Common.{arith, rules, ℕ, ◌<◌, ◌∙◌, length, slice_index_or, sym, ap, subst}
use mathlib.Core.Option as maybe
use Rattle.std.specs.Slots.{slots_len}
use Rattle.turn_gate.specs.Passes.{IsFree}
use Rattle.turn_gate.specs.Views.{joined_of}
use Rattle.turn_gate.proofs.Continued.{continued}
use Rattle.turn_gate.proofs.Ends.{ends_whole}
use Rattle.turn_gate.proofs.Keepers.{is_keeper, gathered}
use Rattle.turn_gate.proofs.SeatsKept.{takes_in, closed_value, closed_none}
use Rattle.turn_gate.proofs.Removed.{number_of_whole}
use Rattle.turn_gate.proofs.gate.Gate.close.Goals as goal

pub into_seat-keeper-requires : goal.into_seat-keeper-requires
into_seat-keeper-requires g c =
    let p = c.remove-token.result in
    let items = c.args.passes.items in
    let at = c.first_of-at.result in
    let here = c.remove-token.ensures.value in
    let place : at < length items = subst (λ l. at < length l) c.as_slice.ensures.value c.first_of-at.ensures.place in
    let first = ap (λ q. q.token.me.0.seat) here ∙ (ap (λ l. (slice_index_or l at p).token.me.0.seat) (sym c.as_slice.ensures.value) ∙ c.first_of-at.ensures.first p) in
    let k = p.keeps first in
    (_, k.1)

pub join_seat-requires : goal.join_seat-requires
join_seat-requires g c =
    let p = c.remove-token.result in
    let items = c.args.passes.items in
    let at = c.first_of-at.result in
    let here = c.remove-token.ensures.value in
    let place : at < length items = subst (λ l. at < length l) c.as_slice.ensures.value c.first_of-at.ensures.place in
    let first = ap (λ q. q.token.me.0.seat) here ∙ (ap (λ l. (slice_index_or l at p).token.me.0.seat) (sym c.as_slice.ensures.value) ∙ c.first_of-at.ensures.first p) in
    let k = p.keeps first in
    let s = c.into_seat-keeper.ensures in
    let f = subst (IsFree c.args.self) (sym here) (c.requires.all.free at p place) in
    (s.0 ∙ (k.0 ∙ f.of), f.of, f.bare, search rules, takes_in _ _ _ _ _ _ _ _ _ (ap (λ v. v.keeper) (is_keeper p.keeper.views _ _ s.2 k.1)) f.live f.free)

pub unreachable-requires : goal.unreachable-requires
unreachable-requires g c =
    let p = c.remove-token.result in
    let items = c.args.passes.items in
    let at = c.first_of-at.result in
    let here = c.remove-token.ensures.value in
    let place : at < length items = subst (λ l. at < length l) c.as_slice.ensures.value c.first_of-at.ensures.place in
    let first = ap (λ q. q.token.me.0.seat) here ∙ (ap (λ l. (slice_index_or l at p).token.me.0.seat) (sym c.as_slice.ensures.value) ∙ c.first_of-at.ensures.first p) in
    let k = p.keeps first in
    let is = gathered (λ q. joined_of q.token.me.0) p.keeper.views _ _ p.token.me.0 _ c.join_seat.new.seat.me c.take_in.new.keeper.me _ _ c.into_seat-keeper.ensures.2 k.1 c.join_seat.ensures.2 c.take_in.ensures.took c.remove-token.ensures.items in
    let cov = λ (n : ℕ) (l : n < c.args.self.table.shared.key.seats). let e = c.requires.all.every_seat n l in number_of_whole (λ q. joined_of q.token.me.0) (λ o. o.seat) n items at p place here e.0 e.1 e.2 in
    closed_none g.T.Grows.state _ _ _ _ _ _ _ _ _ _ is cov c.close_with-closed.ensures.values.2 (c.take.ensures.value ∙ ap maybe.some c.in-None.is)

pub returns-clause-reached : goal.returns-clause-reached
returns-clause-reached g c =
    let p = c.remove-token.result in
    let items = c.args.passes.items in
    let at = c.first_of-at.result in
    let here = c.remove-token.ensures.value in
    let place : at < length items = subst (λ l. at < length l) c.as_slice.ensures.value c.first_of-at.ensures.place in
    let first = ap (λ q. q.token.me.0.seat) here ∙ (ap (λ l. (slice_index_or l at p).token.me.0.seat) (sym c.as_slice.ensures.value) ∙ c.first_of-at.ensures.first p) in
    let k = p.keeps first in
    let is = gathered (λ q. joined_of q.token.me.0) p.keeper.views _ _ p.token.me.0 _ c.join_seat.new.seat.me c.take_in.new.keeper.me _ _ c.into_seat-keeper.ensures.2 k.1 c.join_seat.ensures.2 c.take_in.ensures.took c.remove-token.ensures.items in
    let cov = λ (n : ℕ) (l : n < c.args.self.table.shared.key.seats). let e = c.requires.all.every_seat n l in number_of_whole (λ q. joined_of q.token.me.0) (λ o. o.seat) n items at p place here e.0 e.1 e.2 in
    let ends = closed_value g.T.Grows.state _ _ _ _ _ _ _ _ _ _ is cov c.close_with-closed.ensures.values.2 c.in-Some.field-0 (c.take.ensures.value ∙ ap maybe.some c.in-Some.is) in
    let whole = ends_whole (λ q. joined_of q.token.me.0) _ _ _ items at p place here ends in
    whole.0

pub returns-clause-by_others : goal.returns-clause-by_others
returns-clause-by_others g c =
    let p = c.remove-token.result in
    let items = c.args.passes.items in
    let at = c.first_of-at.result in
    let here = c.remove-token.ensures.value in
    let place : at < length items = subst (λ l. at < length l) c.as_slice.ensures.value c.first_of-at.ensures.place in
    let first = ap (λ q. q.token.me.0.seat) here ∙ (ap (λ l. (slice_index_or l at p).token.me.0.seat) (sym c.as_slice.ensures.value) ∙ c.first_of-at.ensures.first p) in
    let k = p.keeps first in
    let is = gathered (λ q. joined_of q.token.me.0) p.keeper.views _ _ p.token.me.0 _ c.join_seat.new.seat.me c.take_in.new.keeper.me _ _ c.into_seat-keeper.ensures.2 k.1 c.join_seat.ensures.2 c.take_in.ensures.took c.remove-token.ensures.items in
    let cov = λ (n : ℕ) (l : n < c.args.self.table.shared.key.seats). let e = c.requires.all.every_seat n l in number_of_whole (λ q. joined_of q.token.me.0) (λ o. o.seat) n items at p place here e.0 e.1 e.2 in
    let ends = closed_value g.T.Grows.state _ _ _ _ _ _ _ _ _ _ is cov c.close_with-closed.ensures.values.2 c.in-Some.field-0 (c.take.ensures.value ∙ ap maybe.some c.in-Some.is) in
    let whole = ends_whole (λ q. joined_of q.token.me.0) _ _ _ items at p place here ends in
    whole.1

pub returns-clause-continued : goal.returns-clause-continued
returns-clause-continued g c =
    let p = c.remove-token.result in
    let items = c.args.passes.items in
    let at = c.first_of-at.result in
    let here = c.remove-token.ensures.value in
    let place : at < length items = subst (λ l. at < length l) c.as_slice.ensures.value c.first_of-at.ensures.place in
    let first = ap (λ q. q.token.me.0.seat) here ∙ (ap (λ l. (slice_index_or l at p).token.me.0.seat) (sym c.as_slice.ensures.value) ∙ c.first_of-at.ensures.first p) in
    let k = p.keeps first in
    let is = gathered (λ q. joined_of q.token.me.0) p.keeper.views _ _ p.token.me.0 _ c.join_seat.new.seat.me c.take_in.new.keeper.me _ _ c.into_seat-keeper.ensures.2 k.1 c.join_seat.ensures.2 c.take_in.ensures.took c.remove-token.ensures.items in
    let cov = λ (n : ℕ) (l : n < c.args.self.table.shared.key.seats). let e = c.requires.all.every_seat n l in number_of_whole (λ q. joined_of q.token.me.0) (λ o. o.seat) n items at p place here e.0 e.1 e.2 in
    let ends = closed_value g.T.Grows.state _ _ _ _ _ _ _ _ _ _ is cov c.close_with-closed.ensures.values.2 c.in-Some.field-0 (c.take.ensures.value ∙ ap maybe.some c.in-Some.is) in
    let whole = ends_whole (λ q. joined_of q.token.me.0) _ _ _ items at p place here ends in
    λ k d l. continued g.T.Grows.entries g.T.Grows.by g.T.Grows.part g.T.Grows.turn g.met.T.Grows.turn_is_own _ _ _ (whole.1 k d l)

pub returns-clause-last : goal.returns-clause-last
returns-clause-last g c =
    let p = c.remove-token.result in
    let items = c.args.passes.items in
    let at = c.first_of-at.result in
    let here = c.remove-token.ensures.value in
    let place : at < length items = subst (λ l. at < length l) c.as_slice.ensures.value c.first_of-at.ensures.place in
    let first = ap (λ q. q.token.me.0.seat) here ∙ (ap (λ l. (slice_index_or l at p).token.me.0.seat) (sym c.as_slice.ensures.value) ∙ c.first_of-at.ensures.first p) in
    let k = p.keeps first in
    let is = gathered (λ q. joined_of q.token.me.0) p.keeper.views _ _ p.token.me.0 _ c.join_seat.new.seat.me c.take_in.new.keeper.me _ _ c.into_seat-keeper.ensures.2 k.1 c.join_seat.ensures.2 c.take_in.ensures.took c.remove-token.ensures.items in
    let cov = λ (n : ℕ) (l : n < c.args.self.table.shared.key.seats). let e = c.requires.all.every_seat n l in number_of_whole (λ q. joined_of q.token.me.0) (λ o. o.seat) n items at p place here e.0 e.1 e.2 in
    let ends = closed_value g.T.Grows.state _ _ _ _ _ _ _ _ _ _ is cov c.close_with-closed.ensures.values.2 c.in-Some.field-0 (c.take.ensures.value ∙ ap maybe.some c.in-Some.is) in
    let whole = ends_whole (λ q. joined_of q.token.me.0) _ _ _ items at p place here ends in
    whole.2

pub take-requires : goal.take-requires
take-requires g c =
    let one : 0 < slots_len c.close_with-closed.result.slots = subst (λ (n : ℕ). 0 < n) (sym (c.close_with-closed.ensures.counts.1 ∙ c.args.self.sized.1)) (omega arith) in
    (one, c.close_with-closed.ensures.values.1 0 (omega arith) one)
