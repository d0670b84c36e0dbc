use Rattle.std.proofs.Common.{◌≡◌, ◌∙◌, subst}
use Rattle.bench_gate.specs.Counting.{count_of}
use Rattle.turn_gate.specs.Passes.{view}
use Rattle.turn_gate.proofs.Orders.{in_order, at_seat}
use Rattle.bench_gate.proofs.behind_gate.closed.Goals as goal

pub close-requires : goal.close-requires
close-requires g = record { all = in_order _ _ g.requires.order }

pub returns : goal.returns
returns g k l =
    let last = g.close.result in
    let a = at_seat _ _ g.requires.order (λ p. (count_of last (view p).seat ≡ count_of (view p).left (view p).seat) × (count_of (view p).left (view p).seat ≡ g.args.turns)) (λ j d h. ((g.close.ensures.continued j d h).own_part, g.requires.counted j d h)) k l in
    subst (λ n. count_of last n ≡ g.args.turns) a.2 (a.1.0 ∙ a.1.1)
