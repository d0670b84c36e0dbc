use Rattle.std.proofs.Common.{rules, ◌≡◌, length}
use Rattle.turn_gate.proofs.Orders.{in_order}
use Rattle.turn_gate.specs.Passes.{opening}
use Rattle.shared_desk.proofs.Paths.{path_map}
use Rattle.shared_desk.specs.Seen.{SeatTurn}
use Rattle.session_threads.proofs.AtClose.{all_there, finds, last_here}
use Rattle.session_threads.proofs.closing.close.Goals as goal

pub close-requires : goal.close-requires
close-requires g c =
    let home = c.take_home.ensures in
    let all : length c.take_home.result.items ≡ length c.args.slots = search rules in
    record { all = in_order _ _ (all_there g.V.Roams.sight g.G.GateName.table c.args.gate c.args.slots c.take_home.result.items c.requires.named c.requires.seats all home.each) }

pub returns-clause-reached : goal.returns-clause-reached
returns-clause-reached g c =
    let by = c.close.ensures.reached in
    (by.0, path_map g.V.Grows.turn (SeatTurn g.V.Roams.sight) (λ k. Unit {0}) g.met.V.Roams.turn_is (opening g.V.Grows.state c.args.gate) _ by.0 by.1)

pub returns-clause-found : goal.returns-clause-found
returns-clause-found g c =
    let home = c.take_home.ensures in
    let all : length c.take_home.result.items ≡ length c.args.slots = search rules in
    finds g.V.Roams.sight g.G.GateName.table g.V.Grows.turn g.met.V.Roams.turn_is g.met.V.Roams.one_hub c.args.slots c.take_home.result.items _ all home.each c.close.ensures.by_others

pub returns-clause-last : goal.returns-clause-last
returns-clause-last g c = last_here g.V.Roams.sight g.G.GateName.table c.args.slots c.take_home.result.items _ _ c.take_home.ensures.each c.close.ensures.last
