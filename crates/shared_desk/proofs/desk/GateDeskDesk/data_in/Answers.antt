use Rattle.std.proofs.Common.{ap, length, subst, sym, ℕ, ◌+◌, ◌∙◌}
use Rattle.node_model.specs.Calls.{Data_call}
use Rattle.node_model.specs.Desks.{DataExact, DeskPart, Fits, data_answer}
use Rattle.turn_gate.specs.Passes.{view}
use Rattle.shared_desk.proofs.Calling.{says, turns}
use Rattle.shared_desk.proofs.desk.GateDeskDesk.data_in.Goals as goal

pub come-held-requires : goal.come-held-requires
come-held-requires g c = record { free = c.requires.ready.free; ready = c.requires.ready.ready }

pub data_in-answer-requires : goal.data_in-answer-requires
data_in-answer-requires g c = let i = c.come-held.ensures in record { ready = i.ready; fits = subst (λ (p : DeskPart). Fits p (length c.args.bytes.now)) (sym i.part) c.requires.fits }

pub go-requires : goal.go-requires
go-requires g c =
    let old = view c.args.self.now.pass in
    let i = c.come-held.ensures in
    let o = c.data_in-answer.ensures in
    let d = c.come-held.result.value in
    let e = c.data_in-answer.new.self in
    let inside = view c.come-held.new.pass in
    record { has_turn = i.has_turn; turn = turns g.V.Roams.sight g.V.Grows.state g.V.Roams.at g.V.Desk.stand g.V.Desk.part g.V.Desk.ready g.V.Desk.rule g.met.V.Roams.sits g.met.V.Roams.own g.V.Desk.alone g.met.V.Roams.is_alone old.seat old.left d e (λ p. Data_call c.args.bytes.now) (data_answer c.data_in-answer.result) i.ready i.at i.found (i.within old.seat) o.ready o.rule o.made o.part inside.seat inside.taken i.seat i.taken }

pub returns : goal.returns
returns g c =
    let old = view c.args.self.now.pass in
    let i = c.come-held.ensures in
    let o = c.data_in-answer.ensures in
    let d = c.come-held.result.value in
    let e = c.data_in-answer.new.self in
    let new = view c.go.new.pass in
    let seat = c.go.ensures.seat ∙ i.seat in
    let w = says g.V.Roams.sight g.V.Grows.state g.V.Roams.at g.V.Desk.stand g.V.Desk.part g.V.Desk.ready g.V.Desk.rule g.met.V.Roams.sits g.met.V.Roams.own g.V.Desk.alone g.met.V.Roams.is_alone old.seat old.left d e (λ p. Data_call c.args.bytes.now) (data_answer c.data_in-answer.result) i.ready i.at i.found (i.within old.seat) o.ready o.rule o.made o.part new.seat new.left seat c.go.ensures.left in
    record {
      made = w.made;
      exact = subst (λ (p : DeskPart). DataExact p.held (length c.args.bytes.now) (data_answer c.data_in-answer.result)) i.part o.exact;
      part = w.part;
      ready = record { free = c.go.ensures.free; named = c.go.ensures.free.of ∙ (sym c.requires.ready.free.of ∙ c.requires.ready.named); ready = w.ready };
      rule = record { seat = seat; turns = c.go.ensures.turns ∙ ap (λ (n : ℕ). n + 1) i.turns };
    }
