use Rattle.std.proofs.Common.{◌≡◌, ◌∙◌, sym, ap, ℕ, List, nat_le, count_by, map, ◌&&◌}
use Rattle.node_model.specs.declared.words.Role.{Role}
use Rattle.node_model.specs.Rows.{is_answering}
use Rattle.hub_core.specs.declared.places.Place.{Place}
use Rattle.hub_core.specs.Steps.{place_answers, chair_answers}
use Rattle.hub_core.specs.Hubs.{chair_of}
use Rattle.hub_core.proofs.Chairs.{answering_places}
use Rattle.hub_core.proofs.places.Seats.turns_away.Goals as goal

pub returns-in-Answers : goal.returns-in-Answers
returns-in-Answers c =
    let n : c.answering.result ≡ count_by place_answers c.deref.result.now = c.answering.ensures in
    let e = n ∙ (ap (λ (ps : List Place). count_by place_answers ps) c.deref.ensures.value ∙ answering_places c.args.self.now.places.items) in
    let chairs = count_by chair_answers (map chair_of c.args.self.now.places.items) in
    ap (λ (k : ℕ). nat_le c.from.result k) e
    ∙ (ap (λ (k : ℕ). nat_le k chairs) c.from.ensures ∙ ap (λ (r : Role). is_answering r && nat_le c.args.self.now.conf.max_servers chairs) (sym c.in-Answers.is))
