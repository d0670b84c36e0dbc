use Rattle.std.proofs.Common.{rules, arith, ◌≡◌, ℕ, ◌<◌, List, length, map, take, ◌∙◌, ap}
use Rattle.std.proofs.lemmas.List.{get_or_read}
use Rattle.ledger_file.specs.Records.{payload_at}
use Rattle.ledger_file.specs.Text.{gate_of}
use Rattle.ledger_file.proofs.RecordLemmas.{gate_at, within_gates}
use Rattle.ledger_file.proofs.records.Records.place.Goals as goal

pub returns : goal.returns
returns c =
    let ps = map (payload_at c.self.inside.text.list) c.self.inside.gates.items in
    let view : ps ≡ c.args.self.now.payloads = search rules in
    let few : c.args.i < length ps = omega (arith, c.requires, ap length view) in
    let read = get_or_read c.self.inside.gates.items c.args.i c.index.result.now (within_gates ps c.self.inside.text.list c.self.inside.gates.items c.args.i c.self.invariant few) c.index.ensures 0 in
    read ∙ gate_at ps c.self.inside.text.list c.self.inside.gates.items c.args.i c.self.invariant few ∙ ap (λ (l : List (List ℕ)). gate_of (take c.args.i l)) view
