use Rattle.std.proofs.Common.{rules, arith, ◌≡◌, ℕ, ◌<◌, List, [], ◌∷◌, ◌++◌, length, map, take, drop, get_or, sym, ◌∙◌, ap, subst}
use Rattle.std.proofs.lemmas.List.{get_or_read}
use Rattle.ledger_file.specs.Text.{records, gate_of}
use Rattle.ledger_file.specs.Records.{payload_at, IsText}
use Rattle.ledger_file.proofs.RecordLemmas.{within_gates, gate_at, length-text, is_text-take, view_of}
use Rattle.ledger_file.proofs.records.Records.truncate.Goals as goal

pub put-requires : goal.put-requires
put-requires c =
    let ps = map (payload_at c.self.inside.text.list) c.self.inside.gates.items in
    let view : ps ≡ c.args.self.now.payloads = search rules in
    let text = c.self.inside.text.list in
    let gates = c.self.inside.gates.items in
    let few : c.args.count < length ps = omega (arith, c.requires, ap length view) in
    let read : c.index.result.now ≡ get_or gates c.args.count 0 = get_or_read gates c.args.count c.index.result.now (within_gates ps text gates c.args.count c.self.invariant few) c.index.ensures 0 in
    let at : c.index.result.now ≡ gate_of (take c.args.count ps) = read ∙ gate_at ps text gates c.args.count c.self.invariant few in
    let size = length-text ps text gates c.args.count c.self.invariant in
    omega (arith, c.truncate.ensures.room, at, size)

pub returns-clause-spare : goal.returns-clause-spare
returns-clause-spare c =
    let ps = map (payload_at c.self.inside.text.list) c.self.inside.gates.items in
    let view : ps ≡ c.args.self.now.payloads = search rules in
    let text = c.self.inside.text.list in
    let gates = c.self.inside.gates.items in
    let few : c.args.count < length ps = omega (arith, c.requires, ap length view) in
    let read : c.index.result.now ≡ get_or gates c.args.count 0 = get_or_read gates c.args.count c.index.result.now (within_gates ps text gates c.args.count c.self.invariant few) c.index.ensures 0 in
    let at : c.index.result.now ≡ gate_of (take c.args.count ps) = read ∙ gate_at ps text gates c.args.count c.self.invariant few in
    let size = length-text ps text gates c.args.count c.self.invariant in
    let left : length (records (drop c.args.count ps)) ≡ length (records (drop c.args.count c.args.self.now.payloads)) = ap (λ (l : List (List ℕ)). length (records (drop c.args.count l))) view in
    let spare : c.self.inside.text.spare ≡ c.args.self.now.spare = search rules in
    omega (arith, c.truncate.ensures.room, c.put.ensures.spare, at, size, left, spare)

pub invariant_of-self : goal.invariant_of-self
invariant_of-self c =
    let ps = map (payload_at c.self.inside.text.list) c.self.inside.gates.items in
    let view : ps ≡ c.args.self.now.payloads = search rules in
    let text = c.self.inside.text.list in
    let gates = c.self.inside.gates.items in
    let few : c.args.count < length ps = omega (arith, c.requires, ap length view) in
    let read : c.index.result.now ≡ get_or gates c.args.count 0 = get_or_read gates c.args.count c.index.result.now (within_gates ps text gates c.args.count c.self.invariant few) c.index.ensures 0 in
    let at : c.index.result.now ≡ gate_of (take c.args.count ps) = read ∙ gate_at ps text gates c.args.count c.self.invariant few in
    let size = length-text ps text gates c.args.count c.self.invariant in
    let texts : c.put.new.text.list ≡ take (get_or gates c.args.count 0) text ++ 0 ∷ [] = c.put.ensures.list ∙ ap (λ (l : List ℕ). l ++ 0 ∷ []) (c.truncate.ensures.front ∙ ap (λ (n : ℕ). take n text) read) in
    let is : IsText (take c.args.count ps) c.put.new.text.list c.truncate-2.new.self.items = is_text-take ps text gates c.args.count c.put.new.text.list c.truncate-2.new.self.items c.self.invariant few texts c.truncate-2.ensures.items in
    let seen = view_of (take c.args.count ps) c.put.new.text.list c.truncate-2.new.self.items is in
    subst (λ (l : List (List ℕ)). IsText l c.put.new.text.list c.truncate-2.new.self.items) (sym seen) is

pub returns-clause-front : goal.returns-clause-front
returns-clause-front c =
    let ps = map (payload_at c.self.inside.text.list) c.self.inside.gates.items in
    let view : ps ≡ c.args.self.now.payloads = search rules in
    let text = c.self.inside.text.list in
    let gates = c.self.inside.gates.items in
    let few : c.args.count < length ps = omega (arith, c.requires, ap length view) in
    let read : c.index.result.now ≡ get_or gates c.args.count 0 = get_or_read gates c.args.count c.index.result.now (within_gates ps text gates c.args.count c.self.invariant few) c.index.ensures 0 in
    let at : c.index.result.now ≡ gate_of (take c.args.count ps) = read ∙ gate_at ps text gates c.args.count c.self.invariant few in
    let size = length-text ps text gates c.args.count c.self.invariant in
    let texts : c.put.new.text.list ≡ take (get_or gates c.args.count 0) text ++ 0 ∷ [] = c.put.ensures.list ∙ ap (λ (l : List ℕ). l ++ 0 ∷ []) (c.truncate.ensures.front ∙ ap (λ (n : ℕ). take n text) read) in
    let is : IsText (take c.args.count ps) c.put.new.text.list c.truncate-2.new.self.items = is_text-take ps text gates c.args.count c.put.new.text.list c.truncate-2.new.self.items c.self.invariant few texts c.truncate-2.ensures.items in
    let seen = view_of (take c.args.count ps) c.put.new.text.list c.truncate-2.new.self.items is in
    seen ∙ ap (λ (l : List (List ℕ)). take c.args.count l) view
