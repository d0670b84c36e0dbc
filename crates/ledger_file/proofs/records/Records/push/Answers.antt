use Rattle.std.proofs.Common.{rules, arith, ◌≡◌, ℕ, ◌-◌, ◌/◌, ◌%◌, append_assoc, List, [], ◌∷◌, ◌++◌, length, map, take, sym, ◌∙◌, ap, subst}
use Rattle.ledger_file.specs.Text.{record_of}
use Rattle.ledger_file.specs.Records.{payload_at, IsText}
use Rattle.ledger_file.proofs.RecordLemmas.{is_text-add, view_of}
use Rattle.ledger_file.proofs.records.Records.push.Goals as goal

pub invariant_of-self : goal.invariant_of-self
invariant_of-self c =
    let ps = map (payload_at c.self.inside.text.list) c.self.inside.gates.items in
    let view : ps ≡ c.args.self.now.payloads = search rules in
    let text = c.self.inside.text.list in
    let gates = c.self.inside.gates.items in
    let gate = c.len-gate.result - 1 in
    let p = c.args.payload.now in
    let front : c.truncate.new.self.list ≡ take gate text = c.truncate.ensures.front in
    let at : gate ≡ length text - 1 = omega (arith, c.len-gate.ensures) in
    let head : List ℕ = 1 ∷ (length p / 256) ∷ (length p % 256) ∷ [] in
    let texts : c.put-3.new.text.list ≡ take gate text ++ (record_of p ++ 0 ∷ []) =
    c.put-3.ensures.list
    ∙ ap (λ (l : List ℕ). l ++ 0 ∷ []) (c.put-2.ensures.list ∙ ap (λ (l : List ℕ). l ++ p) (c.put.ensures.list ∙ ap (λ (l : List ℕ). l ++ head) front))
    ∙ append_assoc (take gate text ++ head) p (0 ∷ []) ∙ append_assoc (take gate text) head (p ++ 0 ∷ []) in
    let gates_are : c.push_reserved.new.self.items ≡ gates ++ gate ∷ [] = c.push_reserved.ensures.items in
    let is : IsText (ps ++ p ∷ []) c.put-3.new.text.list c.push_reserved.new.self.items = is_text-add ps text gates p gate c.put-3.new.text.list c.push_reserved.new.self.items c.self.invariant c.requires.size at texts gates_are in
    let seen = view_of (ps ++ p ∷ []) c.put-3.new.text.list c.push_reserved.new.self.items is in
    subst (λ (l : List (List ℕ)). IsText l c.put-3.new.text.list c.push_reserved.new.self.items) (sym seen) is

pub returns-clause-added : goal.returns-clause-added
returns-clause-added c =
    let ps = map (payload_at c.self.inside.text.list) c.self.inside.gates.items in
    let view : ps ≡ c.args.self.now.payloads = search rules in
    let text = c.self.inside.text.list in
    let gates = c.self.inside.gates.items in
    let gate = c.len-gate.result - 1 in
    let p = c.args.payload.now in
    let front : c.truncate.new.self.list ≡ take gate text = c.truncate.ensures.front in
    let at : gate ≡ length text - 1 = omega (arith, c.len-gate.ensures) in
    let head : List ℕ = 1 ∷ (length p / 256) ∷ (length p % 256) ∷ [] in
    let texts : c.put-3.new.text.list ≡ take gate text ++ (record_of p ++ 0 ∷ []) =
    c.put-3.ensures.list
    ∙ ap (λ (l : List ℕ). l ++ 0 ∷ []) (c.put-2.ensures.list ∙ ap (λ (l : List ℕ). l ++ p) (c.put.ensures.list ∙ ap (λ (l : List ℕ). l ++ head) front))
    ∙ append_assoc (take gate text ++ head) p (0 ∷ []) ∙ append_assoc (take gate text) head (p ++ 0 ∷ []) in
    let gates_are : c.push_reserved.new.self.items ≡ gates ++ gate ∷ [] = c.push_reserved.ensures.items in
    let is : IsText (ps ++ p ∷ []) c.put-3.new.text.list c.push_reserved.new.self.items = is_text-add ps text gates p gate c.put-3.new.text.list c.push_reserved.new.self.items c.self.invariant c.requires.size at texts gates_are in
    let seen = view_of (ps ++ p ∷ []) c.put-3.new.text.list c.push_reserved.new.self.items is in
    seen ∙ ap (λ (l : List (List ℕ)). l ++ p ∷ []) view
