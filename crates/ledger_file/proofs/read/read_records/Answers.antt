use Rattle.std.proofs.Common.{rules, arith, ◌≡◌, ◌≢◌, inr, ℕ, ◌≤◌, List, [], ◌∷◌, ◌++◌, length, get_or, sym, ◌∙◌, ap, subst, length-append}
use Rattle.ledger_file.specs.Text.{ArePayloads, header, records}
use Rattle.ledger_file.proofs.ReadLemmas.{is_over, is_broken, is_ended, spells, read_more, sizes_more}
use Rattle.ledger_file.proofs.read.read_records.Goals as goal

pub returns-then-count-eq-MOST_RECORDS-clause-fault : goal.returns-then-count-eq-MOST_RECORDS-clause-fault
returns-then-count-eq-MOST_RECORDS-clause-fault c =
    let some : 1 ≤ length c.records.rest.now = search rules in
    let gate : get_or c.records.rest.now 0 0 ≡ 1 = search rules in
    let many : length c.records.held.payloads ≡ 262144 = search rules in
    inr (is_over c.records.held.payloads c.args.bytes.now c.records.rest.now c.records.invariant.read c.records.invariant.sizes c.records.invariant.few many some gate)

pub returns-in_default-clause-fault : goal.returns-in_default-clause-fault
returns-in_default-clause-fault c =
    let some : 1 ≤ length c.records.rest.now = search rules in
    let gate : get_or c.records.rest.now 0 0 ≡ 1 = search rules in
    let other : length c.records.held.payloads ≢ 262144 = search rules in
    inr (is_broken c.records.held.payloads c.args.bytes.now c.records.rest.now c.records.invariant.read c.records.invariant.sizes c.records.invariant.few other some gate c.in_default.ensures.none)

pub records-preserved : goal.records-preserved
records-preserved c =
    let p = c.in-Some.payload.now in
    let joined : c.push.new.self.payloads ≡ c.records.held.payloads ++ p ∷ [] = c.push.ensures.added ∙ ap (λ (l : List (List ℕ)). l ++ p ∷ []) c.in_ok-make_room.ensures.same in
    let other : length c.records.held.payloads ≢ 262144 = search rules in
    record {
      read = subst (λ (l : List (List ℕ)). c.args.bytes.now ≡ (header ++ records l) ++ c.in-Some.after.now) (sym joined) (read_more c.records.held.payloads c.args.bytes.now c.records.rest.now c.records.invariant.read c.records.invariant.sizes c.records.invariant.few p c.in-Some.after.now c.in-Some.ensures.front);
      sizes = subst ArePayloads (sym joined) (sizes_more c.records.held.payloads c.args.bytes.now c.records.rest.now c.records.invariant.read c.records.invariant.sizes c.records.invariant.few p c.in-Some.ensures.size);
      few = omega (arith, ap length joined, length-append c.records.held.payloads (p ∷ []), c.records.invariant.few);
    }

pub returns-then-is_empty-clause-fault : goal.returns-then-is_empty-clause-fault
returns-then-is_empty-clause-fault c =
    let ended : length c.records.rest.now ≡ 0 = search rules in
    inr (is_ended c.records.held.payloads c.args.bytes.now c.records.rest.now c.records.invariant.read c.records.invariant.sizes c.records.invariant.few ended)

pub returns-clause-list : goal.returns-clause-list
returns-clause-list c =
    let some : 1 ≤ length c.records.rest.now = search rules in
    let shut : get_or c.records.rest.now 0 0 ≢ 1 = search rules in
    spells c.records.held.payloads c.args.bytes.now c.records.rest.now c.records.invariant.read c.records.invariant.sizes c.records.invariant.few some shut
