use Rattle.std.proofs.Common.{◌≡◌, ◌≢◌, ℕ, ◌+◌, ◌-◌, ◌/◌, ◌<◌, length, get_or, map, sym, ◌∙◌, inl, inr, arith}
use Rattle.std.proofs.lemmas.Bool.{cases_lt}
use Rattle.std.proofs.lemmas.List.{length-map}
use Rattle.nodelist_comp.specs.Node.{place_of}
use Rattle.nodelist_comp.specs.Views.{listed}
use Rattle.nodelist_find.proofs.Found.{from_on, is_at, is_nowhere, place_read, up_to}
use Rattle.nodelist_find.proofs.search.found_at.Goals as goal

pub returns-then-here-place-clause-place : goal.returns-then-here-place-clause-place
returns-then-here-place-clause-place c =
    let nodes = map listed c.args.nodes.now in
    let middle = c.loop-low.low + (c.loop-low.high - c.loop-low.low) / 2 in
    let count = length-map c.args.nodes.now listed in
    let counts = length-map nodes place_of in
    let within : middle < length c.args.nodes.now = omega (arith, c.loop-low-test.true, c.loop-low.invariant.within) in
    let here : get_or (map place_of nodes) middle 0 ≡ c.args.place = place_read c.args.nodes.now middle c.index-nodes-middle.result within c.index-nodes-middle.is ∙ sym c.place-here.ensures ∙ c.if-here-place.true in
    let before : (k : ℕ) → k < middle → get_or (map place_of nodes) k 0 ≢ c.args.place = λ k b same. let rise = c.requires k middle b (omega arith) in omega arith in
    sym (is_at nodes c.args.place middle (omega arith) here before)

pub loop-low-preserved-then-here-place-2 : goal.loop-low-preserved-then-here-place-2
loop-low-preserved-then-here-place-2 c =
    let nodes = map listed c.args.nodes.now in
    let middle = c.loop-low.low + (c.loop-low.high - c.loop-low.low) / 2 in
    let count = length-map c.args.nodes.now listed in
    let counts = length-map nodes place_of in
    let within : middle < length c.args.nodes.now = omega (arith, c.loop-low-test.true, c.loop-low.invariant.within) in
    let here : get_or (map place_of nodes) middle 0 ≡ c.place-here.result = place_read c.args.nodes.now middle c.index-nodes-middle.result within c.index-nodes-middle.is ∙ sym c.place-here.ensures in
    record {
      below = up_to (map place_of nodes) c.args.place middle c.requires (omega arith) (omega (arith, c.if-here-place-2.true));
      above = c.loop-low.invariant.above;
      order = omega (arith, c.loop-low-test.true);
      within = c.loop-low.invariant.within;
    }

pub loop-low-preserved : goal.loop-low-preserved
loop-low-preserved c =
    let nodes = map listed c.args.nodes.now in
    let middle = c.loop-low.low + (c.loop-low.high - c.loop-low.low) / 2 in
    let count = length-map c.args.nodes.now listed in
    let counts = length-map nodes place_of in
    let within : middle < length c.args.nodes.now = omega (arith, c.loop-low-test.true, c.loop-low.invariant.within) in
    let here : get_or (map place_of nodes) middle 0 ≡ c.place-here.result = place_read c.args.nodes.now middle c.index-nodes-middle.result within c.index-nodes-middle.is ∙ sym c.place-here.ensures in
    record {
      below = c.loop-low.invariant.below;
      above = λ k from inside. from_on (map place_of nodes) c.args.place middle c.requires (omega arith) (omega (arith, c.if-here-place-2.false, c.if-here-place.false)) k from (omega arith);
      order = omega (arith, c.loop-low-test.true);
      within = omega (arith, c.loop-low.invariant.within);
    }

pub returns-clause-place : goal.returns-clause-place
returns-clause-place c =
    let nodes = map listed c.args.nodes.now in
    let count = length-map c.args.nodes.now listed in
    let none : (k : ℕ) → k < length nodes → get_or (map place_of nodes) k 0 ≢ c.args.place = λ k inside same. elim (cases_lt k c.loop-low.low) as (λ _. ⊥) [
      | inl low ↦ (let lower = c.loop-low.invariant.below k low in omega arith)
      | inr high ↦ (let higher = c.loop-low.invariant.above k (omega (arith, c.loop-low-test.false)) (omega arith) in omega arith)
    ] in
    sym (is_nowhere nodes c.args.place none)
