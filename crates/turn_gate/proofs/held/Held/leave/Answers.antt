use Rattle.std.proofs.Common.{rules, ℕ, [], ◌∷◌, ◌+◌, None, Some, sym, ap, ◌∙◌, refl}
use mathlib.Core.Option.{none}
use Rattle.atomic_table.specs.Table.{rest, step}
use Rattle.turn_gate.specs.declared.view.Counted.{Counted}
use Rattle.turn_gate.specs.Views.{after_publish, after_release}
use Rattle.turn_gate.proofs.Keepers.{same_keeper}
use Rattle.turn_gate.proofs.Visits.{publishes, releases}
use Rattle.turn_gate.proofs.Slots.{not_full}
use Rattle.turn_gate.proofs.held.Held.leave.Goals as goal

pub compare_exchange_with-requires : goal.compare_exchange_with-requires
compare_exchange_with-requires g c = let h = c.requires.has_turn in
    (search rules, search rules, publishes g.T.Grows.state _ _ _ _ _ _ _ _ _ 0 0 0 0 c.args.gate.now.sized.1 h.live h.holds h.number refl h.low c.requires.turn)

pub exchange-requires : goal.exchange-requires
exchange-requires g c =
    let h = c.requires.has_turn in
    let w = c.compare_exchange_with.ensures.2 _ refl in
    (search rules, (None, ap (λ m. m.1) w ∙ (h.out ∙ (λ i. (0, None) ∷ rest (sym (ap (λ m. m.1) w ∙ h.out) i)))))

pub unreachable-requires : goal.unreachable-requires
unreachable-requires g c =
    not_full _ _ _ _ c.exchange.ensures.2 (ap (λ m. m.1) (c.compare_exchange_with.ensures.2 _ refl) ∙ c.requires.has_turn.out) c.in-Some.is

pub swap-requires : goal.swap-requires
swap-requires g c =
    let h = c.requires.has_turn in
    let v = c.args.pass.now.token.me.0 in
    let w = after_publish v (g.T.Grows.state c.args.self.value) in
    let x : Counted g.row.T.Denot = record { value = c.args.self.value; count = c.args.self.count + 1 } in
    let is = c.exchange.ensures.3 ∙ (ap (λ m. (m.0, (0, Some x) ∷ rest m.1)) (c.compare_exchange_with.ensures.2 x refl) ∙ ap (λ l. (w, (0, Some x) ∷ rest l)) h.out) in
    (search rules, search rules, releases g.T.Grows.state _ _ _ _ _ _ w x (step 0 0 0 0 none) c.args.gate.now.sized.1 is h.live h.holds refl (ap (λ (n : ℕ). n + 1) (sym h.number)))

pub returns-clause-left : goal.returns-clause-left
returns-clause-left g c =
    let x : Counted g.row.T.Denot = record { value = c.args.self.value; count = c.args.self.count + 1 } in
    ap (λ m. m.0) c.swap.ensures.2 ∙ ap (λ m. after_release m.0) (c.exchange.ensures.3 ∙ ap (λ m. (m.0, (0, Some x) ∷ rest m.1)) (c.compare_exchange_with.ensures.2 x refl))

pub returns-clause-free : goal.returns-clause-free
returns-clause-free g c =
    let h = c.requires.has_turn in
    let x : Counted g.row.T.Denot = record { value = c.args.self.value; count = c.args.self.count + 1 } in
    let e = c.swap.ensures.2 ∙ ap (λ m. (after_release m.0, [])) (c.exchange.ensures.3 ∙ ap (λ m. (m.0, (0, Some x) ∷ rest m.1)) (c.compare_exchange_with.ensures.2 x refl)) in
    record {
      of = c.swap.ensures.0 ∙ (c.exchange.ensures.0 ∙ (c.compare_exchange_with.ensures.0 ∙ h.of));
      live = ap (λ m. m.0.live) e ∙ h.live;
      free = ap (λ m. m.0.holds) e;
      taken = ap (λ m. m.0.taken) e ∙ sym (ap (λ m. m.0.left) e);
      number = ap (λ m. m.0.number) e;
      bare = ap (λ m. m.1) e;
    }

pub invariant_of-pass : goal.invariant_of-pass
invariant_of-pass g c =
    let x : Counted g.row.T.Denot = record { value = c.args.self.value; count = c.args.self.count + 1 } in
    let e = c.swap.ensures.2 ∙ ap (λ m. (after_release m.0, [])) (c.exchange.ensures.3 ∙ ap (λ m. (m.0, (0, Some x) ∷ rest m.1)) (c.compare_exchange_with.ensures.2 x refl)) in
    let p = c.args.pass.now in
    record {
      numbered = (p.numbered.0 ∙ sym (ap (λ m. m.0.seat) e), c.grown-seen.ensures ∙ sym (ap (λ m. g.T.Grows.length_of m.0.left) e));
      keeps = λ first. let k = p.keeps (sym (ap (λ m. m.0.seat) e) ∙ first) in (
        k.0 ∙ sym (c.swap.ensures.0 ∙ (c.exchange.ensures.0 ∙ c.compare_exchange_with.ensures.0)),
        same_keeper p.keeper.views _ _ k.1,
      );
    }
