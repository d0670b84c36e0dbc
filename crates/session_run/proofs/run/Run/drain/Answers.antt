use Rattle.std.proofs.Common.{◌≡◌, refl, ap, sym, subst, ◌∙◌, ◌<◌, ◌≤◌, ◌+◌, ◌-◌, ◌^◌, min, ◌++◌, ℕ, List, length, take, inr, arith}
use Rattle.binkp_link.specs.Lines.{LineState, IsWrite}
use Rattle.binkp_link.specs.declared.link.WriteAnswer.TheVariants as W
use Rattle.std.specs.Prelude.{nat_le}
use Rattle.std.proofs.lemmas.Bool.{eqb-true, eqb-false}
use Rattle.std.proofs.lemmas.List.{length-take-le, take-append-drop}
use Rattle.session_run.specs.Runs.{drained}
use Rattle.session_run.proofs.Streams.{is_nothing}
use Rattle.session_run.proofs.Closings.{closes_it, drains_it, quiet_drained, wrote_drained, goes_at}
use Rattle.session_run.proofs.run.Run.drain.Goals as goal

some_left : (n : ℕ) → (n ≡ 0 → ⊥) → 0 < n
some_left n some = omega (arith, some)

counted_more : (wrote n m wrote' : ℕ) → wrote' ≡ min (wrote + n) (2 ^ 64 - 1) → m ≡ n → min wrote' (2 ^ 64 - 1) ≡ min (wrote + m) (2 ^ 64 - 1)
counted_more wrote n m wrote' e same = omega arith

counted_none : (wrote : ℕ) → min wrote (2 ^ 64 - 1) ≡ min (wrote + 0) (2 ^ 64 - 1)
counted_none wrote = omega arith

wrote_within : (l l' : LineState) (n : ℕ) (bytes list : List ℕ) → bytes ≡ list → IsWrite l (W.Wrote n) bytes l' → n ≤ length list
wrote_within l l' n bytes list same is = subst (λ (x : List ℕ). n ≤ length x) same is.may.1

pub returns-then-is_empty-clause-went : goal.returns-then-is_empty-clause-went
returns-then-is_empty-clause-went g c = λ alone s desk end.
    closes_it alone s _ _ desk _ end (inr (is_nothing _ (eqb-true (length c.args.self.now.out) 0 (sym c.if-is_empty.ensures))))

pub returns-in-Wrote-clause-went : goal.returns-in-Wrote-clause-went
returns-in-Wrote-clause-went g c = λ alone s desk end.
    wrote_drained alone s _ _ _ desk end _ c.is_empty-in-Wrote.ensures
    (drains_it alone s _ _ _ _ desk end _ _ c.as_slice.ensures (some_left _ (eqb-false (length c.args.self.now.out) 0 (sym c.if-is_empty.ensures))) c.in-Wrote.ensures
    (sym (take-append-drop c.in-Wrote.n c.args.self.now.out) ∙ ap (λ rest. take c.in-Wrote.n c.args.self.now.out ++ rest) (sym c.drop_front.ensures)) refl refl
    (counted_more c.args.self.now.wrote c.in-Wrote.n (length (take c.in-Wrote.n c.args.self.now.out)) _ c.saturating_add-self.ensures
    (length-take-le c.in-Wrote.n c.args.self.now.out (wrote_within (g.L.Line.state c.args.line.now) (g.L.Line.state c.write.new.self) c.in-Wrote.n _ c.args.self.now.out c.as_slice.ensures c.in-Wrote.ensures))))

pub returns-in-Quiet-clause-went : goal.returns-in-Quiet-clause-went
returns-in-Quiet-clause-went g c = λ alone s desk end.
    goes_at (drains_it alone s _ _ _ _ desk end _ _ c.as_slice.ensures (some_left _ (eqb-false (length c.args.self.now.out) 0 (sym c.if-is_empty.ensures))) c.in-Quiet.ensures refl refl refl (counted_none c.args.self.now.wrote))
    (quiet_drained _ end ∙ ap (λ (calm : ℕ). drained (nat_le 60 calm) end) (sym c.calm.ensures))

pub returns-in-Failed-clause-went : goal.returns-in-Failed-clause-went
returns-in-Failed-clause-went g c = λ alone s desk end.
    drains_it alone s _ _ _ _ desk end _ _ c.as_slice.ensures (some_left _ (eqb-false (length c.args.self.now.out) 0 (sym c.if-is_empty.ensures))) c.in-Failed.ensures refl refl refl (counted_none c.args.self.now.wrote)
