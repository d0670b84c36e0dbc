use Rattle.std.proofs.Common.{◌≡◌, ◌+◌, ℕ, List, length, arith, ap, sym, subst, ◌∙◌}
use Rattle.std.proofs.lemmas.Bool.{eqb-true, eqb-false}
use Rattle.binkp_link.specs.Lines.{IsWrite}
use Rattle.session_run.specs.Machine.{Reading, after_write}
use Rattle.session_run.specs.Runs.{over_or}
use Rattle.session_run.proofs.LineRuns.{passes_it, wrote_it}
use Rattle.session_run.proofs.Streams.{is_nothing}
use Rattle.session_run.proofs.Room.{write_advanced}
use Rattle.session_run.proofs.run.Run.write_once.Goals as goal

pub returns-then-is_empty-clause-went : goal.returns-then-is_empty-clause-went
returns-then-is_empty-clause-went g c = λ alone s desk e. passes_it alone s _ _ desk c.args.waits (is_nothing _ (eqb-true (length c.args.self.now.out) 0 (sym c.if-is_empty.ensures)))

pub returns-clause-went : goal.returns-clause-went
returns-clause-went g c = λ alone s desk e.
    let some = eqb-false (length c.args.self.now.out) 0 (sym c.if-is_empty.ensures) in
    let base = c.wrote.ensures.to (Reading c.args.waits) ∙ ap (λ (calm : ℕ). after_write c.write-answer.result c.args.limit (c.args.self.now.taken + c.wrote.new.self.wrote) calm (Reading c.args.waits)) c.calm.ensures in
    wrote_it alone s _ _ _ _ desk c.args.waits c.write-answer.result _ (omega (arith, some))
    (subst (λ (bytes : List ℕ). IsWrite (g.L.Line.state c.args.line.now) c.write-answer.result bytes (g.L.Line.state c.write-answer.new.self)) c.as_slice.ensures c.write-answer.ensures)
    c.wrote.ensures.did
    (subst (λ (k : ℕ). over_or c.wrote.result (Reading c.args.waits) ≡ after_write c.write-answer.result k (c.args.self.now.taken + c.wrote.new.self.wrote) (g.L.Line.state c.write-answer.new.self).calm (Reading c.args.waits)) (sym e) base)

pub returns-clause-advances : goal.returns-clause-advances
returns-clause-advances g c =
    write_advanced _ _ _ (g.L.Line.state c.args.line.now) (g.L.Line.state c.write-answer.new.self) c.args.waits c.write-answer.result _ c.requires.within
    (subst (λ (bytes : List ℕ). IsWrite (g.L.Line.state c.args.line.now) c.write-answer.result bytes (g.L.Line.state c.write-answer.new.self)) c.as_slice.ensures c.write-answer.ensures)
    c.wrote.ensures.did
    (c.wrote.ensures.to (Reading c.args.waits) ∙ ap (λ (calm : ℕ). after_write c.write-answer.result c.args.limit (c.args.self.now.taken + c.wrote.new.self.wrote) calm (Reading c.args.waits)) c.calm.ensures)
