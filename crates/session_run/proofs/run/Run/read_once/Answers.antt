use Rattle.std.proofs.Common.{◌≡◌, ◌≤◌, length, arith, ◌+◌, ◌&&◌, ◌++◌, ℕ, Bool, List, ap, sym, subst, refl, ◌∙◌}
use Rattle.binkp_link.specs.Lines.{IsRead, came}
use Rattle.session_run.specs.Machine.{Taking, Reading, after_read}
use Rattle.session_run.specs.Runs.{over_or}
use Rattle.session_run.specs.declared.unsent.TheConstants.{MOST_TO_READ}
use Rattle.session_run.proofs.LineRuns.{came_it, passes_read_it}
use Rattle.session_run.proofs.Runs.{gave_up_at}
use Rattle.session_run.proofs.Room.{read_advanced}
use Rattle.session_run.proofs.run.Run.read_once.Goals as goal

pub returns-then-is_err-clause-went : goal.returns-then-is_err-clause-went
returns-then-is_err-clause-went g c = λ alone s desk e. gave_up_at alone s _ _ _ desk _ _ (Reading c.args.waits) tt refl refl refl refl

pub returns-then-left-gt-MOST_TO_READ-clause-went : goal.returns-then-left-gt-MOST_TO_READ-clause-went
returns-then-left-gt-MOST_TO_READ-clause-went g c = λ alone s desk e. passes_read_it alone s _ _ desk c.args.waits (omega arith)

pub returns-clause-went : goal.returns-clause-went
returns-clause-went g c = λ alone s desk e.
    let few : length c.args.self.now.out ≤ MOST_TO_READ = omega arith in
    let waited = c.both-wait.ensures ∙ ap (λ (b : Bool). c.args.waits && b) c.is_empty.ensures in
    let did = c.came.ensures.did in
    let base = c.came.ensures.to ∙ ap (λ (calm : ℕ). after_read c.read-answer.result c.args.limit (c.came.new.self.taken + c.args.self.now.wrote) calm) c.calm.ensures in
    came_it alone s _ _ _ _ desk c.args.waits c.read-answer.result c.read-answer.new.out _ few c.read-answer.auto.out
    (subst (λ (b : Bool). IsRead b (g.L.Line.state c.args.line.now) c.read-answer.result c.read-answer.new.out (g.L.Line.state c.read-answer.new.self)) waited c.read-answer.ensures)
    (record { session = did.session; decoder = did.decoder; piece_is = did.piece_is ∙ ap (λ (x : List ℕ). x ++ came c.read-answer.result c.read-answer.new.out) c.reserve.ensures.same; out = did.out; wrote = did.wrote; taken = did.taken })
    (subst (λ (k : ℕ). over_or c.came.result Taking ≡ after_read c.read-answer.result k (c.came.new.self.taken + c.args.self.now.wrote) (g.L.Line.state c.read-answer.new.self).calm) (sym e) base)

pub returns-clause-advances : goal.returns-clause-advances
returns-clause-advances g c =
    let waited = c.both-wait.ensures ∙ ap (λ (b : Bool). c.args.waits && b) c.is_empty.ensures in
    let did = c.came.ensures.did in
    read_advanced _ _ _ (g.L.Line.state c.args.line.now) (g.L.Line.state c.read-answer.new.self) c.args.waits c.read-answer.result c.read-answer.new.out _ c.requires.within
    (subst (λ (b : Bool). IsRead b (g.L.Line.state c.args.line.now) c.read-answer.result c.read-answer.new.out (g.L.Line.state c.read-answer.new.self)) waited c.read-answer.ensures)
    (record { session = did.session; decoder = did.decoder; piece_is = did.piece_is ∙ ap (λ (x : List ℕ). x ++ came c.read-answer.result c.read-answer.new.out) c.reserve.ensures.same; out = did.out; wrote = did.wrote; taken = did.taken })
    (c.came.ensures.to ∙ ap (λ (calm : ℕ). after_read c.read-answer.result c.args.limit (c.came.new.self.taken + c.args.self.now.wrote) calm) c.calm.ensures)
