use Rattle.std.proofs.Common.{◌≡◌, ℕ, subst, arith}
use Rattle.node_store.specs.Copying.{HasFront}
use Rattle.node_store.proofs.CopyPieces.{whole_copy}
use Rattle.node_store.proofs.copying.copy_own.Goals as goal

pub returns-clause-copied : goal.returns-clause-copied
returns-clause-copied g c = λ w read.
    let r = c.loop-at.invariant.read w read in
    let all : c.loop-at.at ≡ c.args.size = omega (arith, c.loop-at.invariant.within, c.loop-at-test.false) in
    (r.0, r.1, whole_copy c.args.from.now c.args.to.now c.requires.apart c.args.size r.0 w (c.requires.stands r.0 r.1) r.2 (subst (λ (n : ℕ). HasFront c.args.from.now c.args.to.now n w) all (c.loop-at.invariant.front w read)))
