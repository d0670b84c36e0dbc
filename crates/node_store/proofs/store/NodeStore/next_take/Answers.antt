use Rattle.std.proofs.Common.{◌≡◌, ℕ, ◌+◌, None, Result, Ok, sym, ◌∙◌, ap, subst}
use Rattle.std.specs.Prelude.{IfOk}
use Rattle.node_model.specs.declared.store.StoreFault.{StoreFault}
use Rattle.node_store.specs.Stored.{Holding, stand_of}
use Rattle.node_store.specs.Takes.{Takes}
use Rattle.node_store.specs.Taking.{IsFreshTake}
use Rattle.node_store.proofs.MovedTakes.{fresh}
use Rattle.node_store.proofs.store.NodeStore.next_take.Goals as goal
use Rattle.node_store.proofs.store.NodeStore.next_take.Goals.{in-Ok, in-Err}

pub returns-clause-fresh : goal.returns-clause-fresh
returns-clause-fresh g c =
    let s = c.self.inside in
    let whole : s.broken ≡ None = ap (λ (x : Holding g.row.D.Denot). x.memory.broken) c.self.view_is ∙ c.requires.whole in
    let here = fresh s.takes _ (c.self.invariant.3 whole) in
    let told = subst (λ (x : Holding g.row.D.Denot). IsFreshTake (s.takes.last + 1) (stand_of g.D.Disk.tells g.D.Disk.content g.D.Disk.fault_count g.D.Disk.moment g.D.Disk.images x).state) c.self.view_is here in
    let P : (Result ℕ StoreFault → Type 0) = λ r. IfOk r (λ take. IsFreshTake take (stand_of g.D.Disk.tells g.D.Disk.content g.D.Disk.fault_count g.D.Disk.moment g.D.Disk.images c.args.self.now).state) in
    elim c.match-draw.branch [
      | in-Ok w ↦
          let last : w.last-in-Ok.result ≡ s.takes.last = w.last-in-Ok.ensures ∙ ap (λ (t : Takes). t.last) w.in-Ok.ensures.drawn in
          subst P (sym w.result-is) (subst (λ (k : ℕ). P (Ok (k + 1))) (sym last) told)
      | in-Err w ↦ subst P (sym w.result-is) tt
    ]
