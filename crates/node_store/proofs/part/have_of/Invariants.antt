use Rattle.std.proofs.Common.{◌≡◌, ◌==◌, drop}
use Rattle.std.specs.Prelude.{find}
use Rattle.node_store.specs.Stored.{Part}
use Rattle.node_store.proofs.part.have_of.Given as goal

abbrev pub invariant-loop-part : goal.invariant-loop-part
invariant-loop-part l = find (λ (p : Part). p.number == l.number) (drop l.part-index l.parts) ≡ find (λ (p : Part). p.number == l.number) l.parts
