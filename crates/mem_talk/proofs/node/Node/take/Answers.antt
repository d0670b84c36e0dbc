use Rattle.std.proofs.Common.{sym, subst, ◌∙◌}
use Rattle.mem_store.specs.ListStates.{ListState, stand_of}
use Rattle.hub_core.specs.Opening.{IsWhole, no_seats}
use Rattle.mem_store.proofs.NewStores.{new_fits}
use Rattle.mem_talk.proofs.node.Node.take.Goals as goal

-- A new store fits any hub.
pub invariant_of-self : goal.invariant_of-self
invariant_of-self c = λ settings. subst (λ (s : ListState). IsWhole (stand_of s) (no_seats settings)) (sym (c.replace.ensures.after ∙ c.new.ensures.empty)) (new_fits settings)
