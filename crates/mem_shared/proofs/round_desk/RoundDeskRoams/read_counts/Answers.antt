use Rattle.std.proofs.Common.{rules}
use Rattle.mem_store.specs.ListStates.{stand_of}
use Rattle.hub_core.specs.Hubs.{hub_state}
use Rattle.mem_shared.specs.SightLaws.{within_by}
use Rattle.mem_shared.proofs.round_desk.RoundDeskRoams.read_counts.Goals as goal

pub returns : goal.returns
returns c = λ k. within_by (λ h. stand_of h.store) (λ h. hub_state h.seats) c.args.self.now.desk.hub k (search rules) (search rules)
