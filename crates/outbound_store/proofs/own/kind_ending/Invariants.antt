use Rattle.std.proofs.Common.{◌≡◌, drop}
use Rattle.std.specs.Str.{bytes_eq}
use Rattle.node_model.specs.Lists.{first_that}
use Rattle.bso_outbound.specs.Kinds.{ending}
use Rattle.outbound_model.specs.OwnNames.{kinds}
use Rattle.outbound_store.proofs.own.kind_ending.Given as goal

abbrev pub invariant-loop-kind : goal.invariant-loop-kind
invariant-loop-kind l = first_that (λ kind. bytes_eq l.end (ending kind)) (drop l.kind-index kinds) ≡ first_that (λ kind. bytes_eq l.end (ending kind)) kinds
