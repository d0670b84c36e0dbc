use Rattle.std.proofs.Common.{◌≡◌, ℕ, ◌+◌, List, length, Option, Some, None, option_map}
use Rattle.nodelist_comp.proofs.FirstField.{bytes_left}
use Rattle.nodelist_comp.specs.Fields.{fields_left}
use Rattle.nodelist_comp.specs.Flags.{first_ina}
use Rattle.nodelist_comp.proofs.flags.first_ina.Given as goal

abbrev pub invariant-loop-rest : goal.invariant-loop-rest
invariant-loop-rest l = first_ina (fields_left (option_map (λ flags. flags.now) l.rest)) ≡ first_ina (fields_left (option_map (λ flags. flags.now) l.fn.flags))

abbrev pub decreases-loop-rest : goal.decreases-loop-rest
decreases-loop-rest l = bytes_left (option_map (λ flags. flags.now) l.rest)
