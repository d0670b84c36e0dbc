use Rattle.std.proofs.Common.{◌≡◌, drop, option_map}
use Rattle.nodelist_comp.specs.Fields.{fields_left}
use Rattle.nodelist_comp.proofs.comma.behind_fields.Given as goal

abbrev pub invariant-loop-left : goal.invariant-loop-left
invariant-loop-left l =
    drop l.left (fields_left (option_map (λ rest. rest.now) l.rest)) ≡ drop l.fn.n (fields_left (option_map (λ rest. rest.now) l.fn.rest))

abbrev pub decreases-loop-left : goal.decreases-loop-left
decreases-loop-left l = l.left
