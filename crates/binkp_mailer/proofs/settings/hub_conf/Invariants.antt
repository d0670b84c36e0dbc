use Rattle.std.proofs.Common.{◌≡◌, ◌++◌, drop, map}
use Rattle.binkp_mailer.proofs.settings.hub_conf.Given as goal

abbrev pub invariant-loop-name : goal.invariant-loop-name
invariant-loop-name l =
    map (λ name. name.list) l.refuse_names.items ++ map (λ name. name.list) (drop l.name-index l.name-items) ≡ map (λ name. name.list) l.name-items
