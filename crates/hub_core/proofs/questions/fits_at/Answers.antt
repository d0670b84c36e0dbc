use Rattle.std.proofs.Common.{◌∙◌, ◌-◌, ◌≤◌, ap, option_map, arith}
use Rattle.std.proofs.lemmas.Bool.{leb-true}
use Rattle.ftn_addr.specs.Key.{key_of}
use Rattle.node_model.specs.Talk.{Part}
use Rattle.hub_core.specs.Hubs.{sitting_of, taking_of, taken_part, unless_dropped, sitting_part}
use Rattle.hub_core.proofs.questions.fits_at.Goals as goal

pub returns : goal.returns
returns c = λ t.
    let p : Part = record { key = key_of c.in-Some-hold.taken.key; left = c.in-Some-hold.taken.key.size - c.in-Some-hold.taken.have; taking = c.in-Some-hold.taken.taking } in
    record {
      held = p;
      is = ap (λ o. (sitting_part (option_map sitting_of o)).held) c.in-Some.is
          ∙ ap (λ o. taken_part (option_map taking_of o)) c.in-Some-hold.is
          ∙ ap (λ d. unless_dropped d p) c.if-taken.false;
      taking = c.if-not-taken.false;
      fits = let h = c.saturating_sub.ensures in let few : c.args.more ≤ c.saturating_sub.result = leb-true c.args.more c.saturating_sub.result t in omega (arith, few, h);
    }
