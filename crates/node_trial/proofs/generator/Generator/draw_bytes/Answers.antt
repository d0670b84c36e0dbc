use Rattle.std.proofs.Common.{◌<◌, ◌%◌, ◌++◌, ◌∷◌, [], ap, arith, ◌∙◌}
use Rattle.node_trial.proofs.Drawing.{draws_on}
use Rattle.node_trial.proofs.generator.Generator.draw_bytes.Goals as goal

pub loop-place-preserved : goal.loop-place-preserved
loop-place-preserved c =
    let within : c.loop-place.place < c.args.size = omega (arith, c.loop-place-test.true) in
    draws_on c.args.size c.loop-place.place c.loop-place.self c.draw.new.self _ c.loop-place.bytes.list c.push_slice.new.self.list _ within c.draw.ensures.state
    (c.in_ok-push_slice.ensures.ok ∙ ap (λ n. c.loop-place.bytes.list ++ (n % 256) ∷ []) c.draw.ensures.number) c.loop-place.invariant
