use Rattle.std.proofs.Common.{◌<◌, arith}
use Rattle.node_trial.specs.Files.{file_text}
use Rattle.node_trial.proofs.Drawing.{files_on}
use Rattle.node_trial.proofs.filling.fill.Goals as goal

pub loop-index-preserved : goal.loop-index-preserved
loop-index-preserved c =
    let within : c.loop-index.index < c.args.count = omega (arith, c.loop-index-test.true) in
    files_on c.args.count c.loop-index.index c.loop-index.generator c.draw_file.new.self _ c.loop-index.total c.in_ok-file.file.key.size (file_text c.in_ok-file.file)
    within c.in_ok-file.ensures.state c.in_ok-file.ensures.file c.in_ok-file.ensures.size c.in_ok-file.ensures.small c.loop-index.invariant
