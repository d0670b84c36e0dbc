use Rattle.std.proofs.Common.{sym, ◌∙◌}
use Rattle.node_trial.proofs.Drawing.{bytes_count}
use Rattle.node_trial.proofs.generator.Generator.draw_file.Goals as goal

pub returns-clause-size : goal.returns-clause-size
returns-clause-size c = c.from.ensures ∙ sym (bytes_count _ c.draw-size.new.self c.in_ok-bytes.bytes.list c.in_ok-bytes.ensures.bytes)
