use Rattle.std.proofs.Common.{◌∙◌}
use Rattle.mem_disk.proofs.UndoLemmas.{open_ranges}
use Rattle.mem_disk.proofs.file.is_open.Goals as goal

pub returns : goal.returns
returns c = c.covers.ensures ∙ open_ranges c.args.changes.now c.args.place
