use Rattle.std.proofs.Common.{rules}
use Rattle.std.proofs.lemmas.List.{drop-replicate}
use Rattle.cram_md5.proofs.digest.zeros_after.Goals as goal

pub returns : goal.returns
returns c = rw c.copy_from_slice.ensures.after (search (rules, drop-replicate))
