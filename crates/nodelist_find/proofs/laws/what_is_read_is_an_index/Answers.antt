use Rattle.nodelist_find.proofs.Opened.{opened}
use Rattle.nodelist_find.proofs.laws.what_is_read_is_an_index.Goals as goal

pub returns : goal.returns
returns c = opened
