use Rattle.nodelist_find.proofs.IndexLaw.{read-index_of}
use Rattle.nodelist_find.proofs.laws.reads_what_is_written.Goals as goal

pub returns : goal.returns
returns c = read-index_of
