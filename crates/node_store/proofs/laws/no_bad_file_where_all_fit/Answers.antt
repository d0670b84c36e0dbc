use Rattle.node_store.proofs.Fitting.{no_bad}
use Rattle.node_store.proofs.laws.no_bad_file_where_all_fit.Goals as goal

pub returns : goal.returns
returns c = no_bad
