use Rattle.std.proofs.Common.{Result, ap}
use Rattle.nodelist_comp.specs.Node.{ListedNode}
use Rattle.nodelist_find.specs.declared.fault.IndexFault.{IndexFault}
use Rattle.nodelist_files.specs.IndexFile.{found, nodes_or_bad}
use Rattle.nodelist_files.proofs.Readable.{index_is_read}
use Rattle.nodelist_files.proofs.law.what_is_compiled_is_read.Goals as goal

pub returns : goal.returns
returns c = λ text nodes is. ap (λ (read : Result (Rattle.std.proofs.Common.List ListedNode) IndexFault). found (nodes_or_bad read)) (index_is_read text nodes is)
