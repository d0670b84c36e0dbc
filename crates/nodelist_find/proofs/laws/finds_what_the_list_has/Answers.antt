use Rattle.nodelist_find.proofs.LookUp.{found-in_order}
use Rattle.nodelist_find.proofs.laws.finds_what_the_list_has.Goals as goal

pub returns : goal.returns
returns c = found-in_order
