use Rattle.std.proofs.Common.{rules, tests, ℕ, List, eqb}
use Rattle.std.specs.Prelude.{codes}
use Rattle.std.proofs.lemmas.Iterator.Search.{any_from_yields_List}
use Rattle.std.proofs.lemmas.Iterator.Splits.{YieldsList-from_slice_split}
use Rattle.ftn_addr.specs.Case.{same_word}
use Rattle.cram_md5.proofs.offer.names_md5.Goals as goal

pub returns : goal.returns
returns c =
    any_from_yields_List (λ (name : List ℕ). same_word name (codes "MD5")) _ _ _ c.any.ensures.ran (YieldsList-from_slice_split _ (λ b. eqb b 47) c.args.names.now (cc) (cc) (cc) (λ x b q k. search (rules, tests))) (λ x b q k. search (rules, tests))
