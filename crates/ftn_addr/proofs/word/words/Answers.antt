use Rattle.std.proofs.Common.{rules, tests, ℕ, length, not, eqb, Ok}
use Rattle.std.proofs.lemmas.Iterator.Consumers.{map_from_collect, YieldsList-from_filter}
use Rattle.std.proofs.lemmas.Iterator.Splits.{YieldsList-from_slice_split}
use Rattle.ftn_addr.specs.Blanks.{is_blank}
use Rattle.ftn_addr.proofs.word.words.Goals as goal

pub returns : goal.returns
returns c =
    map_from_collect {E = ℕ} (Ok c.in_ok-words.words) c.in_ok-words.ensures.ran (YieldsList-from_filter _ (λ w. not (eqb (length w) 0)) (YieldsList-from_slice_split _ is_blank c.args.line.now (cc) (cc) (cc) (λ x b q k. search (rules, tests))) c.filter.ensures.closure (λ x b q k. search (rules, tests)))
