use Rattle.std.proofs.Common.{rules, tests, ℕ, List, eqb}
use Rattle.std.specs.Prelude.{codes, nat_eq}
use Rattle.std.specs.List.{starts_with}
use Rattle.std.proofs.lemmas.Iterator.Search.{find_from_yields_List}
use Rattle.std.proofs.lemmas.Iterator.Splits.{YieldsList-from_slice_split}
use Rattle.std.specs.List.{slice_split}
use Rattle.std.specs.Prelude.{◌≡◌, option_map}
use Rattle.cram_md5.proofs.FoundWord.{five_bytes}
use Rattle.cram_md5.specs.Offer.{cram_word}
use Rattle.cram_md5.proofs.offer.cram_word.Goals as goal

pub returns : goal.returns
returns c =
    let found : option_map (λ w. w.now) c.find.result ≡ cram_word c.args.options.now = find_from_yields_List (λ (word : List ℕ). starts_with nat_eq word (codes "CRAM-")) _ _ c.find.result c.find.ensures.ran (YieldsList-from_slice_split _ (λ b. eqb b 32) c.args.options.now (cc) (cc) (cc) (λ x b q k. search (rules, tests))) (λ x b q k. search (rules, tests)) in
    record { word = found; length = five_bytes _ (slice_split (λ b. eqb b 32) c.args.options.now) found }
