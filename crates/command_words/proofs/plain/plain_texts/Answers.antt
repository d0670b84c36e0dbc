use Rattle.std.proofs.Common.{ap, map, refl, subst, sym, ◌∙◌}
use Rattle.command_words.specs.Forms.{IsPlain}
use Rattle.command_words.proofs.PlainWords.{plain_at, plain_more, read_more}
use Rattle.command_words.proofs.plain.plain_texts.Goals as goal

pub returns-in-None-clause-none : goal.returns-in-None-clause-none
returns-in-None-clause-none c = λ none all.
    c.in-None.ensures.none refl (subst IsPlain (sym c.as_slice.ensures) (plain_at c.args.words.now c.loop-word.word-index c.word-item.result c.loop-word-test.true c.word-item.is all))

pub loop-word-preserved : goal.loop-word-preserved
loop-word-preserved c =
    let text = c.in-Some.ensures.some in (
      ap (map (λ t. t.now)) c.in_ok-push-in-Some.ensures.items
          ∙ read_more c.args.words.now c.loop-word.word-index c.word-item.result c.loop-word-test.true c.word-item.is c.loop-word.plain.items c.in-Some.text c.loop-word.invariant.0 (text.0 ∙ c.as_slice.ensures),
      plain_more c.args.words.now c.loop-word.word-index c.word-item.result c.loop-word-test.true c.word-item.is c.loop-word.invariant.1 (subst IsPlain c.as_slice.ensures text.1),
    )
