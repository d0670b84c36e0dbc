use Rattle.std.proofs.Common.{◌≡◌, map, take}
use Rattle.std.specs.List.{All}
use Rattle.command_words.specs.Forms.{IsPlain, texts}
use Rattle.command_words.proofs.plain.plain_texts.Given as goal

abbrev pub invariant-loop-word : goal.invariant-loop-word
invariant-loop-word l =
    (map (λ text. text.now) l.plain.items ≡ texts (take l.word-index l.words)) × All IsPlain (texts (take l.word-index l.words))
