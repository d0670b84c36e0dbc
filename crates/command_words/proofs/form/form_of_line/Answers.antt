use Rattle.std.proofs.Common.{subst, sym, ap, ◌∙◌, ℕ, List, [], ◌∷◌}
use Rattle.command_words.specs.Forms.{HasForm}
use Rattle.command_words.proofs.WordLists.{line_alone, line_of_one, line_of_two}
use Rattle.command_words.proofs.form.form_of_line.Goals as goal

pub returns-in-0-clause-none : goal.returns-in-0-clause-none
returns-in-0-clause-none c = λ none asked form.
    c.form_of_one.ensures.none none asked
    (subst (λ (l : List (List ℕ)). HasForm l asked)
    (line_alone _ c.args.line c.requires.line c.in-0.is ∙ ap (λ (w : List ℕ). w ∷ []) (sym c.as_bytes.ensures.value)) form)

pub returns-in-1-clause-none : goal.returns-in-1-clause-none
returns-in-1-clause-none c = λ none asked form.
    let word = c.index-words-1.result in
    c.form_of_two.ensures.none none asked
    (subst (λ (l : List (List ℕ)). HasForm l asked)
    (line_of_one c.args.words.now c.args.line word c.requires.line c.in-1.is c.index-words-1.is
    ∙ ap (λ (w : List ℕ). w ∷ word.list ∷ []) (sym c.as_bytes-in-1.ensures.value)) form)

pub returns-in-2-clause-none : goal.returns-in-2-clause-none
returns-in-2-clause-none c = λ none asked form.
    let first = c.index-words-1-in-2.result in
    let second = c.index-words-2.result in
    c.form_of_three.ensures.none none asked
    (subst (λ (l : List (List ℕ)). HasForm l asked)
    (line_of_two c.args.words.now c.args.line first second c.requires.line c.in-2.is c.index-words-1-in-2.is c.index-words-2.is
    ∙ ap (λ (w : List ℕ). w ∷ first.list ∷ second.list ∷ []) (sym c.as_bytes-in-2.ensures.value)) form)
