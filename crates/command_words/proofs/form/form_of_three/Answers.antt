use Rattle.std.proofs.Common.{rules, refl, ap, ◌∙◌, List, ℕ, [], ◌∷◌}
use Rattle.command_words.specs.Forms.{of_trial}
use Rattle.command_words.proofs.WordLists.{same_bytes}
use Rattle.command_words.proofs.form.form_of_three.Goals as goal

pub returns-clause-some : goal.returns-clause-some
returns-clause-some c =
    of_trial _ _ _ _ (search rules) (search rules) refl
    (ap (λ (l : List ℕ). l ∷ c.args.first.now.list ∷ c.args.second.now.list ∷ []) (same_bytes _ _ (search rules) ∙ c.as_slice.ensures))
