use Rattle.std.proofs.Common.{rules, sym, refl, ap, ◌∙◌, ℕ, List, [], ◌∷◌}
use Rattle.command_words.specs.Forms.{of_call, of_lookup, of_compile}
use Rattle.command_words.proofs.WordLists.{same_bytes}
use Rattle.command_words.proofs.form.form_of_two.Goals as goal

pub returns-then-eq-clause-some : goal.returns-then-eq-clause-some
returns-then-eq-clause-some c =
    of_call _ c.requires refl (ap (λ (l : List ℕ). l ∷ c.args.word.now.list ∷ []) (same_bytes _ _ (sym c.eq.ensures ∙ c.if-eq.true) ∙ c.as_slice.ensures))

pub returns-then-eq-2-clause-some : goal.returns-then-eq-2-clause-some
returns-then-eq-2-clause-some c =
    of_lookup _ c.requires refl (ap (λ (l : List ℕ). l ∷ c.args.word.now.list ∷ []) (same_bytes _ _ (sym c.eq-else-eq.ensures ∙ c.if-eq-2.true) ∙ c.as_slice-else-eq.ensures))

pub returns-then-len-le-MOST_PATH-clause-some : goal.returns-then-len-le-MOST_PATH-clause-some
returns-then-len-le-MOST_PATH-clause-some c =
    of_compile _ c.requires (search rules) refl (ap (λ (l : List ℕ). l ∷ c.args.word.now.list ∷ []) (same_bytes _ _ (sym c.eq-else-eq-2.ensures ∙ c.if-eq-3.true) ∙ c.as_slice-else-eq-2.ensures))
