use Rattle.std.proofs.Common.{◌≡◌, ◌∙◌, sym, ap, subst, Some, ℕ, true, false, arith, inl, inr}
use Rattle.std.specs.Prelude.{◌==◌, is_some, [], ◌∷◌, ◌++◌}
use Rattle.std.specs.BTreeMap.{get, is_at}
use Rattle.std.specs.Ordering.{nat_cmp}
use Rattle.std.proofs.lemmas.Bool.{cases_eq}
use Rattle.std.proofs.lemmas.Bool.Decides.{nat_tests}
use Rattle.file_index.specs.Numbered.{first}
use Rattle.file_index.proofs.Places.{first-new, first-other, first-again, none_of}
use Rattle.file_index.proofs.numbers.NumberIndex.note.Goals as goal

pub returns-in-Ok : goal.returns-in-Ok
returns-in-Ok c = λ numbers place has whole n.
    let number = c.args.number in
    let none = sym (has whole number) ∙ none_of (get nat_cmp c.args.self.now.places number) (sym c.contains_key.ensures ∙ c.if-contains_key.false) in
    elim (cases_eq number n) as (λ _. get nat_cmp c.insert.new.self n ≡ first n (numbers ++ number ∷ [])) [
      | inl same ↦
          let is : (number == number) ≡ true = grind (arith, nat_tests) in
          subst (λ (k : ℕ). get nat_cmp c.insert.new.self k ≡ first k (numbers ++ number ∷ [])) same
          (c.in-Ok.ensures.updates.1 ∙ ap Some place ∙ sym (first-new number numbers number is none))
      | inr apart ↦
          let other : is_at (nat_cmp number) n ≡ false = grind (arith, nat_tests) in
          let differs : (number == n) ≡ false = grind (arith, nat_tests) in
          c.in-Ok.ensures.updates.2 n other ∙ has whole n ∙ sym (first-other n numbers number differs)
    ]

pub returns-then-contains_key : goal.returns-then-contains_key
returns-then-contains_key c = λ numbers place has whole n.
    has whole n ∙ sym (first-again n numbers c.args.number (ap is_some (sym (has whole c.args.number)) ∙ (sym c.contains_key.ensures ∙ c.if-contains_key.true)))
