-- How names end, and the kinds that they end so for.
use Rattle.std.proofs.Common.{◌≡◌, ◌≢◌, ℕ, ◌+◌, ◌<◌, true, nat_eq, List, [], ◌∷◌, length, take, Option, Some, refl, sym, ap, ◌∙◌, inl, inr, subst, get_or}
use Rattle.std.specs.Prelude.{find}
use Rattle.std.specs.Cmp.Lexicographic.{pointwise}
use Rattle.std.proofs.lemmas.List.{take_more}
use Rattle.node_model.specs.Lists.{Member}
use Rattle.node_model.specs.declared.words.Flavour.{Flavour}
use Rattle.node_model.specs.declared.words.Flavour.TheVariants.{Immediate, Crash, Direct, Normal, Hold}
use Rattle.node_model.proofs.Lists.{Member-append_cases, some_inj}
use Rattle.bso_outbound.specs.declared.kind.Kind.{Kind}
use Rattle.bso_outbound.specs.declared.kind.Kind.TheVariants.{Flow, Mail, Request}
use Rattle.bso_outbound.specs.declared.kind.TheConstants.{KINDS}
use Rattle.bso_outbound.specs.Kinds.{ending, flow_ending, mail_ending}
use Rattle.bso_outbound.specs.Paths.{lower_case}
use Rattle.bso_outbound.specs.Reading.{no_slash}

pub every_kind : (k : Kind) → Member k KINDS
every_kind (Flow Immediate) = inl refl
every_kind (Flow Crash) = inr (inl refl)
every_kind (Flow Direct) = inr (inr (inl refl))
every_kind (Flow Normal) = inr (inr (inr (inl refl)))
every_kind (Flow Hold) = inr (inr (inr (inr (inl refl))))
every_kind (Mail Immediate) = inr (inr (inr (inr (inr (inl refl)))))
every_kind (Mail Crash) = inr (inr (inr (inr (inr (inr (inl refl))))))
every_kind (Mail Direct) = inr (inr (inr (inr (inr (inr (inr (inl refl)))))))
every_kind (Mail Normal) = inr (inr (inr (inr (inr (inr (inr (inr (inl refl))))))))
every_kind (Mail Hold) = inr (inr (inr (inr (inr (inr (inr (inr (inr (inl refl)))))))))
every_kind Request = inr (inr (inr (inr (inr (inr (inr (inr (inr (inr (inl refl))))))))))

-- no kind among these ends so
abbrev pub NoneEnds : List ℕ → List Kind → Type 0
NoneEnds end kinds = (k : Kind) → Member k kinds → lower_case end ≢ lower_case (ending k)

pub none_more : (end : List ℕ) (i : ℕ) (d : Kind) → i < length KINDS → NoneEnds end (take i KINDS) → lower_case end ≢ lower_case (ending (get_or KINDS i d)) → NoneEnds end (take (i + 1) KINDS)
none_more end i d within none other = λ k m.
    elim (Member-append_cases k (take i KINDS) (get_or KINDS i d ∷ []) (subst (λ (l : List Kind). Member k l) (take_more KINDS i d within) m)) [
      | inl before ↦ none k before
      | inr last ↦
          elim last [
            | inl is ↦ (λ same. other (same ∙ ap (λ (j : Kind). lower_case (ending j)) is))
            | inr none' ↦ absurd none'
          ]
    ]

-- endings have four bytes, none of them a slash
pub record IsEnding (end : List ℕ) : Type 0 where
  pub four : length end ≡ 4
  pub part : no_slash end ≡ true

flow_is : (f : Flavour) → IsEnding (flow_ending f)
flow_is Immediate = record { four = refl; part = refl }
flow_is Crash = record { four = refl; part = refl }
flow_is Direct = record { four = refl; part = refl }
flow_is Normal = record { four = refl; part = refl }
flow_is Hold = record { four = refl; part = refl }

mail_is : (f : Flavour) → IsEnding (mail_ending f)
mail_is Immediate = record { four = refl; part = refl }
mail_is Crash = record { four = refl; part = refl }
mail_is Direct = record { four = refl; part = refl }
mail_is Normal = record { four = refl; part = refl }
mail_is Hold = record { four = refl; part = refl }

pub ending_is : (k : Kind) → IsEnding (ending k)
ending_is (Flow f) = flow_is f
ending_is (Mail f) = mail_is f
ending_is Request = record { four = refl; part = refl }

-- the kind that ends so
kind_at : List ℕ → Option Kind
kind_at end = find (λ k. pointwise nat_eq end (lower_case (ending k))) KINDS

kind-at : (k : Kind) → kind_at (lower_case (ending k)) ≡ Some k
unfolding kind_at
kind-at (Flow Immediate) = refl
kind-at (Flow Crash) = refl
kind-at (Flow Direct) = refl
kind-at (Flow Normal) = refl
kind-at (Flow Hold) = refl
kind-at (Mail Immediate) = refl
kind-at (Mail Crash) = refl
kind-at (Mail Direct) = refl
kind-at (Mail Normal) = refl
kind-at (Mail Hold) = refl
kind-at Request = refl

pub one_ending : (j k : Kind) → lower_case (ending j) ≡ lower_case (ending k) → j ≡ k
one_ending j k is = some_inj (sym (kind-at j) ∙ ap kind_at is ∙ kind-at k)
