-- What stands under each name after a file was added, changed or taken out.
use Rattle.std.proofs.Common.{◌≡◌, ◌≢◌, inl, inr, ℕ, List, [], ◌∷◌, Option, Some, None, true, false, cond, refl, sym, ◌∙◌, ap, subst}
use Rattle.std.specs.Prelude.{not, option_map, IsSome}
use Rattle.std.specs.Map.{lookup, set_value, remove_entry}
use Rattle.std.specs.Ordering.{nat_cmp, is_eq, eq_by_cmp, match_ordering}
use Rattle.std.specs.declared.cmp.Ordering.{Ordering}
use Rattle.std.specs.declared.cmp.Ordering.TheVariants.{Less, Equal, Greater}
use Rattle.std.specs.Cmp.{eq_by_cmp_equiv}
use Rattle.std.specs.Cmp.Lexicographic.{slice_cmp, nat_list_cmp_total}
use Rattle.std.proofs.lemmas.Slice.Eq.{bytes_eq-Decides}
use Rattle.std.proofs.lemmas.Map.Text.{is_eq-slice_cmp}
use Rattle.std.proofs.lemmas.Map.{NonePasses, lookup-set_value, none_passes_from_lookup}
use Rattle.std.proofs.lemmas.Map.Entries.{lookup-filter-keys}
use Rattle.std.proofs.lemmas.Bool.{cases_Bool}
use Rattle.mem_disk.specs.Holding.{is_named, under, adding, without, amend, amending}

pub named_same : (n : List ℕ) → is_named n n ≡ true
named_same n = is_eq-slice_cmp n n ∙ (bytes_eq-Decides n n).1 refl

pub named_is : (n m : List ℕ) → is_named n m ≡ true → n ≡ m
named_is n m is = (bytes_eq-Decides n m).0 (sym (is_eq-slice_cmp n m) ∙ is)

pub named_other : (n m : List ℕ) → m ≢ n → is_named n m ≡ false
named_other n m other = elim (cases_Bool (is_named n m)) [
  | inl holds ↦ absurd (other (sym (named_is n m holds)))
  | inr fails ↦ fails
]

pub named_turned : (n m : List ℕ) → is_named n m ≡ is_named m n
named_turned n m = (eq_by_cmp_equiv nat_list_cmp_total).symm n m

is_equal : (o : Ordering) → is_eq o ≡ true → o ≡ Equal
is_equal Less h = cc h
is_equal Equal h = refl
is_equal Greater h = cc h

equal_self : (n : List ℕ) → slice_cmp nat_cmp n n ≡ Equal
equal_self n = is_equal (slice_cmp nat_cmp n n) (named_same n)

module _ {X : Type 0} where
  match_named : (o : Ordering) (k : List ℕ) (v : X) (e : List ℕ × X) (es : List (List ℕ × X)) (q : List ℕ)
      → (o ≡ Equal → k ≡ e.0) → (o ≡ Greater → k ≢ e.0) → lookup (is_named q) (adding k v es) ≡ cond (is_named q k) (Some v) (lookup (is_named q) es)
      → lookup (is_named q) (match_ordering o ((k, v) ∷ e ∷ es) ((e.0, v) ∷ es) (e ∷ adding k v es)) ≡ cond (is_named q k) (Some v) (lookup (is_named q) (e ∷ es))
  match_named Less k v e es q same other rest = refl
  match_named Equal k v e es q same other rest = elim (cases_Bool (is_named q e.0)) [
    | inl holds ↦ let also : is_named q k ≡ true = ap (is_named q) (same refl) ∙ holds in rw (also, holds) refl
    | inr fails ↦ let also : is_named q k ≡ false = ap (is_named q) (same refl) ∙ fails in rw (also, fails) refl
  ]
  match_named Greater k v e es q same other rest = elim (cases_Bool (is_named q e.0)) [
    | inl holds ↦ let also : is_named q k ≡ false = named_other q k (λ is. other refl (is ∙ named_is q e.0 holds)) in rw (also, holds) refl
    | inr fails ↦ rw (fails, rest) refl
  ]

  pub under-adding : (q k : List ℕ) (v : X) (es : List (List ℕ × X)) → under q (adding k v es) ≡ cond (is_named q k) (Some v) (under q es)
  under-adding q k v [] = refl
  under-adding q k v (e ∷ es) = match_named (slice_cmp nat_cmp k e.0) k v e es q
      (λ is. named_is k e.0 (ap is_eq is))
      (λ is same. apart is (ap (λ (n : List ℕ). is_named n e.0) same ∙ named_same e.0))
      (under-adding q k v es)
    where
      apart : slice_cmp nat_cmp k e.0 ≡ Greater → is_named k e.0 ≡ true → ⊥
      apart is holds = cc (ap is_eq is, holds)

  pub under-without : (q k : List ℕ) (es : List (List ℕ × X)) → under q (without k es) ≡ cond (not (is_named k q)) (under q es) None
  under-without q k es = lookup-filter-keys (is_named q) (λ n. not (is_named k n)) (not (is_named k q))
      (λ n is. ap (λ (m : List ℕ). not (is_named k m)) (sym (named_is q n is))) es

  pub under-set : (q k : List ℕ) (v w : X) (es : List (List ℕ × X)) → under k es ≡ Some v → under q (set_value (is_named k) es w) ≡ cond (is_named k q) (Some w) (under q es)
  under-set q k v w es is = lookup-set_value {eq = eq_by_cmp (slice_cmp nat_cmp)} (eq_by_cmp_equiv nat_list_cmp_total) (is_named k) (λ x y same. (eq_by_cmp_equiv nat_list_cmp_total).congr k x y same) q w es
      (subst IsSome (sym is) refl)

  -- here, and under the other names
  pub in_adding : (k : List ℕ) (v : X) (es : List (List ℕ × X)) → under k (adding k v es) ≡ Some v
  in_adding k v es = let same = named_same k in under-adding k k v es ∙ rw same refl

  pub past_adding : (q k : List ℕ) (v : X) (es : List (List ℕ × X)) → q ≢ k → under q (adding k v es) ≡ under q es
  past_adding q k v es other = let apart = named_other q k (λ is. other (sym is)) in under-adding q k v es ∙ rw apart refl

  pub in_without : (k : List ℕ) (es : List (List ℕ × X)) → under k (without k es) ≡ None
  in_without k es = let same = named_same k in under-without k k es ∙ rw same refl

  pub past_without : (q k : List ℕ) (es : List (List ℕ × X)) → q ≢ k → under q (without k es) ≡ under q es
  past_without q k es other = let apart = named_other k q other in under-without q k es ∙ rw apart refl

  pub in_amending : (k : List ℕ) (how : X → X) (es : List (List ℕ × X)) → under k (amending k how es) ≡ option_map how (under k es)
  in_amending k how es = by_cases (under k es) refl
    where
      by_cases : (o : Option X) → under k es ≡ o → under k (amend o k how es) ≡ option_map how o
      by_cases None is = is
      by_cases (Some v) is = let same = named_same k in under-set k k v (how v) es is ∙ rw same refl

  pub past_amending : (q k : List ℕ) (how : X → X) (es : List (List ℕ × X)) → q ≢ k → under q (amending k how es) ≡ under q es
  past_amending q k how es other = by_cases (under k es) refl
    where
      by_cases : (o : Option X) → under k es ≡ o → under q (amend o k how es) ≡ under q es
      by_cases None is = refl
      by_cases (Some v) is = let apart = named_other k q other in under-set q k v (how v) es is ∙ rw apart refl

  -- what `remove` leaves is all but the name
  filter_removed : (k : List ℕ) (es : List (List ℕ × X)) → without k es ≡ without k (remove_entry (is_named k) es)
  filter_removed k [] = refl
  filter_removed k (e ∷ es) = elim (cases_Bool (is_named k e.0)) [
    | inl holds ↦ rw holds refl
    | inr fails ↦ rw fails (rw fails (ap (λ (l : List (List ℕ × X)). e ∷ l) (filter_removed k es)))
  ]

  filter_none : (k : List ℕ) (es : List (List ℕ × X)) → NonePasses (is_named k) es → without k es ≡ es
  filter_none k [] none = refl
  filter_none k (e ∷ es) none = let fails = none.0 in rw fails (ap (λ (l : List (List ℕ × X)). e ∷ l) (filter_none k es none.1))

  pub removed_all : (k : List ℕ) (es new : List (List ℕ × X)) → new ≡ remove_entry (is_named k) es → under k new ≡ None → new ≡ without k es
  removed_all k es new is none = sym (filter_none k new (none_passes_from_lookup (is_named k) new none)) ∙ ap (without k) is ∙ sym (filter_removed k es)

  -- a name added, another taken out, and then the first filled
  refilled : (o : Ordering) (from to : List ℕ) (v w : X) (e : List ℕ × X) (es : List (List ℕ × X)) → slice_cmp nat_cmp to e.0 ≡ o → is_named from to ≡ false
      → adding to v (without from (adding to w es)) ≡ without from (adding to v es)
      → adding to v (without from (match_ordering o ((to, w) ∷ e ∷ es) ((e.0, w) ∷ es) (e ∷ adding to w es)))
      ≡ without from (match_ordering o ((to, v) ∷ e ∷ es) ((e.0, v) ∷ es) (e ∷ adding to v es))
  refilled Less from to v w e es is other rest = let same = equal_self to in rw other (rw same refl)
  refilled Equal from to v w e es is other rest =
      let also : is_named from e.0 ≡ false = ap (is_named from) (sym (named_is to e.0 (ap is_eq is))) ∙ other in rw also (rw is refl)
  refilled Greater from to v w e es is other rest = elim (cases_Bool (is_named from e.0)) [
    | inl holds ↦ rw holds rest
    | inr fails ↦ rw fails (rw is (ap (λ (l : List (List ℕ × X)). e ∷ l) rest))
  ]

  pub renamed_entries : (from to : List ℕ) (v w : X) (es : List (List ℕ × X)) → is_named from to ≡ false → adding to v (without from (adding to w es)) ≡ without from (adding to v es)
  renamed_entries from to v w [] other = let same = equal_self to in rw other (rw same refl)
  renamed_entries from to v w (e ∷ es) other = refilled (slice_cmp nat_cmp to e.0) from to v w e es refl other (renamed_entries from to v w es other)
