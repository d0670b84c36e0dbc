-- A look-up among the nodes in order finds what it finds in the list.
use Rattle.std.proofs.Common.{◌≡◌, ℕ, Bool, true, false, cond, eqb, ltb, List, [], ◌∷◌, Option, Some, None, fold, refl, sym, ap, ◌∙◌, inl, inr}
use Rattle.std.specs.Prelude.{find}
use Rattle.std.proofs.lemmas.Bool.{cases_Bool, eqb-true, or_parts, true≢false}
use Rattle.nodelist_comp.specs.Index.{in_order, insert_node, with_node}
use Rattle.nodelist_comp.specs.Node.{ListedNode, has_place, place_of}

abbrev is_at : ℕ → ListedNode → Bool
is_at at n = eqb (place_of n) at

abbrev found : ℕ → List ListedNode → Option ListedNode
found at nodes = find (is_at at) nodes

abbrev or_later : Option ListedNode → Option ListedNode → Option ListedNode
or_later None later = later
or_later (Some n) later = Some n

or_none : (o : Option ListedNode) → o ≡ or_later o None
or_none None = refl
or_none (Some n) = refl

or_or : (a b c : Option ListedNode) → or_later (or_later a b) c ≡ or_later a (or_later b c)
or_or None b c = refl
or_or (Some n) b c = refl

-- the node itself, where it has the address
abbrev itself : ℕ → ListedNode → Option ListedNode
itself at n = cond (is_at at n) (Some n) None

head_or : (at : ℕ) (n : ListedNode) (nodes : List ListedNode) → found at (n ∷ nodes) ≡ or_later (itself at n) (found at nodes)
head_or at n nodes =
    elim (cases_Bool (is_at at n)) as (λ _. found at (n ∷ nodes) ≡ or_later (itself at n) (found at nodes)) [
      | inl here ↦ rw here refl
      | inr other ↦ rw other refl
    ]

none_found : (at : ℕ) (nodes : List ListedNode) → has_place nodes at ≡ false → found at nodes ≡ None
none_found at [] absent = refl
none_found at (n ∷ nodes) absent =
    let parts = or_parts (is_at at n) (has_place nodes at) absent in
    rw parts.0 (none_found at nodes parts.1)

some_found : (at : ℕ) (nodes : List ListedNode) (later : Option ListedNode) → has_place nodes at ≡ true → found at nodes ≡ or_later (found at nodes) later
some_found at [] later present = absurd (true≢false (sym present))
some_found at (n ∷ nodes) later present =
    elim (cases_Bool (is_at at n)) as (λ _. found at (n ∷ nodes) ≡ or_later (found at (n ∷ nodes)) later) [
      | inl here ↦ rw here refl
      | inr other ↦ rw other (some_found at nodes later (rw other at present))
    ]

found-insert : (at : ℕ) (n : ListedNode) (nodes : List ListedNode) → has_place nodes (place_of n) ≡ false → found at (insert_node n nodes) ≡ or_later (found at nodes) (itself at n)
found-insert at n [] absent = head_or at n [] ∙ sym (or_none (itself at n))
found-insert at n (m ∷ nodes) absent =
    let apart = or_parts (eqb (place_of m) (place_of n)) (has_place nodes (place_of n)) absent in
    elim (cases_Bool (ltb (place_of n) (place_of m))) as (λ _. found at (insert_node n (m ∷ nodes)) ≡ or_later (found at (m ∷ nodes)) (itself at n)) [
      | inl before ↦ rw before (head_or at n (m ∷ nodes) ∙ first_or_last)
      | inr behind ↦ rw behind (head_or at m (insert_node n nodes) ∙ ap (λ (o : Option ListedNode). or_later (itself at m) o) (found-insert at n nodes apart.1) ∙ sym (or_or (itself at m) (found at nodes) (itself at n)) ∙ ap (λ (o : Option ListedNode). or_later o (itself at n)) (sym (head_or at m nodes)))
    ]
  where
    first_or_last : or_later (itself at n) (found at (m ∷ nodes)) ≡ or_later (found at (m ∷ nodes)) (itself at n)
    first_or_last =
        elim (cases_Bool (is_at at n)) as (λ _. or_later (itself at n) (found at (m ∷ nodes)) ≡ or_later (found at (m ∷ nodes)) (itself at n)) [
          | inl here ↦ (let none : found at (m ∷ nodes) ≡ None = none_found at (m ∷ nodes) (ap (has_place (m ∷ nodes)) (sym (eqb-true (place_of n) at here)) ∙ absent) in rw (here, none) refl)
          | inr other ↦ rw other (or_none (found at (m ∷ nodes)))
        ]

found-with : (at : ℕ) (n : ListedNode) (nodes : List ListedNode) → found at (with_node nodes n) ≡ or_later (found at nodes) (itself at n)
found-with at n nodes =
    elim (cases_Bool (has_place nodes (place_of n))) as (λ _. found at (with_node nodes n) ≡ or_later (found at nodes) (itself at n)) [
      | inl present ↦ rw present (elim (cases_Bool (is_at at n)) as (λ _. found at nodes ≡ or_later (found at nodes) (itself at n)) [
        | inl here ↦ some_found at nodes (itself at n) (ap (has_place nodes) (sym (eqb-true (place_of n) at here)) ∙ present)
        | inr other ↦ rw other (or_none (found at nodes))
      ])
      | inr absent ↦ rw absent (found-insert at n nodes absent)
    ]

found-fold : (at : ℕ) (sorted nodes : List ListedNode) → found at (fold with_node sorted nodes) ≡ or_later (found at sorted) (found at nodes)
found-fold at sorted [] = or_none (found at sorted)
found-fold at sorted (n ∷ nodes) =
    found-fold at (with_node sorted n) nodes ∙ ap (λ (o : Option ListedNode). or_later o (found at nodes)) (found-with at n sorted) ∙ or_or (found at sorted) (itself at n) (found at nodes) ∙ ap (λ (o : Option ListedNode). or_later (found at sorted) o) (sym (head_or at n nodes))

pub found-in_order : (nodes : List ListedNode) (at : ℕ) → found at (in_order nodes) ≡ found at nodes
found-in_order nodes at = found-fold at [] nodes
