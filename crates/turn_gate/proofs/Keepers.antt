-- The keeper that the first pass carries.
use Rattle.std.proofs.Common.{◌≡◌, ℕ, List, [], ◌∷◌, ◌++◌, length, map, slice_index_or, ap, sym, ◌∙◌, arith}
use Rattle.atomic_table.specs.Table.{Me}
use Rattle.turn_gate.specs.declared.view.Joined.{Joined}
use Rattle.turn_gate.specs.declared.view.View.{View}
use Rattle.turn_gate.specs.Views.{as_keeper, keeper_view, after_join, joined_of}

module _ {X : Type 0} where
  -- whatever stands in for a missing view
  pub same_keeper : (vs : List (View X)) (d e : View X) → vs ≡ as_keeper (slice_index_or vs 0 d) ∷ [] → vs ≡ as_keeper (slice_index_or vs 0 e) ∷ []
  same_keeper [] d e is = absurd (let l : 0 ≡ 1 = ap length is in omega (arith, l))
  same_keeper (v ∷ vs) d e is = is

  -- the view of the keeper's seat
  pub is_keeper : (vs : List (View X)) (v d : View X) → vs ≡ v ∷ [] → vs ≡ as_keeper (slice_index_or vs 0 d) ∷ [] → v ≡ as_keeper (slice_index_or vs 0 d)
  is_keeper vs v d one is = ap (λ (l : List (View X)). slice_index_or l 0 v) (sym one ∙ is)

  -- the keeper once it took in the first pass, and then the others
  pub gathered : {A S : Type 0} (J : A → Joined X) (vs : List (View X)) (v d w : View X) (carried : List (ℕ × S)) (one final : Me S (View X)) (rest whole : List A) → vs ≡ v ∷ [] → vs ≡ as_keeper (slice_index_or vs 0 d) ∷ []
      → one ≡ (after_join v w, carried) → final ≡ (keeper_view one.0.left one.0.next (one.0.joined ++ map J rest), []) → rest ≡ whole
      → final ≡ (keeper_view (slice_index_or vs 0 d).left (slice_index_or vs 0 d).next (joined_of w ∷ map J whole), [])
  gathered {A} {S} J vs v d w carried one final rest whole alone is first others same =
      others ∙ (ap (λ (m : Me S (View X)). (keeper_view m.0.left m.0.next (m.0.joined ++ map J rest), [])) first
      ∙ (ap (λ (z : View X). (keeper_view z.left z.next ((z.joined ++ joined_of w ∷ []) ++ map J rest), [])) (is_keeper vs v d alone is)
      ∙ ap (λ (l : List A). (keeper_view (slice_index_or vs 0 d).left (slice_index_or vs 0 d).next (joined_of w ∷ map J l), [])) same))
