-- The names that a disk lists.
use Rattle.std.proofs.Common.{◌≡◌, ◌≢◌, inl, inr, ℕ, zero, suc, ◌<◌, List, [], ◌∷◌, length, get_or, true, false, true≢false, refl, sym, ◌∙◌, ap, arith}
use Rattle.std.specs.Prelude.{Contains}
use Rattle.std.specs.List.{AllByRecursion}
use Rattle.std.specs.List.Sorted.{IsStrictlySortedBy}
use Rattle.std.specs.Ordering.{nat_cmp, is_eq}
use Rattle.std.specs.declared.cmp.Ordering.TheVariants.{Less}
use Rattle.std.specs.Cmp.Lexicographic.{slice_cmp}
use Rattle.std.proofs.lemmas.Map.Text.{is_eq-slice_cmp}
use Rattle.std.proofs.lemmas.Slice.Eq.{bytes_eq-Decides}
use Rattle.disk_model.specs.World.{World}
use Rattle.disk_model.specs.Changes.{Stands}
use Rattle.disk_model.specs.Folders.{ListsFiles}
use Rattle.ledger_rec.specs.Fold.{State}
use Rattle.node_model.specs.Lists.{Each, Member}
use Rattle.node_store.specs.Names.{AreDistinct}
use Rattle.node_store.specs.Tending.{HasRest}
use Rattle.node_store.proofs.Cutting.{each_member}

pub contained : {A : Type 0} (xs : List A) (x : A) (k : ℕ) → k < length xs → get_or xs k x ≡ x → Member x xs
contained [] x k lt is = absurd (omega (arith, lt))
contained (y ∷ xs) x zero lt is = inl (sym is)
contained (y ∷ xs) x (suc k) lt is = inr (contained xs x k (omega (arith, lt)) is)

pub containing : {A : Type 0} (xs : List A) (x : A) → Member x xs → Contains xs x
containing [] x there = absurd there
containing (y ∷ xs) x (inl is) = (0, omega arith, sym is)
containing (y ∷ xs) x (inr there) = let h = containing xs x there in (suc h.0, omega (arith, h.1), h.2)

less_other : (x y : List ℕ) → slice_cmp nat_cmp x y ≡ Less → y ≢ x
less_other x y less same =
    let e : slice_cmp nat_cmp x x ≡ Less = ap (λ (z : List ℕ). slice_cmp nat_cmp x z) (sym same) ∙ less in
    let f : false ≡ true = sym (ap is_eq e) ∙ is_eq-slice_cmp x x ∙ (bytes_eq-Decides x x).1 refl in
    true≢false (sym f)

others : (x : List ℕ) (ys : List (List ℕ)) → AllByRecursion (λ y. slice_cmp nat_cmp x y ≡ Less) ys → Each (λ (y : List ℕ). y ≢ x) ys
others x [] all = tt
others x (y ∷ ys) all = (less_other x y all.0, others x ys all.1)

pub distinct : (names : List (List ℕ)) → IsStrictlySortedBy (slice_cmp nat_cmp) names → AreDistinct names
unfolding IsStrictlySortedBy
distinct [] sorted = tt
distinct (x ∷ xs) sorted = (others x xs sorted.0, distinct xs sorted.1)

pub rest_listed : (s : State) (names : List (List ℕ)) (w : World) → ListsFiles w.own names → HasRest s names w
rest_listed s names w lists = record {
  stand = each_member (λ (n : List ℕ). Stands n 0 w) names (λ n there. let h = lists.only n (containing names n there) in (h.0, h.1, omega arith));
  apart = distinct names lists.ascend;
  strays = λ n bytes is stray. let h = lists.all n bytes is in contained names n h.0 h.1 h.2;
}
