-- The first take that stands may be staged, recorded where it isn't, and removed where it is.
use Rattle.std.proofs.Common.{◌≡◌, ◌≢◌, ℕ, Bool, true, false, ◌||◌, List, [], ◌∷◌, Option, None, Some, refl, sym, subst, ◌∙◌, inl}
use Rattle.std.specs.Prelude.{IfSome, IsSome, ◌==◌, slice_get}
use Rattle.std.specs.List.{AllByRecursion}
use Rattle.std.proofs.lemmas.Bool.{false≢true}
use Rattle.std.proofs.lemmas.Bool.Decides.{Decides-eqb}
use Rattle.ledger_rec.specs.Fold.{is_among}
use Rattle.node_model.specs.Lists.{Each}
use Rattle.node_model.specs.StoreStates.{IfTold, Stored, StoreState}
use Rattle.node_model.specs.StoreWords.{IsNewBatch}
use Rattle.node_store.specs.Names.{AreDistinct}
use Rattle.node_store.specs.Takes.{AreTakesOf, IsLeft, Takes as Standing, AreStanding, own_names}
use Rattle.node_store.specs.Taking.{IsRecordedTake, IsStandingTake}
use Rattle.node_store.specs.declared.takes.TakeName.{TakeName}
use Rattle.mem_node.specs.Left.{IsOneLeft}

told_too : (P Q : Stored → Type 0) (c : Option Stored) → ((a : Stored) → P a → Q a) → IfTold c P → IfTold c Q
told_too P Q None f told = tt
told_too P Q (Some a) f told = f a told

abbrev Stands : List TakeName → Stored → Type 0
Stands left a = AreDistinct (own_names left) × AreStanding (own_names left) a.takes

one_of : (last : ℕ) (s : StoreState) (x : TakeName) (rest : List TakeName) → AllByRecursion (IsLeft last s.recorded) (x ∷ rest) → IfTold s.content (Stands (x ∷ rest)) → IsOneLeft x s
one_of last s x rest left standing = record {
  named = left.0.named;
  noted = left.0.noted;
  stands = told_too (Stands (x ∷ rest)) (λ a. IsSome (a.takes x.own)) s.content (λ a stand. (stand.1 x.own).0 (inl refl)) standing;
}

first_of : (last : ℕ) (s : StoreState) (xs : List TakeName) → AllByRecursion (IsLeft last s.recorded) xs → IfTold s.content (Stands xs) → IfSome (slice_get xs 0) (λ (x : TakeName). IsOneLeft x s)
first_of last s [] left standing = tt
first_of last s (x ∷ rest) left standing = one_of last s x rest left standing

-- the first of those that stand
pub first_is : (t : Standing) (s : StoreState) (found : Option TakeName) → AreTakesOf t s → found ≡ slice_get t.left 0 → IfSome found (λ (x : TakeName). IsOneLeft x s)
first_is t s found of is = subst (λ (o : Option TakeName). IfSome o (λ (x : TakeName). IsOneLeft x s)) (sym is) (first_of t.last s t.left of.left of.standing)

pub one_stands : (x : TakeName) (s : StoreState) → IsOneLeft x s → IsStandingTake x.own s
one_stands x s left = record { take = x.take; named = left.named; stands = left.stands }

pub one_recorded : (x : TakeName) (s : StoreState) → IsOneLeft x s → x.recorded ≡ true → IsRecordedTake x.own s
one_recorded x s left is = record { take = x.take; named = left.named; recorded = sym left.noted ∙ is; stands = left.stands }

or_false : (a b : Bool) → (a || b) ≡ false → (a ≡ false) × (b ≡ false)
or_false false b neither = (refl, neither)
or_false true b neither = absurd (false≢true (sym neither))

unlisted : (k : ℕ) (ns : List ℕ) → is_among k ns ≡ false → Each (λ n. n ≢ k) ns
unlisted k [] none = tt
unlisted k (n ∷ ns) none =
    let neither = or_false (n == k) (is_among k ns) none in
    (λ same. false≢true (sym neither.0 ∙ (Decides-eqb n k).1 same), unlisted k ns neither.1)

-- where its number isn't recorded, it may be recorded without a file
pub one_batch : (x : TakeName) (s : StoreState) → IsOneLeft x s → x.recorded ≡ false → x.take ≢ 0 → IsNewBatch (Some x.take) None [] s
one_batch x s left unrecorded some = record {
  limits = tt;
  staged = tt;
  rise = tt;
  above = tt;
  take = (some, unlisted x.take s.recorded (sym left.noted ∙ unrecorded));
  request = tt;
}
