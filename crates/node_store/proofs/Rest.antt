-- The names that are still to be looked at while strays are removed.
use Rattle.std.proofs.Common.{◌≡◌, ◌≢◌, inl, inr, ℕ, ◌+◌, ◌<◌, ◌≤◌, List, [], ◌∷◌, length, drop, get_or, Some, Bool, true, false, sym, ◌∙◌, ap, subst}
use Rattle.std.specs.List.{AllByRecursion}
use Rattle.std.proofs.lemmas.List.{at_drop_more, at_drop_all}
use Rattle.disk_model.specs.World.{World}
use Rattle.disk_model.specs.Changes.{Every, Follows, Stands}
use Rattle.ledger_rec.specs.Fold.{State}
use Rattle.ledger_rec.specs.Items.{PartMark}
use Rattle.node_model.specs.Lists.{Each, Member}
use Rattle.node_model.proofs.Lists.{none_some}
use Rattle.node_store.specs.Clearing.{Restores}
use Rattle.node_store.specs.Names.{in_name}
use Rattle.node_store.specs.Strays.{IsStray, HasNoStray}
use Rattle.node_store.specs.Tending.{HasRest, Tidies, HasCutParts}
use Rattle.node_store.specs.Worlds.{HasLength}
use Rattle.node_store.proofs.Removing.{not_marked}
use Rattle.node_store.proofs.Recovering.{restores-then}

pub reads-then : (a b c : World → Type 0) → Follows Restores a b → Follows Restores b c → Follows Restores a c
reads-then a b c first second w is =
    let q = second w is in
    let p = first q.0 q.1 in
    (p.0, p.1, restores-then p.0 q.0 w p.2 q.2)

module _ (s : State) (name : List ℕ) (d c : World) where
  still_stand : (rest : List (List ℕ)) → Each (λ (other : List ℕ). other ≢ name) rest → ((n : List ℕ) → n ≢ name → c.own n ≡ d.own n) → Each (λ (n : List ℕ). Stands n 0 d) rest → Each (λ (n : List ℕ). Stands n 0 c) rest
  still_stand [] apart same stand = tt
  still_stand (n ∷ rest) apart same stand = ((stand.0.0, same n apart.0 ∙ stand.0.1, stand.0.2), still_stand rest apart.1 same stand.1)

  later : (n : List ℕ) (rest : List (List ℕ)) → n ≢ name → Member n (name ∷ rest) → Member n rest
  later n rest other (inl same) = absurd (other same)
  later n rest other (inr there) = there

  rest_one : (rest : List (List ℕ)) (b : Bool) → HasRest s (name ∷ rest) d → Tidies s name b d c → HasRest s rest c
  rest_one rest true has step =
      let gone = λ (n bytes : List ℕ) (is : c.own n ≡ Some bytes) (same : n ≡ name). none_some {P = ⊥} (sym step.0.own.here ∙ sym (ap c.own same) ∙ is) in
      record {
        stand = still_stand rest has.apart.0 step.0.own.others has.stand.1;
        apart = has.apart.1;
        strays = λ n bytes is stray. later n rest (gone n bytes is) (has.strays n bytes (sym (step.0.own.others n (gone n bytes is)) ∙ is) stray);
      }
  rest_one rest false has step = record {
    stand = subst (λ (w : World). Each (λ (n : List ℕ). Stands n 0 w) rest) (sym step.0) has.stand.1;
    apart = has.apart.1;
    strays = λ n bytes is stray. later n rest (λ same. step.1 (subst (IsStray s) same stray)) (has.strays n bytes (ap (λ (w : World). w.own n) (sym step.0) ∙ is) stray);
  }

  cut_one : (b : Bool) → HasCutParts s d → Tidies s name b d c → HasCutParts s c
  cut_one true has step = go s.marks (not_marked s name step.1) has
    where
      go : (ms : List PartMark) → AllByRecursion (λ (m : PartMark). in_name m.number ≢ name) ms → AllByRecursion (λ (m : PartMark). HasLength (in_name m.number) m.len d) ms → AllByRecursion (λ (m : PartMark). HasLength (in_name m.number) m.len c) ms
      go [] other long = tt
      go (m ∷ ms) other long = ((long.0.0, step.0.own.others (in_name m.number) other.0 ∙ long.0.1, long.0.2), go ms other.1 long.1)
  cut_one false has step = subst (HasCutParts s) (sym step.0) has

module _ (s : State) (names : List (List ℕ)) (i : ℕ) (name : List ℕ) (lt : i < length names) (is : name ≡ get_or names i name) where
  front : drop i names ≡ name ∷ drop (i + 1) names
  front = at_drop_more (λ (l : List (List ℕ)). l) names i name lt ∙ ap (λ (n : List ℕ). n ∷ drop (i + 1) names) (sym is)

  pub rest_here : (w : World) → HasRest s (drop i names) w → Stands name 0 w
  rest_here w has = (subst (λ (l : List (List ℕ)). HasRest s l w) front has).stand.0

  pub rest_more : (old new : World → Type 0) (b : Bool) → Every old (HasRest s (drop i names)) → Follows (Tidies s name b) old new → Every new (HasRest s (drop (i + 1) names))
  rest_more old new b rest step w read =
      let p = step w read in
      rest_one s name p.0 w (drop (i + 1) names) b (subst (λ (l : List (List ℕ)). HasRest s l p.0) front (rest p.0 p.1)) p.2

pub parts_more : (s : State) (name : List ℕ) (old new : World → Type 0) (b : Bool) → Every old (HasCutParts s) → Follows (Tidies s name b) old new → Every new (HasCutParts s)
parts_more s name old new b has step w read = let p = step w read in cut_one s name p.0 w b (has p.0 p.1) p.2

-- none is left
pub rest_none : (s : State) (names : List (List ℕ)) (i : ℕ) (w : World) → length names ≤ i → HasRest s (drop i names) w → HasNoStray s w
rest_none s names i w past has name bytes is stray = subst (Member name) (at_drop_all (λ (l : List (List ℕ)). l) names i past) (has.strays name bytes is stray)
