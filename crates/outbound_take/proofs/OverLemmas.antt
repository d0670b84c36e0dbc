-- The takes of an address that stay, by their numbers.
use Rattle.std.proofs.Common.{◌≡◌, ◌≢◌, ◌⊎◌, inl, ⊎_elim, ℕ, ◌+◌, ◌<◌, ◌≤◌, List, [], ◌∷◌, ◌++◌, Option, None, sym, ◌∙◌, ap, subst, arith}
use Rattle.std.specs.Str.{bytes_eq}
use Rattle.ftn_addr.specs.Address.{Address}
use Rattle.bso_outbound.specs.declared.kind.Kind.{Kind}
use Rattle.node_model.specs.Lists.{Member, Each}
use Rattle.node_model.proofs.Lists.{Each-append, Each-weaker, Each-without, Member-append, Member-append_right}
use Rattle.outbound_model.specs.Outbound.{Outbound}
use Rattle.outbound_model.specs.OwnNames.{number_of}
use Rattle.outbound_take.specs.Stand.{Left, TakeStand, told}
use Rattle.outbound_take.specs.Calls.{IfFor, IsFirst, IsTakeFor, names_without, owns}
use Rattle.outbound_take.specs.Ours.{AreOver, IsOverTake, OnlyFor}
use Rattle.outbound_take.specs.Plans.{IsOver, WaitsOver}
use Rattle.outbound_take.specs.Spares.{SparesOthers, TellsSo}
use Rattle.outbound_take.specs.declared.outgoing.TakeLeft.{TakeLeft}
use Rattle.outbound_take.proofs.SpareLemmas.{told_before}

pub each_both : {A : Type 0} (P Q R : A → Type 0) → ((x : A) → P x → Q x → R x) → (xs : List A) → Each P xs → Each Q xs → Each R xs
each_both P Q R f [] p q = tt
each_both P Q R f (x ∷ xs) p q = (f x p.0 q.0, each_both P Q R f xs p.1 q.1)

each_so : {A : Type 0} (P : A → Type 0) → ((x : A) → P x) → (xs : List A) → Each P xs
each_so P f [] = tt
each_so P f (x ∷ xs) = (f x, each_so P f xs)

pub each_none : {A : Type 0} (P : A → Type 0) (xs : List A) → xs ≡ [] → Each P xs
each_none P xs none = subst (Each P) (sym none) tt

-- of the takes for an address below that number each is one of these
abbrev pub ToldBelow : Address → ℕ → List ℕ → List (List ℕ) → Type 0
ToldBelow dest from over names = Each (IfFor dest (λ n. n < from → Member n over)) names

pub told_none : (dest : Address) (over : List ℕ) (names : List (List ℕ)) → ToldBelow dest 0 over names
told_none dest over names = each_so (IfFor dest (λ n. n < 0 → Member n over)) (λ own kind whom less. let no : ⊥ = omega (arith, less) in absurd no) names

pub told_removed : (dest : Address) (from : ℕ) (over : List ℕ) (own : List ℕ) (names new : List (List ℕ)) → new ≡ names_without own names → ToldBelow dest from over names → ToldBelow dest from over new
told_removed dest from over own names new is h =
    subst (ToldBelow dest from over) (sym is) (Each-without (IfFor dest (λ n. n < from → Member n over)) (λ (o : List ℕ). bytes_eq o own) names h)

-- the first of them is told too
pub told_more : (dest : Address) (from : ℕ) (over more : List ℕ) (t : TakeLeft) (left : List Left) (new : List (List ℕ))
    → IsFirst dest from t left → new ≡ owns left → more ≡ over ++ t.take ∷ [] → ToldBelow dest from over (owns left) → ToldBelow dest (t.take + 1) more new
told_more dest from over more t left new first same is h =
    subst (ToldBelow dest (t.take + 1) more) (sym same)
    (subst (λ (ns : List ℕ). ToldBelow dest (t.take + 1) ns (owns left)) (sym is)
    (each_both (IfFor dest (λ n. (n < from) ⊎ (t.take ≤ n))) (IfFor dest (λ n. n < from → Member n over)) (IfFor dest (λ n. n < t.take + 1 → Member n (over ++ t.take ∷ []))) one (owns left) first.first h))
  where
    one : (own : List ℕ) → IfFor dest (λ n. (n < from) ⊎ (t.take ≤ n)) own → IfFor dest (λ n. n < from → Member n over) own → IfFor dest (λ n. n < t.take + 1 → Member n (over ++ t.take ∷ [])) own
    one own apart below kind whom less = ⊎_elim
        (λ (small : number_of own < from). Member-append (number_of own) over (t.take ∷ []) (below kind whom small))
        (λ (great : t.take ≤ number_of own). let e : number_of own ≡ t.take = omega (arith, great, less) in Member-append_right (number_of own) over (t.take ∷ []) (inl e))
        (apart kind whom)

pub only_told : (dest : Address) (from : ℕ) (over : List ℕ) (left : List Left) → Each (IfFor dest (λ n. n < from)) (owns left) → ToldBelow dest from over (owns left) → OnlyFor dest over left
only_told dest from over left below h =
    each_both (IfFor dest (λ n. n < from)) (IfFor dest (λ n. n < from → Member n over)) (IfFor dest (λ n. Member n over)) (λ own less member kind whom. member kind whom (less kind whom)) (owns left) below h

pub first_great : (dest : Address) (from : ℕ) (t : TakeLeft) (left : List Left) → IsFirst dest from t left → from ≤ number_of t.own
first_great dest from t left first = omega (arith, first.numbered, first.above)

-- Those that are over stay so.

still_over : (own other : List ℕ) (s t : Outbound) → own ≢ other → SparesOthers other s t → IsOver own s → IsOver own t
still_over own other s t apart spares o = record { bytes = o.bytes; stands = spares own apart ∙ o.stands; over = o.over }

pub over_still : (dest : Address) (n : ℕ) (own : List ℕ) (s t : Outbound) → SparesOthers own s t → (o : IsOverTake dest s n) → o.own ≢ own → IsOverTake dest t n
over_still dest n own s t spares o apart = record { own = o.own; kind = o.kind; named = o.named; numbered = o.numbered; whole = o.whole; over = still_over o.own own s t apart spares o.over }

pub overs_below : (dest : Address) (from : ℕ) (over : List ℕ) (own : List ℕ) (old new : TakeStand) → (told old ≡ None → told new ≡ None) → TellsSo (SparesOthers own) old new → from ≤ number_of own
    → Each (λ n. n < from) over → AreOver dest over (told old) → AreOver dest over (told new)
overs_below dest from over own old new silent spares great below h t is =
    let before = told_before (told old) (told new) silent t is in
    let s = before.0 in
    let so : SparesOthers own s t = spares.so s t before.1 is in
    each_both (λ n. n < from) (IsOverTake dest s) (IsOverTake dest t)
    (λ n less o. over_still dest n own s t so o (λ same. let e : number_of own ≡ n = sym (ap number_of same) ∙ o.numbered in let no : ⊥ = omega (arith, less, great, e) in absurd no))
    over below (h s before.1)

-- one more
pub overs_more : (dest : Address) (over more : List ℕ) (own : List ℕ) (kind : Kind) (n : ℕ) (told : Option Outbound) → IsTakeFor dest kind own → number_of own ≡ n → WaitsOver kind own told → more ≡ over ++ n ∷ [] → AreOver dest over told → AreOver dest more told
overs_more dest over more own kind n told whom number waits is h t at =
    subst (Each (IsOverTake dest t)) (sym is)
    (Each-append (IsOverTake dest t) over (n ∷ []) (h t at) (record { own = own; kind = kind; named = whom; numbered = number; whole = waits.whole; over = waits.over t at }, tt))

pub below_more : (from n : ℕ) (over more : List ℕ) → from ≤ n → more ≡ over ++ n ∷ [] → Each (λ m. m < from) over → Each (λ m. m < n + 1) more
below_more from n over more great is below =
    subst (Each (λ m. m < n + 1)) (sym is)
    (Each-append (λ m. m < n + 1) over (n ∷ []) (Each-weaker (λ m. m < from) (λ m. m < n + 1) (λ m less. omega (arith, less, great)) over below) (omega arith, tt))
