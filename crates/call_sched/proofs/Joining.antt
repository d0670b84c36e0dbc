-- What comes of one item more.
use Rattle.std.proofs.Common.{◌≡◌, ℕ, zero, suc, ◌+◌, ◌<◌, ◌≤◌, ◌⊎◌, true, false, List, [], ◌∷◌, take, length, refl, sym, ap, subst, ◌∙◌, inl, inr, arith}
use Rattle.std.specs.Prelude.{Some, slice_get, min}
use Rattle.std.specs.Ordering.{is_gt, is_lt, nat_cmp}
use Rattle.std.proofs.lemmas.Bool.{cases_lt}
use Rattle.std.proofs.lemmas.Cmp.{tied_itself, upto}
use Rattle.call_sched.specs.NextCall.{Counts, IsFirst, IsNext, IsWait, MayCall, call_order, item_order, last_call}
use Rattle.call_sched.specs.Tries.{free_from}
use Rattle.call_sched.specs.declared.words.Next.{Next}
use Rattle.call_sched.specs.declared.words.Next.TheVariants.{Call, WaitUntil, Nothing}
use Rattle.call_sched.specs.declared.words.Try.{Try}
use Rattle.call_sched.specs.declared.words.Wanted.{Wanted}
use Rattle.call_sched.proofs.LastTry.{some_is}
use Rattle.call_sched.proofs.Orders.{before_then, call_total, item_total, not_before, number_not_behind, then_not_behind}

-- a list, and one with an item more at its end
pub record Joins (old new : List Wanted) (place : ℕ) (item : Wanted) : Type 0 where
  pub within : (k : ℕ) (o : Wanted) → slice_get old k ≡ Some o → k < place
  pub more : (k : ℕ) (o : Wanted) → slice_get old k ≡ Some o → slice_get new k ≡ Some o
  pub last : slice_get new place ≡ Some item
  pub cases : (k : ℕ) (o : Wanted) → slice_get new k ≡ Some o → (slice_get old k ≡ Some o) ⊎ ((k ≡ place) × (o ≡ item))

-- the same with one item more in front
joined_more : (first : Wanted) (rest : List Wanted) (place : ℕ) (item : Wanted) → Joins (take place rest) (take (suc place) rest) place item → Joins (first ∷ take place rest) (first ∷ take (suc place) rest) (suc place) item
joined_more first rest place item joined = record { within = inside; more = both; last = joined.last; cases = go }
  where
    inside : (k : ℕ) (o : Wanted) → slice_get (first ∷ take place rest) k ≡ Some o → k < suc place
    inside zero o is = omega arith
    inside (suc k) o is = let b = joined.within k o is in omega arith

    both : (k : ℕ) (o : Wanted) → slice_get (first ∷ take place rest) k ≡ Some o → slice_get (first ∷ take (suc place) rest) k ≡ Some o
    both zero o is = is
    both (suc k) o is = joined.more k o is

    go : (k : ℕ) (o : Wanted) → slice_get (first ∷ take (suc place) rest) k ≡ Some o → (slice_get (first ∷ take place rest) k ≡ Some o) ⊎ ((k ≡ suc place) × (o ≡ item))
    go zero o is = inl is
    go (suc k) o is = elim (joined.cases k o is) as (λ _. (slice_get (take place rest) k ≡ Some o) ⊎ ((suc k ≡ suc place) × (o ≡ item))) [
      | inl before ↦ inl before
      | inr here ↦ inr (ap suc here.0, here.1)
    ]

pub joins : (all : List Wanted) (place : ℕ) (item : Wanted) → slice_get all place ≡ Some item → Joins (take place all) (take (suc place) all) place item
joins [] place item there = absurd (cc)
joins (first ∷ rest) zero item there = record { within = λ k o is. absurd (cc); more = λ k o is. absurd (cc); last = there; cases = go }
  where
    go : (k : ℕ) (o : Wanted) → slice_get (first ∷ []) k ≡ Some o → (slice_get [] k ≡ Some o) ⊎ ((k ≡ 0) × (o ≡ item))
    go zero o is = inr (refl, sym (some_is is) ∙ some_is there)
    go (suc k) o is = absurd (cc)
joins (first ∷ rest) (suc place) item there = joined_more first rest place item (joins rest place item there)

-- what holds of no item before and not of the one more holds of none
none_of : (P : Wanted → Type 0) {old new : List Wanted} {place : ℕ} {item : Wanted} → Joins old new place item → ((k : ℕ) (o : Wanted) → slice_get old k ≡ Some o → P o → ⊥) → (P item → ⊥) → (k : ℕ) (o : Wanted) → slice_get new k ≡ Some o → P o → ⊥
none_of P j before not k o is p = elim (j.cases k o is) as (λ _. ⊥) [
  | inl there ↦ before k o there p
  | inr here ↦ not (subst P here.1 p)
]

not_behind_itself : (tries : List Try) (place k : ℕ) (item o : Wanted) → k ≡ place → o ≡ item → is_gt (call_order tries (place, item) (k, o)) ≡ false
not_behind_itself tries place k item o at is =
    subst (λ (x : ℕ). is_gt (call_order tries (place, item) (x, o)) ≡ false) (sym at)
    (subst (λ (x : Wanted). is_gt (call_order tries (place, item) (place, x)) ≡ false) (sym is) (ap is_gt (tied_itself (call_total tries) (place, item))))

-- the first stays so beside an item that isn't before it
stays_first : (now : ℕ) (tries : List Try) {old new : List Wanted} {place : ℕ} {item : Wanted} → Joins old new place item → (at : ℕ) (f : IsFirst now old tries at) → (MayCall now tries item → is_gt (call_order tries (at, f.item) (place, item)) ≡ false) → IsFirst now new tries at
stays_first now tries {old} {new} {place} {item} j at f behind = record { item = f.item; there = j.more at f.item f.there; may = f.may; first = go }
  where
    go : (k : ℕ) (o : Wanted) → slice_get new k ≡ Some o → MayCall now tries o → is_gt (call_order tries (at, f.item) (k, o)) ≡ false
    go k o is may = elim (j.cases k o is) as (λ _. is_gt (call_order tries (at, f.item) (k, o)) ≡ false) [
      | inl there ↦ f.first k o there may
      | inr here ↦ subst (λ (x : ℕ). is_gt (call_order tries (at, f.item) (x, o)) ≡ false) (sym here.0)
          (subst (λ (x : Wanted). is_gt (call_order tries (at, f.item) (place, x)) ≡ false) (sym here.1) (behind (subst (MayCall now tries) here.1 may)))
    ]

-- an item that may be called for is the first where none before it may
pub is_only : (now : ℕ) (tries : List Try) {old new : List Wanted} {place : ℕ} {item : Wanted} → Joins old new place item → MayCall now tries item → ((k : ℕ) (o : Wanted) → slice_get old k ≡ Some o → MayCall now tries o → ⊥) → IsFirst now new tries place
is_only now tries {old} {new} {place} {item} j may none = record { item = item; there = j.last; may = may; first = go }
  where
    go : (k : ℕ) (o : Wanted) → slice_get new k ≡ Some o → MayCall now tries o → is_gt (call_order tries (place, item) (k, o)) ≡ false
    go k o is m = elim (j.cases k o is) as (λ _. is_gt (call_order tries (place, item) (k, o)) ≡ false) [
      | inl there ↦ absurd (none k o there m)
      | inr here ↦ not_behind_itself tries place k item o here.0 here.1
    ]

-- an item that may be called for is the first where it comes before the first until then
pub goes_first : (now : ℕ) (tries : List Try) {old new : List Wanted} {place : ℕ} {item : Wanted} → Joins old new place item → MayCall now tries item → (at : ℕ) (f : IsFirst now old tries at) → is_lt (item_order tries item f.item) ≡ true → IsFirst now new tries place
goes_first now tries {old} {new} {place} {item} j may at f before = record { item = item; there = j.last; may = may; first = go }
  where
    go : (k : ℕ) (o : Wanted) → slice_get new k ≡ Some o → MayCall now tries o → is_gt (call_order tries (place, item) (k, o)) ≡ false
    go k o is m = elim (j.cases k o is) as (λ _. is_gt (call_order tries (place, item) (k, o)) ≡ false) [
      | inl there ↦ upto (call_total tries) (place, item) (at, f.item) (k, o) (before_then (item_order tries item f.item) (nat_cmp place at) before) (f.first k o there m)
      | inr here ↦ not_behind_itself tries place k item o here.0 here.1
    ]

-- the first until then stays so where the item doesn't come before it
pub stays_before : (now : ℕ) (tries : List Try) {old new : List Wanted} {place : ℕ} {item : Wanted} → Joins old new place item → (at : ℕ) (f : IsFirst now old tries at) → is_lt (item_order tries item f.item) ≡ false → IsFirst now new tries at
stays_before now tries {old} {new} {place} {item} j at f not =
    let lower = j.within at f.item f.there in
    stays_first now tries j at f (λ _. then_not_behind (item_order tries f.item item) (nat_cmp at place) (not_before (item_total tries) item f.item not) (number_not_behind at place (omega arith)))

-- an item that doesn't count changes nothing
pub uncounted : (now : ℕ) (tries : List Try) {old new : List Wanted} {place : ℕ} {item : Wanted} → Joins old new place item → (Counts item → ⊥) → (next : Next) → IsNext now old tries next → IsNext now new tries next
uncounted now tries j not (Call at) f = stays_first now tries j at f (λ may. absurd (not (may.0, may.1)))
uncounted now tries {old} {new} {place} {item} j not (WaitUntil moment) w = record {
  place = w.place;
  item = w.item;
  there = j.more w.place w.item w.there;
  counts = w.counts;
  until = w.until;
  none = none_of (MayCall now tries) j w.none (λ may. not (may.0, may.1));
  least = least;
}
  where
    least : (k : ℕ) (o : Wanted) → slice_get new k ≡ Some o → Counts o → moment ≤ free_from (last_call tries o)
    least k o is counts = elim (j.cases k o is) as (λ _. moment ≤ free_from (last_call tries o)) [
      | inl there ↦ w.least k o there counts
      | inr here ↦ absurd (not (subst Counts here.1 counts))
    ]
uncounted now tries j not Nothing none = none_of Counts j none not

-- an item that may be called for later leaves the first as it is
pub waits_behind : (now : ℕ) (tries : List Try) {old new : List Wanted} {place : ℕ} {item : Wanted} → Joins old new place item → now < free_from (last_call tries item) → (at : ℕ) → IsFirst now old tries at → IsFirst now new tries at
waits_behind now tries {old} {new} {place} {item} j later at f = stays_first now tries j at f (λ may. let up = may.2 in absurd (omega arith))

not_yet : (now : ℕ) (tries : List Try) (item : Wanted) → now < free_from (last_call tries item) → MayCall now tries item → ⊥
not_yet now tries item later may = let up = may.2 in omega arith

-- where nothing counted before, it alone is waited for
pub waits_alone : (now : ℕ) (tries : List Try) {old new : List Wanted} {place : ℕ} {item : Wanted} → Joins old new place item → Counts item → now < free_from (last_call tries item) → ((k : ℕ) (o : Wanted) → slice_get old k ≡ Some o → Counts o → ⊥) → IsWait now new tries (free_from (last_call tries item))
waits_alone now tries {old} {new} {place} {item} j counts later none = record {
  place = place;
  item = item;
  there = j.last;
  counts = counts;
  until = refl;
  none = none_of (MayCall now tries) j (λ k o is may. none k o is (may.0, may.1)) (not_yet now tries item later);
  least = least;
}
  where
    least : (k : ℕ) (o : Wanted) → slice_get new k ≡ Some o → Counts o → free_from (last_call tries item) ≤ free_from (last_call tries o)
    least k o is c = elim (j.cases k o is) as (λ _. free_from (last_call tries item) ≤ free_from (last_call tries o)) [
      | inl there ↦ absurd (none k o there c)
      | inr here ↦ let same = ap (λ (x : Wanted). free_from (last_call tries x)) here.1 in omega arith
    ]

-- where others are waited for, the earlier moment is
pub waits_beside : (now : ℕ) (tries : List Try) {old new : List Wanted} {place : ℕ} {item : Wanted} → Joins old new place item → Counts item → now < free_from (last_call tries item) → (moment : ℕ) → IsWait now old tries moment → IsWait now new tries (min moment (free_from (last_call tries item)))
waits_beside now tries {old} {new} {place} {item} j counts later moment w =
    elim (cases_lt (free_from (last_call tries item)) moment) as (λ _. IsWait now new tries (min moment (free_from (last_call tries item)))) [
      | inl earlier ↦ record { place = place; item = item; there = j.last; counts = counts; until = omega arith; none = none; least = least }
      | inr behind ↦ record { place = w.place; item = w.item; there = j.more w.place w.item w.there; counts = w.counts; until = (let u = w.until in omega arith); none = none; least = least }
    ]
  where
    none : (k : ℕ) (o : Wanted) → slice_get new k ≡ Some o → MayCall now tries o → ⊥
    none = none_of (MayCall now tries) j w.none (not_yet now tries item later)

    least : (k : ℕ) (o : Wanted) → slice_get new k ≡ Some o → Counts o → min moment (free_from (last_call tries item)) ≤ free_from (last_call tries o)
    least k o is c = elim (j.cases k o is) as (λ _. min moment (free_from (last_call tries item)) ≤ free_from (last_call tries o)) [
      | inl there ↦ let up = w.least k o there c in omega arith
      | inr here ↦ let same = ap (λ (x : Wanted). free_from (last_call tries x)) here.1 in omega arith
    ]

pub item_at : (all : List Wanted) (place : ℕ) → place < length all → (item : Wanted) × (slice_get all place ≡ Some item)
item_at [] place within = absurd (omega arith)
item_at (first ∷ rest) zero within = (first, refl)
item_at (first ∷ rest) (suc place) within = item_at rest place (omega arith)

pub counted : (now place : ℕ) (all : List Wanted) (tries : List Try) (next : Next) → IsNext now (take (suc place) all) tries next → IsNext now (take (place + 1) all) tries next
counted now place all tries next is = let same : suc place ≡ place + 1 = omega arith in subst (λ (n : ℕ). IsNext now (take n all) tries next) same is

-- what stands in the front of a list stands in the list
pub in_all : (n k : ℕ) (all : List Wanted) (item : Wanted) → slice_get (take n all) k ≡ Some item → slice_get all k ≡ Some item
in_all zero k all item is = absurd (cc)
in_all (suc n) k [] item is = is
in_all (suc n) zero (first ∷ rest) item is = is
in_all (suc n) (suc k) (first ∷ rest) item is = in_all n k rest item is
