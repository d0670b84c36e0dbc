-- A copy that grows piece by piece.
use Rattle.std.proofs.Common.{◌≡◌, ◌≢◌, ℕ, ◌+◌, ◌-◌, ◌<◌, ◌≤◌, min, List, [], ◌∷◌, ◌++◌, length, take, drop, Some, refl, sym, ◌∙◌, ap, subst, arith, append-nil, length-drop}
use Rattle.std.proofs.lemmas.List.{drop_all, length-take, length-take-le, take_all, take_min}
use Rattle.std.proofs.Math.Seq.{take-add}
use Rattle.disk_model.specs.World.{World}
use Rattle.disk_model.specs.Changes.{Follows, Holds, OnOwn, Only, Rewrites, Same, Stands}
use Rattle.disk_model.specs.Moments.{Leaves, Steps}
use Rattle.disk_model.proofs.MomentLemmas.{goes_on, runs_on, started, weakened}
use Rattle.node_model.proofs.Lists.{some_inj}
use Rattle.node_store.specs.Beginnings.{Readies}
use Rattle.node_store.specs.Copying.{HasFront, IsCopy}
use Rattle.node_store.specs.Worlds.{HasLength}

-- a front with the next piece behind it
held_more : (at n : ℕ) (b piece : List ℕ) → at + n ≤ length b → piece ≡ take n (drop at b) → take at (take at b) ++ piece ++ drop (at + length piece) (take at b) ≡ take (at + n) b
held_more at n b piece fits is =
    let low : at ≤ length b = omega (arith, fits) in
    let front : length (take at b) ≡ at = length-take-le at b low in
    let first : take at (take at b) ≡ take at b = take_all at (take at b) (omega (arith, front)) in
    let rest : drop (at + length piece) (take at b) ≡ [] = drop_all (at + length piece) (take at b) (omega (arith, front)) in
    (λ i. first i ++ is i ++ rest i) ∙ append-nil (take at b ++ take n (drop at b)) ∙ sym (take-add at n b)

-- as many bytes as there is room for, or as are left
pub same_front : (room n size at : ℕ) (b : List ℕ) → length b ≡ size → n ≡ min room (size - at) → take room (drop at b) ≡ take n (drop at b)
same_front room n size at b long is =
    let count : n ≡ min room (length (drop at b)) = omega (arith, is, long, length-drop at b) in
    sym (ap (λ (k : ℕ). take k (drop at b)) count ∙ take_min room (drop at b))

module _ (from to : List ℕ) (apart : from ≢ to) where
  -- the front stands, where there is more
  pub front_stands : (size at : ℕ) (w : World) → HasLength from size w → at < size → HasFront from to at w → Stands to at w
  front_stands size at w has inside front =
      let long : at ≤ length (take at has.0) = omega (arith, length-take at has.0, has.2, inside) in
      (take at has.0, front has.0 has.1, long)

  -- one piece more
  pub front_more : (size at n : ℕ) (piece : List ℕ) (d c : World) → HasLength from size d → at + n ≤ size → HasFront from to at d → ((b : List ℕ) → d.own from ≡ Some b → piece ≡ take n (drop at b)) → OnOwn (Rewrites to (Holds at piece)) d c → HasFront from to (at + n) c
  front_more size at n piece d c has fits front told step = λ bytes is.
      let was : d.own from ≡ Some bytes = sym (step.own.others from apart) ∙ is in
      let long : length bytes ≡ size = ap length (some_inj (sym was ∙ has.1)) ∙ has.2 in
      let now = step.own.file (take at bytes) (front bytes was) in
      now.1 ∙ ap Some (now.2 ∙ held_more at n bytes piece (omega (arith, fits, long)) (told bytes was))

  -- the other file stays
  pub still_long : (size : ℕ) (d c : World) → HasLength from size d → Only to d c → HasLength from size c
  still_long size d c has only = (has.0, only.others from apart ∙ has.1, has.2)

  -- a copy of all
  pub whole_copy : (size : ℕ) (d c : World) → HasLength from size d → Only to d c → HasFront from to size c → IsCopy from to d c
  whole_copy size d c has only front =
      let is : c.own from ≡ Some has.0 = only.others from apart ∙ has.1 in
      front has.0 is ∙ ap Some (all_taken has.0 size has.2) ∙ sym has.1
    where
      all_taken : (b : List ℕ) (n : ℕ) → length b ≡ n → take n b ≡ b
      all_taken b n is = take_all n b (omega (arith, is))

  -- an empty file has the front of no bytes
  pub no_front : (w : World) → HasLength to 0 w → HasFront from to 0 w
  no_front w has = λ bytes is. has.1 ∙ ap Some (none_long has.0 has.2)
    where
      none_long : (b : List ℕ) → length b ≡ 0 → b ≡ []
      none_long [] is = refl
      none_long (x ∷ b) is = absurd (omega (arith, is))

pub only_then : (name : List ℕ) (d e c : World) → Only name d e → Only name e c → Only name d c
only_then name d e c x y = record { others = λ n other. y.others n other ∙ x.others n other; outside = y.outside ∙ x.outside; gifts = y.gifts ∙ x.gifts }

pub only_same : (name : List ℕ) (d : World) → Only name d d
only_same name d = record { others = λ n other. refl; outside = refl; gifts = refl }

pub reads_then : (name : List ℕ) (a b c : World → Type 0) → Follows (Only name) a b → Follows (Only name) b c → Follows (Only name) a c
reads_then name a b c first second w is =
    let q = second w is in
    let p = first q.0 q.1 in
    (p.0, p.1, only_then name p.0 q.0 w p.2 q.2)

module _ {D : Type 0} (moment : D → ℕ) (images : D → ℕ → World → Type 0) (to : List ℕ) where
  -- a read, and then a write
  pub piece_stop : (R : List ℕ → List ℕ → Type 0) (old mid new : D) → Steps moment images Same old mid → Steps moment images (OnOwn (Rewrites to R)) mid new → Leaves moment images (Only to) old new
  piece_stop R old mid new read write =
      let first = goes_on moment images Same (Only to) old old mid (started moment images (Only to) old (λ c now. only_same to c)) read (λ c now. let p = read.now c now in (p.0, p.1, subst (Only to p.0) (sym p.2) (only_same to p.0))) in
      goes_on moment images (OnOwn (Rewrites to R)) (Only to) old mid new first write (λ c now.
      let q = write.now c now in
      let p = read.now q.0 q.1 in
      (p.0, p.1, subst (λ (w : World). Only to w c) p.2 (record { others = q.2.own.others; outside = q.2.outside; gifts = q.2.gifts })))

  pub stops_then : (old mid new : D) → Leaves moment images (Only to) old mid → Leaves moment images (Only to) mid new → Leaves moment images (Only to) old new
  stops_then old mid new first second = runs_on moment images (Only to) (Only to) (Only to) old mid new first second (λ d e now only. only) (λ d e c now left x y. only_then to d e c x y)

  pub begun_stop : (n : ℕ) (old new : D) → Leaves moment images (Readies to n) old new → Leaves moment images (Only to) old new
  begun_stop n old new run = weakened moment images (Readies to n) (Only to) old new (λ d c now r. r.others) run
