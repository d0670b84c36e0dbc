-- Two writes and a sync, from the clauses of each call.
use Rattle.std.proofs.Common.{◌≡◌, inl, inr, ℕ, zero, suc, ◌+◌, ◌-◌, ◌<◌, List, [], ◌∷◌, take, drop, refl, sym, ◌∙◌, ap, arith}
use Rattle.std.specs.List.{slice_get}
use Rattle.disk_model.specs.World.{World}
use Rattle.disk_model.specs.Changes.{Every, Follows, Same, OnOwn, Rewrites, Torn}
use Rattle.disk_model.specs.Moments.{Now, Steps, Leaves}
use Rattle.disk_model.proofs.MomentLemmas.{started, goes_on, same_now}
use Rattle.disk_model.proofs.TornLemmas.{torn_same}
use Rattle.disk_model.specs.Twice.{IsOutside, TornTwice}

get_take : (n k : ℕ) (l : List ℕ) → k < n → slice_get (take n l) k ≡ slice_get l k
get_take zero k l lt = absurd (omega (arith, lt))
get_take (suc n) k [] lt = refl
get_take (suc n) zero (b ∷ bs) lt = refl
get_take (suc n) (suc k) (b ∷ bs) lt = get_take n k bs (omega (arith, lt))

get_drop : (n k : ℕ) (l : List ℕ) → slice_get (drop n l) k ≡ slice_get l (n + k)
get_drop zero k l = let same : k ≡ zero + k = omega arith in ap (slice_get l) same
get_drop (suc n) k [] = refl
get_drop (suc n) k (b ∷ bs) = let same : suc (n + k) ≡ suc n + k = omega arith in get_drop n k bs ∙ ap (slice_get (b ∷ bs)) same

-- outside its range a write in part leaves each byte
torn_outside : (at n : ℕ) (old new : List ℕ) → Torn at n old new → (k : ℕ) → IsOutside at n k → slice_get new k ≡ slice_get old k
torn_outside at n old new torn k (inl lt) = sym (get_take at k new lt) ∙ ap (λ (l : List ℕ). slice_get l k) torn.before ∙ get_take at k old lt
torn_outside at n old new torn k (inr ge) =
    let same : at + n + (k - (at + n)) ≡ k = omega (arith, ge) in
    sym (ap (slice_get new) same) ∙ sym (get_drop (at + n) (k - (at + n)) new) ∙ ap (λ (l : List ℕ). slice_get l (k - (at + n))) torn.after
    ∙ get_drop (at + n) (k - (at + n)) old ∙ ap (slice_get old) same

module _ (at n at' n' : ℕ) where
  pub torn_twice : (old mid new : List ℕ) → Torn at n old mid → Torn at' n' mid new → TornTwice at n at' n' old new
  torn_twice old mid new first second = record {
    outside = λ k within one two. torn_outside at' n' mid new second k two ∙ torn_outside at n old mid first k one;
    no_shorter = omega (arith, first.no_shorter, second.no_shorter);
    no_longer = omega (arith, first.no_longer, second.no_longer);
  }

  pub twice_same : (b : List ℕ) → TornTwice at n at' n' b b
  twice_same b = torn_twice b b b (torn_same at n b) (torn_same at' n' b)

  pub torn_first : (old new : List ℕ) → Torn at n old new → TornTwice at n at' n' old new
  torn_first old new first = torn_twice old new new first (torn_same at' n' new)

module _ (name : List ℕ) where
  same_rewrites : (R : List ℕ → List ℕ → Type 0) → ((b : List ℕ) → R b b) → (w : World) → OnOwn (Rewrites name R) w w
  same_rewrites R same w = record {
    own = record { file = λ b is. (b, is, same b); absent = λ none. none; others = λ m other. refl };
    outside = refl;
    gifts = refl;
  }

  widens : (R T : List ℕ → List ℕ → Type 0) → ((b e : List ℕ) → R b e → T b e) → (d c : World) → OnOwn (Rewrites name R) d c → OnOwn (Rewrites name T) d c
  widens R T leads d c step = record {
    own = record {
      file = λ b is. let was = step.own.file b is in (was.0, was.1, leads b was.0 was.2);
      absent = step.own.absent;
      others = step.own.others;
    };
    outside = step.outside;
    gifts = step.gifts;
  }

  joins : (R S T : List ℕ → List ℕ → Type 0) → ((b e f : List ℕ) → R b e → S e f → T b f) → (d e c : World) → OnOwn (Rewrites name R) d e → OnOwn (Rewrites name S) e c → OnOwn (Rewrites name T) d c
  joins R S T leads d e c first second = record {
    own = record {
      file = λ b is.
          let one = first.own.file b is in
          let two = second.own.file one.0 one.1 in
          (two.0, two.1, leads b one.0 two.0 one.2 two.2);
      absent = λ none. second.own.absent (first.own.absent none);
      others = λ m other. second.own.others m other ∙ first.own.others m other;
    };
    outside = second.outside ∙ first.outside;
    gifts = second.gifts ∙ first.gifts;
  }

module _ (name : List ℕ) (at n at' n' : ℕ) where
  abbrev Twice : World → World → Type 0
  Twice = OnOwn (Rewrites name (TornTwice at n at' n'))

  pub first_reads : (old mid : World → Type 0) → Follows (OnOwn (Rewrites name (Torn at n))) old mid → Follows Twice old mid
  first_reads old mid first c now = let was = first c now in (was.0, was.1, widens name (Torn at n) (TornTwice at n at' n') (torn_first at n at' n') was.0 c was.2)

  pub both_read : (old mid new : World → Type 0) → Follows (OnOwn (Rewrites name (Torn at n))) old mid → Follows (OnOwn (Rewrites name (Torn at' n'))) mid new → Follows Twice old new
  both_read old mid new first second c now =
      let two = second c now in
      let one = first two.0 two.1 in
      (one.0, one.1, joins name (Torn at n) (Torn at' n') (TornTwice at n at' n') (torn_twice at n at' n') one.0 two.0 c one.2 two.2)

  pub every_reads : (old mid new : World → Type 0) → Follows Twice old mid → Every new mid → Follows Twice old new
  every_reads old mid new follows every c now = follows c (every c now)

module _ {D : Type 0} (moment : D → ℕ) (images : D → ℕ → World → Type 0) (name : List ℕ) (at n at' n' : ℕ) where
  pub first_leaves : (old mid : D) → Steps moment images (OnOwn (Rewrites name (Torn at n))) old mid → Leaves moment images (Twice name at n at' n') old mid
  first_leaves old mid first =
      goes_on moment images (OnOwn (Rewrites name (Torn at n))) (Twice name at n at' n') old old mid
      (started moment images (Twice name at n at' n') old (λ c now. same_rewrites name (TornTwice at n at' n') (twice_same at n at' n') c)) first
      (first_reads name at n at' n' (Now moment images old) (Now moment images mid) first.now)

  pub both_leave : (old mid new : D) → Steps moment images (OnOwn (Rewrites name (Torn at n))) old mid → Steps moment images (OnOwn (Rewrites name (Torn at' n'))) mid new → Leaves moment images (Twice name at n at' n') old new
  both_leave old mid new first second =
      goes_on moment images (OnOwn (Rewrites name (Torn at' n'))) (Twice name at n at' n') old mid new (first_leaves old mid first) second
      (both_read name at n at' n' (Now moment images old) (Now moment images mid) (Now moment images new) first.now second.now)

  pub all_leave : (old mid new end : D) → Steps moment images (OnOwn (Rewrites name (Torn at n))) old mid → Steps moment images (OnOwn (Rewrites name (Torn at' n'))) mid new → Steps moment images Same new end
      → Leaves moment images (Twice name at n at' n') old end
  all_leave old mid new end first second synced =
      goes_on moment images Same (Twice name at n at' n') old new end (both_leave old mid new first second) synced
      (λ c now. both_read name at n at' n' (Now moment images old) (Now moment images mid) (Now moment images new) first.now second.now c (same_now moment images new end synced c now))
