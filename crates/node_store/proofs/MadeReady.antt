-- The file of a part that begins: what creating it and cutting it do.
use Rattle.std.proofs.Common.{◌≡◌, ⊎_elim, ℕ, List, [], length, take, Result, Ok, Err, refl, sym, ◌∙◌, ap, subst, arith}
use Rattle.std.proofs.lemmas.List.{length-take}
use Rattle.disk_model.specs.World.{World}
use Rattle.disk_model.specs.Answers.{Creates}
use Rattle.disk_model.specs.Changes.{Follows, OnOwn, Rewrites, Cut, Stands, AtOnce}
use Rattle.disk_model.specs.Moments.{Steps, Leaves}
use Rattle.disk_model.specs.declared.answers.Made.{Made}
use Rattle.disk_model.specs.declared.answers.Made.TheVariants.{New, Exists}
use Rattle.disk_model.proofs.MomentLemmas.{started, goes_on}
use Rattle.node_store.specs.Beginnings.{Readies}
use Rattle.node_store.specs.Worlds.{HasLength}
use Rattle.node_store.proofs.Alike.{shorter_take}

pub readies_same : (name : List ℕ) (n : ℕ) (w : World) → Readies name n w w
readies_same name n w = record { others = record { others = λ k differs. refl; outside = refl; gifts = refl }; front = λ b is long. (b, is, refl) }

-- a cut
pub cut_readies : (name : List ℕ) (n : ℕ) (d c : World) → OnOwn (Rewrites name (Cut n)) d c → Readies name n d c
cut_readies name n d c step = record {
  others = record { others = step.own.others; outside = step.outside; gifts = step.gifts };
  front = λ b is long.
      let f = step.own.file b is in
      (f.0, f.1, ap (take n) f.2.front ∙ shorter_take n (length f.0) b (omega (arith, f.2.no_shorter, long)));
}

-- a creation
pub create_readies : (name : List ℕ) (made : Made) (d c : World) → Creates name made d c → Readies name 0 d c
create_readies name New d c step = record {
  others = record { others = step.own.others; outside = step.outside; gifts = step.gifts };
  front = λ b is long. ([], step.own.here, refl);
}
create_readies name Exists d c step = subst (Readies name 0 d) (sym step) (readies_same name 0 d)

pub created : {E : Type 0} (name : List ℕ) (result : Result Made E) (d c : World) → AtOnce result (Creates name) d c → Readies name 0 d c
created name (Ok made) d c step = create_readies name made d c step
created name (Err e) d c step = ⊎_elim (λ same. subst (Readies name 0 d) (sym same) (readies_same name 0 d)) (λ made. create_readies name made.0 d c made.1) step

-- one after the other
pub readies_then : (name : List ℕ) (d e c : World) → Readies name 0 d e → Readies name 0 e c → Readies name 0 d c
readies_then name d e c first second = record {
  others = record {
    others = λ n differs. second.others.others n differs ∙ first.others.others n differs;
    outside = second.others.outside ∙ first.others.outside;
    gifts = second.others.gifts ∙ first.others.gifts;
  };
  front = λ b is long.
      let f = first.front b is long in
      let s = second.front f.0 f.1 (omega arith) in
      (s.0, s.1, s.2 ∙ f.2);
}

module _ {D : Type 0} (moment : D → ℕ) (images : D → ℕ → World → Type 0) (name : List ℕ) (n : ℕ) where
  -- one call
  pub one_leaves : (R : World → World → Type 0) (old new : D) → ((d c : World) → R d c → Readies name n d c) → Steps moment images R old new → Leaves moment images (Readies name n) old new
  one_leaves R old new leads call =
      goes_on moment images R (Readies name n) old old new (started moment images (Readies name n) old (λ c now. readies_same name n c)) call
      (λ c now. let was = call.now c now in (was.0, was.1, leads was.0 c was.2))

-- two calls
pub two_leave : {D : Type 0} (moment : D → ℕ) (images : D → ℕ → World → Type 0) (name : List ℕ) (R S : World → World → Type 0) (old mid new : D) → ((d c : World) → R d c → Readies name 0 d c) → ((d c : World) → S d c → Readies name 0 d c)
    → Steps moment images R old mid → Steps moment images S mid new → Leaves moment images (Readies name 0) old new
two_leave moment images name R S old mid new first_leads second_leads first second =
    goes_on moment images S (Readies name 0) old mid new (one_leaves moment images name 0 R old mid first_leads first) second
    (λ c now.
    let e = second.now c now in
    let d = first.now e.0 e.1 in
    (d.0, d.1, readies_then name d.0 e.0 c (first_leads d.0 e.0 d.2) (second_leads e.0 c e.2)))

-- the lengths

pub cut_length : (name : List ℕ) (n : ℕ) (d c : World) → Stands name n d → OnOwn (Rewrites name (λ b e. e ≡ take n b)) d c → HasLength name n c
cut_length name n d c stands step =
    let f = step.own.file stands.0 stands.1 in
    (f.0, f.1, omega (arith, ap length f.2, length-take n stands.0, stands.2))

pub follows_weaker : (R T : World → World → Type 0) (old new : World → Type 0) → ((d c : World) → R d c → T d c) → Follows R old new → Follows T old new
follows_weaker R T old new leads follows c now = let was = follows c now in (was.0, was.1, leads was.0 c was.2)
