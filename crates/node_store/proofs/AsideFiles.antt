-- An opening leaves the own files alone that aren't the store's.
use Rattle.std.proofs.Common.{◌≡◌, ℕ, List, Bool, true, refl, ◌∙◌, subst}
use Rattle.disk_model.specs.Changes.{Follows}
use Rattle.disk_model.specs.Moments.{Leaves}
use Rattle.disk_model.specs.World.{World}
use Rattle.disk_model.proofs.MomentLemmas.{runs_on, started, weakened}
use Rattle.node_store.specs.Aside.{SameAside}
use Rattle.node_store.specs.Clearing.{ClearsNotes, Restores}

module _ {D : Type 0} (moment : D → ℕ) (images : D → ℕ → World → Type 0) where
  -- before the first call
  pub none_aside : (d : D) → Leaves moment images SameAside d d
  none_aside d = started moment images SameAside d (λ c now name other. refl)

  pub look_aside : (a b : D) → Leaves moment images Restores a b → Leaves moment images SameAside a b
  look_aside a b run = weakened moment images Restores SameAside a b (λ d c now r. r.aside) run

  -- and notes were cleared
  pub all_aside : (text : List ℕ) (a b c : D) → Leaves moment images Restores a b → Leaves moment images (ClearsNotes text) b c → Leaves moment images SameAside a c
  all_aside text a b c first second = runs_on moment images Restores (ClearsNotes text) SameAside a b c first second (λ d e now r. r.aside) (λ d e w now left r clears name other. clears.own name other.note ∙ r.aside name other)

pub none_aside_read : (a : World → Type 0) → Follows SameAside a a
none_aside_read a w is = (w, is, λ name other. refl)

pub look_aside_read : (a b : World → Type 0) → Follows Restores a b → Follows SameAside a b
look_aside_read a b read w is = let p = read w is in (p.0, p.1, p.2.aside)

pub all_aside_read : (text : List ℕ) (a b c : World → Type 0) → Follows Restores a b → Follows (ClearsNotes text) b c → Follows SameAside a c
all_aside_read text a b c first second w is =
    let q = second w is in
    let p = first q.0 q.1 in
    (p.0, p.1, λ name other. q.2.own name other.note ∙ p.2.aside name other)

-- of a disk that tells, its content
pub content_aside : {D : Type 0} (files : D → World → Type 0) (tells : Bool) (content : D → World) (reads : (d : D) (w : World) → files d w → (tells ≡ true) × (w ≡ content d)) (told : tells ≡ true → (d : D) → files d (content d)) (old new : D)
    → Follows SameAside (files old) (files new) → tells ≡ true → SameAside (content old) (content new)
content_aside files tells content reads told old new read t = let p = read (content new) (told t new) in subst (λ (w : World). SameAside w (content new)) (reads old p.0 p.1).1 p.2
