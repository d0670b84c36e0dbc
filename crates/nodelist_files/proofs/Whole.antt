-- A file is read whole.
use Rattle.std.proofs.Common.{◌≡◌, ℕ, Bool, true, List, length, take, drop, Option, Some, None, refl, sym, ◌∙◌, ap, subst, arith}
use Rattle.std.specs.Prelude.{option_map}
use Rattle.std.proofs.Math.Seq.{take-length}
use Rattle.disk_model.specs.World.{World}
use Rattle.disk_model.specs.Changes.{Every, Same}
use Rattle.disk_model.specs.Moments.{Steps, Leaves}
use Rattle.disk_model.proofs.MomentLemmas.{started, goes_on}

-- what was read of a file of that length
pub read_all : (w : World) (name : List ℕ) (len room : ℕ) (out : List ℕ) → room ≡ len → Some len ≡ option_map length (w.own name) → ((b : List ℕ) → w.own name ≡ Some b → out ≡ take room (drop 0 b)) → w.own name ≡ Some out
read_all w name len room out all size came = go (w.own name) refl size
  where
    go : (o : Option (List ℕ)) → w.own name ≡ o → Some len ≡ option_map length o → w.own name ≡ Some out
    go None is size = absurd (let clash : Some len ≡ None = size in cc)
    go (Some b) is size =
        let same : len ≡ length b = cc in
        is ∙ ap Some (sym (came b is ∙ ap (λ (n : ℕ). take n b) (all ∙ same) ∙ take-length b))

-- runs that change nothing
module _ {D : Type 0} (moment : D → ℕ) (images : D → ℕ → World → Type 0) where
  pub same_started : (d : D) → Leaves moment images Same d d
  same_started d = started moment images Same d (λ c now. refl)

  pub same_goes_on : (old mid new : D) → Leaves moment images Same old mid → Steps moment images Same mid new → Leaves moment images Same old new
  same_goes_on old mid new so_far call = goes_on moment images Same Same old mid new so_far call (λ c now.
      let was = call.now c now in
      let first = so_far.each (moment mid) was.0 so_far.grew.later (omega arith) was.1 in
      (first.0, first.1, was.2 ∙ first.2))

  pub same_once : (old new : D) → Steps moment images Same old new → Leaves moment images Same old new
  same_once old new call = same_goes_on old old new (same_started old) call

-- what is read before a call that changes nothing is read after it
module _ {D : Type 0} (tells : Bool) (content : D → World) (files : D → World → Type 0) (reads : (d : D) (w : World) → files d w → (tells ≡ true) × (w ≡ content d)) (told : tells ≡ true → (d : D) → files d (content d)) where
  pub still_read : (old new : D) → Every (files new) (files old) → Every (files old) (files new)
  still_read old new every w there =
      let tell = reads old w there in
      let here = told tell.0 new in
      let back = reads old (content new) (every (content new) here) in
      subst (files new) (back.1 ∙ sym tell.1) here
