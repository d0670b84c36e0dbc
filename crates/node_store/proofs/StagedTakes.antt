-- A take that is staged: its bytes are those of the copy.
use Rattle.std.proofs.Common.{◌≡◌, ℕ, List, [], length, Option, Some, None, Bool, true, false, refl, sym, ◌∙◌, ap, subst, arith}
use Rattle.std.specs.Prelude.{IsSome, replicate}
use Rattle.std.proofs.lemmas.List.{length-replicate}
use Rattle.disk_model.specs.World.{World}
use Rattle.disk_model.specs.Changes.{Every, Follows, Stands}
use Rattle.node_model.specs.StoreStates.{IfTold}
use Rattle.node_model.proofs.Lists.{off}
use Rattle.node_store.specs.Copying.{IsCopyOf}
use Rattle.node_store.specs.Names.{take_number}
use Rattle.node_store.specs.Stored.{Memory, state_of}
use Rattle.node_store.specs.Taking.{IsStandingTake}
use Rattle.node_store.specs.Worlds.{if_take, takes_in}

module _ {D : Type 0} (tells : Bool) (content : D → World) where
  -- what is told of a world
  pub told_before : (disk : D) (faults : ℕ) (m : Memory) (own bytes : List ℕ) → (tells ≡ true → takes_in (content disk) own ≡ Some bytes) → IfTold (state_of tells (content disk) faults m).content (λ a. a.takes own ≡ Some bytes)
  told_before disk faults m own bytes is = go tells is
    where
      go : (b : Bool) → (b ≡ true → takes_in (content disk) own ≡ Some bytes) → IfTold (state_of b (content disk) faults m).content (λ a. a.takes own ≡ Some bytes)
      go true is = is refl
      go false is = tt

  of_told : (disk : D) (faults : ℕ) (m : Memory) (P : (List ℕ → Option (List ℕ)) → Type 0) → tells ≡ true → IfTold (state_of tells (content disk) faults m).content (λ a. P a.takes) → P (takes_in (content disk))
  of_told disk faults m P t told = go tells t told
    where
      go : (b : Bool) → b ≡ true → IfTold (state_of b (content disk) faults m).content (λ a. P a.takes) → P (takes_in (content disk))
      go true t told = told
      go false t told = off (sym t)

  some_bytes : (o : Option (List ℕ)) → IsSome o → (bytes : List ℕ) × (o ≡ Some bytes)
  some_bytes None none = off (sym none)
  some_bytes (Some bytes) is = (bytes, refl)

  -- a take that stands has bytes
  pub standing_bytes : (disk : D) (faults : ℕ) (m : Memory) (own : List ℕ) → IsStandingTake own (state_of tells (content disk) faults m) → (bytes : List ℕ) × IfTold (state_of tells (content disk) faults m).content (λ a. a.takes own ≡ Some bytes)
  standing_bytes disk faults m own is = go tells is.stands
    where
      go : (b : Bool) → IfTold (state_of b (content disk) faults m).content (λ a. IsSome (a.takes own)) → (bytes : List ℕ) × IfTold (state_of b (content disk) faults m).content (λ a. a.takes own ≡ Some bytes)
      go true told = some_bytes (takes_in (content disk) own) told
      go false told = ([], tt)

  module _ (files : D → World → Type 0) (reads : (d : D) (w : World) → files d w → (tells ≡ true) × (w ≡ content d)) (told : tells ≡ true → (d : D) → files d (content d)) where
    -- it stands among the own files
    pub take_stands : (disk : D) (faults : ℕ) (m : Memory) (own : List ℕ) → IsStandingTake own (state_of tells (content disk) faults m) → Every (files disk) (Stands own 0)
    take_stands disk faults m own is w read =
        let r = reads disk w read in
        let b = some_bytes (takes_in (content disk) own) (of_told disk faults m (λ takes. IsSome (takes own)) r.0 is.stands) in
        (b.0, ap (λ (v : World). v.own own) r.1 ∙ sym (ap (λ (o : Option ℕ). if_take o ((content disk).own own)) is.named) ∙ b.1, omega arith)

    -- a copy of it has its bytes, which are as many
    pub take_copied : (old new : D) (faults : ℕ) (m : Memory) (own to : List ℕ) (size : ℕ) → (source : (bytes : List ℕ) × IfTold (state_of tells (content old) faults m).content (λ a. a.takes own ≡ Some bytes)) → (take : ℕ) × (take_number own ≡ Some take)
        → Follows (IsCopyOf own to size) (files old) (files new) → (bytes : List ℕ) × (size ≡ length bytes) × (tells ≡ true → takes_in (content old) own ≡ Some bytes) × (tells ≡ true → (content new).own to ≡ Some bytes)
    take_copied old new faults m own to size source named follows = go tells refl
      where
        go : (b : Bool) → tells ≡ b → (bytes : List ℕ) × (size ≡ length bytes) × (tells ≡ true → takes_in (content old) own ≡ Some bytes) × (tells ≡ true → (content new).own to ≡ Some bytes)
        go false t = (replicate size 0, sym (length-replicate size 0), λ is. off (sym is ∙ t), λ is. off (sym is ∙ t))
        go true t =
            let was = follows (content new) (told t new) in
            let copy = subst (λ (w : World). IsCopyOf own to size w (content new)) (reads old was.0 was.1).1 was.2 in
            let take_is : takes_in (content old) own ≡ Some copy.1.0 = ap (λ (o : Option ℕ). if_take o ((content old).own own)) named.1 ∙ copy.1.1 in
            (copy.1.0, sym copy.1.2, λ is. take_is, λ is. copy.0 ∙ copy.1.1)
