-- What the disk's calls on takes do, in the store's words.
use Rattle.std.proofs.Common.{◌≡◌, ◌⊎◌, inl, inr, ℕ, List, Option, Some, None, Result, Err, Bool, true, false, refl, sym, ◌∙◌, ap, subst, arith}
use Rattle.std.specs.Prelude.{IsSome, if◌then◌else◌}
use Rattle.ftn_addr.specs.declared.refusals.Failed.{Failed}
use Rattle.disk_model.specs.Answers.{Takes as MovesTo}
use Rattle.disk_model.specs.Changes.{AtOnce, Follows, OnOwn, Puts, Stands}
use Rattle.disk_model.specs.Moments.{Now, StepOf, Steps, Together}
use Rattle.disk_model.specs.World.{World}
use Rattle.disk_model.specs.declared.answers.Moved.{Moved}
use Rattle.disk_model.specs.declared.answers.Moved.TheVariants.{Done, Absent}
use Rattle.node_model.specs.declared.store.StoreFault.{StoreFault}
use Rattle.node_model.specs.StoreStates.{Stored, IfTold}
use Rattle.node_model.proofs.Lists.{off}
use Rattle.node_store.specs.Names.{take_number}
use Rattle.node_store.specs.Taking.{MadeOf, made_so, take_gone, taken_so}
use Rattle.node_store.specs.Worlds.{takes_in}
use Rattle.node_store.proofs.AskCall.{own_take}
use Rattle.node_store.proofs.TakeCall.{TakesOne}
use Rattle.node_store.proofs.TakeWorld.{around_in, beside_take, gone_around, gone_one, moved_around, moved_one, same_one}

-- a refused call may have made anything that it answers
pub any_made : {T : Type 0} (fault : StoreFault) (o : Option T) → MadeOf (Err fault) o
any_made fault None = tt
any_made fault (Some made) = tt

module _ (tells : Bool) (own : List ℕ) (n : ℕ) (named : take_number own ≡ Some n) where
  pub took_one : (path : List ℕ) (made : Option Moved) (d c : World) → StepOf (MovesTo path own) made d c → TakesOne tells (made_so (taken_so path own) made) d c
  took_one path None d c same = record { one = beside_take own d c (same_one own n named d c same); is = λ t. ap around_in same }
  took_one path (Some Done) d c step = record { one = beside_take own d c (moved_one path own n named d c step); is = λ t. moved_around path own n named d c step }
  took_one path (Some Absent) d c same = record { one = beside_take own d c (same_one own n named d c same); is = λ t. ap around_in same }

  removed_one : (d c : World) → OnOwn (Puts own None) d c → TakesOne tells (made_so (take_gone own) (Some tt)) d c
  removed_one d c step = record { one = beside_take own d c (gone_one own n named d c step); is = λ t. gone_around own n named d c step }

  unchanged_one : (d c : World) → c ≡ d → TakesOne tells (made_so (take_gone own) None) d c
  unchanged_one d c same = record { one = beside_take own d c (same_one own n named d c same); is = λ t. ap around_in same }

  module _ {D : Type 0} (content : D → World) (files : D → World → Type 0) (moment : D → ℕ) (images : D → ℕ → World → Type 0) (reads : (d : D) (w : World) → files d w → (tells ≡ true) × (w ≡ content d))
      (told : tells ≡ true → (d : D) → files d (content d)) (old new : D) where
    -- an outside file was to be taken
    module _ (path : List ℕ) (result : Result Moved Failed) (both : Together files moment images result (MovesTo path own) old new) where
      pub took_read : tells ≡ true → TakesOne tells (made_so (taken_so path own) both.made) (content old) (content new)
      took_read t =
          let was = both.read (content new) (told t new) in
          took_one path both.made (content old) (content new) (subst (λ (w : World). StepOf (MovesTo path own) both.made w (content new)) (reads old was.0 was.1).1 was.2)

      pub took_left : (c : World) → Now moment images new c → (d : World) × Now moment images old d × ((o : Option Moved) × (o ≡ both.made) × TakesOne tells (made_so (taken_so path own) o) d c)
      took_left c image = let was = both.stop.now c image in (was.0, was.1, (both.made, refl, took_one path both.made was.0 c was.2))

    -- a take was removed
    module _ (read : Follows (OnOwn (Puts own None)) (files old) (files new)) (stop : Steps moment images (OnOwn (Puts own None)) old new) where
      pub gone_read : tells ≡ true → TakesOne tells (made_so (take_gone own) (Some tt)) (content old) (content new)
      gone_read t =
          let was = read (content new) (told t new) in
          removed_one (content old) (content new) (subst (λ (w : World). OnOwn (Puts own None) w (content new)) (reads old was.0 was.1).1 was.2)

      pub gone_left : (c : World) → Now moment images new c → (d : World) × Now moment images old d × ((o : Option (Unit {0})) × (o ≡ Some tt) × TakesOne tells (made_so (take_gone own) o) d c)
      gone_left c image = let was = stop.now c image in (was.0, was.1, (Some tt, refl, removed_one was.0 c was.2))

    -- or that failed
    module _ (e : Failed) (read : Follows (AtOnce {T = Unit {0}} (Err e) (λ _. OnOwn (Puts own None))) (files old) (files new)) (stop : Steps moment images (AtOnce {T = Unit {0}} (Err e) (λ _. OnOwn (Puts own None))) old new) where
      one_of : (d c : World) → (c ≡ d) ⊎ ((answer : Unit {0}) × OnOwn (Puts own None) d c) → (o : Option (Unit {0})) × TakesOne tells (made_so (take_gone own) o) d c
      one_of d c (inl same) = (None, unchanged_one d c same)
      one_of d c (inr made) = (Some tt, removed_one d c made.1)

      pub failed_read : (made : Option (Unit {0})) × (tells ≡ true → TakesOne tells (made_so (take_gone own) made) (content old) (content new))
      failed_read = go tells refl
        where
          go : (b : Bool) → tells ≡ b → (made : Option (Unit {0})) × (tells ≡ true → TakesOne tells (made_so (take_gone own) made) (content old) (content new))
          go true t =
              let was = read (content new) (told t new) in
              let one = one_of was.0 (content new) was.2 in
              (one.0, λ _. subst (λ (w : World). TakesOne tells (made_so (take_gone own) one.0) w (content new)) (reads old was.0 was.1).1 one.1)
          go false f = (None, λ t. off (sym t ∙ f))

      pub failed_left : (c : World) → Now moment images new c → (d : World) × Now moment images old d × ((o : Option (Unit {0})) × Unit {0} × TakesOne tells (made_so (take_gone own) o) d c)
      failed_left c image =
          let was = stop.now c image in
          let one = one_of was.0 c was.2 in
          (was.0, was.1, (one.0, tt, one.1))

-- A take that stands, of what is told, is an own file.

pub told_some : (tells : Bool) (s : Stored) (P : Stored → Type 0) → tells ≡ true → IfTold (if tells then Some s else None) P → P s
told_some true s P t has = has
told_some false s P t has = off (sym t)

pub stands_there : (w : World) (own : List ℕ) (n : ℕ) → take_number own ≡ Some n → IsSome (takes_in w own) → Stands own 0 w
stands_there w own n named some = go (w.own own) refl (subst IsSome (own_take w own (subst IsSome (sym named) refl)) some)
  where
    go : (f : Option (List ℕ)) → w.own own ≡ f → IsSome f → Stands own 0 w
    go None is none = off (sym none)
    go (Some b) is some = (b, is, omega arith)
