-- What a store of takes tells, and what its calls may leave at each moment (own).
use Rattle.std.specs.Prelude.{◌≡◌, ◌≢◌, ◌⊎◌, ℕ, ◌<◌, ◌≤◌, Bool, List, [], ◌∷◌, ◌++◌, Option, Some, None, option_map, Result, Ok, Err}
use Rattle.bso_outbound.specs.declared.kind.Kind.{Kind}
use Rattle.node_model.specs.declared.store.StoreFault.{StoreFault}
use Rattle.node_model.specs.declared.store.StoreFault.TheVariants.{Disk, Read}
use Rattle.node_model.specs.Lists.{Each}
use Rattle.outbound_model.specs.declared.fate.Fate.{Fate}
use Rattle.outbound_model.specs.Outbound.{Outbound}
use Rattle.outbound_model.specs.OwnNames.{kind_of}
use Rattle.outbound_model.specs.Steps.{Step, Queued}
use Rattle.outbound_model.specs.Lives.{Reaches, Along}

-- a take in the own folder, and whether its number is recorded
pub record Left : Type 0 where
  pub own : List ℕ
  pub recorded : Bool

-- What every store tells: the takes that stand, the take number that was drawn and not used, the sizes of the files that are staged,
-- by their numbers, the greatest of these numbers, how many actions are not done, and whether it is broken.
pub record Memory : Type 0 where
  pub left : List Left
  pub drawn : Option ℕ
  pub sizes : ℕ → Option ℕ
  pub last : ℕ
  pub undone : ℕ
  pub broken : Option ℕ

-- what a store keeps, where it tells that: beside the outbound the bytes that are staged, by their numbers
pub record Content : Type 0 where
  pub outbound : Outbound
  pub bodies : ℕ → Option (List ℕ)

-- a store, with what a stop at each moment may have left
pub record TakeStand : Type 1 where
  pub content : Option Content
  pub memory : Memory
  pub moment : ℕ
  pub images : ℕ → Option Outbound → Type 0

abbrev pub outbound_in : Content → Outbound
outbound_in c = c.outbound

abbrev pub told : TakeStand → Option Outbound
told s = option_map outbound_in s.content

-- the image opens, to such an outbound
abbrev pub OpensTo : (Outbound → Type 0) → Option Outbound → Type 0
OpensTo P None = ⊥
OpensTo P (Some d) = P d

-- Every answer but Disk settles: each image now is what is told.
abbrev pub SettledBy : StoreFault → Type 0
SettledBy Disk = ⊥
SettledBy fault = Unit {0}

abbrev pub Settles : {T : Type 0} → Result T StoreFault → Type 0
Settles (Ok answer) = Unit {0}
Settles (Err fault) = SettledBy fault

-- A failing disk leaves a broken store, and no call answers Read.
abbrev pub Breaks : {T : Type 0} → Result T StoreFault → TakeStand → Type 0
Breaks (Ok answer) s = Unit {0}
Breaks (Err Disk) s = s.memory.broken ≢ None
Breaks (Err Read) s = ⊥
Breaks (Err fault) s = Unit {0}

-- One change, which happens wholly or not at all, and was made where the call settles.
pub record Kept (R : Outbound → Outbound → Type 0) (settles : Type 0) (old new : TakeStand) : Type 0 where
  pub later : old.moment ≤ new.moment
  pub before : (k : ℕ) (d : Option Outbound) → k ≤ old.moment → new.images k d → old.images k d
  pub silent : told old ≡ None → told new ≡ None
  pub tells : (s : Outbound) → told old ≡ Some s → (t : Outbound) × (told new ≡ Some t) × ((t ≡ s) ⊎ R s t)
  pub since : (s : Outbound) → told old ≡ Some s → (k : ℕ) (d : Option Outbound) → old.moment < k → k ≤ new.moment → new.images k d → OpensTo (λ x. (x ≡ s) ⊎ R s x) d
  pub ends : settles → (s t : Outbound) → told old ≡ Some s → told new ≡ Some t → R s t
  pub now : settles → (t : Outbound) → told new ≡ Some t → (d : Option Outbound) → new.images new.moment d → OpensTo (λ x. x ≡ t) d

-- What an answer says was done. At Disk it is what one of the answers says, or nothing; at the other faults it is nothing.
abbrev pub Tried : {T : Type 0} → Result T StoreFault → (T → Outbound → Outbound → Type 0) → Outbound → Outbound → Type 0
Tried (Ok answer) step s t = step answer s t
Tried {T} (Err Disk) step s t = (t ≡ s) ⊎ ((answer : T) × step answer s t)
Tried (Err fault) step s t = t ≡ s

-- nothing changes
abbrev pub Same : Outbound → Outbound → Type 0
Same s t = t ≡ s

-- each image now is what is told
abbrev pub IsCalm : TakeStand → Type 0
IsCalm s = (t : Outbound) → told s ≡ Some t → (d : Option Outbound) → s.images s.moment d → OpensTo (λ x. x ≡ t) d

-- what the takes that were queued along these steps were, and what became of each, the oldest first
abbrev pub brought : List Step → List (Option Kind × List Fate)
brought [] = []
brought (Queued own bytes dest moment fates ∷ es) = brought es ++ (kind_of own, fates) ∷ []
brought (e ∷ es) = brought es

-- Many changes: each image since is one of the states along these steps, each of which is such a step.
pub record Worked (P : Step → Type 0) (settles : Type 0) (files : List (Option Kind × List Fate)) (s : Outbound) (old new : TakeStand) : Type 0 where
  pub steps : List Step
  pub ours : Each P steps
  pub end : Outbound
  pub tells : told new ≡ Some end
  pub is_along : Along s steps end
  pub since : (k : ℕ) (d : Option Outbound) → old.moment < k → k ≤ new.moment → new.images k d → OpensTo (Along s steps) d
  pub ends : settles → Reaches s steps end
  pub brings : settles → brought steps ≡ files
  pub now : settles → (d : Option Outbound) → new.images new.moment d → OpensTo (λ x. x ≡ end) d

pub record Works (P : Step → Type 0) (settles : Type 0) (files : List (Option Kind × List Fate)) (old new : TakeStand) : Type 0 where
  pub later : old.moment ≤ new.moment
  pub before : (k : ℕ) (d : Option Outbound) → k ≤ old.moment → new.images k d → old.images k d
  pub silent : told old ≡ None → told new ≡ None
  pub made : (s : Outbound) → told old ≡ Some s → Worked P settles files s old new

abbrev pub mapped : {T U : Type 0} → Result T StoreFault → (T → U) → Result U StoreFault
mapped (Ok answer) f = Ok (f answer)
mapped (Err fault) f = Err fault
