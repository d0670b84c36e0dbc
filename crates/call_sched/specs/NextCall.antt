-- Whom a node calls next.
use Rattle.std.specs.Prelude.{◌≡◌, ◌≢◌, ◌≤◌, ℕ, true, false, List, Option, Some, slice_get, unwrap_or}
use Rattle.std.specs.declared.cmp.Ordering.{Ordering}
use Rattle.std.specs.Ordering.{is_gt, nat_cmp, on, then_cmp}
use Rattle.ftn_addr.specs.Address.{address}
use Rattle.node_model.specs.SendRows.{rank}
use Rattle.node_model.specs.declared.words.Flavour.TheVariants.{Hold}
use Rattle.call_sched.specs.Tries.{address_order, free_from, last_try}
use Rattle.call_sched.specs.declared.words.Next.{Next}
use Rattle.call_sched.specs.declared.words.Next.TheVariants.{Call, WaitUntil, Nothing}
use Rattle.call_sched.specs.declared.words.Try.{Try}
use Rattle.call_sched.specs.declared.words.Wanted.{Wanted}

-- an item counts where its address may be called at all, and it doesn't wait to be fetched
abbrev pub Counts : Wanted → Type 0
Counts item = (item.callable ≡ true) × (item.flavour ≢ Hold)

-- the last call of the address that an item waits for
abbrev pub last_call : List Try → Wanted → Option ℕ
last_call tries item = last_try tries (address item.addr)

-- an item may be called for at a moment
abbrev pub MayCall : ℕ → List Try → Wanted → Type 0
MayCall now tries item = (item.callable ≡ true) × (item.flavour ≢ Hold) × (free_from (last_call tries item) ≤ now)

-- items by flavour, by the last call of their addresses, 0 where there is none, and by these
abbrev pub item_order : List Try → Wanted → Wanted → Ordering
item_order tries =
    then_cmp (on (λ (item : Wanted). rank item.flavour) nat_cmp)
    (then_cmp (on (λ (item : Wanted). unwrap_or (last_call tries item) 0) nat_cmp) (on (λ (item : Wanted). address item.addr) address_order))

-- the same, and those that tie by their places
abbrev pub call_order : List Try → ℕ × Wanted → ℕ × Wanted → Ordering
call_order tries = then_cmp (on (λ (at : ℕ × Wanted). at.1) (item_order tries)) (on (λ (at : ℕ × Wanted). at.0) nat_cmp)

-- the first of the items that may be called for stands at a place
pub record IsFirst (now : ℕ) (wanted : List Wanted) (tries : List Try) (place : ℕ) : Type 0 where
  pub item : Wanted
  pub there : slice_get wanted place ≡ Some item
  pub may : MayCall now tries item
  pub first : (k : ℕ) (other : Wanted) → slice_get wanted k ≡ Some other → MayCall now tries other → is_gt (call_order tries (place, item) (k, other)) ≡ false

-- some items count, none may be called for yet, and the first of them may from a moment on
pub record IsWait (now : ℕ) (wanted : List Wanted) (tries : List Try) (moment : ℕ) : Type 0 where
  pub place : ℕ
  pub item : Wanted
  pub there : slice_get wanted place ≡ Some item
  pub counts : Counts item
  pub until : free_from (last_call tries item) ≡ moment
  pub none : (k : ℕ) (other : Wanted) → slice_get wanted k ≡ Some other → MayCall now tries other → ⊥
  pub least : (k : ℕ) (other : Wanted) → slice_get wanted k ≡ Some other → Counts other → moment ≤ free_from (last_call tries other)

-- whom a node calls next, at a moment, of what waits and what was tried
abbrev pub IsNext : ℕ → List Wanted → List Try → Next → Type 0
IsNext now wanted tries (Call place) = IsFirst now wanted tries place
IsNext now wanted tries (WaitUntil moment) = IsWait now wanted tries moment
IsNext now wanted tries Nothing = (k : ℕ) (other : Wanted) → slice_get wanted k ≡ Some other → Counts other → ⊥
