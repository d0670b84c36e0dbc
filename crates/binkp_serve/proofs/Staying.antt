-- What is received stays so along a node's own calls, one behind another.
use Rattle.std.proofs.Common.{◌≡◌, ℕ, ◌≤◌, ◌<◌, arith, [], Option, Some, None, option_map, refl, sym, ◌∙◌, ap, subst, inl, inr}
use Rattle.std.proofs.lemmas.Bool.{cases_lt}
use Rattle.std.proofs.lemmas.List.{append-nil}
use Rattle.ftn_addr.proofs.CountsGrow.{count_grew-refl, count_grew-then}
use Rattle.hub_core.specs.Hubs.{state_of}
use Rattle.inbound_files.specs.Giving.{KeepsReceived, StillHas}
use Rattle.inbound_files.proofs.Kept.{still_same, still_then}
use Rattle.node_model.specs.Durable.{Durable}
use Rattle.node_model.specs.Receipts.{InboxStays, OnceEach}
use Rattle.node_model.specs.StoreStates.{IfTold, Shelf, Stored, StoreStand, shelf_of}
use Rattle.node_model.specs.Stores.{OpensShelf, TellsOn}
use Rattle.node_model.proofs.Lists.{some_inj}
use Rattle.node_model.proofs.ReceiptsStay.{stays_same}
use Rattle.outbound_store.specs.GoesOn.{GoesOn, SameReceived}
use Rattle.binkp_serve.specs.Rests.{StaysReceived, StillTold}

-- What holds of the durable state of one shelf holds of another of the same.
pub same_state : (P : Durable → Type 0) (e o : Option Shelf) → option_map state_of e ≡ option_map state_of o → OpensShelf (λ s. P s.state) o → OpensShelf (λ s. P s.state) e
same_state P None None is opens = absurd opens
same_state P None (Some x) is opens = absurd (let clash : None ≡ Some x.state = is in cc)
same_state P (Some y) None is opens = absurd opens
same_state P (Some y) (Some x) is opens = subst P (sym (some_inj is)) opens

-- what is left since has what was received
abbrev pub Since : StoreStand → StoreStand → Stored → Type 0
Since old new a = (k : ℕ) (e : Option Shelf) → old.moment < k → k ≤ new.moment → new.images k e → OpensShelf (λ s. StillHas a.stock.state s.state) e

-- No call.

pub told_none : (c : Option Stored) → StillTold c c
told_none None = tt
told_none (Some a) = still_same a.stock.state a.stock.state refl

since_none : (s : StoreStand) (c : Option Stored) → IfTold c (Since s s)
since_none s None = tt
since_none s (Some a) = λ k e after until image. let never : ⊥ = omega (arith, after, until) in absurd never

pub stays_none : (s : StoreStand) → StaysReceived s s
stays_none s = record {
  told = told_none s.state.content;
  later = omega arith;
  before = λ k e within image. (e, image, refl);
  since = since_none s s.state.content;
  faults = count_grew-refl s.state.counts.faults;
}

-- One behind another.

told_then : (a b c : Option Stored) → StillTold a b → StillTold b c → StillTold a c
told_then None b c first second = tt
told_then (Some a) None c first second = absurd first
told_then (Some a) (Some b) None first second = absurd second
told_then (Some a) (Some b) (Some c) first second = still_then a.stock.state b.stock.state c.stock.state first second

then_opens : (a b : Durable) (e : Option Shelf) → StillHas a b → OpensShelf (λ s. StillHas b s.state) e → OpensShelf (λ s. StillHas a s.state) e
then_opens a b None still opens = absurd opens
then_opens a b (Some s) still opens = still_then a b s.state still opens

abbrev Before : StoreStand → StoreStand → Type 0
Before old new = (k : ℕ) (e : Option Shelf) → k ≤ old.moment → new.images k e → (o : Option Shelf) × old.images k o × (option_map state_of e ≡ option_map state_of o)

since_then : (s t u : StoreStand) (c e : Option Stored) → StillTold c e → Before t u → IfTold c (Since s t) → IfTold e (Since t u) → IfTold c (Since s u)
since_then s t u None e told before first second = tt
since_then s t u (Some a) None told before first second = absurd told
since_then s t u (Some a) (Some b) told before first second = λ k e after until image. elim (cases_lt t.moment k) as (λ _. OpensShelf (λ x. StillHas a.stock.state x.state) e) [
  | inl later ↦ then_opens a.stock.state b.stock.state e told (second k e later until image)
  | inr earlier ↦ let mid = before k e earlier image in same_state (StillHas a.stock.state) e mid.0 mid.2 (first k mid.0 after earlier mid.1)
]

before_then : (s t u : StoreStand) → s.moment ≤ t.moment → Before s t → Before t u → Before s u
before_then s t u later first second k e within image =
    let mid = second k e (omega (arith, later, within)) image in
    let old = first k mid.0 within mid.1 in
    (old.0, old.1, mid.2 ∙ old.2)

pub later_then : (a b c : ℕ) → a ≤ b → b ≤ c → a ≤ c
later_then a b c first second = omega (arith, first, second)

pub stays_then : (s t u : StoreStand) → StaysReceived s t → StaysReceived t u → StaysReceived s u
stays_then s t u first second = record {
  told = told_then s.state.content t.state.content u.state.content first.told second.told;
  later = later_then s.moment t.moment u.moment first.later second.later;
  before = before_then s t u first.later first.before second.before;
  since = since_then s t u s.state.content t.state.content first.told second.before first.since second.since;
  faults = count_grew-then s.state.counts.faults t.state.counts.faults u.state.counts.faults first.faults second.faults;
}

-- A round of giving.

told_kept : (c e : Option Stored) → TellsOn (λ a b. StillHas a.stock.state b.stock.state) c e → StillTold c e
told_kept None e told = tt
told_kept (Some a) None told = absurd told
told_kept (Some a) (Some b) told = told

pub stays_kept : (s t : StoreStand) → KeepsReceived s t → StaysReceived s t
stays_kept s t kept = record {
  told = told_kept s.state.content t.state.content kept.told;
  later = kept.later;
  before = λ k e within image. (e, kept.before k e within image, refl);
  since = kept.since;
  faults = kept.faults;
}

-- The calls of a take-in.

still_by : (a b : Shelf) → SameReceived a b → StillHas a.state b.state
still_by a b same = record {
  stays = record { received = subst (InboxStays a.state.inbox) (sym same.inbox) (stays_same a.state a.state refl).received; refused = ([], same.refused ∙ sym (append-nil a.state.refused)) };
  once = λ before. subst OnceEach (sym same.inbox) before;
}

told_going : (c e : Option Stored) → TellsOn (λ a b. SameReceived (shelf_of a) (shelf_of b)) c e → StillTold c e
told_going None e told = tt
told_going (Some a) None told = absurd told
told_going (Some a) (Some b) told = still_by (shelf_of a) (shelf_of b) told

opens_going : (a : Stored) (e : Option Shelf) → OpensShelf (λ x. SameReceived (shelf_of a) x) e → OpensShelf (λ s. StillHas a.stock.state s.state) e
opens_going a None opens = absurd opens
opens_going a (Some x) opens = still_by (shelf_of a) x opens

since_going : (s t : StoreStand) (c : Option Stored) → ((k : ℕ) (d : Option Shelf) → s.moment < k → k ≤ t.moment → t.images k d → IfTold c (λ a. OpensShelf (λ x. SameReceived (shelf_of a) x) d)) → IfTold c (Since s t)
since_going s t None since = tt
since_going s t (Some a) since = λ k e after until image. opens_going a e (since k e after until image)

pub stays_going : (s t : StoreStand) → GoesOn s t → StaysReceived s t
stays_going s t goes = record {
  told = told_going s.state.content t.state.content goes.tells;
  later = goes.moments.later;
  before = λ k e within image. (e, goes.moments.before k e within image, refl);
  since = since_going s t s.state.content goes.since;
  faults = goes.counts.faults;
}
