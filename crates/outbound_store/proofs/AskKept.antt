-- Calls that only ask the disk of a store.
use Rattle.std.proofs.Common.{◌≡◌, inl, inr, ℕ, ◌≤◌, Bool, true, Option, None, Result, Ok, Err, refl, sym, ◌∙◌, ap, subst, arith, le_refl}
use Rattle.std.specs.Prelude.{count_by}
use Rattle.std.proofs.lemmas.Bool.{cases_lt}
use Rattle.ftn_addr.proofs.MomentsGrow.{moments_grew-refl, moments_grew-then}
use Rattle.node_model.specs.declared.store.StoreFault.{StoreFault}
use Rattle.node_model.specs.declared.store.StoreFault.TheVariants.{Disk, Read, Full, NoMemory}
use Rattle.node_model.specs.SendRows.{waits_for_action}
use Rattle.node_model.specs.StoreStates.{Shelf, Stored, StoreState, StoreStand}
use Rattle.node_model.specs.Stores.{IsShelf, OpensShelf}
use Rattle.node_store.specs.Asking.{AskedSo, Asks}
use Rattle.node_store.specs.Takes.{Takes}
use Rattle.outbound_model.specs.Outbound.{outbound_of}
use Rattle.outbound_take.specs.Calls.{IsLike}
use Rattle.outbound_take.specs.Stand.{Same, Settles}
use Rattle.outbound_store.specs.Held.{drawn_as, left_in, seen_with}
use Rattle.outbound_store.proofs.SeenKept.{Changes, changes_same, keeps_same, out_of, shelf_told, told_opens}

-- what a question leaves as it was
pub asked_content : {T : Type 0} (memory : Bool) (r : Result T StoreFault) (a b : StoreState) → AskedSo memory r a b → b.content ≡ a.content
asked_content memory (Ok x) a b made = ap (λ (s : StoreState). s.content) made
asked_content memory (Err Disk) a b made = ap (λ (s : StoreState). s.content) made.same
asked_content memory (Err Read) a b made = absurd made
asked_content memory (Err Full) a b made = absurd made
asked_content memory (Err NoMemory) a b made = ap (λ (s : StoreState). s.content) made.1

pub asked_state : {T : Type 0} (memory : Bool) (r : Result T StoreFault) (a b : StoreState) → AskedSo memory r a b → Settles r → b ≡ a
asked_state memory (Ok x) a b made settled = made
asked_state memory (Err Disk) a b made settled = absurd settled
asked_state memory (Err Read) a b made settled = absurd made
asked_state memory (Err Full) a b made settled = absurd made
asked_state memory (Err NoMemory) a b made settled = made.1

pub asks_kept : {T : Type 0} (memory : Bool) (r : Result T StoreFault) (settles : Type 0) (old new : StoreStand) → Asks memory r old new → Changes Same settles old new
asks_kept memory r settles old new asks =
    changes_same settles old new asks.grew.later asks.grew.before (keeps_same old.state.content new.state.content same)
    (λ k d after until image. told_opens old.state.content (IsShelf old.state.content) (λ a x. outbound_of x ≡ out_of a) (shelf_told old.state.content) d (asks.since k d (omega (arith, after)) until image))
    (λ s d image. subst (λ (o : Option Stored). OpensShelf (IsShelf o) d) (sym same) (asks.since new.moment d asks.grew.later (le_refl new.moment) image))
  where
    same : new.state.content ≡ old.state.content
    same = asked_content memory r old.state new.state asks.made

-- In memory.

pub like_with : (old new : StoreStand) (t u : Takes) → old.state.counts.broken ≡ None → new.state.counts.broken ≡ None → count_by waits_for_action new.state.stock.state.queue ≡ count_by waits_for_action old.state.stock.state.queue → u ≡ t → IsLike (seen_with old t).memory (seen_with new u).memory
like_with old new t u whole still actions same = record {
  left = λ i. left_in ((still ∙ sym whole) i) (same i).left;
  drawn = ap (λ (x : Takes). drawn_as x.drawn x.last) same;
  undone = actions;
  broken = still;
}

pub like_same : (old new : StoreStand) (t u : Takes) → old.state.counts.broken ≡ None → new.state ≡ old.state → u ≡ t → IsLike (seen_with old t).memory (seen_with new u).memory
like_same old new t u whole same takes =
    like_with old new t u whole (ap (λ (s : StoreState). s.counts.broken) same ∙ whole) (ap (λ (s : StoreState). count_by waits_for_action s.stock.state.queue) same) takes

pub asks_like : {T : Type 0} (memory : Bool) (r : Result T StoreFault) (old new : StoreStand) (t u : Takes) → Asks memory r old new → Settles r → old.state.counts.broken ≡ None → u ≡ t → IsLike (seen_with old t).memory (seen_with new u).memory
asks_like memory r old new t u asks settled whole takes = like_same old new t u whole (asked_state memory r old.state new.state asks.made settled) takes

-- Questions one after another.

-- before the first
pub asks_none : {T : Type 0} (x : T) (a : StoreStand) → ((d : Option Shelf) → a.images a.moment d → OpensShelf (IsShelf a.state.content) d) → Asks true (Ok x) a a
asks_none x a now = record {
  made = refl;
  grew = moments_grew-refl a.moment a.images;
  since = λ k d from to image. let same : k ≡ a.moment = omega (arith, from, to) in now d (subst (λ (n : ℕ). a.images n d) same image);
}

since_both : {T U : Type 0} (x : T) (memory : Bool) (r : Result U StoreFault) (a b c : StoreStand) → Asks true (Ok x) a b → Asks memory r b c → (k : ℕ) (d : Option Shelf) → a.moment ≤ k → k ≤ c.moment → c.images k d → OpensShelf (IsShelf a.state.content) d
since_both x memory r a b c one two k d from to image = elim (cases_lt k b.moment) as (λ _. OpensShelf (IsShelf a.state.content) d) [
  | inl earlier ↦ one.since k d from (omega (arith, earlier)) (two.grew.before k d (omega (arith, earlier)) image)
  | inr later ↦ subst (λ (s : StoreState). OpensShelf (IsShelf s.content) d) one.made (two.since k d (omega (arith, later)) to image)
]

pub asks_then : {T U V : Type 0} (x : T) (y : U) (z : V) (memory : Bool) (a b c : StoreStand) → Asks true (Ok x) a b → Asks memory (Ok y) b c → Asks true (Ok z) a c
asks_then x y z memory a b c one two = record {
  made = two.made ∙ one.made;
  grew = moments_grew-then a.moment a.images b.moment b.images c.moment c.images one.grew two.grew;
  since = since_both x memory (Ok y) a b c one two;
}

-- no memory for the answer
pub asks_unfit : {T U : Type 0} (x : T) (a b : StoreStand) → Asks true (Ok x) a b → Asks {T = U} true (Err NoMemory) a b
asks_unfit x a b one = record { made = (refl, one.made); grew = one.grew; since = one.since }

pub asks_failed : {T U V : Type 0} (x : T) (fault : StoreFault) (memory : Bool) (a b c : StoreStand) → Asks true (Ok x) a b → Asks {T = U} memory (Err fault) b c → Asks {T = V} true (Err fault) a c
asks_failed {T} {U} {V} x fault memory a b c one two = record {
  made = made fault two.made;
  grew = moments_grew-then a.moment a.images b.moment b.images c.moment c.images one.grew two.grew;
  since = since_both x memory (Err fault) a b c one two;
}
  where
    made : (fault : StoreFault) → AskedSo {T = U} memory (Err fault) b.state c.state → AskedSo {T = V} true (Err fault) a.state c.state
    made Disk h = subst (λ (s : StoreState). AskedSo {T = V} true (Err Disk) s c.state) one.made (record { rose = h.rose; same = h.same })
    made Read h = absurd h
    made Full h = absurd h
    made NoMemory h = (refl, h.1 ∙ one.made)
