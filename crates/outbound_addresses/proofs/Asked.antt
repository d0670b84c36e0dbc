-- Questions to a store, one after another.
use Rattle.std.proofs.Common.{true, false, Result, Ok, Err, refl, subst, inl, inr, arith}
use Rattle.std.proofs.lemmas.Bool.{cases_lt}
use Rattle.ftn_addr.proofs.MomentsGrow.{moments_grew-refl, moments_grew-then}
use Rattle.node_model.specs.declared.store.StoreFault.{StoreFault}
use Rattle.node_model.specs.declared.store.StoreFault.TheVariants.{Disk, Read, Full, NoMemory}
use Rattle.node_model.specs.StoreStates.{StoreStand, StoreState}
use Rattle.node_model.specs.Stores.{IsShelf, OpensShelf}
use Rattle.node_store.specs.Asking.{AskedSo, Asks}
use Rattle.outbound_addresses.specs.Asking.{AsksLater}

-- one question
pub one_asked : {T : Type 0} (r : Result T StoreFault) (a b : StoreStand) → Asks true r a b → AsksLater r a b
one_asked r a b asked = record { made = asked.made; grew = asked.grew; since = λ k d from to left. asked.since k d (omega (arith, from)) to left }

-- none
pub none_asked : {T : Type 0} (x : T) (a : StoreStand) → AsksLater (Ok x) a a
none_asked x a = record { made = refl; grew = moments_grew-refl a.moment a.images; since = λ k d from to left. absurd (omega (arith, from, to)) }

pub no_memory : {T : Type 0} (a : StoreStand) → AsksLater {T = T} (Err NoMemory) a a
no_memory a = record { made = (refl, refl); grew = moments_grew-refl a.moment a.images; since = λ k d from to left. absurd (omega (arith, from, to)) }

-- and then more
pub and_then : {T U : Type 0} (x : T) (r : Result U StoreFault) (a b c : StoreStand) → AsksLater (Ok x) a b → AsksLater r b c → AsksLater r a c
and_then x r a b c one two = record {
  made = subst (λ (s : StoreState). AskedSo true r s c.state) one.made two.made;
  grew = moments_grew-then a.moment a.images b.moment b.images c.moment c.images one.grew two.grew;
  since = λ k d from to left. elim (cases_lt b.moment k) as (λ _. OpensShelf (IsShelf a.state.content) d) [
    | inl later ↦ subst (λ (s : StoreState). OpensShelf (IsShelf s.content) d) one.made (two.since k d later to left)
    | inr earlier ↦ one.since k d from (omega (arith, earlier)) (two.grew.before k d (omega (arith, earlier)) left)
  ];
}

-- the same with another answer
pub answered : {T U : Type 0} (x : T) (y : U) (a b : StoreStand) → AsksLater (Ok x) a b → AsksLater (Ok y) a b
answered x y a b asked = record { made = asked.made; grew = asked.grew; since = asked.since }

pub refused : {T U : Type 0} (f : StoreFault) (a b : StoreStand) → AsksLater {T = T} (Err f) a b → AsksLater {T = U} (Err f) a b
refused Disk a b asked = record { made = asked.made; grew = asked.grew; since = asked.since }
refused Read a b asked = record { made = asked.made; grew = asked.grew; since = asked.since }
refused Full a b asked = record { made = asked.made; grew = asked.grew; since = asked.since }
refused NoMemory a b asked = record { made = asked.made; grew = asked.grew; since = asked.since }

-- a look takes no memory
pub looked : {T U : Type 0} (x : T) (y : U) (a b : StoreStand) → Asks false (Ok x) a b → AsksLater (Ok y) a b
looked x y a b asked = record { made = asked.made; grew = asked.grew; since = λ k d from to left. asked.since k d (omega (arith, from)) to left }

pub look_failed : {T U : Type 0} (f : StoreFault) (a b : StoreStand) → Asks {T = T} false (Err f) a b → AsksLater {T = U} (Err f) a b
look_failed Disk a b asked = record { made = asked.made; grew = asked.grew; since = λ k d from to left. asked.since k d (omega (arith, from)) to left }
look_failed Read a b asked = absurd asked.made
look_failed Full a b asked = absurd asked.made
look_failed NoMemory a b asked = record { made = (refl, asked.made.1); grew = asked.grew; since = λ k d from to left. asked.since k d (omega (arith, from)) to left }
