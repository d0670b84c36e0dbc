-- The question for which addresses something is to be taken in, and what ends a round that finds none.
use Rattle.std.proofs.Common.{◌≡◌, true, Option, None, Result, Ok, Err, ◌∙◌, ap, subst, sym}
use Rattle.node_model.specs.StoreStates.{StoreStand, StoreState}
use Rattle.node_model.specs.declared.store.StoreFault.{StoreFault}
use Rattle.node_model.specs.declared.store.StoreFault.TheVariants as SF
use Rattle.node_store.specs.Asking.{Asks}
use Rattle.outbound_store.proofs.GoesOnCalls.{asks_go_on}
use Rattle.outbound_store.proofs.StepCalls.{asks_quiet}
use Rattle.outbound_store.specs.Calls.{CallOf}
use Rattle.take_steps.specs.Steps.{Broke_quietly, Stayed, StepFrom, StoreStep}
use Rattle.take_steps.specs.declared.wanting.Wanting.{Wanting}

-- the same question, with its answer in other words
pub asks_so : {T U : Type 0} (x : T) (y : U) (a b : StoreStand) → Asks true (Ok x) a b → Asks true (Ok y) a b
asks_so x y a b asks = record { made = asks.made; grew = asks.grew; since = asks.since }

pub asks_refused : {T U : Type 0} (fault : StoreFault) (a b : StoreStand) → Asks {T = T} true (Err fault) a b → Asks {T = U} true (Err fault) a b
asks_refused SF.Disk a b asks = record { made = asks.made; grew = asks.grew; since = asks.since }
asks_refused SF.Read a b asks = absurd asks.made
asks_refused SF.Full a b asks = absurd asks.made
asks_refused SF.NoMemory a b asks = record { made = asks.made; grew = asks.grew; since = asks.since }

-- behind an answer the store is whole
pub asked_whole : (a b : StoreState) → b ≡ a → a.counts.broken ≡ None → b.counts.broken ≡ None
asked_whole a b same whole = ap (λ (s : StoreState). s.counts.broken) same ∙ whole

-- Where nothing is wanted, the question is a quiet step, at which nothing is wanted either.

asks_step : {T : Type 0} (r : Result T StoreFault) (old new : StoreStand) → Asks true r old new → StoreStep old new None
asks_step (Ok x) old new asks = Stayed (asks_quiet true (Ok x) old new asks) (ap (λ (s : StoreState). s.counts) asks.made)
asks_step (Err SF.Disk) old new asks = let made = asks.made in Broke_quietly (asks_quiet true (Err SF.Disk) old new asks) (record { rose = made.rose; is = ap (λ (s : StoreState). s.counts) made.same })
asks_step (Err SF.Read) old new asks = absurd asks.made
asks_step (Err SF.Full) old new asks = absurd asks.made
asks_step (Err SF.NoMemory) old new asks = let made = asks.made in Stayed (asks_quiet true (Err SF.NoMemory) old new asks) (ap (λ (s : StoreState). s.counts) made.1)

pub asks_call : {T : Type 0} (r : Result T StoreFault) (old new : StoreStand) (was : Option Wanting) → was ≡ None → old.state.counts.broken ≡ None → Asks true r old new → CallOf old was new was
asks_call r old new was none whole asks = record {
  goes_on = asks_go_on true r old new asks;
  stepped = record { whole = whole; step = subst (λ (w : Option Wanting). StepFrom w old new w) (sym none) (asks_step r old new asks) };
}
