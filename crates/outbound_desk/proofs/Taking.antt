-- The take-in before a session, from the rule of its store.
use Rattle.std.proofs.Common.{◌≡◌, ℕ, true, List, Option, Some, None, Result, Ok, Err, refl, sym, ◌∙◌, ap, subst}
use Rattle.node_model.specs.Calls.{EndsRefused, Event}
use Rattle.node_model.specs.Desks.{fault_of}
use Rattle.node_model.specs.declared.desk.DeskFault.{DeskFault}
use Rattle.node_model.specs.declared.desk.DeskFault.TheVariants as D
use Rattle.node_model.specs.StoreStates.{StoreState, StoreStand}
use Rattle.node_model.specs.Stores.{By_seat, StoreKept, Well}
use Rattle.hub_core.specs.Anew.{LooksAnew}
use Rattle.hub_core.specs.Hubs.{HubState, Fitted}
use Rattle.node_model.specs.declared.store.StoreFault.{StoreFault}
use Rattle.node_model.specs.declared.store.StoreFault.TheVariants as F
use Rattle.node_store.specs.Asking.{AskedSo, Asks}
use Rattle.outbound_store.proofs.StepCalls.{asks_quiet}
use Rattle.outbound_take.specs.Ruled.{Ruled}
use Rattle.outbound_take.proofs.RuledLemmas.{ruled_all}
use Rattle.take_steps.specs.Steps.{Broke_quietly, Quiet, Stayed, Stepped, StoreStep}
use Rattle.take_steps.specs.declared.wanting.Wanting.{Wanting}
use Rattle.take_steps.specs.declared.wanting.Wanting.TheVariants.{Places, Memory}
use Rattle.outbound_desk.specs.Lines.{fault_wanted, Refuses, TakesIn, TakesPeers, WantsSo}
use Rattle.outbound_desk.specs.TakenIn.{AreDrawn, EndsSo, TakenIn, fault_for}
use Rattle.outbound_desk.proofs.Joining.{refused_on, short_of_memory, taken_none, taken_on, taken_then}
use Rattle.outbound_desk.proofs.SeatTurns.{turn_taken}

-- All calls of a take-in, one behind another.
module _ {T : Type 0} (stand : T → StoreStand) (wanted : T → Option Wanting) (rule : T → T → Type 0) (steps : (s t : T) → rule s t → Stepped (stand s) (wanted s) (stand t) (wanted t)) where
  pub took_all : (h : HubState) (seat : ℕ) (base : StoreStand) (old new : T) → LooksAnew h → TakenIn h seat base (stand old) (wanted old) → Ruled rule old new → TakenIn h seat base (stand new) (wanted new)
  took_all h seat base old new anew first calls =
      ruled_all rule (λ (s : T) (t : T). TakenIn h seat base (stand s) (wanted s) → TakenIn h seat base (stand t) (wanted t)) (λ s x. x) (λ s t u f g x. g (f x)) (λ s t call x. taken_then h seat base (stand s) (stand t) (wanted s) (wanted t) anew x (steps s t call)) old new calls first

-- No call, and one behind another.

pub takes_none : (old : StoreStand) → old.state.counts.broken ≡ None → TakesIn old old None
takes_none old whole h anew fitted drawn settled = taken_none h old.state.seat old whole fitted drawn settled refl

pub takes_step : (old new : StoreStand) (now : Option Wanting) → Stepped old None new now → TakesIn old new now
takes_step old new now step h anew fitted drawn settled =
    taken_then h old.state.seat old old new None now anew (taken_none h old.state.seat old step.whole fitted drawn settled refl) step

pub takes_then : (a b c : StoreStand) (now : Option Wanting) → b.state.counts.broken ≡ None → TakesIn a b None → TakesIn b c now → TakesIn a c now
takes_then a b c now whole first second h anew fitted drawn settled =
    let x = first h anew fitted drawn settled in
    let y = subst (λ (k : ℕ). TakenIn h k b c now) x.turn (second h anew (x.fitted whole) (x.drawn whole) (x.settled whole)) in
    taken_on h a.state.seat a b c now whole x y

-- What is asked of the disk.
pub asks_takes : {T : Type 0} (r : Result T StoreFault) (old new : StoreStand) → old.state.counts.broken ≡ None → Asks true r old new → TakesIn old new None
asks_takes {T} r old new whole asks = takes_step old new None (record { whole = whole; step = go r asks.made })
  where
    quiet : Quiet old new
    quiet = asks_quiet true r old new asks

    go : (r : Result T StoreFault) → AskedSo true r old.state new.state → StoreStep old new None
    go (Ok x) made = Stayed quiet (ap (λ (s : StoreState). s.counts) made)
    go (Err F.Disk) made = Broke_quietly quiet (record { rose = made.rose; is = ap (λ (s : StoreState). s.counts) made.same })
    go (Err F.Read) made = absurd made
    go (Err F.Full) made = absurd made
    go (Err F.NoMemory) made = Stayed quiet (ap (λ (s : StoreState). s.counts) made.1)

-- All calls of a take-in, at which nothing was wanted before.
pub takes_ruled : {T : Type 0} (stand : T → StoreStand) (wanted : T → Option Wanting) (rule : T → T → Type 0) (steps : (s t : T) → rule s t → Stepped (stand s) (wanted s) (stand t) (wanted t)) (old new : T) → (stand old).state.counts.broken ≡ None → wanted old ≡ None → Ruled rule old new → TakesIn (stand old) (stand new) (wanted new)
takes_ruled stand wanted rule steps old new whole unwanted calls h anew fitted drawn settled =
    let seat = (stand old).state.seat in
    took_all stand wanted rule steps h seat (stand old) old new anew (subst (λ (w : Option Wanting). TakenIn h seat (stand old) (stand old) w) (sym unwanted) (taken_none h seat (stand old) whole fitted drawn settled refl)) calls

-- The seat takes its turn, and then its peer's outbound in.
pub takes_all : (h : HubState) (seat : ℕ) (u v w : StoreStand) (now : Option Wanting) → LooksAnew h → u.state.counts.broken ≡ None → Fitted u.state h → AreDrawn u.state → StoreKept u (By_seat seat) Well v → TakesIn v w now → TakenIn h seat u w now
takes_all h seat u v w now anew whole fitted drawn turns takes =
    let turn = turn_taken h seat u v anew whole fitted drawn turns in
    let still : v.state.counts.broken ≡ None = ap (λ (s : StoreState). s.counts.broken) turns.made ∙ whole in
    let x = subst (λ (k : ℕ). TakenIn h k v w now) turn.turn (takes h anew (turn.fitted still) (turn.drawn still) (turn.settled still)) in
    taken_on h seat u v w now still turn x

-- What a take-in before a session came to.

pub ends_well : (h : HubState) (seat : ℕ) (u v : StoreStand) (by_calls : Option Wanting) → v.state.counts.broken ≡ None → WantsSo by_calls None → TakenIn h seat u v by_calls → TakesPeers h seat u (Ok tt) v
ends_well h seat u v None whole wants x = (whole, x)
ends_well h seat u v (Some want) whole wants x = absurd (let clash : None ≡ Some want = wants in cc)

pub ends_broken : (h : HubState) (seat : ℕ) (u v : StoreStand) (by_calls : Option Wanting) (count : ℕ) → v.state.counts.broken ≡ Some count → TakenIn h seat u v by_calls → Refuses h seat u (D.Disk count) v
ends_broken h seat u v by_calls count broken x =
    record { now = by_calls; taken = x; refused = subst (λ (o : Option ℕ). EndsSo x.events o by_calls) broken x.ends }

refused_so : (es : List Event) (want : Wanting) → EndsRefused es (fault_for want) → EndsRefused es (fault_of (fault_wanted want))
refused_so es Places ends = ends
refused_so es Memory ends = ends

ends_wanting : (h : HubState) (seat : ℕ) (u v : StoreStand) (want : Wanting) → v.state.counts.broken ≡ None → TakenIn h seat u v (Some want) → Refuses h seat u (fault_wanted want) v
ends_wanting h seat u v want whole x =
    record { now = Some want; taken = x; refused = refused_so x.events want (subst (λ (o : Option ℕ). EndsSo x.events o (Some want)) whole x.ends) }

pub ends_wanted : (h : HubState) (seat : ℕ) (u v : StoreStand) (by_calls : Option Wanting) (want : Wanting) → LooksAnew h → v.state.counts.broken ≡ None → WantsSo by_calls (Some want) → TakenIn h seat u v by_calls → Refuses h seat u (fault_wanted want) v
ends_wanted h seat u v (Some by_calls) want anew whole wants x =
    ends_wanting h seat u v want whole (subst (λ (o : Option Wanting). TakenIn h seat u v o) (sym wants) x)
ends_wanted h seat u v None Places anew whole wants x = absurd wants
ends_wanted h seat u v None Memory anew whole wants x = ends_wanting h seat u v Memory whole (short_of_memory h seat u v anew whole x)

-- Rows one behind another: those before were all made.
pub takes_both : (h : HubState) (seat : ℕ) (u v w : StoreStand) (r : Result (Unit {0}) DeskFault) → TakesPeers h seat u (Ok tt) v → TakesPeers h seat v r w → TakesPeers h seat u r w
takes_both h seat u v w (Ok done) first second = (second.0, taken_on h seat u v w None first.0 first.1 second.1)
takes_both h seat u v w (Err fault) first x =
    record { now = x.now; taken = taken_on h seat u v w x.now first.0 first.1 x.taken; refused = refused_on h seat u v w x.now (fault_of fault) first.0 first.1 x.taken x.refused }
