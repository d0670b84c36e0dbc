-- A hub that fits what its store keeps, or may keep, makes a step of its node: then its desk's call is told so, whether the
-- store tells or not.
use Rattle.std.proofs.Common.{◌≡◌, ℕ, ◌<◌, Option, Some, None, length, option_map, sym, ◌∙◌, ap, subst}
use Rattle.node_model.specs.Calls.{Call, Answer, NodeStep, KnownStep, SeatCounted, SeatCounts, Passes}
use Rattle.node_model.specs.Stores.{Shelf, Stored, StoreState, StoreStand, IfTold, IsShelf}
use Rattle.hub_core.specs.Hubs.{HubState, HubFits, Fitted, IsReady, chair_in, node_with, knows_over, IsSettled}
use Rattle.hub_core.specs.HubCalls.{ShelfPasses}

-- what a seat counts, without its node
abbrev pub counted : StoreState → HubState → ℕ → SeatCounts
counted s h seat = record { store = s.counts; busy = (chair_in h.chairs seat).busy; reads = (chair_in h.chairs seat).reads }

-- the hub, over what its store keeps, steps, and goes on to fit it
pub record Stepped (seat : ℕ) (call : Call) (answer : Answer) (s : StoreState) (h : HubState) (a : Stored) (t : StoreState) (g : HubState) : Type 0 where
  pub change : Stored → Stored
  pub content : t.content ≡ option_map change s.content
  pub step : NodeStep seat (node_with a s h) call answer (node_with (change a) t g)
  pub fits : HubFits (change a) t g
  pub counts : SeatCounted (counted s h seat) answer (counted t g seat)

told_on : (f : Stored → Stored) (c e : Option Stored) (a : Stored) → e ≡ option_map f c → IfTold c (λ b. b ≡ a) → IfTold e (λ b. b ≡ f a)
told_on f c e a is told = subst (λ (o : Option Stored). IfTold o (λ b. b ≡ f a)) (sym is) (go c told)
  where
    go : (c : Option Stored) → IfTold c (λ b. b ≡ a) → IfTold (option_map f c) (λ b. b ≡ f a)
    go None told = tt
    go (Some b) told = ap f told

pub stepped_fitted : (seat : ℕ) (call : Call) (answer : Answer) (s : StoreState) (h : HubState) (f : Fitted s h) (t : StoreState) (g : HubState) → Stepped seat call answer s h f.keeps t g → Fitted t g
stepped_fitted seat call answer s h f t g x =
    record { keeps = x.change f.keeps; tells = told_on x.change s.content t.content f.keeps x.content f.tells; fits = x.fits }

pub stepped_known : (seat : ℕ) (call : Call) (answer : Answer) (s : StoreState) (h : HubState) (f : Fitted s h) (t : StoreState) (g : HubState) → Stepped seat call answer s h f.keeps t g → KnownStep seat (knows_over s.content s h seat) call answer (knows_over t.content t g seat)
stepped_known seat call answer s h f t g x =
    subst (λ (o : Option Stored). KnownStep seat (knows_over s.content s h seat) call answer (knows_over o t g seat)) (sym x.content) (go s.content f.tells)
  where
    go : (c : Option Stored) → IfTold c (λ b. b ≡ f.keeps) → KnownStep seat (knows_over c s h seat) call answer (knows_over (option_map x.change c) t g seat)
    go None told = x.counts
    go (Some b) told = subst (λ (z : Stored). NodeStep seat (node_with z s h) call answer (node_with (x.change z) t g)) (sym told) x.step

-- a state that the call passes, among those of the store's shelves
pub passes_by : (c : Option Stored) (f : Stored → Stored) (s : StoreState) (h : HubState) (seat : ℕ) (call : Call) (a : Stored) (d : Shelf) → IfTold c (λ b. b ≡ a) → Passes seat (node_with a s h) call (f a).stock.state → IsShelf (option_map f c) d → ShelfPasses c s h seat call d
passes_by None f s h seat call a d told p is = is
passes_by (Some b) f s h seat call a d told p is =
    subst (λ (z : Stored). Passes seat (node_with z s h) call d.state) (sym told)
    (subst (λ q. Passes seat (node_with a s h) call q) (sym (ap (λ (e : Shelf). e.state) is ∙ ap (λ (z : Stored). (f z).stock.state) told)) p)

pub shelf_itself : (c : Option Stored) (d : Shelf) → IsShelf c d → IsShelf (option_map (λ (a : Stored). a) c) d
shelf_itself None d is = is
shelf_itself (Some a) d is = is

-- what holds between two calls, after one
pub ready_after : (u v : StoreStand) (h g : HubState) (seat : ℕ) → seat < length g.chairs → (v.state.counts.broken ≡ None → Fitted v.state g) → (v.state.counts.broken ≡ None → IsSettled v) → IsReady v g seat
ready_after u v h g seat given f settled = record { given = given; fitted = f; settled = settled }
