-- What a stop leaves from the moment of the opening on.
use Rattle.std.proofs.Common.{◌≡◌, ℕ, Bool, true, false, Option, Some, Result, refl, sym, subst, inl, inr, arith}
use Rattle.std.proofs.lemmas.Bool.{cases_lt}
use Rattle.disk_model.specs.Changes.{Every}
use Rattle.disk_model.specs.Moments.{Now}
use Rattle.disk_model.specs.World.{World}
use Rattle.node_model.specs.declared.store.StoreFault.{StoreFault}
use Rattle.node_model.specs.StoreStates.{Shelf, StoreStand, shelf_of}
use Rattle.node_model.specs.Stores.{IsShelf, OpensShelf}
use Rattle.node_model.proofs.Lists.{off}
use Rattle.node_store.specs.Asking.{Asks}
use Rattle.node_store.specs.Stored.{Holding, left_of, stand_of, stored_in}
use Rattle.node_store.specs.Worlds.{OpensAs}
use Rattle.node_store.proofs.Openings.{opens_to}
use Rattle.outbound_addresses.specs.Asking.{AsksLater}

-- what a stop leaves now is what the store keeps
pub opens_now : {D : Type 0} (tells : Bool) (content : D → World) (faults moment : D → ℕ) (images : D → ℕ → World → Type 0) (s : Holding D)
    → (tells ≡ true → Every (Now moment images s.disk) (λ w. OpensAs w (shelf_of (stored_in (content s.disk) s.memory))))
    → (d : Option Shelf) → left_of tells (images s.disk) (moment s.disk) d → OpensShelf (IsShelf (stand_of tells content faults moment images s).state.content) d
opens_now {D} true content faults moment images s stopped d (t, w, image, opens) =
    opens_to (IsShelf (Some (stored_in (content s.disk) s.memory))) w (shelf_of (stored_in (content s.disk) s.memory)) (stopped refl w image) refl d opens
opens_now {D} false content faults moment images s stopped d (t, w, image, opens) = off (sym t)

-- so a question leaves nothing else, from its first moment on
pub from_start : {T : Type 0} (r : Result T StoreFault) (a b : StoreStand) → ((d : Option Shelf) → a.images a.moment d → OpensShelf (IsShelf a.state.content) d) → AsksLater r a b → Asks true r a b
from_start r a b now asked = record {
  made = asked.made;
  grew = asked.grew;
  since = λ k d from to left. elim (cases_lt a.moment k) as (λ _. OpensShelf (IsShelf a.state.content) d) [
    | inl later ↦ asked.since k d later to left
    | inr earlier ↦
        let same : k ≡ a.moment = omega (arith, from, earlier) in
        now d (subst (λ (n : ℕ). a.images n d) same (asked.grew.before k d earlier left))
  ];
}
