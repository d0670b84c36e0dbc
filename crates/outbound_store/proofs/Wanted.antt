-- Calls that are refused, since something was wanted before: nothing is done.
use Rattle.std.proofs.Common.{◌≡◌, Option, Some, None, option_map, Err, refl, sym, subst}
use Rattle.node_model.specs.declared.store.StoreFault.{StoreFault}
use Rattle.node_model.proofs.Lists.{none_some, some_inj}
use Rattle.outbound_model.specs.Outbound.{Outbound}
use Rattle.outbound_take.specs.Stand.{Breaks, Kept, Same, SettledBy, TakeStand, Tried}
use Rattle.take_steps.specs.Steps.{fault_of}
use Rattle.take_steps.specs.declared.wanting.Wanting.{Wanting}
use Rattle.take_steps.specs.declared.wanting.Wanting.TheVariants.{Places, Memory}

-- it is refused with the fault of what was wanted
pub wanted : (w : Option Wanting) (fault : StoreFault) → Some fault ≡ option_map fault_of w → (want : Wanting) × (fault_of want ≡ fault)
wanted None fault is = none_some (sym is)
wanted (Some want) fault is = (want, some_inj (sym is))

pub none_wanted : (w : Option Wanting) → None ≡ option_map fault_of w → w ≡ None
none_wanted None is = refl
none_wanted (Some want) is = none_some is

tried_none : {T : Type 0} (want : Wanting) (step : T → Outbound → Outbound → Type 0) (a b : TakeStand) → Kept Same (SettledBy (fault_of want)) a b → Kept (Tried (Err (fault_of want)) step) (SettledBy (fault_of want)) a b
tried_none Places step a b kept = kept
tried_none Memory step a b kept = kept

pub wanted_kept : {T : Type 0} (w : Option Wanting) (fault : StoreFault) → Some fault ≡ option_map fault_of w → (step : T → Outbound → Outbound → Type 0) (a b : TakeStand) → ((settles : Type 0) → Kept Same settles a b) → Kept (Tried (Err fault) step) (SettledBy fault) a b
wanted_kept w fault is step a b kept =
    let want = wanted w fault is in
    subst (λ (f : StoreFault). Kept (Tried (Err f) step) (SettledBy f) a b) want.1 (tried_none want.0 step a b (kept (SettledBy (fault_of want.0))))

breaks_none : (want : Wanting) (s : TakeStand) → Breaks {T = Unit {0}} (Err (fault_of want)) s
breaks_none Places s = tt
breaks_none Memory s = tt

pub wanted_breaks : (w : Option Wanting) (fault : StoreFault) → Some fault ≡ option_map fault_of w → (s : TakeStand) → Breaks {T = Unit {0}} (Err fault) s
wanted_breaks w fault is s =
    let want = wanted w fault is in
    subst (λ (f : StoreFault). Breaks {T = Unit {0}} (Err f) s) want.1 (breaks_none want.0 s)
