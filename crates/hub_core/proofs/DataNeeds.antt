-- What the store's calls want for data of a held file.
use Rattle.std.proofs.Common.{◌≡◌, ℕ, ◌-◌, ◌<◌, ◌≤◌, Bool, true, false, Option, Some, sym, ◌∙◌, ap, subst}
use Rattle.node_model.specs.Calls.{More, Whole_now}
use Rattle.node_model.specs.Desks.{DataExact, Fits}
use Rattle.node_model.specs.Talk.{Part}
use Rattle.node_model.specs.Stores.{StoreStand}
use Rattle.hub_core.specs.Hubs.{Taking, Sitting, HubState, with_sitting, sitting_part, taken_part, unless_dropped}
use Rattle.hub_core.specs.HubCalls.{HasTurn}
use Rattle.hub_core.specs.Steps.{Holds, IfHolds}
use Rattle.hub_core.proofs.FileNeeds.{turn_holds}

pub record Taken_of (t : Taking) (n : ℕ) : Type 0 where
  pub taking : t.taking ≡ true
  pub fits : n ≤ t.key.size - t.have

some_same : {A : Type 0} {u v : A} → Some u ≡ Some v → u ≡ v
some_same e = cc

pub fits_taking : (x : Sitting) (t : Taking) (n : ℕ) → x.hold ≡ Some t → Fits (sitting_part (Some x)) n → Taken_of t n
fits_taking x t n holds f = go t.dropped (sym (ap taken_part holds) ∙ f.is)
  where
    go : (b : Bool) → unless_dropped b (record { key = t.key; left = t.key.size - t.have; taking = t.taking }) ≡ Some f.held → Taken_of t n
    go true e = absurd (cc)
    go false e =
        let same = some_same e in
        record { taking = ap (λ (p : Part). p.taking) same ∙ f.taking; fits = subst (λ (m : ℕ). n ≤ m) (sym (ap (λ (p : Part). p.left) same)) f.fits }

pub more_exact : (x : Sitting) (t : Taking) (n : ℕ) → x.hold ≡ Some t → n < t.key.size - t.have → DataExact (sitting_part (Some x)).held n More
more_exact x t n holds short = subst (λ (o : Option Taking). DataExact (taken_part o) n More) (sym holds) (go t.dropped)
  where
    go : (b : Bool) → DataExact (unless_dropped b (record { key = t.key; left = t.key.size - t.have; taking = t.taking })) n More
    go true = tt
    go false = short

pub whole_exact : (x : Sitting) (t : Taking) (n : ℕ) → x.hold ≡ Some t → n ≡ t.key.size - t.have → DataExact (sitting_part (Some x)).held n Whole_now
whole_exact x t n holds all = subst (λ (o : Option Taking). DataExact (taken_part o) n Whole_now) (sym holds) (go t.dropped)
  where
    go : (b : Bool) → DataExact (unless_dropped b (record { key = t.key; left = t.key.size - t.have; taking = t.taking })) n Whole_now
    go true = tt
    go false = all

pub data_holds : (v : StoreStand) (k : HubState) (seat : ℕ) (x : Sitting) (t : Taking) → HasTurn v (with_sitting seat (Some x) k) seat → x.hold ≡ Some t → Holds v.state x.first t
data_holds v k seat x t b holds = subst (λ (o : Option Taking). IfHolds v.state x.first o) holds (turn_holds v k seat x b)
