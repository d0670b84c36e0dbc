-- What a store received stays along its calls, one behind another.
use Rattle.std.proofs.Common.{◌≡◌, ◌⊎◌, inl, inr, Option, Some, None, refl, sym, ◌∙◌, subst, arith}
use Rattle.std.proofs.lemmas.Bool.{cases_lt}
use Rattle.ftn_addr.specs.Counts.{CountGrew}
use Rattle.ftn_addr.proofs.CountsGrow.{count_grew-refl, count_grew-then, increased-then, then-increased}
use Rattle.ftn_addr.proofs.MomentsGrow.{moments_grew-refl, moments_grew-then}
use Rattle.node_model.specs.Calls.{Counts}
use Rattle.node_model.specs.StoreStates.{IfTold, Shelf, Stored, StoreState, StoreStand, shelf_of}
use Rattle.node_model.specs.Stores.{IsShelf, OpensShelf, TellsOn}
use Rattle.outbound_take.specs.Ruled.{Ruled}
use Rattle.outbound_take.proofs.RuledLemmas.{ruled_all}
use Rattle.take_steps.specs.declared.wanting.Wanting.{Wanting}
use Rattle.outbound_store.specs.Calls.{CallOf}
use Rattle.outbound_store.specs.GoesOn.{BrokeSince, CountsGoOn, GoesOn, SameReceived}

abbrev pub Same_in : Stored → Shelf → Type 0
Same_in a x = SameReceived (shelf_of a) x

abbrev pub SameTold : Option Stored → Option Stored → Type 0
SameTold o n = TellsOn (λ a b. SameReceived (shelf_of a) (shelf_of b)) o n

-- No call.

pub same_none : (s : Shelf) → SameReceived s s
same_none s = record { inbox = refl; refused = refl; marks = refl; gifts = refl }

pub counts_stay : (a b : Counts) → b.faults ≡ a.faults → b.broken ≡ a.broken → CountsGoOn a b
counts_stay a b faults broken = record { faults = subst (CountGrew a.faults) (sym faults) (count_grew-refl a.faults); broken = inl broken }

pub told_same : (o n : Option Stored) → n ≡ o → SameTold o n
told_same o n same = subst (SameTold o) (sym same) (go o)
  where
    go : (o : Option Stored) → SameTold o o
    go None = tt
    go (Some a) = same_none (shelf_of a)

pub shelf_same : (o : Option Stored) (x : Shelf) → IsShelf o x → IfTold o (λ a. Same_in a x)
shelf_same None x is = tt
shelf_same (Some a) x is = subst (SameReceived (shelf_of a)) (sym is) (same_none (shelf_of a))

-- where no moment passed
pub unmoved_goes_on : (old : StoreStand) (state : StoreState) → state.content ≡ old.state.content → CountsGoOn old.state.counts state.counts → GoesOn old (record old { state = state })
unmoved_goes_on old state content counts = record {
  moments = moments_grew-refl old.moment old.images;
  counts = counts;
  tells = told_same old.state.content state.content content;
  since = λ k d after until image. let never : ⊥ = omega (arith, after, until) in absurd never;
}

pub goes_on_none : (s : StoreStand) → GoesOn s s
goes_on_none s = unmoved_goes_on s s.state refl (counts_stay s.state.counts s.state.counts refl refl)

-- One behind another.

pub same_then : (s t u : Shelf) → SameReceived s t → SameReceived t u → SameReceived s u
same_then s t u first second = record {
  inbox = second.inbox ∙ first.inbox;
  refused = second.refused ∙ first.refused;
  marks = second.marks ∙ first.marks;
  gifts = second.gifts ∙ first.gifts;
}

counts_then : (a b c : Counts) → CountsGoOn a b → CountsGoOn b c → CountsGoOn a c
counts_then a b c first second = record { faults = count_grew-then a.faults b.faults c.faults first.faults second.faults; broken = go first.broken second.broken }
  where
    go : (b.broken ≡ a.broken) ⊎ BrokeSince a b → (c.broken ≡ b.broken) ⊎ BrokeSince b c → (c.broken ≡ a.broken) ⊎ BrokeSince a c
    go (inl same) (inl still) = inl (still ∙ same)
    go (inr broke) (inl still) = inr (record { rose = increased-then a.faults b.faults c.faults broke.rose second.faults; count = broke.count; is = still ∙ broke.is })
    go before (inr broke) = inr (record { rose = then-increased a.faults b.faults c.faults first.faults broke.rose; count = broke.count; is = broke.is })

told_then : (o m n : Option Stored) → SameTold o m → SameTold m n → SameTold o n
told_then None None None first second = tt
told_then None None (Some c) first second = absurd second
told_then None (Some b) n first second = absurd first
told_then (Some a) None n first second = absurd first
told_then (Some a) (Some b) None first second = absurd second
told_then (Some a) (Some b) (Some c) first second = same_then (shelf_of a) (shelf_of b) (shelf_of c) first second

-- what an image opens to is the same as before as well
opens_behind : (o m : Option Stored) (d : Option Shelf) → SameTold o m → IfTold m (λ b. OpensShelf (Same_in b) d) → IfTold o (λ a. OpensShelf (Same_in a) d)
opens_behind None m d first opens = tt
opens_behind (Some a) None d first opens = absurd first
opens_behind (Some a) (Some b) None first opens = absurd opens
opens_behind (Some a) (Some b) (Some x) first opens = same_then (shelf_of a) (shelf_of b) x first opens

pub goes_on_then : (s t u : StoreStand) → GoesOn s t → GoesOn t u → GoesOn s u
goes_on_then s t u first second = record {
  moments = moments_grew-then s.moment s.images t.moment t.images u.moment u.images first.moments second.moments;
  counts = counts_then s.state.counts t.state.counts u.state.counts first.counts second.counts;
  tells = told_then s.state.content t.state.content u.state.content first.tells second.tells;
  since = λ k d after until image. elim (cases_lt t.moment k) as (λ _. IfTold s.state.content (λ a. OpensShelf (Same_in a) d)) [
    | inl later ↦ opens_behind s.state.content t.state.content d first.tells (second.since k d later until image)
    | inr earlier ↦ first.since k d after earlier (second.moments.before k d earlier image)
  ];
}

-- What each call leaves of what a store received, all of them leave.
pub store_goes_on : {T : Type 0} {wanting : T → Option Wanting} (stand : T → StoreStand) (old new : T) → Ruled (λ s t. CallOf (stand s) (wanting s) (stand t) (wanting t)) old new → GoesOn (stand old) (stand new)
store_goes_on {T} {wanting} stand old new calls =
    ruled_all (λ (s : T) (t : T). CallOf (stand s) (wanting s) (stand t) (wanting t)) (λ (s : T) (t : T). GoesOn (stand s) (stand t)) (λ s. goes_on_none (stand s)) (λ s t u first second. goes_on_then (stand s) (stand t) (stand u) first second) (λ s t call. call.goes_on) old new calls
