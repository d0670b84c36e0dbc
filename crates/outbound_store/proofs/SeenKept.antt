-- What a call of a store does to what it keeps, and to what a stop leaves of that, is so for a take-in.
use Rattle.std.proofs.Common.{◌≡◌, ◌⊎◌, inl, ℕ, ◌<◌, ◌≤◌, List, Option, Some, None, option_map, refl, sym, ◌∙◌, ap, subst}
use Rattle.node_model.specs.StoreStates.{IfTold, Shelf, Stored, StoreStand, shelf_of}
use Rattle.node_model.specs.Stores.{IsShelf, OpensShelf, TellsOn}
use Rattle.node_model.proofs.Lists.{some_inj, none_some}
use Rattle.outbound_model.specs.Outbound.{Outbound, outbound_of}
use Rattle.outbound_take.specs.Stand.{IsCalm, Kept, Left, OpensTo, Same, outbound_in}
use Rattle.outbound_store.specs.Seen.{content_of, seen}

abbrev pub out_of : Stored → Outbound
out_of a = outbound_of (shelf_of a)

abbrev pub out_in : Option Stored → Option Outbound
out_in o = option_map outbound_in (option_map content_of o)

-- it is as it was, or such a step was made
abbrev pub StepAt : (Outbound → Outbound → Type 0) → Outbound → Outbound → Type 0
StepAt R s x = (x ≡ s) ⊎ R s x

-- One change of what a store keeps, which happens wholly or not at all, and was made where the call settles.
pub record Changes (R : Outbound → Outbound → Type 0) (settles : Type 0) (old new : StoreStand) : Type 0 where
  pub later : old.moment ≤ new.moment
  pub before : (k : ℕ) (d : Option Shelf) → k ≤ old.moment → new.images k d → old.images k d
  pub tells : TellsOn (λ a b. StepAt R (out_of a) (out_of b)) old.state.content new.state.content
  pub since : (k : ℕ) (d : Option Shelf) → old.moment < k → k ≤ new.moment → new.images k d → IfTold old.state.content (λ a. OpensShelf (λ x. StepAt R (out_of a) (outbound_of x)) d)
  pub ends : settles → TellsOn (λ a b. R (out_of a) (out_of b)) old.state.content new.state.content
  pub now : settles → (d : Option Shelf) → new.images new.moment d → OpensShelf (IsShelf new.state.content) d

-- an image that opens so
opens : (P : Shelf → Type 0) (Q : Outbound → Type 0) → ((x : Shelf) → P x → Q (outbound_of x)) → (x : Option Shelf) → OpensShelf P x → (d : Option Outbound) → d ≡ option_map outbound_of x → OpensTo Q d
opens P Q leads None shut d is = absurd shut
opens P Q leads (Some x) p d is = subst (OpensTo Q) (sym is) (leads x p)

silent : (P : Stored → Stored → Type 0) (o n : Option Stored) → TellsOn P o n → out_in o ≡ None → out_in n ≡ None
silent P None None t is = refl
silent P None (Some b) t is = absurd t
silent P (Some a) n t is = none_some (sym is)

tells : (R : Outbound → Outbound → Type 0) (o n : Option Stored) → TellsOn (λ a b. StepAt R (out_of a) (out_of b)) o n → (s : Outbound) → out_in o ≡ Some s → (t : Outbound) × (out_in n ≡ Some t) × ((t ≡ s) ⊎ R s t)
tells R None n t s is = none_some is
tells R (Some a) None t s is = absurd t
tells R (Some a) (Some b) t s is = (out_of b, refl, subst (λ (x : Outbound). StepAt R x (out_of b)) (some_inj is) t)

ends : (R : Outbound → Outbound → Type 0) (o n : Option Stored) → TellsOn (λ a b. R (out_of a) (out_of b)) o n → (s t : Outbound) → out_in o ≡ Some s → out_in n ≡ Some t → R s t
ends R None n h s t is at = none_some is
ends R (Some a) None h s t is at = absurd h
ends R (Some a) (Some b) h s t is at =
    subst (λ (x : Outbound). R x t) (some_inj is) (subst (R (out_of a)) (some_inj at) h)

since : (R : Outbound → Outbound → Type 0) (o : Option Stored) (x : Option Shelf) → IfTold o (λ a. OpensShelf (λ y. StepAt R (out_of a) (outbound_of y)) x) → (s : Outbound) → out_in o ≡ Some s → (d : Option Outbound) → d ≡ option_map outbound_of x → OpensTo (λ y. (y ≡ s) ⊎ R s y) d
since R None x h s is d at = none_some is
since R (Some a) x h s is d at =
    subst (λ (z : Outbound). OpensTo (λ y. (y ≡ z) ⊎ R z y) d) (some_inj is) (opens (λ y. StepAt R (out_of a) (outbound_of y)) (λ y. StepAt R (out_of a) y) (λ y h. h) x h d at)

now : (o : Option Stored) (x : Option Shelf) → OpensShelf (IsShelf o) x → (t : Outbound) → out_in o ≡ Some t → (d : Option Outbound) → d ≡ option_map outbound_of x → OpensTo (λ y. y ≡ t) d
now None x h t is d at = none_some is
now (Some a) x h t is d at =
    opens (λ y. y ≡ shelf_of a) (λ y. y ≡ t) (λ y e. ap outbound_of e ∙ some_inj is) x h d at

pub kept_seen : (R : Outbound → Outbound → Type 0) (settles : Type 0) (old new : StoreStand) (l m : List Left) (p q : Option ℕ) → Changes R settles old new → Kept R settles (seen old l p) (seen new m q)
kept_seen R settles old new l m p q c = record {
  later = c.later;
  before = λ k d le (x, image, is). (x, c.before k x le image, is);
  silent = λ none. silent (λ a b. StepAt R (out_of a) (out_of b)) old.state.content new.state.content c.tells none;
  tells = λ s is. tells R old.state.content new.state.content c.tells s is;
  since = λ s is k d after until (x, image, at). since R old.state.content x (c.since k x after until image) s is d at;
  ends = λ h s t is at. ends R old.state.content new.state.content (c.ends h) s t is at;
  now = λ h t is d (x, image, at). now new.state.content x (c.now h x image) t is d at;
}

-- what a stop now leaves is what is told
pub calm_seen : (s : StoreStand) (l : List Left) (p : Option ℕ) → ((d : Option Shelf) → s.images s.moment d → OpensShelf (IsShelf s.state.content) d) → IsCalm (seen s l p)
calm_seen s l p opened t is d (x, image, at) = now s.state.content x (opened x image) t is d at

-- A call after which the store keeps what it kept, as a stop since it began.

abbrev pub KeepsOut : Option Stored → Option Stored → Type 0
KeepsOut o n = TellsOn (λ a b. out_of b ≡ out_of a) o n

pub tells_weaker : (P Q : Stored → Stored → Type 0) → ((a b : Stored) → P a b → Q a b) → (o n : Option Stored) → TellsOn P o n → TellsOn Q o n
tells_weaker P Q f None None t = tt
tells_weaker P Q f None (Some b) t = absurd t
tells_weaker P Q f (Some a) None t = absurd t
tells_weaker P Q f (Some a) (Some b) t = f a b t

-- what holds of each shelf holds of an image that opens
pub told_opens : (o : Option Stored) (P : Shelf → Type 0) (Q : Stored → Shelf → Type 0) → ((x : Shelf) → P x → IfTold o (λ a. Q a x)) → (d : Option Shelf) → OpensShelf P d → IfTold o (λ a. OpensShelf (Q a) d)
told_opens None P Q f d h = tt
told_opens (Some a) P Q f None h = absurd h
told_opens (Some a) P Q f (Some x) h = f x h

pub if_weaker : (o : Option Stored) (P Q : Stored → Type 0) → ((a : Stored) → P a → Q a) → IfTold o P → IfTold o Q
if_weaker None P Q f h = tt
if_weaker (Some a) P Q f h = f a h

opens_or : (R : Outbound → Outbound → Type 0) (a : Stored) (d : Option Shelf) → OpensShelf (λ x. outbound_of x ≡ out_of a) d → OpensShelf (λ x. StepAt R (out_of a) (outbound_of x)) d
opens_or R a None h = h
opens_or R a (Some x) h = inl h

pub changes_same : (settles : Type 0) (old new : StoreStand) → old.moment ≤ new.moment → ((k : ℕ) (d : Option Shelf) → k ≤ old.moment → new.images k d → old.images k d) → KeepsOut old.state.content new.state.content
    → ((k : ℕ) (d : Option Shelf) → old.moment < k → k ≤ new.moment → new.images k d → IfTold old.state.content (λ a. OpensShelf (λ x. outbound_of x ≡ out_of a) d))
    → (settles → (d : Option Shelf) → new.images new.moment d → OpensShelf (IsShelf new.state.content) d) → Changes Same settles old new
changes_same settles old new later before keeps since now = record {
  later = later;
  before = before;
  tells = tells_weaker (λ a b. out_of b ≡ out_of a) (λ a b. StepAt Same (out_of a) (out_of b)) (λ a b e. inl e) old.state.content new.state.content keeps;
  since = λ k d after until image. if_weaker old.state.content (λ a. OpensShelf (λ x. outbound_of x ≡ out_of a) d) (λ a. OpensShelf (λ x. StepAt Same (out_of a) (outbound_of x)) d) (λ a h. opens_or Same a d h) (since k d after until image);
  ends = λ h. keeps;
  now = now;
}

-- what is kept on a shelf is what is told
pub shelf_told : (o : Option Stored) (x : Shelf) → IsShelf o x → IfTold o (λ a. outbound_of x ≡ out_of a)
shelf_told None x is = tt
shelf_told (Some a) x is = ap outbound_of is

pub keeps_same : (o n : Option Stored) → n ≡ o → KeepsOut o n
keeps_same o n same = subst (KeepsOut o) (sym same) (go o)
  where
    go : (o : Option Stored) → KeepsOut o o
    go None = tt
    go (Some a) = refl

pub keeps_map : (f : Stored → Stored) → ((a : Stored) → out_of (f a) ≡ out_of a) → (o n : Option Stored) → n ≡ option_map f o → KeepsOut o n
keeps_map f e o n is = subst (KeepsOut o) (sym is) (go o)
  where
    go : (o : Option Stored) → KeepsOut o (option_map f o)
    go None = tt
    go (Some a) = e a
