-- A walk over names: what each says is noted, one after another.
use Rattle.std.proofs.Common.{◌≡◌, ℕ, ◌+◌, ◌<◌, List, [], ◌∷◌, ◌++◌, length, map, take, get_or, Option, Some, None, Ok, sym, ap, subst, ◌∙◌}
use Rattle.std.proofs.lemmas.List.{map-append, take_more}
use Rattle.node_model.specs.StoreStates.{IfTold, Stored, StoreStand, StoreState}
use Rattle.outbound_places.specs.declared.set.PlaceSet.{PlaceSet}
use Rattle.outbound_places.specs.Outbound.{Finds, Grows}
use Rattle.outbound_places.proofs.Added.{grows-refl, grows-then}
use Rattle.outbound_places.proofs.Search.{AmongBy, none_yet, one_more}
use Rattle.outbound_addresses.specs.Asking.{AsksLater}
use Rattle.outbound_addresses.proofs.Asked.{and_then, none_asked}

-- facts of what is told

pub told_map : (o : Option Stored) (P Q : Stored → Type 0) → ((s : Stored) → P s → Q s) → IfTold o P → IfTold o Q
told_map None P Q f a = tt
told_map (Some s) P Q f a = f s a

pub told_both : (o : Option Stored) (P Q R : Stored → Type 0) → ((s : Stored) → P s → Q s → R s) → IfTold o P → IfTold o Q → IfTold o R
told_both None P Q R f a b = tt
told_both (Some s) P Q R f a b = f s a b

pub always_told : (o : Option Stored) (P : Stored → Type 0) → ((s : Stored) → P s) → IfTold o P
always_told None P f = tt
always_told (Some s) P f = f s

-- in a state that is the same
pub told_there : (a b : StoreState) (P : Stored → Type 0) → b ≡ a → IfTold b.content P → IfTold a.content P
told_there a b P same is = subst (λ (s : StoreState). IfTold s.content P) same is

-- the items up to a place, and the one there
pub taken_more : {A B : Type 0} (view : A → B) (xs : List A) (i : ℕ) (x : A) → i < length xs → x ≡ get_or xs i x → map view (take (i + 1) xs) ≡ map view (take i xs) ++ view x ∷ []
taken_more {A} view xs i x lt is = ap (map view) (take_more xs i x lt ∙ ap (λ (y : A). take i xs ++ y ∷ []) (sym is)) ∙ map-append view (take i xs) (x ∷ [])

-- What was noted of names, where something is given; and no more than questions were asked.
pub record Walks (base : List ℕ) (default : ℕ) (At : List ℕ → List ℕ → Type 0) (Given : Type 0) (names : List (List ℕ)) (start now : StoreStand) (old new : PlaceSet) : Type 0 where
  pub grows : Grows old new
  pub finds : IfTold start.state.content (λ s. Given → Finds base default s.outside (AmongBy At names) old new)
  pub asked : AsksLater {T = Unit {0}} (Ok tt) start now

module _ (base : List ℕ) (default : ℕ) (At : List ℕ → List ℕ → Type 0) (Given : Type 0) where
  pub walk_none : (start : StoreStand) (set : PlaceSet) → Walks base default At Given [] start start set set
  walk_none start set = record {
    grows = grows-refl set;
    finds = always_told start.state.content (λ s. Given → Finds base default s.outside (AmongBy At []) set set) (λ s given. none_yet base default s.outside set At);
    asked = none_asked {T = Unit {0}} tt start;
  }

  pub walk_more : (names : List (List ℕ)) (name : List ℕ) (start mid now : StoreStand) (a b c : PlaceSet) → Walks base default At Given names start mid a b
      → Grows b c → IfTold mid.state.content (λ s. Given → Finds base default s.outside (At name) b c) → AsksLater {T = Unit {0}} (Ok tt) mid now → Walks base default At Given (names ++ name ∷ []) start now a c
  walk_more names name start mid now a b c walk grows finds asked = record {
    grows = grows-then a b c walk.grows grows;
    finds = told_both start.state.content (λ s. Given → Finds base default s.outside (AmongBy At names) a b) (λ s. Given → Finds base default s.outside (At name) b c) (λ s. Given → Finds base default s.outside (AmongBy At (names ++ name ∷ [])) a c)
        (λ s before here given. one_more base default s.outside a b c At names name (before given) (here given) grows) walk.finds
        (told_there start.state mid.state (λ s. Given → Finds base default s.outside (At name) b c) walk.asked.made finds);
    asked = and_then {T = Unit {0}} {U = Unit {0}} tt (Ok tt) start mid now walk.asked asked;
  }
