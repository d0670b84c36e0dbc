-- What is noted of a path, of a folder and of zones, where that is told.
use Rattle.std.proofs.Common.{◌≡◌, ◌⊎◌, inl, inr, ⊎_elim, ℕ, true, false, List, Option, Some, None, Result, Ok, Err, IsSome, refl, sym, subst}
use Rattle.std.specs.Prelude.{◌||◌, IfErr, OnOk}
use Rattle.ftn_addr.specs.Address.{Address}
use Rattle.ftn_addr.specs.Limits.{IsAddress}
use Rattle.node_model.specs.declared.store.StoreFault.{StoreFault}
use Rattle.node_model.specs.declared.store.StoreFault.TheVariants.{NoMemory}
use Rattle.node_model.specs.Outside.{OutFile}
use Rattle.node_model.specs.StoreStates.{IfTold, Stored, StoreStand}
use Rattle.node_model.proofs.Lists.{off}
use Rattle.outbound_places.specs.declared.place.Place.{Place}
use Rattle.outbound_places.specs.declared.set.PlaceSet.{PlaceSet}
use Rattle.outbound_places.specs.Files.{IsFor}
use Rattle.outbound_places.specs.Outbound.{Adds, Finds, Grows, IsAmong, IsIn, IsNamed, Lists}
use Rattle.outbound_places.specs.Places.{IsPlace, has_place, same_place}
use Rattle.outbound_places.proofs.Search.{in_folder, not_there, there_is}
use Rattle.outbound_addresses.specs.Asking.{AsksLater, StandsSo}
use Rattle.outbound_addresses.proofs.Asked.{and_then, no_memory, none_asked}
use Rattle.outbound_addresses.proofs.Walk.{told_both, told_map, told_there}

-- what was asked, and then something that takes only memory
pub then_noted : {T U : Type 0} (x : T) (r : Result U StoreFault) (a b : StoreStand) → AsksLater {T = T} (Ok x) a b → IfErr r (λ fault. fault ≡ NoMemory) → AsksLater r a b
then_noted {T} {U} x r a b asked only = and_then {T = T} {U = U} x r a b b asked (go {U = U} r only)
  where
    go : {U : Type 0} (r : Result U StoreFault) → IfErr r (λ fault. fault ≡ NoMemory) → AsksLater r b b
    go {U} (Ok y) only = none_asked {T = U} y b
    go {U} (Err fault) only = subst (λ (f : StoreFault). AsksLater {T = U} (Err f) b b) (sym only) (no_memory {T = U} b)

a_file : (o : Option OutFile) → IsSome o → (f : OutFile) × (o ≡ Some f)
a_file None none = off (sym none)
a_file (Some f) is = (f, refl)

module _ (base : List ℕ) (default : ℕ) where
  pub absent : (o : Option Stored) (path : List ℕ) (set : PlaceSet) → IfTold o (λ s. StandsSo false (s.outside path)) → IfTold o (λ s. Finds base default s.outside (λ q. q ≡ path) set set)
  absent o path set told = told_map o _ _ (λ s none. not_there base default s.outside path set none) told

  pub present : (o : Option Stored) (path : List ℕ) (old new : PlaceSet) (place : Place) (home : Address) → IsAddress home → IsFor base default path place
      → ((p : Place) → has_place new p ≡ (has_place old p || same_place p place)) → IfTold o (λ s. StandsSo true (s.outside path)) → IfTold o (λ s. Finds base default s.outside (λ q. q ≡ path) old new)
  present o path old new place home within is_for added told =
      told_map o _ _ (λ s some. let f = a_file (s.outside path) some in there_is base default s.outside path old new place home f.0 within is_for f.1 added) told

  -- a folder that was listed
  pub folder_noted : (a b : StoreStand) (folder : List ℕ) (names : List (List ℕ)) (old new : PlaceSet) → AsksLater {T = Unit {0}} (Ok tt) a b → IfTold a.state.content (λ s. Lists folder s.outside names)
      → IfTold b.state.content (λ s. Finds base default s.outside (IsAmong folder names) old new) → IfTold a.state.content (λ s. IsNamed folder → Finds base default s.outside (IsIn folder) old new)
  folder_noted a b folder names old new asked lists finds =
      told_both a.state.content _ _ _ (λ s l f named. in_folder base default s.outside old new folder names named l f) lists
      (told_there a.state b.state (λ s. Finds base default s.outside (IsAmong folder names) old new) asked.made finds)

-- facts of a call that was answered
pub on_ok_both : {T E P Q R : Type 0} (r : Result T E) → (P → Q → R) → OnOk r P → OnOk r Q → OnOk r R
on_ok_both (Ok x) f a b = f a b
on_ok_both (Err e) f a b = tt

-- of two kinds of places, one after the other
pub both_added : (P Q : Place → Type 0) (a b c : PlaceSet) → Adds P a b → Adds Q b c → Grows b c → Adds (λ p. P p ⊎ Q p) a c
both_added P Q a b c x y grows = record {
  all = λ p fits is. ⊎_elim (λ (l : P p). grows.kept p (x.all p fits l)) (λ (r : Q p). y.all p fits r) is;
  only = λ p there. ⊎_elim
      (λ before. ⊎_elim (λ old. inl old) (λ (found : IsPlace p × P p). inr (found.0, inl found.1)) (x.only p before))
      (λ (found : IsPlace p × Q p). inr (found.0, inr found.1)) (y.only p there);
}
