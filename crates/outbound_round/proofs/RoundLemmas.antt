-- The take-ins of a round, one behind another.
use Rattle.std.proofs.Common.{◌≡◌, ◌≢◌, ◌⊎◌, inl, inr, ℕ, List, [], ◌∷◌, ◌++◌, drop, take, map, Option, Some, None, Result, refl, sym, ◌∙◌, ap, subst, ◌+◌}
use Rattle.std.specs.Option.{option_or}
use Rattle.std.proofs.lemmas.List.{flat_map_more, map-append, take-append-drop}
use Rattle.ftn_addr.specs.Address.{Address}
use Rattle.node_model.proofs.Lists.{Each-append}
use Rattle.node_store.specs.Stored.{Holding}
use Rattle.outbound_take.specs.Stand.{TakeStand}
use Rattle.outbound_round.specs.declared.words.RoundFault.{RoundFault}
use Rattle.outbound_round.specs.declared.words.RoundFault.TheVariants.{Disk, NoMemory}
use Rattle.outbound_round.specs.declared.words.Telling.{Telling}
use Rattle.outbound_take.specs.declared.words.Taken.{Taken}
use Rattle.outbound_take.specs.declared.words.TakeFault.{TakeFault}
use Rattle.outbound_round.specs.Round.{End, EndsBy, EndsSo, Finished, Passes, RoundTold, TakesAddress, TakesEach, TakesThem, TellsMore, end_text, fault_at, fault_behind, first_marked, mark_in}

-- Marks.

option_or-assoc : (a b c : Option (List ℕ)) → option_or (option_or a b) c ≡ option_or a (option_or b c)
option_or-assoc None b c = refl
option_or-assoc (Some x) b c = refl

option_or-none : (a : Option (List ℕ)) → option_or a None ≡ a
option_or-none None = refl
option_or-none (Some x) = refl

first_marked-append : (es : List End) (e : End) → first_marked (es ++ e ∷ []) ≡ option_or (first_marked es) (mark_in e.1)
first_marked-append [] e = option_or-none (mark_in e.1)
first_marked-append (x ∷ xs) e = ap (option_or (mark_in x.1)) (first_marked-append xs e) ∙ sym (option_or-assoc (mark_in x.1) (first_marked xs) (mark_in e.1))

-- What ends a round.

-- behind an address that is passed the store is whole
pub passed_whole : (broken : Option ℕ) (end : Result Taken TakeFault) → fault_behind broken end ≡ None → (broken ≡ None) × (fault_at end ≡ None)
passed_whole None end none = (refl, none)
passed_whole (Some count) end none = absurd (let e = none in cc)

behind_whole : (broken : Option ℕ) (fault : RoundFault) (end : Result Taken TakeFault) → fault_behind broken end ≡ Some fault → Some fault ≢ Some Disk → broken ≡ None
behind_whole None fault end is other = refl
behind_whole (Some count) fault end is other = absurd (other (sym is))

-- a round that ended by another fault than Disk, or by none, leaves a whole store
pub ends_whole : (telling : Telling) (fault : Option RoundFault) (broken : Option ℕ) (addresses : List Address) (ends : List End) (lines : List ℕ) → EndsBy telling fault broken addresses ends lines → fault ≢ Some Disk → broken ≡ None
ends_whole telling None broken addresses ends lines ended other = ended.whole
ends_whole telling (Some fault) broken addresses ends lines ended other = by_stop ended.stops
  where
    by_stop : (fault_behind broken ended.last.1 ≡ Some fault) ⊎ ((fault_behind broken ended.last.1 ≡ None) × (fault ≡ NoMemory)) → broken ≡ None
    by_stop (inl is) = behind_whole broken fault ended.last.1 is other
    by_stop (inr want) = (passed_whole broken ended.last.1 want.0).0

-- Addresses.

-- a list around the item at a place
pub around_at : {A B : Type 0} (view : A → B) (xs : List A) (i : ℕ) (front : List B) → map view (take (i + 1) xs) ≡ front → map view xs ≡ front ++ map view (drop (i + 1) xs)
around_at view xs i front is = sym (ap (map view) (take-append-drop (i + 1) xs)) ∙ (map-append view (take (i + 1) xs) (drop (i + 1) xs) ∙ ap (λ (ys : List _). ys ++ map view (drop (i + 1) xs)) is)

module _ {D : Type 0} (seen : Holding D → TakeStand) (telling : Telling) (base : List ℕ) (zone : ℕ) (home : Address) (moment : ℕ) where
  each_more : (es : List End) (e : End) (old mid new : Holding D) → TakesEach seen base zone home moment es old mid → TakesAddress base zone home moment e.0 e.1 (seen mid) (seen new) → TakesEach seen base zone home moment (es ++ e ∷ []) old new
  each_more [] e old mid new same takes = (new, subst (λ (s : Holding D). TakesAddress base zone home moment e.0 e.1 (seen s) (seen new)) same takes, refl)
  each_more (x ∷ xs) e old mid new each takes = (each.0, each.1, each_more xs e each.0 mid new each.2 takes)

  module _ (addresses : List Address) (a : Address) (end' : Result Taken TakeFault) (round next : RoundTold) (old mid new : Holding D)
      (goes : round.fault ≡ None) (them : TakesThem seen telling base zone home moment addresses round old mid) (takes : TakesAddress base zone home moment a end' (seen mid) (seen new)) (tells : TellsMore telling new.memory.broken (a, end') round next) where
    passed : Finished telling mid.memory.broken addresses them.ends round.lines
    passed = subst (λ (f : Option RoundFault). EndsBy telling f mid.memory.broken addresses them.ends round.lines) goes them.ended

    all_begun : addresses ++ a ∷ [] ≡ map (λ (e : End). e.0) (them.ends ++ (a, end') ∷ [])
    all_begun = ap (λ (xs : List Address). xs ++ a ∷ []) passed.all ∙ sym (map-append (λ (e : End). e.0) them.ends ((a, end') ∷ []))

    all_marked : next.marked ≡ first_marked (them.ends ++ (a, end') ∷ [])
    all_marked = tells.marked ∙ (ap (λ (o : Option (List ℕ)). option_or o (mark_in end')) them.marked ∙ sym (first_marked-append them.ends (a, end')))

    -- one address more, behind which the round goes on
    pub takes_more : next.fault ≡ None → TakesThem seen telling base zone home moment (addresses ++ a ∷ []) next old new
    takes_more on =
        let so = subst (λ (f : Option RoundFault). EndsSo telling new.memory.broken f (a, end') round.lines next.lines) on tells.ended in
        let whole = passed_whole new.memory.broken end' so.0 in
        record {
          ends = them.ends ++ (a, end') ∷ [];
          takes = each_more them.ends (a, end') old mid new them.takes takes;
          ended = subst (λ (f : Option RoundFault). EndsBy telling f new.memory.broken (addresses ++ a ∷ []) (them.ends ++ (a, end') ∷ []) next.lines) (sym on) (record {
            whole = whole.0;
            all = all_begun;
            pass = Each-append Passes them.ends ((a, end') ∷ []) passed.pass (whole.1, tt);
            told_so = so.1 ∙ (ap (λ (l : List ℕ). l ++ end_text telling (a, end')) passed.told_so ∙ flat_map_more (end_text telling) [] them.ends (a, end'));
          });
          marked = all_marked;
        }

    -- one that ends it
    pub takes_last : (fault : RoundFault) (rest : List Address) → next.fault ≡ Some fault → TakesThem seen telling base zone home moment ((addresses ++ a ∷ []) ++ rest) next old new
    takes_last fault rest stop =
        let so = subst (λ (f : Option RoundFault). EndsSo telling new.memory.broken f (a, end') round.lines next.lines) stop tells.ended in
        record {
          ends = them.ends ++ (a, end') ∷ [];
          takes = each_more them.ends (a, end') old mid new them.takes takes;
          ended = subst (λ (f : Option RoundFault). EndsBy telling f new.memory.broken ((addresses ++ a ∷ []) ++ rest) (them.ends ++ (a, end') ∷ []) next.lines) (sym stop) (record {
            before = them.ends;
            last = (a, end');
            rest = rest;
            begun = refl;
            all = ap (λ (xs : List Address). xs ++ rest) all_begun;
            pass = passed.pass;
            stops = so.0;
            told_so = so.1 ∙ passed.told_so;
          });
          marked = all_marked;
        }
