-- Passes that are taken out of their slots and come back.
use Rattle.std.proofs.Common.{◌≡◌, ◌≢◌, ℕ, zero, suc, List, [], ◌∷◌, Option, Some, length, slice_get, slice_set, refl, sym, ◌∙◌, ap, subst}
use Rattle.session_threads.proofs.Places.{again_set, each_set, length_set}
use Rattle.session_threads.specs.Lent.{IsIdle}
use Rattle.session_threads.specs.Slots.{Is_with, Rests_here, Running, Taken_out, Whereabouts}
use Rattle.test_threads.specs.Serving.{IsBack, NoneOut}

module _ {X : Type 0} where
  none_set : (xs ys : List (Whereabouts X)) (k : ℕ) (w : Whereabouts X) → NoneOut xs → ys ≡ slice_set xs k w → w ≢ Taken_out → NoneOut ys
  none_set xs ys k w none is other = record {
    seats = ap length is ∙ (length_set xs k w ∙ none.seats);
    none = λ j at.
        each_set (λ i y. y ≢ Taken_out) xs k w (λ i y here same. none.none i (here ∙ ap Some same)) other j Taken_out (subst (λ zs. slice_get zs j ≡ Some Taken_out) is at) refl;
  }

  -- a pass that was taken out is put back
  pub out_and_back : (old mid new : List (Whereabouts X)) (seat seat' : ℕ) (left : X) → NoneOut old → mid ≡ slice_set old seat Taken_out → seat' ≡ seat → new ≡ slice_set mid seat' (Rests_here left) → NoneOut new
  out_and_back old mid new seat seat' left none out same back =
      none_set old new seat (Rests_here left) none (again_set old mid new seat Taken_out (Rests_here left) out (back ∙ ap (λ k. slice_set mid k (Rests_here left)) same)) (λ no. cc)

  get_set : (xs : List (Whereabouts X)) (k : ℕ) (w v : Whereabouts X) → slice_get (slice_set xs k w) k ≡ Some v → v ≡ w
  get_set [] k w v at = cc
  get_set (x ∷ xs) zero w v at = cc
  get_set (x ∷ xs) (suc k) w v at = get_set xs k w v at

  get_other : (xs : List (Whereabouts X)) (k j : ℕ) (w : Whereabouts X) → j ≢ k → slice_get (slice_set xs k w) j ≡ slice_get xs j
  get_other [] k j w apart = refl
  get_other (x ∷ xs) zero zero w apart = absurd (apart refl)
  get_other (x ∷ xs) zero (suc j) w apart = refl
  get_other (x ∷ xs) (suc k) zero w apart = refl
  get_other (x ∷ xs) (suc k) (suc j) w apart = get_other xs k j w (λ same. apart (ap suc same))

  -- a session that ran there is over
  pub over_back : (old new : List (Whereabouts X)) (seat : ℕ) (left : X) → NoneOut old → new ≡ slice_set old seat (Rests_here left) → IsBack seat old new
  over_back old new seat left none is = record {
    none_out = none_set old new seat (Rests_here left) none is (λ no. cc);
    here = λ w at. (left, get_set old seat (Rests_here left) w (subst (λ zs. slice_get zs seat ≡ Some w) is at));
    others = λ k apart. ap (λ zs. slice_get zs k) is ∙ get_other old seat k (Rests_here left) apart;
  }

  rests : (slots : List (Whereabouts X)) (seat : ℕ) (w : Whereabouts X) → NoneOut slots → IsIdle slots seat → slice_get slots seat ≡ Some w → (left : X) × (w ≡ Rests_here left)
  rests slots seat Taken_out none idle at = absurd (none.none seat at)
  rests slots seat (Rests_here left) none idle at = (left, refl)
  rests slots seat (Is_with session) none idle at = absurd (idle session at)

  -- none ran there
  pub was_back : (old new : List (Whereabouts X)) (seat : ℕ) → NoneOut old → new ≡ old → IsIdle old seat → IsBack seat old new
  was_back old new seat none is idle = record {
    none_out = subst NoneOut (sym is) none;
    here = λ w at. rests old seat w none idle (subst (λ zs. slice_get zs seat ≡ Some w) is at);
    others = λ k apart. ap (λ zs. slice_get zs k) is;
  }
