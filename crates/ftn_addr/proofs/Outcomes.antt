-- Readings in steps, and what is told of them.
use Rattle.std.proofs.Common.{◌≡◌, Result, Ok, Err, refl, inl, inr}
use Rattle.ftn_addr.specs.Outcomes.{◌>>=◌, Gives}

-- a step that went well, and those behind it
pub steps_ok : {A B E : Type 0} (r : Result A E) (f : A → Result B E) (b : B) → (r >>= f) ≡ Ok b → (a : A) × (r ≡ Ok a) × (f a ≡ Ok b)
steps_ok (Ok a) f b e = (a, refl, e)
steps_ok (Err fault) f b e = absurd (let clash : Err fault ≡ Ok b = e in cc)

-- a fault other than want of memory is the one that is read
pub fault_told : {X Y E : Type 0} (memory : E) (view : X → Y) (fault : E) (read : Result Y E) → (fault ≡ memory → ⊥) → Gives memory view (Err fault) read → read ≡ Err fault
fault_told memory view fault read other (inl is) = absurd (other is)
fault_told memory view fault read other (inr told) = told
