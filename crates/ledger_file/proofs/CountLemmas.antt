-- Places and counts of a ledger.
use Rattle.std.proofs.Common.{◌≡◌, inl, inr, ℕ, ◌+◌, ◌-◌, ◌*◌, ◌<◌, ◌≤◌, max, true, false, Result, Ok, Err, arith}
use Rattle.std.specs.Prelude.{IfErr, IsTrue}
use Rattle.std.proofs.lemmas.Bool.{cases_lt}

-- what holds of every error
pub of_errs : {T E : Type 0} (result : Result T E) (P : E → Type 0) → ((e : E) → P e) → IfErr result P
of_errs (Ok x) P law = tt
of_errs (Err e) P law = law e

-- a ledger that isn't full has room
pub has_room : (count reserved n : ℕ) → (262144 < count + max reserved n → IsTrue false) → count + max reserved n ≤ 262144
has_room count reserved n not_full = elim (cases_lt 262144 (count + max reserved n)) [
  | inl over ↦ (let never : false ≡ true = not_full over in absurd (cc never))
  | inr within ↦ within
]

-- the places left, once n payloads were added
pub places_left : (count reserved n left spare slots spare' slots' bytes count' : ℕ) → 1403 * reserved ≤ spare → reserved ≤ slots → count + max reserved n ≤ 262144 → bytes ≤ 1403 * n
    → spare ≤ spare' + bytes → slots ≤ slots' + n → left ≡ reserved - n → count' ≡ count + n → (1403 * left ≤ spare') × (left ≤ slots') × (count' + left ≤ 262144)
places_left count reserved n left spare slots spare' slots' bytes count' room places few sizes spares slot is counts = (omega arith, omega arith, omega arith)
