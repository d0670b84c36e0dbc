-- Hexadecimal text in either case.
use Rattle.std.proofs.Common.{◌≡◌, ℕ, zero, suc, ◌+◌, ◌*◌, ◌/◌, ◌%◌, ◌<◌, ◌≤◌, ◌==◌, ◌&&◌, ◌||◌, not, nat_lt, nat_le, Bool, true, false, List, [], ◌∷◌, Option, Some, None, unwrap_or, option_map, Result, Ok, Err, refl, sym, ap, ◌∙◌, inl, inr, arith, slice_index}
use Rattle.std.specs.Result.{result_unwrap_or}
use Rattle.std.specs.Char.{to_ascii_lowercase}
use Rattle.std.proofs.lemmas.Bool.{cases_lt, eqb-true, eq-eqb, ltb-true}
use Rattle.std.proofs.lemmas.Bool.Decides.{nat_tests}
use Rattle.std.proofs.lemmas.Str.Ascii.{lowercase_is}
use Rattle.hex.specs.Hex.{IsBytes, decode_pairs, digit_or_error, encode_lower, encode_with, hex_digit_value, lower_digits, pair_value, value_at, ◌>>=◌}
use Rattle.hex.specs.declared.error.FromHexError.{FromHexError}
use Rattle.hex.proofs.Pairs.{cons_byte, decode_pairs-ok_pair}
use Rattle.node_model.proofs.Lists.{and_true, and_both, none_some, off}
use Rattle.bso_outbound.specs.Paths.{lower_case}
use Rattle.bso_outbound.specs.Reading.{no_slash}
use Rattle.bso_outbound.proofs.Texts.{heads, tails}

-- a test of all numbers below one, which computes
abbrev below : (ℕ → Bool) → ℕ → Bool
below p zero = true
below p (suc n) = p n && below p n

below_at : (p : ℕ → Bool) (n k : ℕ) → below p n ≡ true → k < n → p k ≡ true
below_at p zero k h lt = absurd (omega arith)
below_at p (suc n) k h lt =
    let parts = and_true (p n) (below p n) h in
    elim (cases_lt k n) [
      | inl less ↦ below_at p n k parts.1 less
      | inr top ↦ (let e : k ≡ n = omega arith in ap p e ∙ parts.0)
    ]

-- the digit of a value, in lower case
abbrev pub digit : ℕ → ℕ
digit v = to_ascii_lowercase (slice_index lower_digits v)

-- a byte that reads is the digit of its value
abbrev is_its_digit : ℕ → Option ℕ → Bool
is_its_digit c value = unwrap_or (option_map (λ v. to_ascii_lowercase c == digit v) value) true

-- a byte that is the digit of a value reads as it
abbrev reads_as : ℕ → ℕ → Bool
reads_as c v = not (to_ascii_lowercase c == digit v) || (unwrap_or (hex_digit_value c) 99 == v)

reads_past : (c : ℕ) → 128 ≤ c → hex_digit_value c ≡ None
reads_past c high =
    let a : nat_le 65 c ≡ true = grind (arith, nat_tests) in
    let b : nat_le c 70 ≡ false = grind (arith, nat_tests) in
    let d : nat_le 97 c ≡ true = grind (arith, nat_tests) in
    let e : nat_le c 102 ≡ false = grind (arith, nat_tests) in
    let f : nat_le 48 c ≡ true = grind (arith, nat_tests) in
    let g : nat_le c 57 ≡ false = grind (arith, nat_tests) in
    rw (a, b, d, e, f, g) refl

its_digit : (c v : ℕ) → hex_digit_value c ≡ Some v → to_ascii_lowercase c ≡ digit v
its_digit c v is =
    elim (cases_lt c 128) [
      | inl low ↦ eqb-true (to_ascii_lowercase c) (digit v) (sym (ap (is_its_digit c) is) ∙ below_at (λ k. is_its_digit k (hex_digit_value k)) 128 c refl low)
      | inr high ↦ none_some (sym (reads_past c high) ∙ is)
    ]

from_unwrap : (o : Option ℕ) (v : ℕ) → v < 16 → unwrap_or o 99 ≡ v → o ≡ Some v
from_unwrap (Some w) v lt e = ap Some e
from_unwrap None v lt e = absurd (omega arith)

second_of : (a b : Bool) → (not a || b) ≡ true → a ≡ true → b ≡ true
second_of true b h t = h
second_of false b h t = off (sym t)

pub its_value : (c v : ℕ) → to_ascii_lowercase c ≡ digit v → v < 16 → hex_digit_value c ≡ Some v
its_value c v is lt =
    elim (cases_lt c 128) [
      | inl low ↦
          let all = below_at (λ k. below (reads_as k) 16) 128 c refl low in
          let here = below_at (reads_as c) 16 v all lt in
          from_unwrap (hex_digit_value c) v lt (eqb-true (unwrap_or (hex_digit_value c) 99) v (second_of (to_ascii_lowercase c == digit v) (unwrap_or (hex_digit_value c) 99 == v) here (eq-eqb (to_ascii_lowercase c) (digit v) is)))
      | inr high ↦
          let same : to_ascii_lowercase c ≡ c = (lowercase_is c).2 (omega arith) in
          let small : digit v < 128 = ltb-true (digit v) 128 (below_at (λ k. nat_lt (digit k) 128) 16 v refl lt) in
          absurd (omega (arith, same, small, is))
    ]

-- text that spells some bytes, in either case, is read as them
pub read_pairs : (i : ℕ) (s bytes : List ℕ) → IsBytes bytes → lower_case s ≡ lower_case (encode_lower bytes) → decode_pairs i s ≡ Ok bytes
unfolding encode_with decode_pairs
read_pairs i [] [] h is = refl
read_pairs i (a ∷ s) [] h is = absurd (let clash : to_ascii_lowercase a ∷ lower_case s ≡ [] = is in cc)
read_pairs i [] (b ∷ rest) h is = absurd (let clash : [] ≡ digit (b / 16) ∷ digit (b % 16) ∷ lower_case (encode_lower rest) = is in cc)
read_pairs i (a ∷ []) (b ∷ rest) h is =
    absurd (let clash : [] ≡ digit (b % 16) ∷ lower_case (encode_lower rest) = tails (to_ascii_lowercase a) (digit (b / 16)) [] (digit (b % 16) ∷ lower_case (encode_lower rest)) is in cc)
read_pairs i (a ∷ c ∷ s) (b ∷ rest) h is =
    let fits : b < 256 = h 0 in
    let behind = tails (to_ascii_lowercase a) (digit (b / 16)) (to_ascii_lowercase c ∷ lower_case s) (digit (b % 16) ∷ lower_case (encode_lower rest)) is in
    let first = heads (to_ascii_lowercase a) (digit (b / 16)) (to_ascii_lowercase c ∷ lower_case s) (digit (b % 16) ∷ lower_case (encode_lower rest)) is in
    let second = heads (to_ascii_lowercase c) (digit (b % 16)) (lower_case s) (lower_case (encode_lower rest)) behind in
    let ha : value_at a i ≡ Ok (b / 16) = ap (digit_or_error a i) (its_value a (b / 16) first (omega arith)) in
    let hc : value_at c (i + 1) ≡ Ok (b % 16) = ap (digit_or_error c (i + 1)) (its_value c (b % 16) second (omega arith)) in
    let pair : pair_value a c i ≡ Ok (b / 16 * 16 + b % 16) = rw (ha, hc) refl in
    let more = read_pairs (i + 2) s rest (λ k. h (suc k)) (tails (to_ascii_lowercase c) (digit (b % 16)) (lower_case s) (lower_case (encode_lower rest)) behind) in
    let whole : b / 16 * 16 + b % 16 ≡ b = omega arith in
    decode_pairs-ok_pair i a c _ s pair ∙ ap (cons_byte (b / 16 * 16 + b % 16)) more ∙ ap (λ (v : ℕ). Ok (v ∷ rest)) whole

-- what a step that read shows
step_ok : {A B : Type 0} (r : Result A FromHexError) (f : A → Result B FromHexError) (y : B) → (r >>= f) ≡ Ok y → (x : A) × (r ≡ Ok x) × (f x ≡ Ok y)
step_ok (Ok x) f y h = (x, refl, h)
step_ok (Err e) f y h = cc h

value_ok : (c i : ℕ) (o : Option ℕ) (v : ℕ) → digit_or_error c i o ≡ Ok v → o ≡ Some v
value_ok c i (Some w) v h = ap Some (ap (λ (r : Result ℕ FromHexError). result_unwrap_or r 0) h)
value_ok c i None v h = cc h

small_value : (c v : ℕ) → hex_digit_value c ≡ Some v → v < 16
small_value c v h = grind (arith)

-- text that is read as some bytes spells them
pub spelled_pairs : (i : ℕ) (s bytes : List ℕ) → decode_pairs i s ≡ Ok bytes → lower_case s ≡ lower_case (encode_lower bytes)
unfolding encode_with decode_pairs
spelled_pairs i [] bytes h =
    let e : [] ≡ bytes = ap (λ (r : Result (List ℕ) FromHexError). result_unwrap_or r []) h in
    ap (λ (l : List ℕ). lower_case (encode_lower l)) e
spelled_pairs i (a ∷ []) bytes h = cc h
spelled_pairs i (a ∷ c ∷ s) bytes h =
    let p0 = step_ok (pair_value a c i) _ bytes h in
    let p1 = step_ok (value_at a i) _ p0.0 p0.1 in
    let p2 = step_ok (value_at c (i + 1)) _ p0.0 p1.2 in
    let p3 = step_ok (decode_pairs (i + 2) s) _ bytes p0.2 in
    let e : p0.0 ∷ p3.0 ≡ bytes = ap (λ (r : Result (List ℕ) FromHexError). result_unwrap_or r []) p3.2 in
    let byte : p1.0 * 16 + p2.0 ≡ p0.0 = ap (λ (r : Result ℕ FromHexError). result_unwrap_or r 0) p2.2 in
    let va = value_ok a i (hex_digit_value a) p1.0 p1.1 in
    let vc = value_ok c (i + 1) (hex_digit_value c) p2.0 p2.1 in
    let low : p2.0 < 16 = small_value c p2.0 vc in
    let high : p1.0 ≡ p0.0 / 16 = omega (arith, byte, low) in
    let rest : p2.0 ≡ p0.0 % 16 = omega (arith, byte, low) in
    let first : to_ascii_lowercase a ≡ digit (p0.0 / 16) = its_digit a p1.0 va ∙ ap digit high in
    let second : to_ascii_lowercase c ≡ digit (p0.0 % 16) = its_digit c p2.0 vc ∙ ap digit rest in
    let more = spelled_pairs (i + 2) s p3.0 p3.1 in
    ap (λ (k : ℕ). k ∷ to_ascii_lowercase c ∷ lower_case s) first
    ∙ ap (λ (k : ℕ). digit (p0.0 / 16) ∷ k ∷ lower_case s) second
    ∙ ap (λ (l : List ℕ). digit (p0.0 / 16) ∷ digit (p0.0 % 16) ∷ l) more
    ∙ ap (λ (l : List ℕ). lower_case (encode_lower l)) e

-- digits are no slash
pub encoded_no_slash : (bytes : List ℕ) → IsBytes bytes → no_slash (encode_lower bytes) ≡ true
unfolding encode_with
encoded_no_slash [] h = refl
encoded_no_slash (b ∷ rest) h =
    let fits : b < 256 = h 0 in
    let first = below_at (λ d. not (slice_index lower_digits d == 47)) 16 (b / 16) refl (omega arith) in
    let second = below_at (λ d. not (slice_index lower_digits d == 47)) 16 (b % 16) refl (omega arith) in
    and_both (not (slice_index lower_digits (b / 16) == 47)) _ first (and_both (not (slice_index lower_digits (b % 16) == 47)) (no_slash (encode_lower rest)) second (encoded_no_slash rest (λ k. h (suc k))))
