-- Four digits, in either case.
use Rattle.std.proofs.Common.{◌≡◌, ℕ, zero, suc, ◌/◌, ◌%◌, ◌^◌, ◌<◌, true, List, ◌∷◌, length, drop, Result, Ok, refl, sym, ap, ◌∙◌, arith, slice_index, codes}
use Rattle.std.specs.Int.{w16, to_be_bytes, from_be_bytes}
use Rattle.std.proofs.lemmas.Nat.{from_be_bytes-to_be_bytes_2, be_bytes_2}
use Rattle.hex.specs.Hex.{IsBytes, decode_sized, decode_pairs, encode_lower, encode_with, lower_digits}
use Rattle.hex.specs.declared.error.FromHexError.{FromHexError}
use Rattle.hex.proofs.HexLemmas.{length-encode_with, decode_pairs-ok, decode_of-even, decode_sized-ok, decode_sized-twice}
use Rattle.bso_outbound.specs.Digits.{four_digits}
use Rattle.bso_outbound.specs.Paths.{lower_case}
use Rattle.bso_outbound.specs.Reading.{no_slash}
use Rattle.bso_outbound.proofs.Texts.{same_length}
use Rattle.bso_outbound.proofs.HexText.{read_pairs, spelled_pairs, encoded_no_slash}

bytes_are : (n : ℕ) → IsBytes (to_be_bytes w16 n)
bytes_are n zero = omega arith
bytes_are n (suc zero) = omega arith
bytes_are n (suc (suc k)) = omega arith

pub length-four : (n : ℕ) → length (four_digits n) ≡ 4
unfolding four_digits
length-four n = length-encode_with lower_digits (to_be_bytes w16 n)

pub four_no_slash : (n : ℕ) → no_slash (four_digits n) ≡ true
unfolding four_digits
four_no_slash n = encoded_no_slash (to_be_bytes w16 n) (bytes_are n)

-- text of four digits, in either case, is read as the bytes of the number
pub four_read : (s : List ℕ) (n : ℕ) → lower_case s ≡ lower_case (four_digits n) → decode_sized s 2 ≡ Ok (to_be_bytes w16 n)
unfolding four_digits
four_read s n is =
    let len : length s ≡ 4 = same_length s (four_digits n) is ∙ length-four n in
    decode_sized-twice s 2 len ∙ decode_of-even s (omega (arith, len)) ∙ read_pairs 0 s (to_be_bytes w16 n) (bytes_are n) is

-- and what is read as two bytes is four digits of their number
pub four_spelled : (s bytes : List ℕ) → decode_sized s 2 ≡ Ok bytes → lower_case s ≡ lower_case (four_digits (from_be_bytes w16 bytes))
unfolding four_digits
four_spelled s bytes is =
    let len = decode_sized-ok s 2 bytes is in
    let pairs : decode_pairs 0 s ≡ Ok bytes = sym (decode_sized-twice s 2 len ∙ decode_of-even s (omega (arith, len))) ∙ is in
    let ok = decode_pairs-ok 0 s bytes pairs in
    let two : length bytes ≡ 2 = omega (arith, ok.1, len) in
    spelled_pairs 0 s bytes pairs ∙ ap (λ (l : List ℕ). lower_case (encode_lower l)) (sym (be_bytes_2 bytes (from_be_bytes w16 bytes) two ok.2 refl))

bytes_inj : (x y : List ℕ) → ◌≡◌ {A = Result (List ℕ) FromHexError} (Ok x) (Ok y) → x ≡ y
bytes_inj x y e = cc e

pub one_four : (n m : ℕ) → n < 2 ^ 16 → m < 2 ^ 16 → lower_case (four_digits n) ≡ lower_case (four_digits m) → n ≡ m
one_four n m a b is =
    let bytes : to_be_bytes w16 n ≡ to_be_bytes w16 m = bytes_inj _ _ (sym (four_read (four_digits n) n refl) ∙ four_read (four_digits n) m is) in
    sym (from_be_bytes-to_be_bytes_2 n a) ∙ ap (from_be_bytes w16) bytes ∙ from_be_bytes-to_be_bytes_2 m b

-- the first of four digits is 0 where three are enough
pub three_behind_0 : (n : ℕ) → n < 4096 → four_digits n ≡ 48 ∷ drop 1 (four_digits n)
unfolding four_digits encode_with
three_behind_0 n lt =
    let first : n / 256 % 256 / 16 ≡ 0 = omega arith in
    ap (λ (d : ℕ). slice_index lower_digits d ∷ drop 1 (four_digits n)) first

pub zeros : four_digits 0 ≡ codes "0000"
unfolding four_digits encode_with
zeros = refl
