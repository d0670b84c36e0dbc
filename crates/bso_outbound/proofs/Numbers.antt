-- The numbers of addresses in digits, in either case.
use Rattle.std.proofs.Common.{◌≡◌, ◌≢◌, ℕ, ◌/◌, ◌%◌, ◌^◌, ◌<◌, ◌≤◌, nat_lt, Bool, true, false, List, [], ◌∷◌, length, drop, Option, Some, None, Result, Ok, Err, refl, sym, ap, ◌∙◌, inl, inr, subst, arith, get_or, length-append, length-drop}
use Rattle.std.specs.Prelude.{if◌then◌else◌}
use Rattle.std.specs.Int.{w16, from_be_bytes}
use Rattle.std.specs.Result.{result_ok}
use Rattle.std.proofs.lemmas.Bool.{cases_lt}
use Rattle.std.proofs.lemmas.Bool.Decides.{nat_tests}
use Rattle.hex.specs.Hex.{decode_sized, encode_with, hex_digit_value}
use Rattle.hex.specs.declared.error.FromHexError.{FromHexError}
use Rattle.node_model.proofs.Lists.{none_some, some_inj}
use Rattle.bso_outbound.specs.Digits.{four_digits, three_digits_or_more}
use Rattle.bso_outbound.specs.Names.{node_digits}
use Rattle.bso_outbound.specs.Paths.{lower_case}
use Rattle.bso_outbound.specs.Reading.{IsNode, IsNumber, Reads}
use Rattle.bso_outbound.proofs.Texts.{same_length, heads, tails, halves}
use Rattle.bso_outbound.proofs.HexText.{its_value}
use Rattle.bso_outbound.proofs.Four.{length-four, four_read, four_spelled, one_four, three_behind_0}

bytes_of_ok : (r : Result (List ℕ) FromHexError) (bytes : List ℕ) → result_ok r ≡ Some bytes → r ≡ Ok bytes
bytes_of_ok (Ok b) bytes e = ap Ok (some_inj e)
bytes_of_ok (Err f) bytes e = none_some e

-- the value of two bytes
pub unread_value : (s : List ℕ) (r : Result (List ℕ) FromHexError) (o : Option (List ℕ)) → r ≡ decode_sized s 2 → o ≡ result_ok r → o ≡ None → Reads (λ n. n < 2 ^ 16) four_digits s None
unread_value s r o read ok none = λ n lt same. none_some (sym none ∙ ok ∙ ap result_ok (read ∙ four_read s n same))

pub read_value : (s : List ℕ) (r : Result (List ℕ) FromHexError) (o : Option (List ℕ)) (bytes : List ℕ) → r ≡ decode_sized s 2 → o ≡ result_ok r → o ≡ Some bytes → lower_case s ≡ lower_case (four_digits (from_be_bytes w16 bytes))
read_value s r o bytes read ok some = four_spelled s bytes (sym read ∙ bytes_of_ok r bytes (sym ok ∙ some))

-- a number that is read, but is none of those that are asked for
pub none_of_these : (F : ℕ → Type 0) (s : List ℕ) (n : ℕ) → ((m : ℕ) → F m → m < 2 ^ 16) → n < 2 ^ 16 → lower_case s ≡ lower_case (four_digits n) → (F n → ⊥) → Reads F four_digits s None
none_of_these F s n fits lt is not_so = λ m h same. not_so (
    let e : m ≡ n = one_four m n (fits m h) lt (sym same ∙ is) in
    subst F e h)

pub length-node : (p : ℕ × ℕ) → length (node_digits p) ≡ 8
length-node p = omega (arith, length-append (four_digits p.0) (four_digits p.1), length-four p.0, length-four p.1)

pub one_node : (p q : ℕ × ℕ) → IsNode p → IsNode q → lower_case (node_digits p) ≡ lower_case (node_digits q) → p ≡ q
one_node p q a b is =
    let parts = halves (four_digits p.0) (four_digits p.1) (four_digits q.0) (four_digits q.1) (length-four p.0 ∙ sym (length-four q.0)) is in
    let net : p.0 ≡ q.0 = one_four p.0 q.0 (omega arith) (omega arith) parts.0 in
    let node : p.1 ≡ q.1 = one_four p.1 q.1 (omega arith) (omega arith) parts.1 in
    λ i. (net i, node i)

-- three digits and four

short_is : (n : ℕ) → n < 4096 → three_digits_or_more n ≡ drop 1 (four_digits n)
short_is n lt =
    let e : nat_lt n 4096 ≡ true = grind (arith, nat_tests) in
    ap (λ (b : Bool). if b then drop 1 (four_digits n) else four_digits n) e

long_is : (n : ℕ) → 4096 ≤ n → three_digits_or_more n ≡ four_digits n
long_is n le =
    let e : nat_lt n 4096 ≡ false = grind (arith, nat_tests) in
    ap (λ (b : Bool). if b then drop 1 (four_digits n) else four_digits n) e

length-short : (n : ℕ) → n < 4096 → length (three_digits_or_more n) ≡ 3
length-short n lt = ap length (short_is n lt) ∙ omega (arith, length-drop 1 (four_digits n), length-four n)

length-long : (n : ℕ) → 4096 ≤ n → length (three_digits_or_more n) ≡ 4
length-long n le = ap length (long_is n le) ∙ length-four n

first_of_four : (n d : ℕ) (s : List ℕ) → n < 2 ^ 16 → lower_case (d ∷ s) ≡ lower_case (four_digits n) → hex_digit_value d ≡ Some (n / 4096)
unfolding four_digits encode_with
first_of_four n d s lt is =
    let small : n / 256 % 256 / 16 < 16 = omega arith in
    let value = its_value d (n / 256 % 256 / 16) (heads _ _ _ _ is) small in
    let same : n / 256 % 256 / 16 ≡ n / 4096 = omega arith in
    value ∙ ap Some same

behind_0 : (n : ℕ) (s : List ℕ) → n < 2 ^ 16 → lower_case (48 ∷ s) ≡ lower_case (four_digits n) → n < 4096
behind_0 n s lt is =
    let e : 0 ≡ n / 4096 = some_inj (first_of_four n 48 s lt is) in
    omega (arith, e)

with_0 : (n : ℕ) (s : List ℕ) → n < 4096 → lower_case s ≡ lower_case (three_digits_or_more n) → lower_case (48 ∷ s) ≡ lower_case (four_digits n)
with_0 n s lt is =
    ap (λ (l : List ℕ). 48 ∷ l) (is ∙ ap lower_case (short_is n lt)) ∙ ap lower_case (sym (three_behind_0 n lt))

without_0 : (n : ℕ) (s : List ℕ) → n < 4096 → lower_case (48 ∷ s) ≡ lower_case (four_digits n) → lower_case s ≡ lower_case (three_digits_or_more n)
without_0 n s lt is =
    tails 48 48 (lower_case s) (lower_case (drop 1 (four_digits n))) (is ∙ ap lower_case (three_behind_0 n lt)) ∙ ap lower_case (sym (short_is n lt))

pub read_short : (s : List ℕ) (r : Option ℕ) → length s ≡ 3 → Reads IsNumber four_digits (48 ∷ s) r → Reads IsNumber three_digits_or_more s r
read_short s (Some n) len a = (a.0, without_0 n s (behind_0 n s (omega (arith, a.0)) a.1) a.1)
read_short s None len a = λ n fits is.
    elim (cases_lt n 4096) [
      | inl few ↦ a n fits (with_0 n s few is)
      | inr many ↦ omega (arith, len, same_length s (three_digits_or_more n) is, length-long n many)
    ]

pub read_long : (s : List ℕ) (r : Option ℕ) → length s ≢ 3 → Reads (λ n. (4096 ≤ n) × IsNumber n) four_digits s r → Reads IsNumber three_digits_or_more s r
read_long s (Some n) len a = (a.0.1, a.1 ∙ ap lower_case (sym (long_is n a.0.0)))
read_long s None len a = λ n fits is.
    elim (cases_lt n 4096) [
      | inl few ↦ len (same_length s (three_digits_or_more n) is ∙ length-short n few)
      | inr many ↦ a n (many, fits) (is ∙ ap lower_case (long_is n many))
    ]

pub three_items : (s : List ℕ) → length s ≡ 3 → get_or s 0 0 ∷ get_or s 1 0 ∷ get_or s 2 0 ∷ [] ≡ s
three_items [] is = absurd (omega (arith, is))
three_items (a ∷ []) is = absurd (omega (arith, is))
three_items (a ∷ b ∷ []) is = absurd (omega (arith, is))
three_items (a ∷ b ∷ c ∷ []) is = refl
three_items (a ∷ b ∷ c ∷ d ∷ s) is = absurd (omega (arith, is))

pub one_zone : (n m : ℕ) → IsNumber n → IsNumber m → lower_case (three_digits_or_more n) ≡ lower_case (three_digits_or_more m) → n ≡ m
one_zone n m a b is =
    let len = same_length (three_digits_or_more n) (three_digits_or_more m) is in
    elim (cases_lt n 4096) [
      | inl few ↦
          elim (cases_lt m 4096) [
            | inl low ↦
                one_four n m (omega arith) (omega arith) (ap lower_case (three_behind_0 n few) ∙ ap (λ (l : List ℕ). 48 ∷ l) (ap lower_case (sym (short_is n few)) ∙ is ∙ ap lower_case (short_is m low)) ∙ ap lower_case (sym (three_behind_0 m low)))
            | inr high ↦ absurd (omega (arith, len, length-short n few, length-long m high))
          ]
      | inr many ↦
          elim (cases_lt m 4096) [
            | inl low ↦ absurd (omega (arith, len, length-long n many, length-short m low))
            | inr high ↦ one_four n m (omega arith) (omega arith) (ap lower_case (sym (long_is n many)) ∙ is ∙ ap lower_case (long_is m high))
          ]
    ]
