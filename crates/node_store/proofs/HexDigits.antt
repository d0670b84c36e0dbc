-- Numbers and their hexadecimal digits.
use Rattle.std.proofs.Common.{◌≡◌, inl, inr, ℕ, zero, suc, ◌+◌, ◌-◌, ◌*◌, ◌/◌, ◌%◌, ◌^◌, ◌<◌, ◌≤◌, List, [], ◌∷◌, ◌++◌, length, Bool, true, false, ◌&&◌, Some, None, refl, sym, ◌∙◌, ap, arith, length-append, append_assoc, append-nil, zero-add, add-zero, nat_lt, nat_le}
use Rattle.std.specs.Prelude.{if◌then◌else◌}
use Rattle.std.specs.List.{list_all}
use Rattle.std.proofs.Math.Nat.{pow-suc}
use Rattle.std.proofs.lemmas.Bool.Decides.{nat_tests}
use Rattle.std.proofs.lemmas.Bool.{cases_lt}
use Rattle.node_model.proofs.Lists.{and_true, and_both, or_cases, some_inj, none_some}
use Rattle.node_store.specs.Names.{hex_digit, hex_of, is_hex, digit_value, value_from, hex_value, eight_digits}

pub one_digit : (n m : ℕ) → hex_digit n ≡ hex_digit m → n ≡ m
one_digit n m is = grind (arith, nat_tests)

heads : (x y : ℕ) (xs ys : List ℕ) → x ∷ xs ≡ y ∷ ys → x ≡ y
heads x y xs ys is = cc is

tails : (x y : ℕ) (xs ys : List ℕ) → x ∷ xs ≡ y ∷ ys → xs ≡ ys
tails x y xs ys is = cc is

pub length-hex : (k n : ℕ) → length (hex_of k n) ≡ k + 1
length-hex zero n = refl
length-hex (suc k) n = omega (arith, length-append (hex_of k (n / 16)) (hex_digit (n % 16) ∷ []), length-hex k (n / 16))

-- lists of one length with a last item each
lasts : (x y : ℕ) (xs ys : List ℕ) → length xs ≡ length ys → xs ++ x ∷ [] ≡ ys ++ y ∷ [] → (xs ≡ ys) × (x ≡ y)
lasts x y [] [] len is = (refl, heads x y [] [] is)
lasts x y [] (b ∷ ys) len is = absurd (omega (arith, len))
lasts x y (a ∷ xs) [] len is = absurd (omega (arith, len))
lasts x y (a ∷ xs) (b ∷ ys) len is =
    let rest = lasts x y xs ys (omega (arith, len)) (tails a b (xs ++ x ∷ []) (ys ++ y ∷ []) is) in
    let first = heads a b (xs ++ x ∷ []) (ys ++ y ∷ []) is in
    (ap (λ (c : ℕ). c ∷ xs) first ∙ ap (λ (l : List ℕ). b ∷ l) rest.0, rest.1)

-- digits are those of one number, of whatever size
pub one_number : (k n m : ℕ) → hex_of k n ≡ hex_of k m → n ≡ m
one_number zero n m is = one_digit n m (heads (hex_digit n) (hex_digit m) [] [] is)
one_number (suc k) n m is =
    let parts = lasts (hex_digit (n % 16)) (hex_digit (m % 16)) (hex_of k (n / 16)) (hex_of k (m / 16)) (length-hex k (n / 16) ∙ sym (length-hex k (m / 16))) is in
    let high : n / 16 ≡ m / 16 = one_number k (n / 16) (m / 16) parts.0 in
    let low : n % 16 ≡ m % 16 = one_digit (n % 16) (m % 16) parts.1 in
    omega (arith, high, low)

-- a digit is read as its value, and written as it was
pub hex_is : (n : ℕ) → n < 16 → (is_hex (hex_digit n) ≡ true) × (digit_value (hex_digit n) ≡ n)
hex_is n lt = elim (cases_lt n 10) [
  | inl low ↦
      let e : nat_lt n 10 ≡ true = grind (arith, nat_tests) in
      let a : nat_le 48 (48 + n) ≡ true = grind (arith, nat_tests) in
      let b : nat_le (48 + n) 57 ≡ true = grind (arith, nat_tests) in
      (rw (e, a, b) refl, rw (e, b) (omega arith))
  | inr high ↦
      let e : nat_lt n 10 ≡ false = grind (arith, nat_tests) in
      let a : nat_le 48 (87 + n) ≡ true = grind (arith, nat_tests) in
      let b : nat_le (87 + n) 57 ≡ false = grind (arith, nat_tests) in
      let c : nat_le 97 (87 + n) ≡ true = grind (arith, nat_tests) in
      let d : nat_le (87 + n) 102 ≡ true = grind (arith, nat_tests) in
      (rw (e, a, b, c, d) refl, rw (e, b) (omega arith))
]

pub digit_is : (b : ℕ) → is_hex b ≡ true → (hex_digit (digit_value b) ≡ b) × (digit_value b < 16)
digit_is b is = elim (or_cases (nat_le 48 b && nat_le b 57) (nat_le 97 b && nat_le b 102) is) [
  | inl figure ↦
      let h = and_true (nat_le 48 b) (nat_le b 57) figure in
      let low : 48 ≤ b = (let e = h.0 in grind (arith, nat_tests)) in
      let high : b ≤ 57 = (let e = h.1 in grind (arith, nat_tests)) in
      let e : nat_lt (b - 48) 10 ≡ true = grind (arith, nat_tests) in
      (rw (h.1, e) (omega arith), rw h.1 (omega arith))
  | inr letter ↦
      let h = and_true (nat_le 97 b) (nat_le b 102) letter in
      let low : 97 ≤ b = (let e = h.0 in grind (arith, nat_tests)) in
      let high : b ≤ 102 = (let e = h.1 in grind (arith, nat_tests)) in
      let f : nat_le b 57 ≡ false = grind (arith, nat_tests) in
      let e : nat_lt (b - 87) 10 ≡ false = grind (arith, nat_tests) in
      (rw (f, e) (omega arith), rw f (omega arith))
]

-- a test that all items of two lists pass
pub all-append : (p : ℕ → Bool) (xs ys : List ℕ) → list_all p xs ≡ true → list_all p ys ≡ true → list_all p (xs ++ ys) ≡ true
all-append p [] ys a b = b
all-append p (x ∷ xs) ys a b =
    let h = and_true (p x) (list_all p xs) a in
    and_both (p x) (list_all p (xs ++ ys)) h.0 (all-append p xs ys h.1 b)

-- a digit less
pub shorter : (k n : ℕ) → n < 16 ^ suc (suc k) → n / 16 < 16 ^ suc k
shorter k n lt = omega (arith, lt, pow-suc 16 (suc k))

-- digits are digits
pub all_hex : (k n : ℕ) → n < 16 ^ suc k → list_all is_hex (hex_of k n) ≡ true
all_hex zero n lt = and_both (is_hex (hex_digit n)) true (hex_is n lt).0 refl
all_hex (suc k) n lt =
    all-append is_hex (hex_of k (n / 16)) (hex_digit (n % 16) ∷ []) (all_hex k (n / 16) (shorter k n lt)) (and_both (is_hex (hex_digit (n % 16))) true (hex_is (n % 16) (omega arith)).0 refl)

-- what the digits of a number are read as
pub read_digits : (k n : ℕ) (ys : List ℕ) → n < 16 ^ suc k → value_from 0 (hex_of k n ++ ys) ≡ value_from n ys
read_digits zero n ys lt =
    let h = hex_is n lt in
    ap (λ (b : Bool). if b then value_from (0 + digit_value (hex_digit n)) ys else None) h.0 ∙ ap (λ (v : ℕ). value_from v ys) (ap (λ (v : ℕ). 0 + v) h.1 ∙ zero-add n)
read_digits (suc k) n ys lt =
    let h = hex_is (n % 16) (omega arith) in
    ap (value_from 0) (append_assoc (hex_of k (n / 16)) (hex_digit (n % 16) ∷ []) ys)
    ∙ read_digits k (n / 16) (hex_digit (n % 16) ∷ ys) (shorter k n lt)
    ∙ ap (λ (b : Bool). if b then value_from ((n / 16) * 16 + digit_value (hex_digit (n % 16))) ys else None) h.0
    ∙ ap (λ (v : ℕ). value_from ((n / 16) * 16 + v) ys) h.1
    ∙ ap (λ (v : ℕ). value_from v ys) (let e : (n / 16) * 16 + n % 16 ≡ n = omega arith in e)

-- digits that are read are the number's
pub written : (k v n : ℕ) (xs : List ℕ) → value_from v xs ≡ Some n → hex_of (k + length xs) n ≡ hex_of k v ++ xs
written k v n [] is =
    ap (λ (i : ℕ). hex_of i n) (add-zero k) ∙ ap (hex_of k) (sym (some_inj is)) ∙ sym (append-nil (hex_of k v))
written k v n (b ∷ xs) is = go k v n b xs (λ m. written (suc k) m n xs) (is_hex b) refl is
  where
    go : (k v n b : ℕ) (xs : List ℕ) → ((m : ℕ) → value_from m xs ≡ Some n → hex_of (suc k + length xs) n ≡ hex_of (suc k) m ++ xs) → (t : Bool) → is_hex b ≡ t
        → (if t then value_from (v * 16 + digit_value b) xs else None) ≡ Some n → hex_of (k + length (b ∷ xs)) n ≡ hex_of k v ++ b ∷ xs
    go k v n b xs rest false other e = none_some e
    go k v n b xs rest true this e =
        let d = digit_is b this in
        let high : (v * 16 + digit_value b) / 16 ≡ v = omega (arith, d.1) in
        let low : (v * 16 + digit_value b) % 16 ≡ digit_value b = omega (arith, d.1) in
        let more : k + length (b ∷ xs) ≡ suc k + length xs = omega arith in
        ap (λ (i : ℕ). hex_of i n) more
        ∙ rest (v * 16 + digit_value b) e
        ∙ append_assoc (hex_of k ((v * 16 + digit_value b) / 16)) (hex_digit ((v * 16 + digit_value b) % 16) ∷ []) xs
        ∙ ap (λ (x : ℕ). hex_of k x ++ hex_digit ((v * 16 + digit_value b) % 16) ∷ xs) high
        ∙ ap (λ (x : ℕ). hex_of k v ++ hex_digit x ∷ xs) low
        ∙ ap (λ (x : ℕ). hex_of k v ++ x ∷ xs) d.0

-- one digit more fits four bytes
pub digits_fit : (i v : ℕ) → i < 8 → v < 16 ^ i → v * 16 + 15 < 2 ^ 32
digits_fit zero v lt below = omega (arith, below)
digits_fit (suc zero) v lt below = omega (arith, below)
digits_fit (suc (suc zero)) v lt below = omega (arith, below)
digits_fit (suc (suc (suc zero))) v lt below = omega (arith, below)
digits_fit (suc (suc (suc (suc zero)))) v lt below = omega (arith, below)
digits_fit (suc (suc (suc (suc (suc zero))))) v lt below = omega (arith, below)
digits_fit (suc (suc (suc (suc (suc (suc zero)))))) v lt below = omega (arith, below)
digits_fit (suc (suc (suc (suc (suc (suc (suc zero))))))) v lt below = omega (arith, below)
digits_fit (suc (suc (suc (suc (suc (suc (suc (suc i)))))))) v lt below = absurd (omega (arith, lt))

-- eight digits that are read are those of the number
pub eight_written : (n : ℕ) (xs : List ℕ) → length xs ≡ 8 → hex_value xs ≡ Some n → eight_digits n ≡ xs
unfolding eight_digits
eight_written n [] long is = absurd (omega (arith, long))
eight_written n (b ∷ xs) long is = go (is_hex b) refl is
  where
    go : (t : Bool) → is_hex b ≡ t → (if t then value_from (0 + digit_value b) xs else None) ≡ Some n → hex_of 7 n ≡ b ∷ xs
    go false other e = none_some e
    go true this e =
        let len : length xs ≡ 7 = omega (arith, long) in
        ap (λ (i : ℕ). hex_of i n) (let i : 7 ≡ 0 + length xs = omega (arith, len) in i)
        ∙ written 0 (0 + digit_value b) n xs e
        ∙ ap (λ (x : ℕ). x ∷ xs) (ap hex_digit (zero-add (digit_value b)) ∙ (digit_is b this).0)

-- and the digits of a number are read as it
pub eight_read : (n : ℕ) → n < 2 ^ 32 → hex_value (eight_digits n) ≡ Some n
unfolding eight_digits
eight_read n lt = ap (value_from 0) (sym (append-nil (hex_of 7 n))) ∙ read_digits 7 n [] lt

pub one_eight : (n m : ℕ) → eight_digits n ≡ eight_digits m → n ≡ m
unfolding eight_digits
one_eight n m is = one_number 7 n m is

pub length-eight : (n : ℕ) → length (eight_digits n) ≡ 8
unfolding eight_digits
length-eight n = length-hex 7 n
