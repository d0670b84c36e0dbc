-- Texts with ASCII case ignored, joined and cut.
use Rattle.std.proofs.Common.{◌≡◌, ◌≢◌, ℕ, ◌+◌, inl, inr, ◌==◌, nat_eq, not, true, false, List, [], ◌∷◌, ◌++◌, length, take, drop, refl, sym, ◌∙◌, ap, arith, length-append}
use Rattle.std.specs.Cmp.Lexicographic.{pointwise}
use Rattle.std.specs.Char.{to_ascii_lowercase}
use Rattle.std.proofs.lemmas.Bool.{cases_lt}
use Rattle.std.proofs.lemmas.Str.Ascii.{lowercase_is}
use Rattle.std.proofs.lemmas.List.{map-append, length-map, take_at, drop_at}
use Rattle.ftn_addr.specs.Case.{same_word}
use Rattle.node_model.proofs.Lists.{and_true, off}
use Rattle.node_model.proofs.SameFiles.{same_bytes, bytes-refl}
use Rattle.bso_outbound.specs.Paths.{lower_case}
use Rattle.bso_outbound.specs.Reading.{no_slash}

pub lower-append : (x y : List ℕ) → lower_case (x ++ y) ≡ lower_case x ++ lower_case y
lower-append x y = map-append to_ascii_lowercase x y

pub length-lower : (x : List ℕ) → length (lower_case x) ≡ length x
length-lower x = length-map x to_ascii_lowercase

-- equal lists whose fronts have one length
pub cut_both : (x y u v : List ℕ) → length x ≡ length u → x ++ y ≡ u ++ v → (x ≡ u) × (y ≡ v)
cut_both x y u v len is = (
  sym (take_at x y (length x) refl) ∙ ap (take (length x)) is ∙ take_at u v (length x) (sym len),
  sym (drop_at x y (length x) refl) ∙ ap (drop (length x)) is ∙ drop_at u v (length x) (sym len),
)

pub same_length : (x u : List ℕ) → lower_case x ≡ lower_case u → length x ≡ length u
same_length x u is = sym (length-lower x) ∙ ap length is ∙ length-lower u

pub halves : (x y u v : List ℕ) → length x ≡ length u → lower_case (x ++ y) ≡ lower_case (u ++ v) → (lower_case x ≡ lower_case u) × (lower_case y ≡ lower_case v)
halves x y u v len is =
    cut_both (lower_case x) (lower_case y) (lower_case u) (lower_case v) (length-lower x ∙ len ∙ sym (length-lower u)) (sym (lower-append x y) ∙ is ∙ lower-append u v)

-- the same where the backs have one length
pub backs : (x y u v : List ℕ) → length y ≡ length v → lower_case (x ++ y) ≡ lower_case (u ++ v) → (lower_case x ≡ lower_case u) × (lower_case y ≡ lower_case v)
backs x y u v len is =
    halves x y u v (let all = same_length (x ++ y) (u ++ v) is in omega (arith, all, length-append x y, length-append u v)) is

pub joined : (x y u v : List ℕ) → lower_case x ≡ lower_case u → lower_case y ≡ lower_case v → lower_case (x ++ y) ≡ lower_case (u ++ v)
joined x y u v a b =
    lower-append x y ∙ ap (λ (l : List ℕ). l ++ lower_case y) a ∙ ap (λ (l : List ℕ). lower_case u ++ l) b ∙ sym (lower-append u v)

-- the test for names

pub same_word_is : (a b : List ℕ) → same_word a b ≡ true → lower_case a ≡ lower_case b
same_word_is a b e = same_bytes (lower_case a) (lower_case b) e

pub same_word_from : (a b : List ℕ) → lower_case a ≡ lower_case b → same_word a b ≡ true
same_word_from a b is = ap (λ (l : List ℕ). pointwise nat_eq l (lower_case b)) is ∙ bytes-refl (lower_case b)

pub other_word_is : (a b : List ℕ) → same_word a b ≡ false → lower_case a ≢ lower_case b
other_word_is a b e same = off (sym (same_word_from a b same) ∙ e)

-- slashes

slash_alone : (b : ℕ) → to_ascii_lowercase b ≡ 47 → b ≡ 47
slash_alone b is =
    elim (cases_lt b 65) [
      | inl low ↦ sym ((lowercase_is b).1 low) ∙ is
      | inr from ↦
          elim (cases_lt 90 b) [
            | inl high ↦ sym ((lowercase_is b).2 high) ∙ is
            | inr upper ↦ absurd (let e : to_ascii_lowercase b ≡ b + 32 = (lowercase_is b).0 (from, upper) in omega (arith, e, is))
          ]
    ]

head_no_slash : (b : ℕ) (u : List ℕ) → no_slash (b ∷ u) ≡ true → b ≢ 47
head_no_slash b u h is =
    let first = (and_true (not (b == 47)) (no_slash u) h).0 in
    off (sym first ∙ ap (λ (k : ℕ). not (k == 47)) is)

pub heads : (a b : ℕ) (x y : List ℕ) → a ∷ x ≡ b ∷ y → a ≡ b
heads a b x y is = cc is

pub tails : (a b : ℕ) (x y : List ℕ) → a ∷ x ≡ b ∷ y → x ≡ y
tails a b x y is = cc is

-- names without a slash, each before one
pub at_slash : (x y u v : List ℕ) → no_slash x ≡ true → no_slash u ≡ true → lower_case (x ++ 47 ∷ y) ≡ lower_case (u ++ 47 ∷ v) → (lower_case x ≡ lower_case u) × (lower_case y ≡ lower_case v)
at_slash [] y [] v p q is = (refl, tails 47 47 (lower_case y) (lower_case v) is)
at_slash [] y (b ∷ u) v p q is =
    absurd (head_no_slash b u q (slash_alone b (sym (heads 47 (to_ascii_lowercase b) (lower_case y) (lower_case (u ++ 47 ∷ v)) is))))
at_slash (a ∷ x) y [] v p q is =
    absurd (head_no_slash a x p (slash_alone a (heads (to_ascii_lowercase a) 47 (lower_case (x ++ 47 ∷ y)) (lower_case v) is)))
at_slash (a ∷ x) y (b ∷ u) v p q is =
    let first = heads (to_ascii_lowercase a) (to_ascii_lowercase b) (lower_case (x ++ 47 ∷ y)) (lower_case (u ++ 47 ∷ v)) is in
    let rest = at_slash x y u v (and_true (not (a == 47)) (no_slash x) p).1 (and_true (not (b == 47)) (no_slash u) q).1 (tails (to_ascii_lowercase a) (to_ascii_lowercase b) (lower_case (x ++ 47 ∷ y)) (lower_case (u ++ 47 ∷ v)) is) in
    (ap (λ (c : ℕ). c ∷ lower_case x) first ∙ ap (λ (l : List ℕ). to_ascii_lowercase b ∷ l) rest.0, rest.1)

-- a name without a slash is no path
pub no_path : (x u v : List ℕ) → no_slash x ≡ true → lower_case x ≢ lower_case (u ++ 47 ∷ v)
no_path [] [] v p is = absurd (let clash : [] ≡ 47 ∷ lower_case v = is in cc)
no_path [] (b ∷ u) v p is = absurd (let clash : [] ≡ to_ascii_lowercase b ∷ lower_case (u ++ 47 ∷ v) = is in cc)
no_path (a ∷ x) [] v p is = head_no_slash a x p (slash_alone a (heads (to_ascii_lowercase a) 47 (lower_case x) (lower_case v) is))
no_path (a ∷ x) (b ∷ u) v p is =
    no_path x u v (and_true (not (a == 47)) (no_slash x) p).1 (tails (to_ascii_lowercase a) (to_ascii_lowercase b) (lower_case x) (lower_case (u ++ 47 ∷ v)) is)
