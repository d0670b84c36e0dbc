-- The step of reading an escaped name.
use Rattle.std.proofs.Common.{◌≡◌, ℕ, suc, zero, ◌-◌, ◌<◌, List, [], ◌∷◌, ◌++◌, length, drop, true, refl, sym, ap, ◌∙◌, arith, inl, inr, append_assoc}
use Rattle.std.specs.Prelude.{slice_index, IsTrue}
use Rattle.std.specs.Char.{is_ascii_hexdigit}
use Rattle.std.proofs.lemmas.Bool.{and_parts, cases_Bool}
use Rattle.binkp_args.specs.Escape.{is_long_escape, is_short_escape, front_byte, front_len, unescaped_behind, unescaped}

-- the last digit of a short escape
pub short_digit : (word : List ℕ) → is_short_escape word ≡ true → IsTrue (is_ascii_hexdigit (slice_index word 2))
short_digit word h = (and_parts _ _ h).1

passed : (k : ℕ) (word : List ℕ) → unescaped_behind k word ≡ unescaped (drop k word)
passed zero word = refl
passed (suc k) [] = refl
passed (suc k) (byte ∷ word) = passed k word

drop_one : (n byte : ℕ) (word : List ℕ) → 0 < n → drop n (byte ∷ word) ≡ drop (n - 1) word
drop_one zero byte word h = absurd (omega arith)
drop_one (suc n) byte word h = let e : suc n - 1 ≡ n = omega arith in rw e refl

front_counts : (word : List ℕ) → 0 < front_len word
front_counts word =
    elim (cases_Bool (is_long_escape word)) as (λ _. 0 < front_len word) [
      | inl long ↦ rw long (omega arith)
      | inr other ↦ elim (cases_Bool (is_short_escape word)) as (λ _. 0 < front_len word) [ inl short ↦ rw (other, short) (omega arith) | inr plain ↦ rw (other, plain) (omega arith) ]
    ]

pub unescaped_step : (word : List ℕ) → 0 < length word → unescaped word ≡ front_byte word ∷ unescaped (drop (front_len word) word)
unescaped_step [] h = absurd (omega arith)
unescaped_step (byte ∷ word) h =
    let whole = byte ∷ word in
    ap (λ (x : List ℕ). front_byte whole ∷ x) (passed (front_len whole - 1) word ∙ ap unescaped (sym (drop_one (front_len whole) byte word (front_counts whole))))

-- one byte more is written
pub one_byte : (whole out new rest after : List ℕ) (byte : ℕ) → 0 < length rest → byte ≡ front_byte rest → after ≡ drop (front_len rest) rest → new ≡ out ++ byte ∷ [] → out ++ unescaped rest ≡ whole → new ++ unescaped after ≡ whole
one_byte whole out new rest after byte some first left adds before =
    rw (adds, left, first) (append_assoc out (front_byte rest ∷ []) (unescaped (drop (front_len rest) rest)) ∙ ap (λ (x : List ℕ). out ++ x) (sym (unescaped_step rest some)) ∙ before)
