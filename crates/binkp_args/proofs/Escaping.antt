-- An escaped name is read as the name.
use Rattle.std.proofs.Common.{◌≡◌, ℕ, suc, ◌+◌, ◌*◌, ◌/◌, ◌%◌, ◌<◌, List, [], ◌∷◌, length, true, false, eqb, refl, sym, ap, ◌∙◌, arith, inl, inr}
use Rattle.std.specs.Char.{is_ascii_hexdigit, digit_value}
use Rattle.std.specs.Fmt.{digit_glyph}
use Rattle.std.specs.List.{All}
use Rattle.std.proofs.lemmas.Bool.{agree_below_at, cases_Bool, eqb-true, true≢false, and_left, and_right, and_from, lt-ltb}
use Rattle.binkp_args.specs.Escape.{is_plain, escaped, is_long_escape, is_short_escape, unescaped}

glyph_value : (n : ℕ) → n < 16 → digit_value (digit_glyph false n) ≡ n
glyph_value n small = eqb-true _ _ (agree_below_at (λ k. eqb (digit_value (digit_glyph false k)) k) (λ k. true) 16 n refl small)

glyph_is_digit : (n : ℕ) → n < 16 → is_ascii_hexdigit (digit_glyph false n) ≡ true
glyph_is_digit n small = agree_below_at (λ k. is_ascii_hexdigit (digit_glyph false k)) (λ k. true) 16 n refl small

-- a plain byte is no backslash
plain_is_no_slash : (byte : ℕ) → is_plain byte ≡ true → eqb byte 92 ≡ false
plain_is_no_slash byte plain = elim (cases_Bool (eqb byte 92)) as (λ _. eqb byte 92 ≡ false) [ inl slash ↦ absurd (true≢false (sym plain ∙ ap is_plain (eqb-true byte 92 slash))) | inr other ↦ other ]

plain_front : (byte : ℕ) (word : List ℕ) → eqb byte 92 ≡ false → unescaped (byte ∷ word) ≡ byte ∷ unescaped word
plain_front byte word other =
    let long : is_long_escape (byte ∷ word) ≡ false = and_left _ _ (and_left _ _ (and_left _ _ (and_right _ _ other))) in
    let short : is_short_escape (byte ∷ word) ≡ false = and_left _ _ (and_left _ _ (and_right _ _ other)) in
    rw (long, short) refl

escaped_front : (byte : ℕ) (word : List ℕ) → byte < 256 → unescaped (92 ∷ 120 ∷ digit_glyph false (byte / 16) ∷ digit_glyph false (byte % 16) ∷ word) ≡ byte ∷ unescaped word
escaped_front byte word small =
    let high = glyph_is_digit (byte / 16) (omega arith) in
    let low = glyph_is_digit (byte % 16) (omega arith) in
    let high_value = glyph_value (byte / 16) (omega arith) in
    let low_value = glyph_value (byte % 16) (omega arith) in
    let word' = 92 ∷ 120 ∷ digit_glyph false (byte / 16) ∷ digit_glyph false (byte % 16) ∷ word in
    let long : is_long_escape word' ≡ true = and_from _ _ (and_from _ _ (and_from _ _ (and_from _ _ (lt-ltb 3 (length word') (omega arith)) refl) refl) high) low in
    let value : 16 * digit_value (digit_glyph false (byte / 16)) + digit_value (digit_glyph false (byte % 16)) ≡ byte = omega arith in
    rw long (ap (λ (x : ℕ). x ∷ unescaped word) value)

pub unescaped-escaped : (name : List ℕ) → All (λ byte. byte < 256) name → unescaped (escaped name) ≡ name
unescaped-escaped [] h = refl
unescaped-escaped (byte ∷ name) h =
    let more = unescaped-escaped name (λ k d within. h (suc k) d (omega arith)) in
    elim (cases_Bool (is_plain byte)) as (λ _. unescaped (escaped (byte ∷ name)) ≡ byte ∷ name) [
      | inl plain ↦ rw plain (plain_front byte (escaped name) (plain_is_no_slash byte plain) ∙ ap (λ (x : List ℕ). byte ∷ x) more)
      | inr other ↦ rw other (escaped_front byte (escaped name) (h 0 byte (omega arith)) ∙ ap (λ (x : List ℕ). byte ∷ x) more)
    ]
