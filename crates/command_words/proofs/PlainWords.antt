-- Words whose texts are read one after another, and words of a form, which are plain.
use Rattle.std.proofs.Common.{refl, sym, ap, ap₂, subst, ◌∙◌, ◌≡◌, ℕ, List, ◌<◌, ◌+◌, ◌++◌, length, [], ◌∷◌, get_or, map, take, true, false, true≢false, nat_eq, nat_lt, ltb-true, leb-true, arith, ◌≤◌}
use Rattle.std.specs.Borrow.{Bor}
use Rattle.std.specs.List.{All, list_all}
use Rattle.std.proofs.lemmas.List.{get_or-map, length-map, map_more, map-append}
use Rattle.std.proofs.lemmas.List.Elements.{All-nil, All-push}
use Rattle.std.proofs.lemmas.Str.{IsUtf8-from_ascii}
use Rattle.std.proofs.lemmas.Str.Ascii.{IsAscii-cons, IsAscii-nil}
use Rattle.std.specs.Char.{is_ascii_digit}
use Rattle.std.specs.Str.{IsAscii}
use Rattle.clap.proofs.WalkLemmas.{both}
use Rattle.ftn_addr.specs.Content.{Content}
use Rattle.ftn_addr.specs.Digits.{is_numeral}
use Rattle.command_words.specs.Forms.{Command, HasForm, IsPlain, of_answer, of_call, of_compile, of_list, of_lookup, of_serve, of_take, of_trial, texts}

module _ (words : List Content) (i : ℕ) (word : Content) (below : i < length words) (at : word ≡ get_or words i word) where
  -- the texts of one word more
  texts_more : texts (take (i + 1) words) ≡ texts (take i words) ++ word.list ∷ []
  texts_more = map_more (λ (w : Content). w.list) words i word below ∙ ap (λ (w : Content). texts (take i words) ++ w.list ∷ []) (sym at)

  pub read_more : (read : List (Bor (List ℕ))) (text : Bor (List ℕ)) → map (λ t. t.now) read ≡ texts (take i words) → text.now ≡ word.list
      → map (λ t. t.now) (read ++ text ∷ []) ≡ texts (take (i + 1) words)
  read_more read text so_far is = map-append (λ (t : Bor (List ℕ)). t.now) read (text ∷ [])
      ∙ ap₂ (λ (l : List (List ℕ)) (t : List ℕ). l ++ t ∷ []) so_far is ∙ sym texts_more

  pub plain_more : All IsPlain (texts (take i words)) → IsPlain word.list → All IsPlain (texts (take (i + 1) words))
  plain_more so_far plain = subst (All IsPlain) (sym texts_more) (All-push IsPlain (texts (take i words)) word.list so_far plain)

  -- the word is plain where all are
  pub plain_at : All IsPlain (texts words) → IsPlain word.list
  plain_at all = subst IsPlain
      (get_or-map (λ (w : Content). w.list) words i word word.list below ∙ ap (λ (w : Content). w.list) (sym at))
      (all i word.list (subst (λ n. i < n) (sym (length-map words (λ (w : Content). w.list))) below))

-- text of ASCII that begins with another byte than `-`
ascii : (bytes : List ℕ) → list_all (λ b. nat_lt b 128) bytes ≡ true → IsAscii bytes
ascii [] low = IsAscii-nil
ascii (b ∷ bytes) low = let parts = both _ _ low in IsAscii-cons b bytes (ltb-true b 128 parts.0) (ascii bytes parts.1)

ascii_plain : (b : ℕ) (bytes : List ℕ) → nat_eq b 45 ≡ false → list_all (λ b. nat_lt b 128) (b ∷ bytes) ≡ true → IsPlain (b ∷ bytes)
ascii_plain b bytes differs low = record {
  some = λ none. cc;
  no_flag = λ rest is. let same : b ≡ 45 = cc in true≢false (ap (λ x. nat_eq x 45) (sym same) ∙ differs);
  text = IsUtf8-from_ascii (b ∷ bytes) (ascii (b ∷ bytes) low);
}

-- a digit is one of these bytes, and so is no dash
digit_within : (b : ℕ) → is_ascii_digit b ≡ true → (48 ≤ b) × (b ≤ 57)
digit_within b digit = let parts = both _ _ digit in (leb-true 48 b parts.0, leb-true b 57 parts.1)

no_dash : (b : ℕ) (bytes rest : List ℕ) → is_ascii_digit b ≡ true → b ∷ bytes ≡ 45 ∷ rest → ⊥
no_dash b bytes rest digit is = let same : b ≡ 45 = cc in let within = digit_within b digit in omega (arith, within.0, same)

-- digits are ASCII
digits_ascii : (bytes : List ℕ) → list_all is_ascii_digit bytes ≡ true → IsAscii bytes
digits_ascii [] digits = IsAscii-nil
digits_ascii (b ∷ bytes) digits =
    let parts = both _ _ digits in
    let within = digit_within b parts.0 in
    IsAscii-cons b bytes (omega (arith, within.1)) (digits_ascii bytes parts.1)

-- a word of digits alone is plain
digits_plain : (b : ℕ) (bytes : List ℕ) → list_all is_ascii_digit (b ∷ bytes) ≡ true → IsPlain (b ∷ bytes)
digits_plain b bytes digits = record {
  some = λ none. cc;
  no_flag = λ rest. no_dash b bytes rest (both (is_ascii_digit b) (list_all is_ascii_digit bytes) digits).0;
  text = IsUtf8-from_ascii (b ∷ bytes) (digits_ascii (b ∷ bytes) digits);
}

numeral_plain : (word : List ℕ) → is_numeral word ≡ true → IsPlain word
numeral_plain [] numeral = absurd (let clash : false ≡ true = numeral in cc)
numeral_plain (b ∷ bytes) numeral =
    let digits : list_all is_ascii_digit (b ∷ bytes) ≡ true = (both (nat_lt 0 (length (b ∷ bytes))) (list_all is_ascii_digit (b ∷ bytes)) numeral).1 in
    digits_plain b bytes digits

one_plain : (words : List (List ℕ)) (a : List ℕ) → words ≡ a ∷ [] → IsPlain a → All IsPlain words
one_plain words a are plain = subst (All IsPlain) (sym are) (All-push IsPlain [] a (All-nil IsPlain) plain)

two_plain : (words : List (List ℕ)) (a b : List ℕ) → words ≡ a ∷ b ∷ [] → IsPlain a → IsPlain b → All IsPlain words
two_plain words a b are first second =
    subst (All IsPlain) (sym are) (All-push IsPlain (a ∷ []) b (All-push IsPlain [] a (All-nil IsPlain) first) second)

three_plain : (words : List (List ℕ)) (a b c : List ℕ) → words ≡ a ∷ b ∷ c ∷ [] → IsPlain a → IsPlain b → IsPlain c → All IsPlain words
three_plain words a b c are first second third =
    subst (All IsPlain) (sym are) (All-push IsPlain (a ∷ b ∷ []) c (two_plain (a ∷ b ∷ []) a b refl first second) third)

-- words of a form are plain
pub form_plain : (words : List (List ℕ)) (asked : Command) → HasForm words asked → All IsPlain words
form_plain words asked (of_answer is are) = one_plain words _ are (ascii_plain _ _ refl refl)
form_plain words asked (of_call text plain is are) = two_plain words _ text are (ascii_plain _ _ refl refl) plain
form_plain words asked (of_lookup text plain is are) = two_plain words _ text are (ascii_plain _ _ refl refl) plain
form_plain words asked (of_compile path plain short is are) = two_plain words _ path are (ascii_plain _ _ refl refl) plain
form_plain words asked (of_list is are) = one_plain words _ are (ascii_plain _ _ refl refl)
form_plain words asked (of_take is are) = one_plain words _ are (ascii_plain _ _ refl refl)
form_plain words asked (of_serve is are) = one_plain words _ are (ascii_plain _ _ refl refl)
form_plain words asked (of_trial count start files from counts starts is are) =
    three_plain words _ count start are (ascii_plain _ _ refl refl) (numeral_plain count counts.digits) (numeral_plain start starts.digits)
