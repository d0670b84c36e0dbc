-- The words of what is written word by word are these words.
use Rattle.std.proofs.Common.{◌≡◌, ℕ, suc, ◌-◌, ◌<◌, ◌≤◌, Bool, true, false, not, eqb, ltb, List, [], ◌∷◌, ◌++◌, length, get_or, refl, sym, ap, ◌∙◌, inl, inr, arith}
use Rattle.std.specs.List.{list_all, All}
use Rattle.std.proofs.lemmas.Bool.{lt-ltb, le-ltb, ltb-false, ne_eqb, and_parts, and_from, cases_Bool, true≢false}
use Rattle.std.proofs.lemmas.List.Folds.{list_all-append}
use Rattle.std.proofs.lemmas.List.Splits.{slice_split_at, slice_split_none}
use Rattle.std.proofs.lemmas.List.Sums.{AllPass-from_list_all}
use Rattle.binkp_args.specs.Words.{ends_in_zero, without_end, words_of, spaced}

-- no byte of a word is a space or below it
abbrev pub visible : List ℕ → Bool
visible bytes = list_all (λ b. ltb 32 b) bytes

-- bytes of a kind that begins above the space are visible
pub visible_kind : (p : ℕ → Bool) → ((b : ℕ) → b < 33 → p b ≡ false) → (bytes : List ℕ) → list_all p bytes ≡ true → visible bytes ≡ true
visible_kind p low [] h = refl
visible_kind p low (b ∷ bytes) h =
    let parts = and_parts (p b) (list_all p bytes) h in
    let head : ltb 32 b ≡ true = elim (cases_Bool (ltb 32 b)) as (λ _. ltb 32 b ≡ true) [ inl e ↦ e | inr e ↦ absurd (true≢false (sym parts.0 ∙ low b (let most : b ≤ 32 = ltb-false 32 b e in omega arith))) ] in
    and_from _ _ head (visible_kind p low bytes parts.1)

pub visible-append : (a b : List ℕ) → visible a ≡ true → visible b ≡ true → visible (a ++ b) ≡ true
visible-append a b ha hb = rw list_all-append (and_from _ _ ha hb)

-- a word that is written
pub record IsWord (word : List ℕ) : Type 0 where
  pub some : 0 < length word
  pub seen : visible word ≡ true

no_space : (word : List ℕ) → visible word ≡ true → All (λ b. eqb b 32 ≡ false) word
no_space word h = λ k d within. (let above : ltb 32 (get_or word k d) ≡ true = AllPass-from_list_all (λ b. ltb 32 b) word h k d within in ne_eqb (get_or word k d) 32 (λ e. true≢false (sym (rw e at above))))

not_empty : (word : List ℕ) → 0 < length word → not (eqb (length word) 0) ≡ true
not_empty word some = let e : eqb (length word) 0 ≡ false = ne_eqb (length word) 0 (λ h. omega arith) in rw e refl

first_word : (word rest : List ℕ) → IsWord word → words_of (word ++ 32 ∷ rest) ≡ word ∷ words_of rest
first_word word rest is = rw (slice_split_at (λ b. eqb b 32) word 32 rest (no_space word is.seen) refl, not_empty word is.some) refl

last_word : (word : List ℕ) → IsWord word → words_of word ≡ word ∷ []
last_word word is = rw (slice_split_none (λ b. eqb b 32) word (no_space word is.seen), not_empty word is.some) refl

pub tail_of : {X : Type 0} (P : X → Type 0) (x : X) (xs : List X) → All P (x ∷ xs) → All P xs
tail_of P x xs h = λ k d within. h (suc k) d (omega arith)

pub head_of : {X : Type 0} (P : X → Type 0) (x : X) (xs : List X) → All P (x ∷ xs) → P x
head_of P x xs h = h 0 x (omega arith)

pub words_of-spaced : (words : List (List ℕ)) → All IsWord words → words_of (spaced words) ≡ words
words_of-spaced [] are = refl
words_of-spaced (word ∷ []) are = last_word word (head_of IsWord word [] are)
words_of-spaced (word ∷ second ∷ more) are =
    first_word word (spaced (second ∷ more)) (head_of IsWord word (second ∷ more) are) ∙ ap (λ (x : List (List ℕ)). word ∷ x) (words_of-spaced (second ∷ more) (tail_of IsWord word (second ∷ more) are))

-- no byte is 0
abbrev pub nonzero : List ℕ → Bool
nonzero bytes = list_all (λ b. ltb 0 b) bytes

nonzero_word : (bytes : List ℕ) → visible bytes ≡ true → nonzero bytes ≡ true
nonzero_word [] h = refl
nonzero_word (b ∷ bytes) h =
    let parts = and_parts (ltb 32 b) (visible bytes) h in
    let head : ltb 0 b ≡ true = elim (cases_Bool (ltb 0 b)) as (λ _. ltb 0 b ≡ true) [ inl e ↦ e | inr e ↦ absurd (true≢false (sym parts.0 ∙ (let none : b ≤ 0 = ltb-false 0 b e in le-ltb 32 b (omega arith)))) ] in
    and_from _ _ head (nonzero_word bytes parts.1)

nonzero-spaced : (words : List (List ℕ)) → All IsWord words → nonzero (spaced words) ≡ true
nonzero-spaced [] are = refl
nonzero-spaced (word ∷ []) are = nonzero_word word (head_of IsWord word [] are).seen
nonzero-spaced (word ∷ second ∷ more) are =
    rw list_all-append (and_from _ _ (nonzero_word word (head_of IsWord word (second ∷ more) are).seen) (nonzero-spaced (second ∷ more) (tail_of IsWord word (second ∷ more) are)))

kept_end : (text : List ℕ) → nonzero text ≡ true → ends_in_zero text ≡ false
kept_end [] h = refl
kept_end (b ∷ text) h =
    let whole = b ∷ text in
    let last : ltb 0 (get_or whole (length whole - 1) 0) ≡ true = AllPass-from_list_all (λ b. ltb 0 b) whole h (length whole - 1) 0 (omega arith) in
    let other : eqb (get_or whole (length whole - 1) 0) 0 ≡ false = ne_eqb _ 0 (λ e. true≢false (sym (rw e at last))) in
    let some : ltb 0 (length whole) ≡ true = lt-ltb 0 (length whole) (omega arith) in
    rw (some, other) refl

-- the words of an argument that is written word by word
pub words_read : (words : List (List ℕ)) → All IsWord words → words_of (without_end (spaced words)) ≡ words
words_read words are = rw (kept_end (spaced words) (nonzero-spaced words are)) (words_of-spaced words are)
