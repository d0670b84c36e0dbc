-- Bytes that are the same, and lines of one word, of two and of three.
use Rattle.std.proofs.Common.{rules, refl, sym, ap, arith, ◌∙◌, ◌≡◌, ℕ, List, length, true, false, [], ◌∷◌, get_or, nat_eq}
use Rattle.std.specs.Cmp.Lexicographic.{pointwise}
use Rattle.ftn_addr.specs.Content.{Content}
use Rattle.command_words.specs.Forms.{texts}
use Rattle.command_words.specs.Line.{IsLineOf}
use Rattle.command_words.specs.declared.line.Line.{Line}

pub same_bytes : (xs ys : List ℕ) → pointwise nat_eq xs ys ≡ true → xs ≡ ys
same_bytes [] [] e = refl
same_bytes [] (y ∷ ys) e = absurd (let clash : false ≡ true = e in cc)
same_bytes (x ∷ xs) [] e = absurd (let clash : false ≡ true = e in cc)
same_bytes (x ∷ xs) (y ∷ ys) e = search (rules)

-- a line of no value, and of one
pub line_alone : (words : List (List ℕ)) (line : Line) → IsLineOf words line → line.values ≡ 0 → words ≡ line.command.now ∷ []
line_alone words line is none = go is.rest is.words-are (sym is.count ∙ none)
  where
    go : (rest : List (List ℕ)) → words ≡ line.command.now ∷ rest → length rest ≡ 0 → words ≡ line.command.now ∷ []
    go [] are zero = are
    go (v ∷ vs) are zero = absurd (omega arith)

pub line_of_one : (words : List Content) (line : Line) (word : Content) → IsLineOf (texts words) line → line.values ≡ 1 → word ≡ get_or words 1 word
    → texts words ≡ line.command.now ∷ word.list ∷ []
line_of_one words line word is one at = go words at is.rest is.words-are (sym is.count ∙ one)
  where
    go : (words : List Content) → word ≡ get_or words 1 word → (rest : List (List ℕ)) → texts words ≡ line.command.now ∷ rest → length rest ≡ 1
        → texts words ≡ line.command.now ∷ word.list ∷ []
    go words at [] are count = absurd (omega arith)
    go words at (v ∷ w ∷ vs) are count = absurd (omega arith)
    go [] at (v ∷ []) are count = cc
    go (a ∷ []) at (v ∷ []) are count = cc
    go (a ∷ b ∷ more) at (v ∷ []) are count =
        let last : v ≡ b.list = cc in
        are ∙ ap (λ (w : List ℕ). line.command.now ∷ w ∷ []) (last ∙ ap (λ (w : Content). w.list) (sym at))

-- a line of two values
pub line_of_two : (words : List Content) (line : Line) (first second : Content) → IsLineOf (texts words) line → line.values ≡ 2
    → first ≡ get_or words 1 first → second ≡ get_or words 2 second → texts words ≡ line.command.now ∷ first.list ∷ second.list ∷ []
line_of_two words line first second is two first_at second_at = go words first_at second_at is.rest is.words-are (sym is.count ∙ two)
  where
    go : (words : List Content) → first ≡ get_or words 1 first → second ≡ get_or words 2 second → (rest : List (List ℕ)) → texts words ≡ line.command.now ∷ rest → length rest ≡ 2
        → texts words ≡ line.command.now ∷ first.list ∷ second.list ∷ []
    go words first_at second_at [] are count = absurd (omega arith)
    go words first_at second_at (v ∷ []) are count = absurd (omega arith)
    go words first_at second_at (v ∷ w ∷ x ∷ vs) are count = absurd (omega arith)
    go [] first_at second_at (v ∷ w ∷ []) are count = cc
    go (a ∷ []) first_at second_at (v ∷ w ∷ []) are count = cc
    go (a ∷ b ∷ []) first_at second_at (v ∷ w ∷ []) are count = cc
    go (a ∷ b ∷ c ∷ more) first_at second_at (v ∷ w ∷ []) are count =
        let middle : v ≡ b.list = cc in
        let last : w ≡ c.list = cc in
        are ∙ ap (λ (l : List ℕ). line.command.now ∷ l ∷ w ∷ []) (middle ∙ ap (λ (w : Content). w.list) (sym first_at))
        ∙ ap (λ (l : List ℕ). line.command.now ∷ first.list ∷ l ∷ []) (last ∙ ap (λ (w : Content). w.list) (sym second_at))
