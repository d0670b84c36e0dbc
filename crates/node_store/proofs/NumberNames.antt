-- The number behind the front of a name.
use Rattle.std.proofs.Common.{◌≡◌, ◌≢◌, Bool, true, ◌&&◌, ℕ, ◌+◌, List, ◌++◌, length, take, drop, Option, Some, None, refl, sym, ◌∙◌, ap, arith, length-append, length-drop}
use Rattle.std.proofs.Math.Seq.{take-append_seam, drop-append_seam}
use Rattle.std.proofs.lemmas.List.{take-append-drop}
use Rattle.node_model.proofs.Lists.{none_some}
use Rattle.node_store.specs.Names.{hex_value, eight_digits, NumberOf}
use Rattle.node_store.proofs.HexDigits.{eight_written, eight_read, length-eight}

pub other_length : (front name : List ℕ) → length name ≢ length front + 8 → NumberOf (λ n. front ++ eight_digits n) None name
other_length front name other = λ n lt is. other (ap length is ∙ omega (arith, length-append front (eight_digits n), length-eight n))

pub other_front : (front name : List ℕ) → take (length front) name ≢ front → NumberOf (λ n. front ++ eight_digits n) None name
other_front front name other = λ n lt is. other (ap (take (length front)) is ∙ take-append_seam front (eight_digits n))

pub behind : (front name : List ℕ) (r : Option ℕ) → r ≡ hex_value (drop (length front) name) → take (length front) name ≡ front → length name ≡ length front + 8 → NumberOf (λ n. front ++ eight_digits n) r name
behind front name (Some n) is same long =
    let e : eight_digits n ≡ drop (length front) name = eight_written n (drop (length front) name) (omega (arith, length-drop (length front) name, long)) (sym is) in
    sym (take-append-drop (length front) name) ∙ ap (λ (l : List ℕ). l ++ drop (length front) name) same ∙ ap (λ (l : List ℕ). front ++ l) (sym e)
behind front name None is same long = λ n lt named.
    none_some (is ∙ ap hex_value (ap (drop (length front)) named ∙ drop-append_seam front (eight_digits n)) ∙ eight_read n lt)

-- a test whose first four parts hold
pub last_of_five : (a b c d e : Bool) → a ≡ true → b ≡ true → c ≡ true → d ≡ true → e ≡ (a && (b && (c && (d && e))))
last_of_five a b c d e p q r s = sym (rw (p, q, r, s) refl)
