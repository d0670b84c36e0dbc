-- What was added piece by piece is one piece behind what stood before.
use Rattle.std.proofs.Common.{◌≡◌, ℕ, Bool, true, false, List, ◌++◌, refl, ap, ◌∙◌, append_assoc}
use Rattle.std.specs.Int.{from_bool}
use Rattle.ledger_rec.specs.Spelling.{flag_byte}

-- one piece more
more : (base before after a b : List ℕ) → before ≡ base ++ a → after ≡ before ++ b → after ≡ base ++ (a ++ b)
more base before after a b first second = second ∙ ap (λ (l : List ℕ). l ++ b) first ∙ append_assoc base a b

pub joined : (base one two three four five a b c d e : List ℕ) → one ≡ base ++ a → two ≡ one ++ b → three ≡ two ++ c → four ≡ three ++ d → five ≡ four ++ e → five ≡ base ++ (a ++ b ++ c ++ d ++ e)
joined base one two three four five a b c d e is_one is_two is_three is_four is_five =
    more base four five (a ++ b ++ c ++ d) e (more base three four (a ++ b ++ c) d (more base two three (a ++ b) c (more base one two a b is_one is_two) is_three) is_four) is_five

pub flag_of : (flag : Bool) → from_bool flag ≡ flag_byte flag
flag_of true = refl
flag_of false = refl
