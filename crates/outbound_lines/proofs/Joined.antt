-- Texts that are put together piece by piece.
use Rattle.std.proofs.Common.{◌≡◌, ◌∙◌, ap, sym, refl, ℕ, List, [], ◌++◌, Result, Ok, Err, append_assoc}
use Rattle.std.specs.Prelude.{OnOk}
use Rattle.std.proofs.lemmas.List.{append-nil}

pub on_ok : {T E : Type 0} (r : Result T E) (P Q : Type 0) → (P → Q) → OnOk r P → OnOk r Q
on_ok (Ok x) P Q f p = f p
on_ok (Err e) P Q f p = tt

-- one piece more, behind what was put together
pub further : (old x y s new : List ℕ) → y ≡ old ++ x → new ≡ y ++ s → new ≡ old ++ (x ++ s)
further old x y s new before is = is ∙ ap (λ (l : List ℕ). l ++ s) before ∙ append_assoc old x s

pub further_four : (old x y a b c d new : List ℕ) → y ≡ old ++ x → new ≡ y ++ a ++ b ++ c ++ d → new ≡ old ++ (x ++ a ++ b ++ c ++ d)
further_four old x y a b c d new before is =
    further old (x ++ a ++ b ++ c) (y ++ a ++ b ++ c) d new
    (further old (x ++ a ++ b) (y ++ a ++ b) c (y ++ a ++ b ++ c) (further old (x ++ a) (y ++ a) b (y ++ a ++ b) (further old x y a (y ++ a) before refl) refl) refl) is

pub further_six : (old x y a b c d e f new : List ℕ) → y ≡ old ++ x → new ≡ y ++ a ++ b ++ c ++ d ++ e ++ f → new ≡ old ++ (x ++ a ++ b ++ c ++ d ++ e ++ f)
further_six old x y a b c d e f new before is =
    further old (x ++ a ++ b ++ c ++ d ++ e) (y ++ a ++ b ++ c ++ d ++ e) f new
    (further old (x ++ a ++ b ++ c ++ d) (y ++ a ++ b ++ c ++ d) e (y ++ a ++ b ++ c ++ d ++ e) (further_four old x y a b c d (y ++ a ++ b ++ c ++ d) before refl) refl) is

-- nothing yet
pub nothing : (old : List ℕ) → old ≡ old ++ []
nothing old = sym (append-nil old)
