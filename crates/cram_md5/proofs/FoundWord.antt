-- The word that was found begins with `CRAM-`, so it has five bytes at least.
use Rattle.std.proofs.Common.{◌≡◌, ℕ, ◌≤◌, Bool, true, List, [], ◌∷◌, ◌++◌, length, drop, Option, Some, None, refl, sym, ap, inl, inr, arith, length-append, Bor}
use Rattle.std.specs.Prelude.{codes, nat_eq, find, IfSome, option_map}
use Rattle.std.specs.List.{starts_with}
use Rattle.std.proofs.lemmas.Bool.{cases_Bool}
use Rattle.std.proofs.lemmas.Bool.Decides.{Decides-eqb}
use Rattle.std.proofs.lemmas.Slice.Eq.{starts_is}

-- what is found passes the test
pub find_passes : {X : Type 0} (test : X → Bool) (xs : List X) (x : X) → find test xs ≡ Some x → test x ≡ true
find_passes test [] x found = absurd (let clash : None ≡ Some x = found in cc)
find_passes test (y ∷ ys) x found =
    elim (cases_Bool (test y)) as (λ _. test x ≡ true) [
      | inl passes ↦ (let same : y ≡ x = (let first : Some y ≡ Some x = rw passes at found in cc) in rw (← same) passes)
      | inr fails ↦ find_passes test ys x (rw fails at found)
    ]

front_length : (word : List ℕ) → starts_with nat_eq word (codes "CRAM-") ≡ true → 5 ≤ length word
front_length word begins =
    let spelled : word ≡ codes "CRAM-" ++ drop 5 word = (starts_is Decides-eqb word (codes "CRAM-") true (sym begins)).0 refl in
    omega (arith, ap length spelled, length-append (codes "CRAM-") (drop 5 word))

pub five_bytes : (word : Option (Bor (List ℕ))) (words : List (List ℕ)) → option_map (λ w. w.now) word ≡ find (λ w. starts_with nat_eq w (codes "CRAM-")) words → IfSome word (λ w. 5 ≤ length w.now)
five_bytes None words found = tt
five_bytes (Some w) words found = front_length w.now (find_passes (λ (v : List ℕ). starts_with nat_eq v (codes "CRAM-")) words w.now (sym found))
