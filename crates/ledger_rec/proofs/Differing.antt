-- The numbers of a queue are different.
use Rattle.std.proofs.Common.{◌≡◌, ◌≢◌, ℕ, ◌<◌, List, [], ◌∷◌, ◌++◌, map, true, not, nat_lt, arith}
use Rattle.std.specs.List.{AllByRecursion, list_any, list_all}
use Rattle.std.proofs.lemmas.Bool.{and_parts}
use Rattle.std.proofs.lemmas.Bool.Decides.{Decides-ltb}
use Rattle.ftn_addr.specs.Files.{is_same}
use Rattle.ledger_rec.specs.Fold.{may_queue, new_entry}
use Rattle.ledger_rec.specs.Items.{Entry}
use Rattle.ledger_rec.specs.Order.{AreDifferent}
use Rattle.ledger_rec.specs.Record.{NewFileText}

abbrev pub number_of : Entry → ℕ
number_of e = e.number

differs_last : (n : ℕ) (es : List Entry) (x : Entry) → AllByRecursion (λ k. n ≢ k) (map number_of es) → n ≢ x.number → AllByRecursion (λ k. n ≢ k) (map number_of (es ++ x ∷ []))
differs_last n [] x all new = (new, tt)
differs_last n (e ∷ es) x all new = (all.0, differs_last n es x all.1 new)

-- one more
different_last : (es : List Entry) (x : Entry) → AreDifferent (map number_of es) → AllByRecursion (λ k. k ≢ x.number) (map number_of es) → AreDifferent (map number_of (es ++ x ∷ []))
different_last [] x different other = (tt, tt)
different_last (e ∷ es) x different other = (differs_last e.number es x different.0 other.0, different_last es x different.1 other.1)

-- numbers below another
below_differ : (n : ℕ) (es : List Entry) → list_all (λ (e : Entry). nat_lt e.number n) es ≡ true → AllByRecursion (λ k. k ≢ n) (map number_of es)
below_differ n [] all = tt
below_differ n (e ∷ es) all =
    let h = and_parts (nat_lt e.number n) (list_all (λ (x : Entry). nat_lt x.number n) es) all in
    let lt : e.number < n = (Decides-ltb e.number n).0 h.0 in
    ((λ same. omega (arith, lt, same)), below_differ n es h.1)

-- a file more, whose number is above all others
pub different_queued : (r : NewFileText) (es : List Entry) → may_queue r es ≡ true → AreDifferent (map number_of es) → AreDifferent (map number_of (es ++ new_entry r ∷ []))
different_queued r es may different =
    let below = (and_parts (list_all (λ (e : Entry). nat_lt e.number r.number) es) (not (list_any (λ (e : Entry). is_same r.dest r.key e.dest e.key) es)) may).0 in
    different_last es (new_entry r) different (below_differ r.number es below)
