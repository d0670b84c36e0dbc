-- An index of what the seats' sessions have follows a call of one seat.
use Rattle.std.proofs.Common.{◌≡◌, ◌≢◌, ◌==◌, ℕ, Bool, true, false, List, Option, Some, None, refl, sym, ◌∙◌, ap, subst, cond, arith, ⊎_elim}
use Rattle.std.proofs.lemmas.Bool.Decides.{nat_tests}
use Rattle.node_model.proofs.Lists.{decide_line}
use Rattle.hub_core.specs.Hubs.{Sitting, Chair, chair_in}
use Rattle.hub_core.specs.Indices.{Finds, is_just}

-- Where one entry of an index changes.

pub out_others : (seat k : ℕ) (o : Option ℕ) (b : Bool) → is_just seat o ≡ b → k ≢ seat → is_just k (cond b None o) ≡ is_just k o
out_others seat k o false is apart = refl
out_others seat k None true is apart = refl
out_others seat k (Some n) true is apart = grind (arith, nat_tests)

pub out_own : (seat : ℕ) (o : Option ℕ) (b : Bool) → is_just seat o ≡ b → is_just seat (cond b None o) ≡ false
out_own seat o false is = is
out_own seat o true is = refl

pub in_others : (seat k : ℕ) (o : Option ℕ) (b : Bool) → (b ≡ true → o ≡ None) → k ≢ seat → is_just k (cond b (Some seat) o) ≡ is_just k o
in_others seat k o false free apart = refl
in_others seat k o true free apart =
    let none : is_just k o ≡ false = ap (is_just k) (free refl) in
    let other : (seat == k) ≡ false = grind (arith, nat_tests) in
    other ∙ sym none

pub in_own : (seat : ℕ) (o : Option ℕ) (b : Bool) → is_just seat o ≡ false → is_just seat (cond b (Some seat) o) ≡ b
in_own seat o false is = is
in_own seat o true is = grind (arith, nat_tests)

-- The seats of a call: one changes, as its index does.
pub finds_after : {A : Type 0} (has : A → Option Sitting → Bool) (f g : A → Option ℕ) (old new : List Chair) (seat : ℕ)
    → Finds has f old
    → ((k : ℕ) → k ≢ seat → chair_in new k ≡ chair_in old k)
    → ((a : A) (k : ℕ) → k ≢ seat → is_just k (g a) ≡ is_just k (f a))
    → ((a : A) → is_just seat (g a) ≡ has a (chair_in new seat).sitting)
    → Finds has g new
finds_after has f g old new seat finds chairs others own = λ a k. ⊎_elim
    (λ (here : k ≡ seat). subst (λ (j : ℕ). is_just j (g a) ≡ has a (chair_in new j).sitting) (sym here) (own a))
    (λ (apart : k ≢ seat). others a k apart ∙ finds a k ∙ ap (λ (c : Chair). has a c.sitting) (sym (chairs k apart)))
    (decide_line k seat)

-- the index is as before, and so is what the seat has
pub finds_still : {A : Type 0} (has : A → Option Sitting → Bool) (f g : A → Option ℕ) (old new : List Chair) (seat : ℕ)
    → Finds has f old
    → ((k : ℕ) → k ≢ seat → chair_in new k ≡ chair_in old k)
    → ((a : A) → g a ≡ f a)
    → ((a : A) → has a (chair_in new seat).sitting ≡ has a (chair_in old seat).sitting)
    → Finds has g new
finds_still has f g old new seat finds chairs same own =
    finds_after has f g old new seat finds chairs (λ a k apart. ap (is_just k) (same a)) (λ a. ap (is_just seat) (same a) ∙ finds a seat ∙ sym (own a))
