-- What a seat knows of a state that others led to.
use Rattle.std.proofs.Common.{◌≢◌, ℕ, zero, suc, List, [], ◌∷◌, ◌++◌, All, sym, ap, ◌∙◌, arith}
use mathlib.Core.List.{append_assoc, append-nil}
use Rattle.turn_gate.specs.Turns.{IsTurn, IsContinued, Path, ByOthers}

all_cons : {A : Type 0} (P : A → Type 0) (x : A) (xs : List A) → P x → All P xs → All P (x ∷ xs)
all_cons P x xs p h zero d l = p
all_cons P x xs p h (suc k) d l = h k d (omega arith)

all_append : {A : Type 0} (P : A → Type 0) (xs ys : List A) → All P xs → All P ys → All P (xs ++ ys)
all_append P [] ys h g = g
all_append P (x ∷ xs) ys h g = all_cons P x (xs ++ ys) (h 0 x (omega arith)) (all_append P xs ys (λ k d l. h (suc k) d (omega arith)) g)

module _ {X E P : Type 0} (entries : X → List E) (by : E → ℕ) (part : ℕ → X → P) (Turns : ℕ → X → X → Type 0) (own : (k : ℕ) (a b : X) → Turns k a b → IsTurn entries by part k a b) (seat : ℕ) where
  along : (a : X) (ts : List (ℕ × X)) (b : X) → Path Turns (λ k. k ≢ seat) a ts b → IsContinued entries by part seat a b
  along a [] b same = record {
    rest = [];
    begins = ap entries (sym same) ∙ sym (append-nil (entries a));
    of_others = λ k d l. absurd (omega arith);
    own_part = ap (part seat) (sym same);
  }
  along a (t ∷ ts) b p =
      let turn = own t.0 a t.1 p.1 in
      let later = along t.1 ts b p.2 in record {
        rest = turn.rest ++ later.rest;
        begins = later.begins ∙ (ap (λ (l : List E). l ++ later.rest) turn.grows ∙ append_assoc (entries a) turn.rest later.rest);
        of_others = all_append (λ e. by e ≢ seat) turn.rest later.rest (λ k d l e. p.0 (sym (turn.own k d l) ∙ e)) later.of_others;
        own_part = later.own_part ∙ turn.others seat (λ e. p.0 (sym e));
      }

  -- a state that is reached by turns of others continues what the seat left
  pub continued : (a b : X) → ByOthers Turns seat a b → IsContinued entries by part seat a b
  continued a b r = along a r.0 b r.1
