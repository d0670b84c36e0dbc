-- The last calls of addresses, where one more is noted.
use Rattle.std.proofs.Common.{◌≡◌, ℕ, zero, suc, ◌<◌, arith, Bool, true, false, if◌then◌else◌, List, [], ◌∷◌, ◌++◌, drop, take, length, Option, Some, None, max, refl, sym, ◌∙◌, ap, subst, slice_index_or}
use Rattle.std.specs.Prelude.{slice_set, unwrap_or}
use Rattle.std.specs.List.{insert}
use Rattle.std.proofs.lemmas.List.{take-append-drop}
use Rattle.ftn_addr.specs.Address.{Address, address, same_address}
use Rattle.call_sched.specs.Tries.{last_try}
use Rattle.call_sched.specs.declared.words.Try.{Try}
use Rattle.binkp_serve.specs.Calling.{IsTried, tried_so}

-- the later of a call and of those behind it
abbrev later_of : Bool → ℕ → Option ℕ → Option ℕ
later_of same at last = if same then Some (max at (unwrap_or last 0)) else last

max_swap : (x y z : ℕ) → max x (max y z) ≡ max y (max x z)
max_swap x y z = omega arith

max_once : (x y z : ℕ) → max (max x y) z ≡ max y (max x z)
max_once x y z = omega arith

-- two calls in either order
swapped : (b c : Bool) (x y : ℕ) (last : Option ℕ) → later_of b x (later_of c y last) ≡ later_of c y (later_of b x last)
swapped true true x y last = ap Some (max_swap x y (unwrap_or last 0))
swapped true false x y last = refl
swapped false true x y last = refl
swapped false false x y last = refl

-- two calls of one address
joined : (b : Bool) (x y : ℕ) (last : Option ℕ) → later_of b (max x y) last ≡ later_of b y (later_of b x last)
joined true x y last = ap Some (max_once x y (unwrap_or last 0))
joined false x y last = refl

-- One more among others.

put_in : (front back : List Try) (t : Try) (a : Address) → last_try (front ++ t ∷ back) a ≡ tried_so (address t.addr) t.at (front ++ back) a
put_in [] back t a = refl
put_in (s ∷ front) back t a =
    ap (later_of (same_address (address s.addr) a) s.at) (put_in front back t a)
    ∙ swapped (same_address (address s.addr) a) (same_address (address t.addr) a) s.at t.at (last_try (front ++ back) a)

pub noted_first : (tries : List Try) (place : ℕ) (t : Try) → IsTried (address t.addr) t.at tries (insert tries place t)
noted_first tries place t a =
    put_in (take place tries) (drop place tries) t a
    ∙ ap (λ (l : List Try). tried_so (address t.addr) t.at l a) (take-append-drop place tries)

-- A later one in place of one of the same address.

set_so : (addr : Address) (at : ℕ) (tries : List Try) (place : ℕ) (new d : Try) → place < length tries → address (slice_index_or tries place d).addr ≡ addr → address new.addr ≡ addr → new.at ≡ max (slice_index_or tries place d).at at
    → (a : Address) → last_try (slice_set tries place new) a ≡ tried_so addr at tries a
set_so addr at [] place new d within was is so a = absurd (omega (arith, within))
set_so addr at (t ∷ tries) zero new d within was is so a =
    ap (λ (x : Address). later_of (same_address x a) new.at (last_try tries a)) is
    ∙ (ap (λ (n : ℕ). later_of (same_address addr a) n (last_try tries a)) so
    ∙ (joined (same_address addr a) t.at at (last_try tries a)
    ∙ ap (λ (x : Address). later_of (same_address addr a) at (later_of (same_address x a) t.at (last_try tries a))) (sym was)))
set_so addr at (t ∷ tries) (suc place) new d within was is so a =
    ap (later_of (same_address (address t.addr) a) t.at) (set_so addr at tries place new d (omega (arith, within)) was is so a)
    ∙ swapped (same_address (address t.addr) a) (same_address addr a) t.at at (last_try tries a)

pub noted_again : (addr : Address) (at : ℕ) (tries : List Try) (place : ℕ) (new d : Try) → place < length tries → address (slice_index_or tries place d).addr ≡ addr → address new.addr ≡ addr → new.at ≡ max (slice_index_or tries place d).at at → IsTried addr at tries (slice_set tries place new)
noted_again addr at tries place new d within was is so = set_so addr at tries place new d within was is so
