-- The last call of an address: of its calls none is later.
use Rattle.std.proofs.Common.{◌≡◌, ℕ, zero, suc, ◌≤◌, Bool, true, false, List, [], ◌∷◌, refl, sym, ap, subst, ◌∙◌, inl, inr, arith}
use Rattle.std.specs.Prelude.{Option, Some, None, slice_get, unwrap_or, max, if◌then◌else◌}
use Rattle.std.specs.Ordering.{is_eq}
use Rattle.std.proofs.lemmas.Bool.{cases_lt, true≢false}
use Rattle.std.proofs.lemmas.Cmp.{tied_itself}
use Rattle.file_index.proofs.Order.{same_address_is}
use Rattle.ftn_addr.specs.Address.{Address, address, same_address}
use Rattle.call_sched.specs.Tries.{last_try}
use Rattle.call_sched.specs.declared.words.Try.{Try}
use Rattle.call_sched.proofs.Orders.{address_total, address_same}

-- a call of an address, and none of them is later
pub record IsLatest (tries : List Try) (a : Address) (at : ℕ) : Type 0 where
  pub place : ℕ
  pub made : Try
  pub there : slice_get tries place ≡ Some made
  pub same : address made.addr ≡ a
  pub moment : made.at ≡ at
  pub latest : (k : ℕ) (t : Try) → slice_get tries k ≡ Some t → address t.addr ≡ a → t.at ≤ at

abbrev pub IsLast : List Try → Address → Option ℕ → Type 0
IsLast tries a None = (k : ℕ) (t : Try) → slice_get tries k ≡ Some t → address t.addr ≡ a → ⊥
IsLast tries a (Some at) = IsLatest tries a at

pub some_is : {A : Type 0} {x y : A} → Some x ≡ Some y → x ≡ y
some_is e = cc

pub same_itself : (a : Address) → same_address a a ≡ true
same_itself a = sym (address_same a a) ∙ ap is_eq (tied_itself address_total a)

pub same_where : (a b : Address) → a ≡ b → same_address a b ≡ true
same_where a b e = subst (λ x. same_address a x ≡ true) e (same_itself a)

-- the last call of an address, with one call more in front
first_more : (t : Try) (tries : List Try) (a : Address) (b : Bool) → same_address (address t.addr) a ≡ b → (r : Option ℕ) → IsLast tries a r → IsLast (t ∷ tries) a (if b then Some (max t.at (unwrap_or r 0)) else r)
first_more t tries a true e None is = record {
  place = 0;
  made = t;
  there = refl;
  same = same_address_is (address t.addr) a e;
  moment = omega arith;
  latest = go;
}
  where
    go : (k : ℕ) (u : Try) → slice_get (t ∷ tries) k ≡ Some u → address u.addr ≡ a → u.at ≤ max t.at 0
    go zero u there same = let at : t.at ≡ u.at = ap (λ (x : Try). x.at) (some_is there) in omega arith
    go (suc k) u there same = absurd (is k u there same)
first_more t tries a true e (Some at) is =
    elim (cases_lt t.at at) as (λ _. IsLatest (t ∷ tries) a (max t.at at)) [
      | inl later ↦ record { place = suc is.place; made = is.made; there = is.there; same = is.same; moment = (let m = is.moment in omega arith); latest = go }
      | inr before ↦ record { place = 0; made = t; there = refl; same = same_address_is (address t.addr) a e; moment = omega arith; latest = go }
    ]
  where
    go : (k : ℕ) (u : Try) → slice_get (t ∷ tries) k ≡ Some u → address u.addr ≡ a → u.at ≤ max t.at at
    go zero u there same = let here : t.at ≡ u.at = ap (λ (x : Try). x.at) (some_is there) in omega arith
    go (suc k) u there same = let up = is.latest k u there same in omega arith
first_more t tries a false e None is = go
  where
    go : (k : ℕ) (u : Try) → slice_get (t ∷ tries) k ≡ Some u → address u.addr ≡ a → ⊥
    go zero u there same = true≢false (sym (same_where (address t.addr) a (ap (λ (x : Try). address x.addr) (some_is there) ∙ same)) ∙ e)
    go (suc k) u there same = is k u there same
first_more t tries a false e (Some at) is = record { place = suc is.place; made = is.made; there = is.there; same = is.same; moment = is.moment; latest = go }
  where
    go : (k : ℕ) (u : Try) → slice_get (t ∷ tries) k ≡ Some u → address u.addr ≡ a → u.at ≤ at
    go zero u there same = absurd (true≢false (sym (same_where (address t.addr) a (ap (λ (x : Try). address x.addr) (some_is there) ∙ same)) ∙ e))
    go (suc k) u there same = is.latest k u there same

is_last : (tries : List Try) (a : Address) → IsLast tries a (last_try tries a)
is_last [] a = λ k t there same. absurd (cc)
is_last (t ∷ tries) a = first_more t tries a (same_address (address t.addr) a) refl (last_try tries a) (is_last tries a)

last_only : (tries : List Try) (a : Address) (r s : Option ℕ) → IsLast tries a r → IsLast tries a s → r ≡ s
last_only tries a None None one two = refl
last_only tries a None (Some at) one two = absurd (one two.place two.made two.there two.same)
last_only tries a (Some at) None one two = absurd (two one.place one.made one.there one.same)
last_only tries a (Some at) (Some other) one two =
    let up = two.latest one.place one.made one.there one.same in
    let down = one.latest two.place two.made two.there two.same in
    let here = one.moment in
    let there = two.moment in
    let same : at ≡ other = omega arith in
    ap Some same

-- what is the last call is what the definition says
pub last_is : (tries : List Try) (a : Address) (r : Option ℕ) → IsLast tries a r → r ≡ last_try tries a
last_is tries a r is = last_only tries a r (last_try tries a) is (is_last tries a)

-- a last call so far, and that of the calls behind it
abbrev pub later : Option ℕ → Option ℕ → Option ℕ
later None behind = behind
later (Some at) behind = Some (max at (unwrap_or behind 0))

pub later_more : (last behind : Option ℕ) (at : ℕ) → later (Some (max at (unwrap_or last 0))) behind ≡ later last (Some (max at (unwrap_or behind 0)))
later_more None behind at = let same : max (max at 0) (unwrap_or behind 0) ≡ max at (unwrap_or behind 0) = omega arith in ap Some same
later_more (Some x) behind at = let same : max (max at x) (unwrap_or behind 0) ≡ max x (max at (unwrap_or behind 0)) = omega arith in ap Some same

pub later_none : (last : Option ℕ) → later last None ≡ last
later_none None = refl
later_none (Some at) = let same : max at 0 ≡ at = omega arith in ap Some same
