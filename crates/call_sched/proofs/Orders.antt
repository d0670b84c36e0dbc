-- What comes before what.
use Rattle.std.proofs.Common.{◌≡◌, ℕ, ◌≤◌, true, false, List, refl, ap, subst, ◌∙◌, arith}
use Rattle.std.specs.Prelude.{unwrap_or}
use Rattle.std.specs.declared.cmp.Ordering.{Ordering}
use Rattle.std.specs.declared.cmp.Ordering.TheVariants.{Less, Equal, Greater}
use Rattle.std.specs.Ordering.{is_eq, is_gt, is_lt, nat_cmp, ordering_then, ordering_reverse}
use Rattle.std.specs.Cmp.{IsTotalOrder}
use Rattle.std.proofs.lemmas.Bool.Decides.{nat_tests}
use Rattle.std.proofs.lemmas.Cmp.{nat_cmp_total, nat_list_cmp_total, on_total, then_total}
use Rattle.std.proofs.lemmas.Map.Text.{is_eq-slice_cmp}
use Rattle.file_index.proofs.Order.{nat_eq_cmp, then_and}
use Rattle.ftn_addr.specs.Address.{Address, address, same_address}
use Rattle.node_model.specs.SendRows.{rank}
use Rattle.call_sched.specs.NextCall.{call_order, item_order, last_call}
use Rattle.call_sched.specs.Tries.{address_order, try_order}
use Rattle.call_sched.specs.declared.words.Try.{Try}
use Rattle.call_sched.specs.declared.words.Wanted.{Wanted}

pub address_total : IsTotalOrder address_order
address_total =
    then_total (on_total (λ (a : Address). a.zone) nat_cmp_total)
    (then_total (on_total (λ (a : Address). a.net) nat_cmp_total)
    (then_total (on_total (λ (a : Address). a.node) nat_cmp_total)
    (then_total (on_total (λ (a : Address). a.point) nat_cmp_total) (on_total (λ (a : Address). a.domain) nat_list_cmp_total))))

pub try_total : IsTotalOrder try_order
try_total = then_total (on_total (λ (t : Try). address t.addr) address_total) (on_total (λ (t : Try). t.at) nat_cmp_total)

pub item_total : (tries : List Try) → IsTotalOrder (item_order tries)
item_total tries =
    then_total (on_total (λ (item : Wanted). rank item.flavour) nat_cmp_total)
    (then_total (on_total (λ (item : Wanted). unwrap_or (last_call tries item) 0) nat_cmp_total) (on_total (λ (item : Wanted). address item.addr) address_total))

pub call_total : (tries : List Try) → IsTotalOrder (call_order tries)
call_total tries = then_total (on_total (λ (at : ℕ × Wanted). at.1) (item_total tries)) (on_total (λ (at : ℕ × Wanted). at.0) nat_cmp_total)

-- addresses tie where they are the same
pub address_same : (a b : Address) → is_eq (address_order a b) ≡ same_address a b
address_same a b =
    then_and _ _ _ _ (nat_eq_cmp a.zone b.zone)
    (then_and _ _ _ _ (nat_eq_cmp a.net b.net)
    (then_and _ _ _ _ (nat_eq_cmp a.node b.node)
    (then_and _ _ _ _ (nat_eq_cmp a.point b.point) (is_eq-slice_cmp a.domain b.domain))))

reversed : (o : Ordering) → is_lt o ≡ false → is_gt (ordering_reverse o) ≡ false
reversed Less e = absurd (cc)
reversed Equal e = refl
reversed Greater e = refl

-- what isn't before another isn't behind it the other way round
pub not_before : {K : Type 0} {R : K → K → Ordering} (o : IsTotalOrder R) → (x y : K) → is_lt (R x y) ≡ false → is_gt (R y x) ≡ false
not_before {K} {R} o x y e = ap is_gt (o.antisymm y x) ∙ reversed (R x y) e

pub then_not_behind : (o p : Ordering) → is_gt o ≡ false → is_gt p ≡ false → is_gt (ordering_then o p) ≡ false
then_not_behind Less p e f = refl
then_not_behind Equal p e f = f
then_not_behind Greater p e f = absurd (cc)

pub before_then : (o p : Ordering) → is_lt o ≡ true → is_gt (ordering_then o p) ≡ false
before_then Less p e = refl
before_then Equal p e = absurd (cc)
before_then Greater p e = absurd (cc)

pub number_not_behind : (a b : ℕ) → a ≤ b → is_gt (nat_cmp a b) ≡ false
number_not_behind a b e = grind (arith, nat_tests)

pub number_up_to : (a b : ℕ) → is_gt (nat_cmp a b) ≡ false → a ≤ b
number_up_to a b e = grind (arith, nat_tests)

pub first_not_behind : (o p : Ordering) → is_gt (ordering_then o p) ≡ false → is_gt o ≡ false
first_not_behind Less p e = refl
first_not_behind Equal p e = refl
first_not_behind Greater p e = e

pub second_not_behind : (o p : Ordering) → o ≡ Equal → is_gt (ordering_then o p) ≡ false → is_gt p ≡ false
second_not_behind Less p e f = absurd (cc)
second_not_behind Equal p e f = f
second_not_behind Greater p e f = absurd (cc)

tied : (o : Ordering) → is_gt o ≡ false → is_gt (ordering_reverse o) ≡ false → is_eq o ≡ true
tied Less e f = absurd (cc)
tied Equal e f = refl
tied Greater e f = absurd (cc)

-- where neither comes behind the other they tie
pub tie : {K : Type 0} {R : K → K → Ordering} (o : IsTotalOrder R) → (x y : K) → is_gt (R x y) ≡ false → is_gt (R y x) ≡ false → is_eq (R x y) ≡ true
tie {K} {R} o x y e f = tied (R x y) e (subst (λ (r : Ordering). is_gt r ≡ false) (o.antisymm y x) f)
