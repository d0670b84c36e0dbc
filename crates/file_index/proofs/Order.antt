-- Where keys and addresses compare equal.
use Rattle.std.proofs.Common.{◌≡◌, ℕ, Bool, true, false, List, refl, sym, subst, ◌∙◌, inl, inr, arith}
use Rattle.std.specs.Prelude.{◌==◌, ◌&&◌, nat_eq}
use Rattle.std.specs.declared.cmp.Ordering.{Ordering}
use Rattle.std.specs.declared.cmp.Ordering.TheVariants.{Less, Equal, Greater}
use Rattle.std.specs.Ordering.{is_eq, ordering_then, nat_cmp}
use Rattle.std.specs.Cmp.Lexicographic.{pointwise}
use Rattle.std.proofs.lemmas.Bool.Decides.{nat_tests, Decides-eqb}
use Rattle.std.proofs.lemmas.Bool.{cases_Bool, true≢false}
use Rattle.std.proofs.lemmas.Slice.Eq.{slice_eq-Decides}
use Rattle.std.proofs.lemmas.Map.Text.{is_eq-slice_cmp}
use Rattle.ftn_addr.specs.Address.{Address, address, same_address}
use Rattle.ftn_addr.specs.Key.{Key, key_of, same_key}
use Rattle.ftn_addr.specs.declared.addr.Addr.{Addr}
use Rattle.ftn_addr.specs.declared.addr.FileKey.{FileKey}
use Rattle.ftn_addr.specs.contracts.addr.AddrOrd.TheImpl as addresses
use Rattle.ftn_addr.specs.contracts.addr.FileKeyOrd.TheImpl as keys

abbrev pub by_address : Addr → Addr → Ordering
by_address = addresses.cmp-value.it

abbrev pub by_key : FileKey → FileKey → Ordering
by_key = keys.cmp-value.it

then_eq : (o p : Ordering) → is_eq (ordering_then o p) ≡ (is_eq o && is_eq p)
then_eq Less p = refl
then_eq Equal p = refl
then_eq Greater p = refl

pub nat_eq_cmp : (a b : ℕ) → is_eq (nat_cmp a b) ≡ (a == b)
nat_eq_cmp a b = grind (arith, nat_tests)

pub then_and : (o p : Ordering) (a b : Bool) → is_eq o ≡ a → is_eq p ≡ b → is_eq (ordering_then o p) ≡ (a && b)
then_and o p a b one two = then_eq o p ∙ rw (one, two) refl

pub address-cmp : (a b : Addr) → is_eq (by_address a b) ≡ same_address (address a) (address b)
address-cmp a b =
    then_and _ _ _ _ (nat_eq_cmp a.zone b.zone)
    (then_and _ _ _ _ (nat_eq_cmp a.net b.net)
    (then_and _ _ _ _ (nat_eq_cmp a.node b.node)
    (then_and _ _ _ _ (nat_eq_cmp a.point b.point) (is_eq-slice_cmp a.domain.list b.domain.list))))

pub key-cmp : (a b : FileKey) → is_eq (by_key a b) ≡ same_key (key_of a) (key_of b)
key-cmp a b = then_and _ _ _ _ (is_eq-slice_cmp a.name.list b.name.list) (then_and _ _ _ _ (nat_eq_cmp a.size b.size) (nat_eq_cmp a.time b.time))

-- texts that agree byte for byte are equal
same_bytes : (xs ys : List ℕ) → pointwise nat_eq xs ys ≡ true → xs ≡ ys
same_bytes xs ys e = (slice_eq-Decides Decides-eqb xs ys (pointwise nat_eq xs ys) refl).0 e

bytes-refl : (xs : List ℕ) → pointwise nat_eq xs xs ≡ true
bytes-refl xs = (slice_eq-Decides Decides-eqb xs xs (pointwise nat_eq xs xs) refl).1 refl

number-refl : (n : ℕ) → (n == n) ≡ true
number-refl n = (Decides-eqb n n).1 refl

and_left : (a b : Bool) → (a && b) ≡ true → a ≡ true
and_left true b e = refl
and_left false b e = e

and_right : (a b : Bool) → (a && b) ≡ true → b ≡ true
and_right true b e = e
and_right false b e = absurd (cc)

pub same_key_is : (a b : Key) → same_key a b ≡ true → a ≡ b
same_key_is a b e =
    let e1 = and_right (pointwise nat_eq a.name b.name) _ e in
    let name : a.name ≡ b.name = same_bytes a.name b.name (and_left (pointwise nat_eq a.name b.name) _ e) in
    let size : a.size ≡ b.size = (Decides-eqb a.size b.size).0 (and_left (a.size == b.size) _ e1) in
    let time : a.time ≡ b.time = (Decides-eqb a.time b.time).0 (and_right (a.size == b.size) _ e1) in
    rw (name, size, time) refl

same_key-refl : (a : Key) → same_key a a ≡ true
same_key-refl a = rw (bytes-refl a.name, number-refl a.size, number-refl a.time) refl

pub same_address_is : (a b : Address) → same_address a b ≡ true → a ≡ b
same_address_is a b e =
    let e1 = and_right (a.zone == b.zone) _ e in
    let e2 = and_right (a.net == b.net) _ e1 in
    let e3 = and_right (a.node == b.node) _ e2 in
    let zone : a.zone ≡ b.zone = (Decides-eqb a.zone b.zone).0 (and_left (a.zone == b.zone) _ e) in
    let net : a.net ≡ b.net = (Decides-eqb a.net b.net).0 (and_left (a.net == b.net) _ e1) in
    let node : a.node ≡ b.node = (Decides-eqb a.node b.node).0 (and_left (a.node == b.node) _ e2) in
    let point : a.point ≡ b.point = (Decides-eqb a.point b.point).0 (and_left (a.point == b.point) _ e3) in
    let domain : a.domain ≡ b.domain = same_bytes a.domain b.domain (and_right (a.point == b.point) _ e3) in
    rw (zone, net, node, point, domain) refl

same_address-refl : (a : Address) → same_address a a ≡ true
same_address-refl a = rw (number-refl a.zone, number-refl a.net, number-refl a.node, number-refl a.point, bytes-refl a.domain) refl

flips : {A : Type 0} (same : A → A → Bool) → ((a b : A) → same a b ≡ true → a ≡ b) → ((a : A) → same a a ≡ true) → (a b : A) → same a b ≡ same b a
flips same is itself a b = elim (cases_Bool (same a b)) as (λ _. same a b ≡ same b a) [
  | inl there ↦ there ∙ sym (subst (λ x. same x a ≡ true) (is a b there) (itself a))
  | inr apart ↦ elim (cases_Bool (same b a)) as (λ _. same a b ≡ same b a) [
    | inl back ↦ absurd (true≢false (sym (subst (λ x. same x b ≡ true) (is b a back) (itself b)) ∙ apart))
    | inr none ↦ apart ∙ sym none
  ]
]

pub same_key-flips : (a b : Key) → same_key a b ≡ same_key b a
same_key-flips a b = flips same_key same_key_is same_key-refl a b

pub same_address-flips : (a b : Address) → same_address a b ≡ same_address b a
same_address-flips a b = flips same_address same_address_is same_address-refl a b
