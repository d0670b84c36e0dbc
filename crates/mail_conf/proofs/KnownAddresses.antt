-- A set of addresses has those of the nodes.
use Rattle.std.proofs.Common.{◌≡◌, ℕ, Bool, true, false, ◌||◌, List, [], ◌∷◌, ◌++◌, nat_eq, refl, sym, ap, ◌∙◌, arith, rules, Ordering, Less, Equal, Greater}
use Rattle.std.specs.BTreeMap.{is_at}
use Rattle.std.specs.BTreeSet.{insert_key}
use Rattle.std.specs.Cmp.Lexicographic.{slice_cmp, pointwise}
use Rattle.std.specs.List.{list_any}
use Rattle.std.specs.Ordering.{is_eq, nat_cmp}
use Rattle.std.proofs.lemmas.Bool.{and_parts, eqb-true}
use Rattle.std.proofs.lemmas.Bool.Decides.{nat_tests}
use Rattle.std.proofs.lemmas.Cmp.{same_from_slice_cmp}
use Rattle.std.proofs.lemmas.Slice.Eq.{bytes_eq-Decides}
use Rattle.ftn_addr.specs.Address.{Address, address, same_address}
use Rattle.ftn_addr.specs.contracts.addr.AddrOrd.TheImpl.{cmp-value}
use Rattle.ftn_addr.specs.declared.addr.Addr.{Addr}
use Rattle.mail_conf.specs.Host.{NodeText}
use Rattle.mail_conf.specs.Known.{Tracks}

same_list : (xs ys : List ℕ) → is_eq (slice_cmp nat_cmp xs ys) ≡ pointwise nat_eq xs ys
same_list xs ys =
    same_from_slice_cmp nat_cmp is_eq (pointwise nat_eq) refl (λ _ _. refl) (λ _ _. refl) (λ x y xs ys o h. grind (arith, nat_tests)) xs ys (slice_cmp nat_cmp xs ys) refl

same_at : (a k : Addr) → is_at (cmp-value.it a) k ≡ same_address (address a) (address k)
same_at a k = search (rules, same_list)

any_same : {X : Type 0} (p q : X → Bool) (each : (x : X) → p x ≡ q x) (xs : List X) → list_any p xs ≡ list_any q xs
any_same p q each [] = refl
any_same p q each (x ∷ xs) = ap (λ (b : Bool). b || list_any p xs) (each x) ∙ ap (λ (b : Bool). q x || b) (any_same p q each xs)

pub known_has : (a : Addr) (keys : List Addr) → list_any (is_at (cmp-value.it a)) keys ≡ list_any (λ key. same_address (address a) (address key)) keys
known_has a keys = any_same (is_at (cmp-value.it a)) (λ key. same_address (address a) (address key)) (same_at a) keys

address_is : (a b : Address) → same_address a b ≡ true → a ≡ b
address_is a b same =
    let first = and_parts _ _ same in
    let second = and_parts _ _ first.1 in
    let third = and_parts _ _ second.1 in
    let fourth = and_parts _ _ third.1 in
    let zone = eqb-true a.zone b.zone first.0 in
    let net = eqb-true a.net b.net second.0 in
    let node = eqb-true a.node b.node third.0 in
    let point = eqb-true a.point b.point fourth.0 in
    let domain : a.domain ≡ b.domain = (bytes_eq-Decides a.domain b.domain).0 fourth.1 in
    ap (λ (n : ℕ). record { zone = n; net = a.net; node = a.node; point = a.point; domain = a.domain }) zone ∙ ap (λ (n : ℕ). record { zone = b.zone; net = n; node = a.node; point = a.point; domain = a.domain }) net ∙ ap (λ (n : ℕ). record { zone = b.zone; net = b.net; node = n; point = a.point; domain = a.domain }) node ∙ ap (λ (n : ℕ). record { zone = b.zone; net = b.net; node = b.node; point = n; domain = a.domain }) point ∙ ap (λ (d : List ℕ). record { zone = b.zone; net = b.net; node = b.node; point = b.point; domain = d }) domain

or_again : (x y : Bool) → (x || y) ≡ (x || (x || y))
or_again true y = refl
or_again false y = refl

or_swap : (x y z : Bool) → (x || (y || z)) ≡ (y || (x || z))
or_swap true true z = refl
or_swap true false z = refl
or_swap false y z = refl

any_insert : (t : Address → Bool) (keys : List Addr) (k : Addr) → list_any (λ key. t (address key)) (insert_key cmp-value.it keys k) ≡ (t (address k) || list_any (λ key. t (address key)) keys)
any_insert t [] k = refl
any_insert t (x ∷ keys) k = go (cmp-value.it k x) refl (any_insert t keys k)
  where
    go : (o : Ordering) → cmp-value.it k x ≡ o → list_any (λ key. t (address key)) (insert_key cmp-value.it keys k) ≡ (t (address k) || list_any (λ key. t (address key)) keys) → list_any (λ key. t (address key)) (insert_key cmp-value.it (x ∷ keys) k) ≡ (t (address k) || (t (address x) || list_any (λ key. t (address key)) keys))
    go Less e later = rw e refl
    go Equal e later =
        let same : address k ≡ address x = address_is (address k) (address x) (sym (same_at k x) ∙ ap is_eq e) in
        rw e (or_again (t (address x)) (list_any (λ key. t (address key)) keys) ∙ ap (λ (a : Address). t a || (t (address x) || list_any (λ key. t (address key)) keys)) (sym same))
    go Greater e later = rw e (ap (λ (b : Bool). t (address x) || b) later ∙ or_swap (t (address x)) (t (address k)) (list_any (λ key. t (address key)) keys))

any_push : (t : NodeText → Bool) (nodes : List NodeText) (n : NodeText) → list_any t (nodes ++ n ∷ []) ≡ (t n || list_any t nodes)
any_push t [] n = refl
any_push t (m ∷ nodes) n = ap (λ (b : Bool). t m || b) (any_push t nodes n) ∙ or_swap (t m) (t n) (list_any t nodes)

pub tracks_more : (nodes : List NodeText) (keys : List Addr) (n : NodeText) (k : Addr) → address k ≡ n.addr → Tracks nodes keys → Tracks (nodes ++ n ∷ []) (insert_key cmp-value.it keys k)
tracks_more nodes keys n k same tracks a =
    any_insert (same_address a) keys k ∙ ap (λ (b : Address). same_address a b || list_any (λ key. same_address a (address key)) keys) same ∙ ap (λ (b : Bool). same_address a n.addr || b) (tracks a) ∙ sym (any_push (λ node. same_address a node.addr) nodes n)
