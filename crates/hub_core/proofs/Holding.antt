-- The index of held files, entry by entry.
use Rattle.std.proofs.Common.{◌≡◌, ℕ, Bool, true, false, ◌&&◌, List, [], ◌∷◌, length, Option, Some, None, refl, sym, ap, ◌∙◌, inl, inr, cond, Result, Ok, Err, OnErr}
use Rattle.std.specs.Prelude.{IsTrue, ◌↔◌}
use Rattle.std.specs.BTreeMap as tree
use Rattle.std.specs.BTreeMap.{BTreeMap}
use Rattle.std.specs.Map.{lookup}
use Rattle.std.proofs.lemmas.Bool.{cases_Bool}
use Rattle.ftn_addr.specs.Address.{Address, address, same_address}
use Rattle.ftn_addr.specs.Files.{is_same}
use Rattle.ftn_addr.specs.Key.{Key, key_of, same_key}
use Rattle.ftn_addr.specs.declared.addr.Addr.{Addr}
use Rattle.ftn_addr.specs.declared.addr.FileKey.{FileKey}
use Rattle.file_index.proofs.Filing.{a_key, an_address, lookup_same}
use Rattle.file_index.proofs.Order.{by_address, by_key, address-cmp, key-cmp, same_key_is, same_key-flips, same_address-flips}
use Rattle.hub_core.specs.Holders.{holder_in, seat_under}

-- the seat under the sender, where the key stands
abbrev pub get_in : Option (BTreeMap Addr ℕ) → Addr → Option ℕ
get_in None a = None
get_in (Some senders) a = tree.get by_address senders a

in_same : (found : Option (BTreeMap Addr ℕ)) (a : Addr) → get_in found a ≡ seat_under found (address a)
in_same None a = refl
in_same (Some senders) a = lookup_same (λ b. tree.is_at (by_address a) b) (λ b. same_address (address a) (address b)) (λ b. address-cmp a b) senders.entries

pub get-holder : (m : BTreeMap FileKey (BTreeMap Addr ℕ)) (k : FileKey) (a : Addr) → get_in (tree.get by_key m k) a ≡ holder_in m.entries (address a) (key_of k)
get-holder m k a =
    in_same (tree.get by_key m k) a
    ∙ ap (λ found. seat_under found (address a)) (lookup_same (λ q. tree.is_at (by_key k) q) (λ q. same_key (key_of k) (key_of q)) (λ q. key-cmp k q) m.entries)

here : (b : Bool) (w x : Option ℕ) → cond b w x ≡ cond (b && true) w x
here true w x = refl
here false w x = refl

elsewhere : (b : Bool) (w x : Option ℕ) → x ≡ cond (b && false) w x
elsewhere true w x = refl
elsewhere false w x = refl

-- under one key one sender's seat is another, and other keys have what they had
pub changed : (old new : BTreeMap FileKey (BTreeMap Addr ℕ)) (key : FileKey) (from : Addr) (under : Option (BTreeMap Addr ℕ)) (w : Option ℕ)
    → ((q : FileKey) → tree.get by_key new q ≡ cond (tree.is_at (by_key key) q) under (tree.get by_key old q))
    → ((a : Addr) → get_in under a ≡ cond (tree.is_at (by_address from) a) w (get_in (tree.get by_key old key) a))
    → (a : Address) (k : Key) → holder_in new.entries a k ≡ cond (is_same a k (address from) (key_of key)) w (holder_in old.entries a k)
changed old new key from under w others one a k =
    let q = a_key k in
    let b = an_address a in
    let now : holder_in new.entries a k ≡ get_in (cond (tree.is_at (by_key key) q) under (tree.get by_key old q)) b = sym (get-holder new q b) ∙ ap (λ found. get_in found b) (others q) in
    let test : tree.is_at (by_key key) q ≡ same_key (key_of key) k = key-cmp key q in
    elim (cases_Bool (same_key (key_of key) k)) as (λ _. holder_in new.entries a k ≡ cond (is_same a k (address from) (key_of key)) w (holder_in old.entries a k)) [
      | inl same ↦
          let is : key_of key ≡ k = same_key_is (key_of key) k same in
          let before : get_in (tree.get by_key old key) b ≡ holder_in old.entries a k = get-holder old key b ∙ ap (λ x. holder_in old.entries a x) is in
          let at : get_in (cond (tree.is_at (by_key key) q) under (tree.get by_key old q)) b ≡ get_in under b = rw (test ∙ same) refl in
          let address_test : tree.is_at (by_address from) b ≡ same_address a (address from) = address-cmp from b ∙ same_address-flips (address from) a in
          let key_test : same_key k (key_of key) ≡ true = same_key-flips k (key_of key) ∙ same in
          now ∙ at ∙ one b ∙ rw (address_test, before, key_test) (here (same_address a (address from)) w (holder_in old.entries a k))
      | inr apart ↦
          let at : get_in (cond (tree.is_at (by_key key) q) under (tree.get by_key old q)) b ≡ get_in (tree.get by_key old q) b = rw (test ∙ apart) refl in
          let key_test : same_key k (key_of key) ≡ false = same_key-flips k (key_of key) ∙ apart in
          now ∙ at ∙ get-holder old q b ∙ rw key_test (elsewhere (same_address a (address from)) w (holder_in old.entries a k))
    ]

still : (b : Bool) (under : Option (BTreeMap Addr ℕ)) (found : Option (BTreeMap Addr ℕ)) (a : Addr) → (b ≡ true → get_in under a ≡ get_in found a) → get_in (cond b under found) a ≡ get_in found a
still true under found a same = same refl
still false under found a same = refl

-- under a key there is what was there
pub unchanged : (old new : BTreeMap FileKey (BTreeMap Addr ℕ)) (key : FileKey) (under : Option (BTreeMap Addr ℕ))
    → ((q : FileKey) → tree.get by_key new q ≡ cond (tree.is_at (by_key key) q) under (tree.get by_key old q))
    → ((a : Addr) → get_in under a ≡ get_in (tree.get by_key old key) a)
    → (a : Address) (k : Key) → holder_in new.entries a k ≡ holder_in old.entries a k
unchanged old new key under others one a k =
    let q = a_key k in
    let b = an_address a in
    let same : tree.is_at (by_key key) q ≡ true → get_in under b ≡ get_in (tree.get by_key old q) b = λ at.
    one b ∙ (get-holder old key b ∙ (ap (λ x. holder_in old.entries a x) (same_key_is (key_of key) k (sym (key-cmp key q) ∙ at)) ∙ sym (get-holder old q b))) in
    sym (get-holder new q b) ∙ (ap (λ found. get_in found b) (others q) ∙ (still (tree.is_at (by_key key) q) under (tree.get by_key old q) b same ∙ get-holder old q b))

pub empty_get : (p : Addr → Bool) (senders : BTreeMap Addr ℕ) → senders.entries ≡ [] → lookup p senders.entries ≡ None
empty_get p senders none = ap (lookup p) none

-- nothing stands under a key that isn't there
pub none_under : (old : BTreeMap FileKey (BTreeMap Addr ℕ)) (key : FileKey) → None ≡ tree.get by_key old key → (a : Address) → holder_in old.entries a (key_of key) ≡ None
none_under old key none a = sym (get-holder old key (an_address a)) ∙ ap (λ found. get_in found (an_address a)) (sym none)

-- no sender is left
pub emptied : (senders : BTreeMap Addr ℕ) (b : Bool) → IsTrue b ↔ (tree.btree_map_len senders ≡ 0) → b ≡ true → (a : Addr) → get_in (Some senders) a ≡ None
emptied senders b empty last a = empty_get (tree.is_at (by_address a)) senders (none_left senders.entries (empty.0 last))
  where
    none_left : {A : Type 0} (xs : List A) → length xs ≡ 0 → xs ≡ []
    none_left [] e = refl
    none_left (x ∷ xs) e = absurd (cc)

and_last : (a b : Bool) → (a && b) ≡ true → b ≡ true
and_last true b e = e
and_last false b e = absurd (cc)

-- where the key isn't there, a sender is taken out already
pub without_none : (old : BTreeMap FileKey (BTreeMap Addr ℕ)) (from : Addr) (key : FileKey) → None ≡ tree.get by_key old key → (a : Address) (k : Key) → holder_in old.entries a k ≡ cond (is_same a k (address from) (key_of key)) None (holder_in old.entries a k)
without_none old from key none a k = go (is_same a k (address from) (key_of key)) refl
  where
    go : (b : Bool) → is_same a k (address from) (key_of key) ≡ b → holder_in old.entries a k ≡ cond b None (holder_in old.entries a k)
    go false is = refl
    go true is = ap (λ (l : Key). holder_in old.entries a l) (same_key_is k (key_of key) (and_last (same_address a (address from)) (same_key k (key_of key)) is)) ∙ none_under old key none a

pub on_err : {A E : Type 0} (P : Type 0) (r : Result A E) → P → OnErr r P
on_err P (Ok x) p = tt
on_err P (Err e) p = p
