-- What an index has, and what it has once a file is put in.
use Rattle.std.proofs.Common.{◌≡◌, Bool, true, false, ◌&&◌, List, [], ◌∷◌, Option, Some, None, refl, sym, ap, subst, ◌∙◌, inl, inr, cond}
use Rattle.std.specs.Prelude.{◌||◌, IsSome}
use Rattle.std.specs.BTreeMap as tree
use Rattle.std.specs.BTreeMap.{BTreeMap}
use Rattle.std.specs.BTreeSet as set
use Rattle.std.specs.BTreeSet.{BTreeSet}
use Rattle.std.specs.List.{list_any}
use Rattle.std.specs.Map.{lookup}
use Rattle.std.proofs.lemmas.Bool.{cases_Bool}
use Rattle.ftn_addr.specs.Address.{Address, address, same_address}
use Rattle.ftn_addr.specs.Files.{is_same}
use Rattle.ftn_addr.specs.Key.{Key, key_of, same_key}
use Rattle.ftn_addr.specs.declared.addr.Addr.{Addr}
use Rattle.ftn_addr.specs.declared.addr.FileKey.{FileKey}
use Rattle.file_index.specs.Filed.{has, has_address}
use Rattle.file_index.proofs.Order.{by_address, by_key, address-cmp, key-cmp, same_key_is, same_key-flips, same_address-flips}

pub lookup_same : {K X : Type 0} (p q : K → Bool) → ((k : K) → p k ≡ q k) → (es : List (K × X)) → lookup p es ≡ lookup q es
lookup_same p q same [] = refl
lookup_same p q same (e ∷ es) = rw (same e.0, lookup_same p q same es) refl

pub any_same : {K : Type 0} (p q : K → Bool) → ((k : K) → p k ≡ q k) → (ks : List K) → list_any p ks ≡ list_any q ks
any_same p q same [] = refl
any_same p q same (k ∷ ks) = rw (same k, any_same p q same ks) refl

-- the address is in the set, where there is one
abbrev pub is_in : Option (BTreeSet Addr) → Addr → Bool
is_in None a = false
is_in (Some addresses) a = set.contains by_address addresses a

in_same : (found : Option (BTreeSet Addr)) (a : Addr) → is_in found a ≡ has_address found (address a)
in_same None a = refl
in_same (Some addresses) a = any_same (λ b. tree.is_at (by_address a) b) (λ b. same_address (address a) (address b)) (λ b. address-cmp a b) addresses.keys

pub get-has : (m : BTreeMap FileKey (BTreeSet Addr)) (k : FileKey) (a : Addr) → is_in (tree.get by_key m k) a ≡ has m.entries (address a) (key_of k)
get-has m k a =
    in_same (tree.get by_key m k) a
    ∙ ap (λ found. has_address found (address a)) (lookup_same (λ q. tree.is_at (by_key k) q) (λ q. same_key (key_of k) (key_of q)) (λ q. key-cmp k q) m.entries)

-- an address and a key in memory
abbrev pub an_address : Address → Addr
an_address a = record { zone = a.zone; net = a.net; node = a.node; point = a.point; domain = record { list = a.domain; spare = 0 } }

abbrev pub a_key : Key → FileKey
a_key k = record { name = record { list = k.name; spare = 0 }; size = k.size; time = k.time }

here : (b x : Bool) → cond b true x ≡ (x || (b && true))
here true true = refl
here true false = refl
here false true = refl
here false false = refl

elsewhere : (b x : Bool) → x ≡ (x || (b && false))
elsewhere true true = refl
elsewhere true false = refl
elsewhere false true = refl
elsewhere false false = refl

-- the set of a key has one address more, and other keys have what they had
pub put_in : (old new : BTreeMap FileKey (BTreeSet Addr)) (key : FileKey) (from : Addr) (addresses : BTreeSet Addr)
    → ((q : FileKey) → tree.get by_key new q ≡ cond (tree.is_at (by_key key) q) (Some addresses) (tree.get by_key old q))
    → ((a : Addr) → set.contains by_address addresses a ≡ cond (tree.is_at (by_address from) a) true (is_in (tree.get by_key old key) a))
    → (a : Address) (k : Key) → has new.entries a k ≡ (has old.entries a k || is_same a k (address from) (key_of key))
put_in old new key from addresses others added a k =
    let q = a_key k in
    let w = an_address a in
    let now : has new.entries a k ≡ is_in (cond (tree.is_at (by_key key) q) (Some addresses) (tree.get by_key old q)) w = sym (get-has new q w) ∙ ap (λ found. is_in found w) (others q) in
    let test : tree.is_at (by_key key) q ≡ same_key (key_of key) k = key-cmp key q in
    elim (cases_Bool (same_key (key_of key) k)) as (λ _. has new.entries a k ≡ (has old.entries a k || is_same a k (address from) (key_of key))) [
      | inl same ↦
          let is : key_of key ≡ k = same_key_is (key_of key) k same in
          let before : is_in (tree.get by_key old key) w ≡ has old.entries a k = get-has old key w ∙ ap (λ x. has old.entries a x) is in
          let at : is_in (cond (tree.is_at (by_key key) q) (Some addresses) (tree.get by_key old q)) w ≡ set.contains by_address addresses w = rw (test ∙ same) refl in
          let address_test : tree.is_at (by_address from) w ≡ same_address a (address from) = address-cmp from w ∙ same_address-flips (address from) a in
          let key_test : same_key k (key_of key) ≡ true = same_key-flips k (key_of key) ∙ same in
          now ∙ at ∙ added w ∙ rw (address_test, before, key_test) (here (same_address a (address from)) (has old.entries a k))
      | inr apart ↦
          let at : is_in (cond (tree.is_at (by_key key) q) (Some addresses) (tree.get by_key old q)) w ≡ is_in (tree.get by_key old q) w = rw (test ∙ apart) refl in
          let key_test : same_key k (key_of key) ≡ false = same_key-flips k (key_of key) ∙ apart in
          now ∙ at ∙ get-has old q w ∙ rw key_test (elsewhere (same_address a (address from)) (has old.entries a k))
    ]

pub some_there : {A : Type 0} (o : Option A) (x : A) → Some x ≡ o → IsSome o
some_there o x is = subst IsSome is refl

pub empty_at : {K : Type 0} (p : K → Bool) (s : BTreeSet K) → s.keys ≡ [] → list_any p s.keys ≡ false
empty_at p s none = ap (list_any p) none

pub none_at : (m n : BTreeMap FileKey (BTreeSet Addr)) (key copy : FileKey) (b : Addr) → n ≡ m → key_of copy ≡ key_of key → None ≡ tree.get by_key m key → is_in (tree.get by_key n copy) b ≡ false
none_at m n key copy b same is none =
    get-has n copy b ∙ ap (λ (x : BTreeMap FileKey (BTreeSet Addr)). has x.entries (address b) (key_of copy)) same ∙ ap (λ k. has m.entries (address b) k) is
    ∙ sym (get-has m key b) ∙ ap (λ found. is_in found b) (sym none)
