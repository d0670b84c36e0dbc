-- Which turns an index has, what it has once one is put in or taken out, and the first behind a turn.
use Rattle.std.proofs.Common.{◌≡◌, ◌⊎◌, ℕ, ◌<◌, Bool, true, false, ◌&&◌, not, [], Option, Some, None, refl, sym, ap, ◌∙◌, inl, inr, cond, arith}
use Rattle.std.specs.Prelude.{◌||◌, ◌==◌}
use Rattle.std.specs.BTreeMap as tree
use Rattle.std.specs.BTreeMap.{BTreeMap}
use Rattle.std.specs.BTreeSet as set
use Rattle.std.specs.BTreeSet.{BTreeSet}
use Rattle.std.specs.List.{list_any}
use Rattle.std.specs.declared.cmp.Ordering.{Ordering}
use Rattle.std.specs.declared.cmp.Ordering.TheVariants.{Less, Equal, Greater}
use Rattle.std.specs.Ordering.{is_eq, is_gt, ordering_then, nat_cmp}
use Rattle.std.proofs.lemmas.Bool.{cases_Bool}
use Rattle.std.proofs.lemmas.Bool.Decides.{nat_tests}
use Rattle.ftn_addr.specs.Address.{Address, address, same_address}
use Rattle.ftn_addr.specs.declared.addr.Addr.{Addr}
use Rattle.file_index.specs.declared.turns.Turn.{Turn}
use Rattle.file_index.specs.contracts.turns.TurnOrd.TheImpl as turns
use Rattle.file_index.specs.Turns.{same_turn, has_turn, waits, IsLater, FirstPast, NextTurn}
use Rattle.file_index.proofs.Filing.{lookup_same, any_same, an_address}
use Rattle.file_index.proofs.Order.{by_address, address-cmp, nat_eq_cmp, then_and, same_address_is, same_address-flips}

abbrev pub by_turn : Turn → Turn → Ordering
by_turn = turns.cmp-value.it

-- Where turns compare.

turn-cmp : (t u : Turn) → is_eq (by_turn t u) ≡ same_turn t u
turn-cmp t u = then_and _ _ _ _ (nat_eq_cmp t.rank u.rank) (nat_eq_cmp t.number u.number)

pub contains-turn : (s : BTreeSet Turn) (t : Turn) → set.contains by_turn s t ≡ has_turn (Some s) t
contains-turn s t = any_same (λ u. tree.is_at (by_turn t) u) (λ u. same_turn t u) (λ u. turn-cmp t u) s.keys

less_cmp : (a b : ℕ) → nat_cmp a b ≡ Less → a < b
less_cmp a b e = grind (arith, nat_tests)

equal_cmp : (a b : ℕ) → nat_cmp a b ≡ Equal → a ≡ b
equal_cmp a b e = grind (arith, nat_tests)

cmp_less : (a b : ℕ) → a < b → nat_cmp a b ≡ Less
cmp_less a b e = grind (arith, nat_tests)

cmp_equal : (a : ℕ) → nat_cmp a a ≡ Equal
cmp_equal a = grind (arith, nat_tests)

-- a turn that isn't after the other comes at it or later
turn_from : (t u : Turn) → is_gt (by_turn t u) ≡ false → (u ≡ t) ⊎ IsLater u t
turn_from t u e = go (nat_cmp t.rank u.rank) (nat_cmp t.number u.number) refl refl e
  where
    go : (o p : Ordering) → nat_cmp t.rank u.rank ≡ o → nat_cmp t.number u.number ≡ p → is_gt (ordering_then o p) ≡ false → (u ≡ t) ⊎ IsLater u t
    go Less p rank number e = inr (inl (less_cmp t.rank u.rank rank))
    go Equal Less rank number e = inr (inr (equal_cmp t.rank u.rank rank, less_cmp t.number u.number number))
    go Equal Equal rank number e =
        let same_rank = equal_cmp t.rank u.rank rank in
        let same_number = equal_cmp t.number u.number number in
        inl (λ i. record { rank = sym same_rank i; number = sym same_number i })
    go Equal Greater rank number e = absurd cc
    go Greater p rank number e = absurd cc

-- a later turn is behind the other, and the other way round
pub later_turn : (t u : Turn) → IsLater u t → by_turn t u ≡ Less
later_turn t u (inl rank) = rw (cmp_less t.rank u.rank rank) refl
later_turn t u (inr (rank, number)) = rw (sym rank, cmp_equal t.rank, cmp_less t.number u.number number) refl

turn_later : (t u : Turn) → by_turn t u ≡ Less → IsLater u t
turn_later t u e = go (nat_cmp t.rank u.rank) (nat_cmp t.number u.number) refl refl e
  where
    go : (o p : Ordering) → nat_cmp t.rank u.rank ≡ o → nat_cmp t.number u.number ≡ p → ordering_then o p ≡ Less → IsLater u t
    go Less p rank number e = inl (less_cmp t.rank u.rank rank)
    go Equal Less rank number e = inr (equal_cmp t.rank u.rank rank, less_cmp t.number u.number number)
    go Equal Equal rank number e = absurd cc
    go Equal Greater rank number e = absurd cc
    go Greater p rank number e = absurd cc

-- What the index has.

pub get-turns : (m : BTreeMap Addr (BTreeSet Turn)) (a : Addr) (t : Turn) → has_turn (tree.get by_address m a) t ≡ waits m.entries (address a) t
get-turns m a t =
    ap (λ found. has_turn found t) (lookup_same (λ q. tree.is_at (by_address a) q) (λ q. same_address (address a) (address q)) (λ q. address-cmp a q) m.entries)

-- the turns of an address have this turn or lack it, and others have what they had
pub changed_at : (old new : BTreeMap Addr (BTreeSet Turn)) (to : Addr) (turn : Turn) (turns : BTreeSet Turn) (b : Bool)
    → ((q : Addr) → tree.get by_address new q ≡ cond (tree.is_at (by_address to) q) (Some turns) (tree.get by_address old q))
    → ((t : Turn) → set.contains by_turn turns t ≡ cond (tree.is_at (by_turn turn) t) b (has_turn (tree.get by_address old to) t))
    → (a : Address) (t : Turn) → waits new.entries a t ≡ cond (same_address a (address to) && same_turn t turn) b (waits old.entries a t)
changed_at old new to turn turns b others changed a t =
    let q = an_address a in
    let now : waits new.entries a t ≡ has_turn (cond (tree.is_at (by_address to) q) (Some turns) (tree.get by_address old q)) t = sym (get-turns new q t) ∙ ap (λ found. has_turn found t) (others q) in
    let test : tree.is_at (by_address to) q ≡ same_address a (address to) = address-cmp to q ∙ same_address-flips (address to) a in
    elim (cases_Bool (same_address a (address to))) as (λ _. waits new.entries a t ≡ cond (same_address a (address to) && same_turn t turn) b (waits old.entries a t)) [
      | inl same ↦
          let is : address to ≡ a = sym (same_address_is a (address to) same) in
          let before : has_turn (tree.get by_address old to) t ≡ waits old.entries a t = get-turns old to t ∙ ap (λ x. waits old.entries x t) is in
          let at : has_turn (cond (tree.is_at (by_address to) q) (Some turns) (tree.get by_address old q)) t ≡ set.contains by_turn turns t = rw (test ∙ same) (sym (contains-turn turns t)) in
          let turn_test : tree.is_at (by_turn turn) t ≡ same_turn t turn = turn-cmp turn t ∙ same_flips turn t in
          now ∙ at ∙ changed t ∙ rw (turn_test, before, same) refl
      | inr apart ↦
          let at : has_turn (cond (tree.is_at (by_address to) q) (Some turns) (tree.get by_address old q)) t ≡ has_turn (tree.get by_address old q) t = rw (test ∙ apart) refl in
          now ∙ at ∙ get-turns old q t ∙ rw apart refl
    ]
  where
    same_flips : (t u : Turn) → same_turn t u ≡ same_turn u t
    same_flips t u = rw (flips t.rank u.rank, flips t.number u.number) refl
      where
        flips : (m n : ℕ) → (m == n) ≡ (n == m)
        flips m n = grind (arith, nat_tests)

pub or_there : (s x : Bool) → cond s true x ≡ (x || s)
or_there true true = refl
or_there true false = refl
or_there false true = refl
or_there false false = refl

pub and_not : (s x : Bool) → cond s false x ≡ (x && not s)
and_not true true = refl
and_not true false = refl
and_not false true = refl
and_not false false = refl

-- The first behind a turn.

empty_none : (s : BTreeSet Turn) (t : Turn) → s.keys ≡ [] → has_turn (Some s) t ≡ true → ⊥
empty_none s t none there = absurd (let clash : false ≡ true = sym (ap (list_any (λ u. same_turn t u)) none) ∙ there in cc)

pub none_first : (s : BTreeSet Turn) → s.keys ≡ [] → NextTurn (λ t. has_turn (Some s) t) None None
none_first s none t there past = empty_none s t none there

pub first_least : (s : BTreeSet Turn) (k : Turn) → set.contains by_turn s k ≡ true → ((q : Turn) → set.contains by_turn s q ≡ true → is_gt (by_turn k q) ≡ false) → FirstPast (λ t. has_turn (Some s) t) None k
first_least s k there least = record {
  waits = sym (contains-turn s k) ∙ there;
  past = tt;
  first = λ t is past. turn_from k t (least t (contains-turn s t ∙ is));
}

pub range_first : (s : BTreeSet Turn) (at k : Turn) → by_turn at k ≡ Less → set.contains by_turn s k ≡ true → ((q : Turn) → by_turn at q ≡ Less → set.contains by_turn s q ≡ true → is_gt (by_turn k q) ≡ false) → FirstPast (λ t. has_turn (Some s) t) (Some at) k
range_first s at k behind there least = record {
  waits = sym (contains-turn s k) ∙ there;
  past = turn_later at k behind;
  first = λ t is past. turn_from k t (least t (later_turn at t past) (contains-turn s t ∙ is));
}

pub range_none : (s : BTreeSet Turn) (at : Turn) → ((q : Turn) → by_turn at q ≡ Less → set.contains by_turn s q ≡ false) → NextTurn (λ t. has_turn (Some s) t) (Some at) None
range_none s at none t there past =
    let is : set.contains by_turn s t ≡ true = contains-turn s t ∙ there in
    absurd (let clash : true ≡ false = sym is ∙ none t (later_turn at t past) in cc)

-- the same of turns that wait alike
pub next_alike : (p q : Turn → Bool) (after next : Option Turn) → ((t : Turn) → p t ≡ q t) → NextTurn p after next → NextTurn q after next
next_alike p q after None alike none = λ t there past. none t (alike t ∙ there) past
next_alike p q after (Some next) alike found = record {
  waits = sym (alike next) ∙ found.waits;
  past = found.past;
  first = λ t there past. found.first t (alike t ∙ there) past;
}

-- an address that has no turns has none more or less
pub none_there : (m : BTreeMap Addr (BTreeSet Turn)) (to : Addr) → tree.get by_address m to ≡ None → (a : Address) (t : Turn) → same_address a (address to) ≡ true → waits m.entries a t ≡ false
none_there m to none a t same =
    ap (λ x. waits m.entries x t) (same_address_is a (address to) same) ∙ sym (get-turns m to t) ∙ ap (λ found. has_turn found t) none

pub without_none : (m : BTreeMap Addr (BTreeSet Turn)) (to : Addr) (turn : Turn) → tree.get by_address m to ≡ None → (a : Address) (t : Turn) → waits m.entries a t ≡ (waits m.entries a t && not (same_address a (address to) && same_turn t turn))
without_none m to turn none a t = elim (cases_Bool (same_address a (address to))) as (λ _. waits m.entries a t ≡ (waits m.entries a t && not (same_address a (address to) && same_turn t turn))) [
  | inl same ↦ rw (none_there m to none a t same) refl
  | inr apart ↦ rw apart (whole (waits m.entries a t))
]
  where
    whole : (x : Bool) → x ≡ (x && true)
    whole true = refl
    whole false = refl

-- a new set has none, and so an address has none that has no set
pub no_turns : (s : BTreeSet Turn) (m : BTreeMap Addr (BTreeSet Turn)) (to : Addr) (t : Turn) → s.keys ≡ [] → has_turn (tree.get by_address m to) t ≡ has_turn None t → has_turn (Some s) t ≡ has_turn (tree.get by_address m to) t
no_turns s m to t empty none = ap (list_any (λ u. same_turn t u)) empty ∙ sym none
