-- What a `ListStore` tells without the bytes fits what it tells with them, and what it tells of open parts is in order.
use Rattle.std.proofs.Common.{◌≡◌, ℕ, ◌≤◌, Bool, true, false, not, ◌==◌, cond, nat_le, List, [], ◌∷◌, Some, refl, sym, ◌∙◌, ap, subst, inl, inr, ⊎_elim, arith, length, map}
use Rattle.std.specs.List.{list_all}
use Rattle.std.proofs.lemmas.Bool.Decides.{leb_tells, Decides-eqb}
use Rattle.ftn_addr.specs.Files.{is_same}
use Rattle.node_model.specs.Items.{Mark, MarkOf}
use Rattle.node_model.specs.Lists.{Member, Each, first_that}
use Rattle.node_model.specs.Durable.{mark_map}
use Rattle.node_model.specs.Stocks.{part_in, part_of as part_of_file}
use Rattle.node_model.specs.Stores.{StoreTied}
use Rattle.node_model.proofs.Lists.{and_true, and_both, off, is_same_true, is_same_at, is_same_refl, eqb_refl, Each-member}
use Rattle.mem_store.specs.Comings.{Coming, part_of}
use Rattle.mem_store.specs.ListStates.{ListState, state_of}
use Rattle.mem_store.specs.Orders.{Apart, AllApart, IsDrawn, are_apart, is_drawn, is_orderly, told_parts}

-- the tests say what they test

not_true : (b : Bool) → not b ≡ true → b ≡ false
not_true true e = off (sym e)
not_true false e = refl

not_false : (b : Bool) → b ≡ false → not b ≡ true
not_false true e = off e
not_false false e = refl

apart_true : (p q : Coming) → are_apart p q ≡ true → Apart p q
apart_true p q e =
    let h = and_true (not (p.number == q.number)) _ e in
    ((λ same. off (sym ((Decides-eqb p.number q.number).1 same) ∙ not_true _ h.0)), not_true _ h.1)

apart_is : (p q : Coming) → Apart p q → are_apart p q ≡ true
apart_is p q a = and_both (not (p.number == q.number)) _ (go (p.number == q.number) refl) (not_false _ a.1)
  where
    go : (b : Bool) → (p.number == q.number) ≡ b → not (p.number == q.number) ≡ true
    go true e = absurd (a.0 ((Decides-eqb p.number q.number).0 e))
    go false e = ap not e

all_apart_true : (p : Coming) (qs : List Coming) → list_all (are_apart p) qs ≡ true → Each (Apart p) qs
all_apart_true p [] e = tt
all_apart_true p (q ∷ qs) e = let h = and_true (are_apart p q) _ e in (apart_true p q h.0, all_apart_true p qs h.1)

all_apart_is : (p : Coming) (qs : List Coming) → Each (Apart p) qs → list_all (are_apart p) qs ≡ true
all_apart_is p [] all = refl
all_apart_is p (q ∷ qs) all = and_both (are_apart p q) _ (apart_is p q all.0) (all_apart_is p qs all.1)

at_most_is : (a b : ℕ) → a ≤ b → nat_le a b ≡ true
at_most_is a b le = ⊎_elim (λ l. l.0) (λ r. absurd (omega (arith, r.1, le))) (leb_tells a b)

at_most_true : (a b : ℕ) → nat_le a b ≡ true → a ≤ b
at_most_true a b e = ⊎_elim (λ l. l.1) (λ r. off (sym e ∙ r.0)) (leb_tells a b)

-- parts in order pass the test
pub orderly_is : (drawn : ℕ) (ps : List Coming) → AllApart ps → Each (IsDrawn drawn) ps → is_orderly drawn ps ≡ true
orderly_is drawn [] apart all = refl
orderly_is drawn (p ∷ ps) apart all =
    and_both (is_drawn drawn p) _ (and_both (nat_le 1 p.number) _ (at_most_is 1 p.number all.0.0) (at_most_is p.number drawn all.0.1)) (and_both (list_all (are_apart p) ps) _ (all_apart_is p ps apart.0) (orderly_is drawn ps apart.1 all.1))

orderly_true : (drawn : ℕ) (ps : List Coming) → is_orderly drawn ps ≡ true → AllApart ps × Each (IsDrawn drawn) ps
orderly_true drawn [] e = (tt, tt)
orderly_true drawn (p ∷ ps) e =
    let h = and_true (is_drawn drawn p) _ e in
    let k = and_true (list_all (are_apart p) ps) _ h.1 in
    let d = and_true (nat_le 1 p.number) _ h.0 in
    let rest = orderly_true drawn ps k.1 in
    ((all_apart_true p ps k.0, rest.0), ((at_most_true 1 p.number d.0, at_most_true p.number drawn d.1), rest.1))

-- then all of them are told
pub told_are : (drawn : ℕ) (ps : List Coming) → AllApart ps → Each (IsDrawn drawn) ps → told_parts drawn ps ≡ map part_of ps
told_are drawn ps apart all = ap (λ b. cond b (map part_of ps) []) (orderly_is drawn ps apart all)

-- what is told of a part, without its bytes

abbrev sized : List Coming → List (MarkOf ℕ)
sized ps = map (mark_map length) (map part_of ps)

record Told (ps : List Coming) (drawn : ℕ) (m : MarkOf ℕ) : Type 0 where
  number : part_in m.number (sized ps) ≡ Some m
  file : part_of_file m.from m.key (sized ps) ≡ Some m
  some : 1 ≤ m.number
  drawn_one : m.number ≤ drawn

first_is : {A : Type 0} (p : A → Bool) (x : A) (xs : List A) → p x ≡ true → first_that p (x ∷ xs) ≡ Some x
first_is p x xs e = ap (λ b. cond b (Some x) (first_that p xs)) e

first_later : {A : Type 0} (p : A → Bool) (x y : A) (xs : List A) → p x ≡ false → first_that p xs ≡ Some y → first_that p (x ∷ xs) ≡ Some y
first_later p x y xs e rest = ap (λ b. cond b (Some x) (first_that p xs)) e ∙ rest

-- one of these is some part, seen without its bytes
member_is : (ps : List Coming) (m : MarkOf ℕ) → Member m (sized ps) → (q : Coming) × Member q ps × (m ≡ mark_map length (part_of q))
member_is [] m there = absurd there
member_is (p ∷ ps) m (inl e) = (p, inl refl, e)
member_is (p ∷ ps) m (inr there) = let h = member_is ps m there in (h.0, inr h.1, h.2)

told_of : (drawn : ℕ) (ps : List Coming) → AllApart ps → Each (IsDrawn drawn) ps → (m : MarkOf ℕ) → Member m (sized ps) → Told ps drawn m
told_of drawn [] apart all m there = absurd there
told_of drawn (p ∷ ps) apart all m (inl e) =
    subst (Told (p ∷ ps) drawn) (sym e) (record {
      number = first_is (λ (x : MarkOf ℕ). x.number == p.number) (mark_map length (part_of p)) (sized ps) (eqb_refl p.number);
      file = first_is (λ (x : MarkOf ℕ). is_same p.from p.key x.from x.key) (mark_map length (part_of p)) (sized ps) (is_same_refl p.from p.key);
      some = all.0.0;
      drawn_one = all.0.1;
    })
told_of drawn (p ∷ ps) apart all m (inr there) =
    let rest = told_of drawn ps apart.1 all.1 m there in
    let h = member_is ps m there in
    let a = Each-member (Apart p) h.0 ps apart.0 h.1 in
    record {
      number = first_later (λ (x : MarkOf ℕ). x.number == m.number) (mark_map length (part_of p)) m (sized ps) (differs p h.0 m h.2 a) rest.number;
      file = first_later (λ (x : MarkOf ℕ). is_same m.from m.key x.from x.key) (mark_map length (part_of p)) m (sized ps) (other p h.0 m h.2 a) rest.file;
      some = rest.some;
      drawn_one = rest.drawn_one;
    }
  where
    differs : (p q : Coming) (m : MarkOf ℕ) → m ≡ mark_map length (part_of q) → Apart p q → (p.number == m.number) ≡ false
    differs p q m is a = go (p.number == m.number) refl
      where
        go : (b : Bool) → (p.number == m.number) ≡ b → (p.number == m.number) ≡ false
        go true e = absurd (a.0 ((Decides-eqb p.number m.number).0 e ∙ ap (λ (x : MarkOf ℕ). x.number) is))
        go false e = e

    other : (p q : Coming) (m : MarkOf ℕ) → m ≡ mark_map length (part_of q) → Apart p q → is_same m.from m.key p.from p.key ≡ false
    other p q m is a = go (is_same m.from m.key p.from p.key) refl
      where
        go : (b : Bool) → is_same m.from m.key p.from p.key ≡ b → is_same m.from m.key p.from p.key ≡ false
        go true e = let h = is_same_true m.from m.key p.from p.key e in off (sym (is_same_at p.from p.key q.from q.key (sym h.0 ∙ ap (λ (x : MarkOf ℕ). x.from) is) (sym h.1 ∙ ap (λ (x : MarkOf ℕ). x.key) is)) ∙ a.1)
        go false e = e

pub tied : (s : ListState) → StoreTied (state_of s)
tied s = record { sizes = (refl, refl, refl); parts = λ m there. go (is_orderly s.drawn s.parts) refl m there }
  where
    go : (b : Bool) → is_orderly s.drawn s.parts ≡ b → (m : MarkOf ℕ) → Member m (map (mark_map length) (told_parts s.drawn s.parts)) → (part_in m.number (map (mark_map length) (told_parts s.drawn s.parts)) ≡ Some m) × (part_of_file m.from m.key (map (mark_map length) (told_parts s.drawn s.parts)) ≡ Some m) × (1 ≤ m.number) × (m.number ≤ s.drawn)
    go true is m there =
        let same : told_parts s.drawn s.parts ≡ map part_of s.parts = ap (λ b. cond b (map part_of s.parts) []) is in
        let o = orderly_true s.drawn s.parts is in
        let t = told_of s.drawn s.parts o.0 o.1 m (subst (λ (ms : List Mark). Member m (map (mark_map length) ms)) same there) in
        rw same (t.number, t.file, t.some, t.drawn_one)
    go false is m there =
        absurd (subst (λ (ms : List Mark). Member m (map (mark_map length) ms)) (ap (λ b. cond b (map part_of s.parts) []) is) there)
