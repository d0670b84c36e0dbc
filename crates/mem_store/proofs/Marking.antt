-- The marks of open parts.
use Rattle.std.proofs.Common.{◌≡◌, ◌≢◌, ℕ, zero, suc, ◌<◌, ◌≤◌, Bool, true, false, not, ◌==◌, cond, nat_lt, List, [], ◌∷◌, ◌++◌, Option, Some, None, refl, sym, ◌∙◌, ap, arith, length, get_or, set, take}
use Rattle.std.specs.List.{remove}
use Rattle.std.proofs.lemmas.Bool.Decides.{Decides-ltb}
use Rattle.ftn_addr.specs.Address.{Address}
use Rattle.ftn_addr.specs.Key.{Key}
use Rattle.ftn_addr.specs.Files.{is_same}
use Rattle.node_model.specs.Items.{Mark}
use Rattle.node_model.specs.Lists.{Each, without, first_that}
use Rattle.node_model.specs.Durable.{in_place, unmarked}
use Rattle.node_model.proofs.Lists.{off, Each-weaker, Each-without}
use Rattle.node_model.proofs.Marks.{Each-placed, none_found}
use Rattle.mem_store.specs.Comings.{Coming, mark_in, placed, marks_of}

not_below : (a b : ℕ) → nat_lt a b ≡ false → b ≤ a
not_below a b e = go (nat_lt a b) refl e
  where
    low : (a < b → ⊥) → b ≤ a
    low h = omega (arith, h)

    go : (c : Bool) → nat_lt a b ≡ c → c ≡ false → b ≤ a
    go true is f = off f
    go false is f = low (λ lt. off (sym ((Decides-ltb a b).1 lt) ∙ is))

below : (a b : ℕ) → nat_lt a b ≡ true → a < b
below a b e = (Decides-ltb a b).0 e

is_below : (a b : ℕ) → a < b → nat_lt a b ≡ true
is_below a b lt = (Decides-ltb a b).1 lt

not_above : (a b : ℕ) → b ≤ a → nat_lt a b ≡ false
not_above a b le = go (nat_lt a b) refl
  where
    go : (c : Bool) → nat_lt a b ≡ c → nat_lt a b ≡ false
    go true is = absurd (omega (arith, le, below a b is))
    go false is = is

-- two marks come to their places in either order

lesser_first : (m q : Mark) (xs : List Mark) → m.number < q.number → in_place m (in_place q xs) ≡ in_place q (in_place m xs)
lesser_first m q [] lt = rw (is_below m.number q.number lt, not_above q.number m.number (omega (arith, lt))) refl
lesser_first m q (x ∷ xs) lt = go (nat_lt q.number x.number) (nat_lt m.number x.number) refl refl (lesser_first m q xs lt)
  where
    go : (b c : Bool) → nat_lt q.number x.number ≡ b → nat_lt m.number x.number ≡ c → in_place m (in_place q xs) ≡ in_place q (in_place m xs) → in_place m (cond b (q ∷ x ∷ xs) (x ∷ in_place q xs)) ≡ in_place q (cond c (m ∷ x ∷ xs) (x ∷ in_place m xs))
    go true true u v rest = rw (is_below m.number q.number lt, not_above q.number m.number (omega (arith, lt)), u) refl
    go true false u v rest = absurd (omega (arith, lt, below q.number x.number u, not_below m.number x.number v))
    go false true u v rest = rw (v, not_above q.number m.number (omega (arith, lt)), u) refl
    go false false u v rest = rw (v, u) (ap (λ ys. x ∷ ys) rest)

either_order : (m q : Mark) (xs : List Mark) → m.number ≢ q.number → in_place m (in_place q xs) ≡ in_place q (in_place m xs)
either_order m q xs apart = go (nat_lt m.number q.number) (nat_lt q.number m.number) refl refl
  where
    go : (b c : Bool) → nat_lt m.number q.number ≡ b → nat_lt q.number m.number ≡ c → in_place m (in_place q xs) ≡ in_place q (in_place m xs)
    go true c u v = lesser_first m q xs (below m.number q.number u)
    go false true u v = sym (lesser_first q m xs (below q.number m.number v))
    go false false u v = absurd (apart (omega (arith, not_below m.number q.number u, not_below q.number m.number v)))

-- a part's mark has the part's number, sender and key
pub record IsOf (p : Coming) (m : Mark) : Type 0 where
  pub number : m.number ≡ p.number
  pub from : m.from ≡ p.from
  pub key : m.key ≡ p.key

pub mark_is : (p : Coming) (m : Mark) → mark_in p ≡ Some m → IsOf p m
mark_is p m is = go (p.marked == 0) is
  where
    inside : (x : Mark) → Some x ≡ Some m → x ≡ m
    inside x e = cc

    go : (b : Bool) → cond b None (Some (record { number = p.number; from = p.from; key = p.key; bytes = take p.marked p.bytes })) ≡ Some m → IsOf p m
    go true e = absurd (cc)
    go false e = let same = inside _ e in record { number = ap (λ (x : Mark). x.number) (sym same); from = ap (λ (x : Mark). x.from) (sym same); key = ap (λ (x : Mark). x.key) (sym same) }

placed_order : (p q : Coming) (xs : List Mark) → p.number ≢ q.number → placed (mark_in p) (placed (mark_in q) xs) ≡ placed (mark_in q) (placed (mark_in p) xs)
placed_order p q xs apart = go (mark_in p) (mark_in q) refl refl
  where
    go : (a b : Option Mark) → mark_in p ≡ a → mark_in q ≡ b → placed a (placed b xs) ≡ placed b (placed a xs)
    go None b u v = refl
    go (Some m) None u v = refl
    go (Some m) (Some k) u v = either_order m k xs (λ same. apart (sym (mark_is p m u).number ∙ same ∙ (mark_is q k v).number))

-- the mark of the part there, among the marks of the others
pub marks_at : (ps : List Coming) (i : ℕ) (x : Coming) → i < length ps → x ≡ get_or ps i x → Each (λ (q : Coming). q.number ≢ x.number) (remove ps i) → marks_of ps ≡ placed (mark_in x) (marks_of (remove ps i))
marks_at [] i x lt e apart = absurd (omega (arith, lt))
marks_at (p ∷ ps) zero x lt e apart = ap (λ (q : Coming). placed (mark_in q) (marks_of ps)) (sym e)
marks_at (p ∷ ps) (suc i) x lt e apart =
    ap (placed (mark_in p)) (marks_at ps i x (omega arith) e apart.1) ∙ placed_order p x (marks_of (remove ps i)) apart.0

-- another part in its place
pub marks_set : (ps : List Coming) (i : ℕ) (y : Coming) → i < length ps → Each (λ (q : Coming). q.number ≢ y.number) (remove ps i) → marks_of (set ps i y) ≡ placed (mark_in y) (marks_of (remove ps i))
marks_set [] i y lt apart = absurd (omega (arith, lt))
marks_set (p ∷ ps) zero y lt apart = refl
marks_set (p ∷ ps) (suc i) y lt apart =
    ap (placed (mark_in p)) (marks_set ps i y (omega arith) apart.1) ∙ placed_order p y (marks_of (remove ps i)) apart.0

-- a part behind the others
pub marks_push : (ps : List Coming) (y : Coming) → Each (λ (q : Coming). q.number ≢ y.number) ps → marks_of (ps ++ y ∷ []) ≡ placed (mark_in y) (marks_of ps)
marks_push [] y apart = refl
marks_push (p ∷ ps) y apart = ap (placed (mark_in p)) (marks_push ps y apart.1) ∙ placed_order p y (marks_of ps) apart.0

-- Marks rise by number.

abbrev Rising : List Mark → Type 0
Rising [] = Unit {0}
Rising (m ∷ ms) = Each (λ (q : Mark). m.number ≤ q.number) ms × Rising ms

above : (a b : ℕ) (xs : List Mark) → a ≤ b → Each (λ (q : Mark). b ≤ q.number) xs → Each (λ (q : Mark). a ≤ q.number) xs
above a b xs le all = Each-weaker (λ (q : Mark). b ≤ q.number) (λ (q : Mark). a ≤ q.number) (λ q h. omega (arith, le, h)) xs all

rising_placed : (m : Mark) (xs : List Mark) → Rising xs → Rising (in_place m xs)
rising_placed m [] r = (tt, tt)
rising_placed m (x ∷ xs) r = go (nat_lt m.number x.number) refl (rising_placed m xs r.1)
  where
    go : (b : Bool) → nat_lt m.number x.number ≡ b → Rising (in_place m xs) → Rising (cond b (m ∷ x ∷ xs) (x ∷ in_place m xs))
    go true u rest = let le : m.number ≤ x.number = omega (arith, below m.number x.number u) in ((le, above m.number x.number xs le r.0), r)
    go false u rest = (Each-placed (λ (q : Mark). x.number ≤ q.number) m xs (not_below m.number x.number u) r.0, rest)

rising_marks : (ps : List Coming) → Rising (marks_of ps)
rising_marks [] = tt
rising_marks (p ∷ ps) = go (mark_in p) (rising_marks ps)
  where
    go : (o : Option Mark) → Rising (marks_of ps) → Rising (placed o (marks_of ps))
    go None r = r
    go (Some m) r = rising_placed m (marks_of ps) r

-- before greater ones a mark is the first
before_all : (m : Mark) (xs : List Mark) → Each (λ (q : Mark). m.number < q.number) xs → in_place m xs ≡ m ∷ xs
before_all m [] all = refl
before_all m (x ∷ xs) all = ap (λ b. cond b (m ∷ x ∷ xs) (x ∷ in_place m xs)) (is_below m.number x.number all.0)

-- a mark that stays keeps its place where others are left out
kept_placed : (p : Mark → Bool) (m : Mark) (xs : List Mark) → p m ≡ false → Rising xs → without p (in_place m xs) ≡ in_place m (without p xs)
kept_placed p m [] e r = ap (λ b. cond (not b) (m ∷ []) []) e
kept_placed p m (x ∷ xs) e r = go (nat_lt m.number x.number) refl (kept_placed p m xs e r.1)
  where
    greater : m.number < x.number → Each (λ (q : Mark). m.number < q.number) (x ∷ xs)
    greater lt = (lt, Each-weaker (λ (q : Mark). x.number ≤ q.number) (λ (q : Mark). m.number < q.number) (λ q h. omega (arith, lt, h)) xs r.0)

    keep : (b c : Bool) → nat_lt m.number x.number ≡ false → p x ≡ c → without p (in_place m xs) ≡ in_place m (without p xs) → cond (not c) (x ∷ without p (in_place m xs)) (without p (in_place m xs)) ≡ in_place m (cond (not c) (x ∷ without p xs) (without p xs))
    keep b true u t rest = rest
    keep b false u t rest = rw u (ap (λ ys. x ∷ ys) rest)

    go : (b : Bool) → nat_lt m.number x.number ≡ b → without p (in_place m xs) ≡ in_place m (without p xs) → without p (cond b (m ∷ x ∷ xs) (x ∷ in_place m xs)) ≡ in_place m (without p (x ∷ xs))
    go true u rest =
        ap (λ b. cond (not b) (m ∷ without p (x ∷ xs)) (without p (x ∷ xs))) e
        ∙ sym (before_all m (without p (x ∷ xs)) (Each-without (λ (q : Mark). m.number < q.number) p (x ∷ xs) (greater (below m.number x.number u))))
    go false u rest = keep false (p x) u refl rest

lost_placed : (p : Mark → Bool) (m : Mark) (xs : List Mark) → p m ≡ true → without p (in_place m xs) ≡ without p xs
lost_placed p m [] e = ap (λ b. cond (not b) (m ∷ []) []) e
lost_placed p m (x ∷ xs) e = go (nat_lt m.number x.number) (lost_placed p m xs e)
  where
    go : (b : Bool) → without p (in_place m xs) ≡ without p xs → without p (cond b (m ∷ x ∷ xs) (x ∷ in_place m xs)) ≡ without p (x ∷ xs)
    go true rest = ap (λ b. cond (not b) (m ∷ without p (x ∷ xs)) (without p (x ∷ xs))) e
    go false rest = ap (λ ys. cond (not (p x)) (x ∷ ys) ys) rest

-- the marks that are left are those of the parts that are left
pub unmarked-marks : (from : Address) (key : Key) (ps : List Coming) → unmarked from key (marks_of ps) ≡ marks_of (without (λ (p : Coming). is_same from key p.from p.key) ps)
unmarked-marks from key [] = refl
unmarked-marks from key (p ∷ ps) = go (mark_in p) (is_same from key p.from p.key) refl refl (unmarked-marks from key ps)
  where
    of_part : (m : Mark) → mark_in p ≡ Some m → is_same from key m.from m.key ≡ is_same from key p.from p.key
    of_part m is = rw ((mark_is p m is).from, (mark_is p m is).key) refl

    go : (o : Option Mark) (b : Bool) → mark_in p ≡ o → is_same from key p.from p.key ≡ b → unmarked from key (marks_of ps) ≡ marks_of (without (λ (q : Coming). is_same from key q.from q.key) ps) → unmarked from key (placed o (marks_of ps)) ≡ marks_of (cond (not b) (p ∷ without (λ (q : Coming). is_same from key q.from q.key) ps) (without (λ (q : Coming). is_same from key q.from q.key) ps))
    go None true u v rest = rest
    go None false u v rest = rest ∙ rw u refl
    go (Some m) true u v rest = lost_placed (λ (q : Mark). is_same from key q.from q.key) m (marks_of ps) (of_part m u ∙ v) ∙ rest
    go (Some m) false u v rest =
        kept_placed (λ (q : Mark). is_same from key q.from q.key) m (marks_of ps) (of_part m u ∙ v) (rising_marks ps) ∙ (ap (in_place m) rest ∙ rw u refl)

-- none of these marks is of that sender and key
pub unmarked_none : (from : Address) (key : Key) (ms : List Mark) → first_that (λ (m : Mark). is_same from key m.from m.key) (unmarked from key ms) ≡ None
unmarked_none from key ms = none_found (λ (m : Mark). is_same from key m.from m.key) ms

-- where no other passes, the mark is the first that does
pub find_placed : (p : Mark → Bool) (m : Mark) (xs : List Mark) → p m ≡ true → first_that p xs ≡ None → first_that p (in_place m xs) ≡ Some m
find_placed p m [] e none = ap (λ c. cond c (Some m) None) e
find_placed p m (x ∷ xs) e none = go (nat_lt m.number x.number) (p x) refl none (find_placed p m xs e)
  where
    go : (b c : Bool) → p x ≡ c → cond c (Some x) (first_that p xs) ≡ None → (first_that p xs ≡ None → first_that p (in_place m xs) ≡ Some m) → first_that p (cond b (m ∷ x ∷ xs) (x ∷ in_place m xs)) ≡ Some m
    go true c t n rest = ap (λ d. cond d (Some m) (first_that p (x ∷ xs))) e
    go false true t n rest = absurd (cc)
    go false false t n rest = ap (λ d. cond d (Some x) (first_that p (in_place m xs))) t ∙ rest n
