-- Which numbers a set has, and the least above a number.
use Rattle.std.proofs.Common.{◌≡◌, ◌==◌, ℕ, ◌<◌, ◌≤◌, Bool, true, false, ◌&&◌, not, [], Option, Some, None, refl, sym, ap, ◌∙◌, cond, arith}
use Rattle.std.specs.Prelude.{◌||◌}
use Rattle.std.specs.BTreeMap.{is_at}
use Rattle.std.specs.BTreeSet.{BTreeSet, contains}
use Rattle.std.specs.List.{list_any}
use Rattle.std.specs.declared.cmp.Ordering.TheVariants.{Less}
use Rattle.std.specs.Ordering.{is_gt, nat_cmp}
use Rattle.std.proofs.lemmas.Bool.Decides.{nat_tests}
use Rattle.file_index.specs.Sets.{IsAbove, LeastAbove, NextNumber}
use Rattle.file_index.proofs.Filing.{any_same}
use Rattle.file_index.proofs.Order.{nat_eq_cmp}

-- the number is in the set
abbrev pub has_number : BTreeSet ℕ → ℕ → Bool
has_number s n = list_any (λ m. n == m) s.keys

pub contains-number : (s : BTreeSet ℕ) (n : ℕ) → contains nat_cmp s n ≡ has_number s n
contains-number s n = any_same (λ m. is_at (nat_cmp n) m) (λ m. n == m) (λ m. nat_eq_cmp n m) s.keys

-- A number that compares so.

not_greater : (a b : ℕ) → is_gt (nat_cmp a b) ≡ false → a ≤ b
not_greater a b e = grind (arith, nat_tests)

less_cmp : (a b : ℕ) → nat_cmp a b ≡ Less → a < b
less_cmp a b e = grind (arith, nat_tests)

cmp_less : (a b : ℕ) → a < b → nat_cmp a b ≡ Less
cmp_less a b e = grind (arith, nat_tests)

same_at : (number n : ℕ) → is_at (nat_cmp number) n ≡ (n == number)
same_at number n = nat_eq_cmp number n ∙ flips number n
  where
    flips : (m n : ℕ) → (m == n) ≡ (n == m)
    flips m n = grind (arith, nat_tests)

-- The set has this number or lacks it, and of others what it had.

pub noted_at : (old new : BTreeSet ℕ) (number : ℕ) → ((q : ℕ) → contains nat_cmp new q ≡ cond (is_at (nat_cmp number) q) true (contains nat_cmp old q)) → (n : ℕ) → has_number new n ≡ (has_number old n || n == number)
noted_at old new number updates n = sym (contains-number new n) ∙ updates n ∙ rw (same_at number n, contains-number old n) (or_there (n == number) (has_number old n))
  where
    or_there : (s x : Bool) → cond s true x ≡ (x || s)
    or_there true true = refl
    or_there true false = refl
    or_there false true = refl
    or_there false false = refl

pub removed_at : (old new : BTreeSet ℕ) (number : ℕ) → ((q : ℕ) → contains nat_cmp new q ≡ cond (is_at (nat_cmp number) q) false (contains nat_cmp old q)) → (n : ℕ) → has_number new n ≡ (has_number old n && not (n == number))
removed_at old new number updates n = sym (contains-number new n) ∙ updates n ∙ rw (same_at number n, contains-number old n) (and_not (n == number) (has_number old n))
  where
    and_not : (s x : Bool) → cond s false x ≡ (x && not s)
    and_not true true = refl
    and_not true false = refl
    and_not false true = refl
    and_not false false = refl

-- The least above a number.

pub first_least : (s : BTreeSet ℕ) (k : ℕ) → contains nat_cmp s k ≡ true → ((q : ℕ) → contains nat_cmp s q ≡ true → is_gt (nat_cmp k q) ≡ false) → LeastAbove (has_number s) None k
first_least s k there least = record {
  is = sym (contains-number s k) ∙ there;
  above = tt;
  least = λ n is above. not_greater k n (least n (contains-number s n ∙ is));
}

pub range_first : (s : BTreeSet ℕ) (at k : ℕ) → nat_cmp at k ≡ Less → contains nat_cmp s k ≡ true → ((q : ℕ) → nat_cmp at q ≡ Less → contains nat_cmp s q ≡ true → is_gt (nat_cmp k q) ≡ false) → LeastAbove (has_number s) (Some at) k
range_first s at k behind there least = record {
  is = sym (contains-number s k) ∙ there;
  above = less_cmp at k behind;
  least = λ n is above. not_greater k n (least n (cmp_less at n above) (contains-number s n ∙ is));
}

pub range_none : (s : BTreeSet ℕ) (at : ℕ) → ((q : ℕ) → nat_cmp at q ≡ Less → contains nat_cmp s q ≡ false) → NextNumber (has_number s) (Some at) None
range_none s at none n there above =
    let is : contains nat_cmp s n ≡ true = contains-number s n ∙ there in
    absurd (let clash : true ≡ false = sym is ∙ none n (cmp_less at n above) in cc)

-- the same of numbers of which the same is true
pub next_alike : (p q : ℕ → Bool) (after next : Option ℕ) → ((n : ℕ) → p n ≡ q n) → NextNumber p after next → NextNumber q after next
next_alike p q after None alike none = λ n there above. none n (alike n ∙ there) above
next_alike p q after (Some next) alike found = record {
  is = sym (alike next) ∙ found.is;
  above = found.above;
  least = λ n there above. found.least n (alike n ∙ there) above;
}
