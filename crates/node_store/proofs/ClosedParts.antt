-- An open part less: which parts stay, and what is told of them.
use Rattle.std.proofs.Common.{◌≡◌, ℕ, zero, suc, ◌+◌, ◌<◌, ◌≤◌, ◌==◌, List, [], ◌∷◌, length, get_or, map, Option, Some, None, Bool, true, false, not, refl, sym, ◌∙◌, ap, subst, arith, inl, inr}
use Rattle.std.specs.Prelude.{find, position, if◌then◌else◌, nat_lt, IsSome}
use Rattle.std.specs.List.{AllByRecursion, position_or_len, remove}
use Rattle.std.proofs.lemmas.Bool.{cases_Bool, ltb-false}
use Rattle.std.proofs.lemmas.Bool.Decides.{Decides-eqb}
use Rattle.std.proofs.lemmas.List.Quantifiers.{position-Some}
use Rattle.node_model.specs.Items.{MarkOf}
use Rattle.node_model.specs.Lists.{Each, without}
use Rattle.node_model.specs.Stocks.{part_in}
use Rattle.node_model.proofs.Lists.{some_inj, none_some, off, eqb_refl, is_same_flip}
use Rattle.node_store.specs.Contents.{Contents}
use Rattle.node_store.specs.Stored.{Part, part_by, is_orderly, without_part}
use Rattle.node_store.specs.Tied.{Apart, AllApart, IsDrawn, orderly_true, orderly_is}
use Rattle.node_store.proofs.Mirrors.{eqb_apart}

abbrev pub has_number : ℕ → Part → Bool
has_number number p = p.number == number

-- where the first of that number stands

found_here : (number : ℕ) (ps : List Part) (i : ℕ) (d : Part) → i < length ps → has_number number (get_or ps i d) ≡ true → ((k : ℕ) → k < i → has_number number (get_or ps k d) ≡ false) → find (has_number number) ps ≡ Some (get_or ps i d)
found_here number [] i d within here before = absurd (omega (arith, within))
found_here number (p ∷ ps) zero d within here before = ap (λ (b : Bool). if b then Some p else find (has_number number) ps) here
found_here number (p ∷ ps) (suc i) d within here before =
    ap (λ (b : Bool). if b then Some p else find (has_number number) ps) (before 0 (omega arith))
    ∙ found_here number ps i d (omega (arith, within)) here (λ k low. before (suc k) (omega (arith, low)))

pub found_at : (number : ℕ) (ps : List Part) (i : ℕ) (d : Part) → position (has_number number) ps ≡ Some i → find (has_number number) ps ≡ Some (get_or ps i d)
found_at number ps i d at =
    let first = position-Some (has_number number) ps i d at in
    found_here number ps i d first.0 first.1 first.2

removed_here : (number : ℕ) (ps : List Part) (i : ℕ) (d : Part) → i < length ps → has_number number (get_or ps i d) ≡ true → ((k : ℕ) → k < i → has_number number (get_or ps k d) ≡ false) → remove ps i ≡ without_part number ps
removed_here number [] i d within here before = absurd (omega (arith, within))
removed_here number (p ∷ ps) zero d within here before = sym (ap (λ (b : Bool). if b then ps else p ∷ without_part number ps) here)
removed_here number (p ∷ ps) (suc i) d within here before =
    ap (λ (l : List Part). p ∷ l) (removed_here number ps i d (omega (arith, within)) here (λ k low. before (suc k) (omega (arith, low))))
    ∙ sym (ap (λ (b : Bool). if b then ps else p ∷ without_part number ps) (before 0 (omega arith)))

pub removed_at : (number : ℕ) (ps : List Part) (i : ℕ) (d : Part) → position (has_number number) ps ≡ Some i → remove ps i ≡ without_part number ps
removed_at number ps i d at =
    let first = position-Some (has_number number) ps i d at in
    removed_here number ps i d first.0 first.1 first.2

-- a part that is found stands somewhere

nowhere_none : (number : ℕ) (ps : List Part) → length ps ≤ position_or_len (has_number number) ps → find (has_number number) ps ≡ None
nowhere_none number [] all = refl
nowhere_none number (p ∷ ps) all = elim (cases_Bool (has_number number p)) [
  | inl passes ↦ absurd (let short : length (p ∷ ps) ≤ 0 = rw passes at all in omega (arith, short))
  | inr fails ↦ (let more : length (p ∷ ps) ≤ 1 + position_or_len (has_number number) ps = rw fails at all in
      ap (λ (b : Bool). if b then Some p else find (has_number number) ps) fails ∙ nowhere_none number ps (omega (arith, more)))
]

past_end : (i len : ℕ) → (if nat_lt i len then Some i else None) ≡ None → len ≤ i
past_end i len none = elim (cases_Bool (nat_lt i len)) [
  | inl low ↦ none_some (sym none ∙ ap (λ (b : Bool). if b then Some i else None) low)
  | inr high ↦ ltb-false i len high
]

pub somewhere : (number : ℕ) (ps : List Part) → IsSome (find (has_number number) ps) → position (has_number number) ps ≡ None → ⊥
somewhere number ps some none =
    let gone = nowhere_none number ps (past_end (position_or_len (has_number number) ps) (length ps) none) in
    off (sym (subst (λ (o : Option Part). IsSome o) gone some))

-- what holds of all holds of those that are left
pub all_left : (P : Part → Type 0) (number : ℕ) (ps : List Part) → AllByRecursion P ps → AllByRecursion P (without_part number ps)
all_left P number [] all = tt
all_left P number (p ∷ ps) all = go (p.number == number) (all_left P number ps all.1)
  where
    go : (b : Bool) → AllByRecursion P (without_part number ps) → AllByRecursion P (if b then ps else p ∷ without_part number ps)
    go true rest = all.1
    go false rest = (all.0, rest)

pub apart_left : (number : ℕ) (ps : List Part) → AllApart ps → AllApart (without_part number ps)
apart_left number [] apart = tt
apart_left number (p ∷ ps) apart = go (p.number == number) (apart_left number ps apart.1)
  where
    go : (b : Bool) → AllApart (without_part number ps) → AllApart (if b then ps else p ∷ without_part number ps)
    go true rest = apart.1
    go false rest = (all_left (Apart p) number ps apart.0, rest)

-- they stay in order
pub orderly_left : (number drawn : ℕ) (ps : List Part) → is_orderly drawn ps ≡ true → is_orderly drawn (without_part number ps) ≡ true
orderly_left number drawn ps is =
    let o = orderly_true drawn ps is in
    orderly_is drawn (without_part number ps) (apart_left number ps o.0) (all_left (IsDrawn drawn) number ps o.1)

-- each that is left is apart from the one that isn't
pub apart_from : (number : ℕ) (ps : List Part) (q : Part) → AllApart ps → find (has_number number) ps ≡ Some q → AllByRecursion (Apart q) (without_part number ps)
apart_from number [] q apart is = tt
apart_from number (p ∷ ps) q apart is = go (p.number == number) refl is (apart_from number ps q apart.1)
  where
    found_is : (xs : List Part) → find (has_number number) xs ≡ Some q → Each (Apart p) xs → Apart p q
    found_is [] e all = none_some e
    found_is (x ∷ xs) e all = elim (cases_Bool (has_number number x)) [
      | inl here ↦ subst (Apart p) (some_inj (sym (ap (λ (b : Bool). if b then Some x else find (has_number number) xs) here) ∙ e)) all.0
      | inr there ↦ found_is xs (sym (ap (λ (b : Bool). if b then Some x else find (has_number number) xs) there) ∙ e) all.1
    ]

    flipped : Apart p q → Apart q p
    flipped a = ((λ same. a.0 (sym same)), is_same_flip p.from p.key q.from q.key a.1)

    go : (b : Bool) → (p.number == number) ≡ b → (if b then Some p else find (has_number number) ps) ≡ Some q → (find (has_number number) ps ≡ Some q → AllByRecursion (Apart q) (without_part number ps)) → AllByRecursion (Apart q) (if b then ps else p ∷ without_part number ps)
    go true same e rest = subst (λ (x : Part). AllByRecursion (Apart x) ps) (some_inj e) apart.0
    go false other e rest = (flipped (found_is ps e apart.0), rest e)

-- what is told of them

module _ {B : Type 0} (c : Contents B) where
  none_without : (number : ℕ) (p : Part) (qs : List Part) → p.number ≡ number → Each (Apart p) qs → without (λ (x : MarkOf B). x.number == number) (map (part_by c) qs) ≡ map (part_by c) qs
  none_without number p [] is apart = refl
  none_without number p (q ∷ qs) is apart =
      ap (λ (b : Bool). if not b then part_by c q ∷ without (λ (x : MarkOf B). x.number == number) (map (part_by c) qs) else without (λ (x : MarkOf B). x.number == number) (map (part_by c) qs))
      (eqb_apart q.number number (λ same. apart.0.0 (is ∙ sym same)))
      ∙ ap (λ (l : List (MarkOf B)). part_by c q ∷ l) (none_without number p qs is apart.1)

  pub parts_left : (number : ℕ) (ps : List Part) → AllApart ps → map (part_by c) (without_part number ps) ≡ without (λ (x : MarkOf B). x.number == number) (map (part_by c) ps)
  parts_left number [] apart = refl
  parts_left number (p ∷ ps) apart = go (p.number == number) refl (parts_left number ps apart.1)
    where
      go : (b : Bool) → (p.number == number) ≡ b → map (part_by c) (without_part number ps) ≡ without (λ (x : MarkOf B). x.number == number) (map (part_by c) ps)
          → map (part_by c) (if b then ps else p ∷ without_part number ps) ≡ (if not b then part_by c p ∷ without (λ (x : MarkOf B). x.number == number) (map (part_by c) ps) else without (λ (x : MarkOf B). x.number == number) (map (part_by c) ps))
      go true same rest = sym (none_without number p ps ((Decides-eqb p.number number).0 same) apart.0)
      go false other rest = ap (λ (l : List (MarkOf B)). part_by c p ∷ l) rest

  -- the others are found as before
  pub others_found : (number k : ℕ) (ps : List Part) → (k == number) ≡ false → part_in k (map (part_by c) (without_part number ps)) ≡ part_in k (map (part_by c) ps)
  others_found number k [] other = refl
  others_found number k (p ∷ ps) other = go (p.number == number) refl (others_found number k ps other)
    where
      skip : (p.number == number) ≡ true → (p.number == k) ≡ false
      skip same = eqb_apart p.number k (λ e. off (sym (eqb_refl number) ∙ ap (λ (n : ℕ). n == number) (sym ((Decides-eqb p.number number).0 same) ∙ e) ∙ other))

      go : (b : Bool) → (p.number == number) ≡ b → part_in k (map (part_by c) (without_part number ps)) ≡ part_in k (map (part_by c) ps)
          → part_in k (map (part_by c) (if b then ps else p ∷ without_part number ps)) ≡ (if p.number == k then Some (part_by c p) else part_in k (map (part_by c) ps))
      go true same rest = sym (ap (λ (b : Bool). if b then Some (part_by c p) else part_in k (map (part_by c) ps)) (skip same))
      go false differs rest = ap (λ (o : Option (MarkOf B)). if p.number == k then Some (part_by c p) else o) rest
