-- An open part that changed in its place.
use Rattle.std.proofs.Common.{◌≡◌, ℕ, zero, suc, ◌<◌, ◌==◌, List, [], ◌∷◌, length, get_or, set, map, Some, Bool, true, false, refl, sym, ◌∙◌, ap, subst, arith, inl, inr}
use Rattle.std.specs.Prelude.{find, position, if◌then◌else◌}
use Rattle.std.specs.List.{AllByRecursion}
use Rattle.std.proofs.lemmas.Bool.{cases_Bool}
use Rattle.std.proofs.lemmas.List.Quantifiers.{position-Some}
use Rattle.ftn_addr.specs.Files.{is_same}
use Rattle.node_model.specs.Items.{MarkOf}
use Rattle.node_model.specs.Lists.{Each}
use Rattle.node_model.proofs.Lists.{some_inj, none_some, is_same_flip}
use Rattle.node_store.specs.Contents.{Contents}
use Rattle.node_store.specs.Stored.{Part, part_by, is_orderly, told_parts}
use Rattle.node_store.specs.Tied.{Apart, AllApart, IsDrawn, orderly_true, orderly_is}
use Rattle.node_store.proofs.ClosedParts.{has_number}
use Rattle.node_store.proofs.PutCall.{all_found}

-- the first of that number is another
abbrev pub replaced : ℕ → Part → List Part → List Part
replaced number q [] = []
replaced number q (p ∷ ps) = if p.number == number then q ∷ ps else p ∷ replaced number q ps

set_here : (number : ℕ) (q : Part) (ps : List Part) (i : ℕ) (d : Part) → i < length ps → has_number number (get_or ps i d) ≡ true → ((k : ℕ) → k < i → has_number number (get_or ps k d) ≡ false) → set ps i q ≡ replaced number q ps
set_here number q [] i d within here before = absurd (omega (arith, within))
set_here number q (p ∷ ps) zero d within here before = sym (ap (λ (b : Bool). if b then q ∷ ps else p ∷ replaced number q ps) here)
set_here number q (p ∷ ps) (suc i) d within here before =
    ap (λ (l : List Part). p ∷ l) (set_here number q ps i d (omega (arith, within)) here (λ k low. before (suc k) (omega (arith, low))))
    ∙ sym (ap (λ (b : Bool). if b then q ∷ ps else p ∷ replaced number q ps) (before 0 (omega arith)))

pub set_at : (number : ℕ) (q : Part) (ps : List Part) (i : ℕ) (d : Part) → position (has_number number) ps ≡ Some i → set ps i q ≡ replaced number q ps
set_at number q ps i d at =
    let first = position-Some (has_number number) ps i d at in
    set_here number q ps i d first.0 first.1 first.2

-- the same part, but for what it has and its records
pub record IsAlike (p q : Part) : Type 0 where
  pub number : q.number ≡ p.number
  pub from : q.from ≡ p.from
  pub key : q.key ≡ p.key
  pub have : q.have ≡ p.have

module _ (number : ℕ) (old new : Part) (alike : IsAlike old new) where
  apart_alike : (p : Part) → Apart p old → Apart p new
  apart_alike p apart = ((λ same. apart.0 (same ∙ alike.number)), ap (λ (a : _). is_same p.from p.key a new.key) alike.from ∙ ap (is_same p.from p.key old.from) alike.key ∙ apart.1)

  alike_apart : (p : Part) → Apart old p → Apart new p
  alike_apart p apart = ((λ same. apart.0 (sym alike.number ∙ same)), ap (λ (a : _). is_same a new.key p.from p.key) alike.from ∙ ap (λ (k : _). is_same old.from k p.from p.key) alike.key ∙ apart.1)

  -- all have P, and those that are apart from the one go on to have Q
  pub all_replaced : (P Q : Part → Type 0) → ((p : Part) → P p → Apart old p → Q p) → Q new → (ps : List Part) → AllApart ps → find (has_number number) ps ≡ Some old → AllByRecursion P ps → AllByRecursion Q (replaced number new ps)
  all_replaced P Q beside here [] apart found all = tt
  all_replaced P Q beside here (p ∷ ps) apart found all = go (p.number == number) refl found (λ later. all_replaced P Q beside here ps apart.1 later all.1)
    where
      found_apart : (xs : List Part) → find (has_number number) xs ≡ Some old → Each (Apart p) xs → Apart old p
      found_apart [] e every = none_some e
      found_apart (x ∷ xs) e every = elim (cases_Bool (has_number number x)) [
        | inl this ↦
            (let a = subst (Apart p) (some_inj (sym (ap (λ (b : Bool). if b then Some x else find (has_number number) xs) this) ∙ e)) every.0 in
            ((λ same. a.0 (sym same)), is_same_flip p.from p.key old.from old.key a.1))
        | inr other ↦ found_apart xs (sym (ap (λ (b : Bool). if b then Some x else find (has_number number) xs) other) ∙ e) every.1
      ]

      rest_after : (xs : List Part) → Each (Apart p) xs → AllByRecursion P xs → p ≡ old → AllByRecursion Q xs
      rest_after [] every has same = tt
      rest_after (x ∷ xs) every has same = (beside x has.0 (subst (λ (y : Part). Apart y x) same every.0), rest_after xs every.1 has.1 same)

      go : (b : Bool) → (p.number == number) ≡ b → (if b then Some p else find (has_number number) ps) ≡ Some old → (find (has_number number) ps ≡ Some old → AllByRecursion Q (replaced number new ps)) → AllByRecursion Q (if b then new ∷ ps else p ∷ replaced number new ps)
      go true is e rest = (here, rest_after ps apart.0 all.1 (some_inj e))
      go false is e rest = (beside p all.0 (found_apart ps e apart.0), rest e)

  pub apart_replaced : (ps : List Part) → AllApart ps → find (has_number number) ps ≡ Some old → AllApart (replaced number new ps)
  apart_replaced [] apart found = tt
  apart_replaced (p ∷ ps) apart found = go (p.number == number) found (λ later. apart_replaced ps apart.1 later)
    where
      each : (xs : List Part) → find (has_number number) xs ≡ Some old → Each (Apart p) xs → Each (Apart p) (replaced number new xs)
      each [] e every = tt
      each (x ∷ xs) e every = here (x.number == number) e (λ later. each xs later every.1)
        where
          here : (b : Bool) → (if b then Some x else find (has_number number) xs) ≡ Some old → (find (has_number number) xs ≡ Some old → Each (Apart p) (replaced number new xs)) → Each (Apart p) (if b then new ∷ xs else x ∷ replaced number new xs)
          here true f rest = (apart_alike p (subst (Apart p) (some_inj f) every.0), every.1)
          here false f rest = (every.0, rest f)

      from_new : (xs : List Part) → Each (Apart p) xs → p ≡ old → Each (Apart new) xs
      from_new [] every same = tt
      from_new (x ∷ xs) every same = (alike_apart x (subst (λ (y : Part). Apart y x) same every.0), from_new xs every.1 same)

      go : (b : Bool) → (if b then Some p else find (has_number number) ps) ≡ Some old → (find (has_number number) ps ≡ Some old → AllApart (replaced number new ps)) → AllApart (if b then new ∷ ps else p ∷ replaced number new ps)
      go true e rest = (from_new ps apart.0 (some_inj e), apart.1)
      go false e rest = (each ps e apart.0, rest e)

  drawn_alike : (drawn : ℕ) → IsDrawn drawn old → IsDrawn drawn new
  drawn_alike drawn is = (omega (arith, is.0, alike.number), omega (arith, is.1, alike.number))

  pub orderly_replaced : (drawn : ℕ) (ps : List Part) → is_orderly drawn ps ≡ true → find (has_number number) ps ≡ Some old → is_orderly drawn (replaced number new ps) ≡ true
  orderly_replaced drawn ps is found =
      let o = orderly_true drawn ps is in
      let here = (all_found (IsDrawn drawn) number ps old o.1 found).0 in
      orderly_is drawn (replaced number new ps) (apart_replaced ps o.0 found) (all_replaced (IsDrawn drawn) (IsDrawn drawn) (λ p d apart. d) (drawn_alike drawn here) ps o.0 found o.1)

  -- the same is told
  pub same_parts : {B : Type 0} (c : Contents B) (ps : List Part) → find (has_number number) ps ≡ Some old → map (part_by c) (replaced number new ps) ≡ map (part_by c) ps
  same_parts c [] found = refl
  same_parts {B} c (p ∷ ps) found = go (p.number == number) found (λ later. same_parts c ps later)
    where
      one : part_by c new ≡ part_by c old
      one = λ i. record { number = alike.number i; from = alike.from i; key = alike.key i; bytes = c.front (alike.number i) (alike.have i) }

      go : (b : Bool) → (if b then Some p else find (has_number number) ps) ≡ Some old → (find (has_number number) ps ≡ Some old → map (part_by c) (replaced number new ps) ≡ map (part_by c) ps) → map (part_by c) (if b then new ∷ ps else p ∷ replaced number new ps) ≡ part_by c p ∷ map (part_by c) ps
      go true e rest = ap (λ (x : MarkOf B). x ∷ map (part_by c) ps) (one ∙ ap (part_by c) (sym (some_inj e)))
      go false e rest = ap (λ (l : List (MarkOf B)). part_by c p ∷ l) (rest e)

  pub same_told : {B : Type 0} (c : Contents B) (drawn : ℕ) (ps : List Part) → is_orderly drawn ps ≡ true → find (has_number number) ps ≡ Some old → map (part_by c) (told_parts drawn (replaced number new ps)) ≡ map (part_by c) (told_parts drawn ps)
  same_told c drawn ps is found =
      ap (λ (b : Bool). map (part_by c) (if b then replaced number new ps else [])) (orderly_replaced drawn ps is found) ∙ same_parts c ps found
      ∙ sym (ap (λ (b : Bool). map (part_by c) (if b then ps else [])) is)
