-- Marks after a mark, and the places of a hold.
use Rattle.std.proofs.Common.{◌≡◌, ℕ, ◌+◌, ◌-◌, ◌*◌, ◌/◌, ◌≤◌, ◌<◌, Bool, true, false, not, nat_lt, if◌then◌else◌, List, [], ◌∷◌, Some, None, length, filter, find, refl, sym, ap, ◌∙◌, arith, le-div_iff_mul-le, div-mul-le_self}
use Rattle.ftn_addr.specs.Address.{Address}
use Rattle.ftn_addr.specs.Key.{Key}
use Rattle.node_model.specs.Items.{Mark}
use Rattle.node_model.specs.Lists.{Each, some_passes}
use Rattle.ftn_addr.specs.Files.{is_same}
use Rattle.node_model.specs.Durable.{Durable, is_known, mark_of, unmarked, in_place, with_mark}
use Rattle.node_model.specs.Sound.{Distinct, same_mark, SoundInbox}
use Rattle.node_model.proofs.Lists.{off, is_false, is_same_true, is_same_refl, is_same_at, is_same_flip, none_some, Each-without, Each-weaker, both_false, or_false}
use Rattle.node_model.proofs.Distinct.{distinct_without, without_none, none_each}

-- a whole stride more is marked, and one place less is wanted
pub place_used : (size before after stride : ℕ) → 0 < stride → before + stride ≤ after → after ≤ size → 1 + (size - after) / stride ≤ (size - before) / stride
place_used size before after stride some far fits =
    let part : (size - after) / stride * stride ≤ size - after = div-mul-le_self (size - after) stride in
    (le-div_iff_mul-le some).1 (omega (arith, part))

-- A mark at its place among others.

pub none_found : (p : Mark → Bool) (xs : List Mark) → find p (filter (λ x. not (p x)) xs) ≡ None
none_found p [] = refl
none_found p (x ∷ xs) = go (p x) refl (none_found p xs)
  where
    go : (b : Bool) → p x ≡ b → find p (filter (λ y. not (p y)) xs) ≡ None → find p (if not b then x ∷ filter (λ y. not (p y)) xs else filter (λ y. not (p y)) xs) ≡ None
    go true t rest = rest
    go false t rest = ap (λ c. if c then Some x else find p (filter (λ y. not (p y)) xs)) t ∙ rest

pub find_without : (p q : Mark → Bool) (xs : List Mark) → ((x : Mark) → q x ≡ true → p x ≡ false) → find q (filter (λ x. not (p x)) xs) ≡ find q xs
find_without p q [] apart = refl
find_without p q (x ∷ xs) apart = go (p x) (q x) refl refl (find_without p q xs apart)
  where
    go : (b c : Bool) → p x ≡ b → q x ≡ c → find q (filter (λ y. not (p y)) xs) ≡ find q xs → find q (if not b then x ∷ filter (λ y. not (p y)) xs else filter (λ y. not (p y)) xs) ≡ (if c then Some x else find q xs)
    go true true t u rest = off (sym t ∙ apart x u)
    go true false t u rest = rest
    go false true t u rest = ap (λ d. if d then Some x else find q (filter (λ y. not (p y)) xs)) u
    go false false t u rest = ap (λ d. if d then Some x else find q (filter (λ y. not (p y)) xs)) u ∙ rest

-- where no other passes, the mark is the first that does
find_placed : (p : Mark → Bool) (m : Mark) (xs : List Mark) → p m ≡ true → find p xs ≡ None → find p (in_place m xs) ≡ Some m
find_placed p m [] e none = ap (λ c. if c then Some m else None) e
find_placed p m (x ∷ xs) e none = go (nat_lt m.number x.number) (p x) refl none (find_placed p m xs e)
  where
    go : (b c : Bool) → p x ≡ c → (if c then Some x else find p xs) ≡ None → (find p xs ≡ None → find p (in_place m xs) ≡ Some m) → find p (if b then m ∷ x ∷ xs else x ∷ in_place m xs) ≡ Some m
    go true c t n rest = ap (λ d. if d then Some m else find p (x ∷ xs)) e
    go false true t n rest = none_some (sym n)
    go false false t n rest = ap (λ d. if d then Some x else find p (in_place m xs)) t ∙ rest n

-- a mark that doesn't pass changes nothing of what is found
find_past : (q : Mark → Bool) (m : Mark) (xs : List Mark) → q m ≡ false → find q (in_place m xs) ≡ find q xs
find_past q m [] e = ap (λ c. if c then Some m else None) e
find_past q m (x ∷ xs) e = go (nat_lt m.number x.number) (find_past q m xs e)
  where
    go : (b : Bool) → find q (in_place m xs) ≡ find q xs → find q (if b then m ∷ x ∷ xs else x ∷ in_place m xs) ≡ find q (x ∷ xs)
    go true rest = ap (λ c. if c then Some m else find q (x ∷ xs)) e
    go false rest = ap (λ found. if q x then Some x else found) rest

pub Each-placed : (P : Mark → Type 0) (m : Mark) (xs : List Mark) → P m → Each P xs → Each P (in_place m xs)
Each-placed P m [] one all = (one, tt)
Each-placed P m (x ∷ xs) one all = go (nat_lt m.number x.number) (Each-placed P m xs one all.1)
  where
    go : (b : Bool) → Each P (in_place m xs) → Each P (if b then m ∷ x ∷ xs else x ∷ in_place m xs)
    go true rest = (one, all)
    go false rest = (all.0, rest)

none_placed : (q : Mark → Bool) (m : Mark) (xs : List Mark) → q m ≡ false → some_passes q xs ≡ false → some_passes q (in_place m xs) ≡ false
none_placed q m [] e none = both_false (q m) false e refl
none_placed q m (x ∷ xs) e none = let h = or_false (q x) (some_passes q xs) none in go (nat_lt m.number x.number) h.0 (none_placed q m xs e h.1)
  where
    go : (b : Bool) → q x ≡ false → some_passes q (in_place m xs) ≡ false → some_passes q (if b then m ∷ x ∷ xs else x ∷ in_place m xs) ≡ false
    go true first rest = both_false (q m) _ e none
    go false first rest = both_false (q x) _ first rest

pub mark_own : (m : Mark) (d : Durable) → mark_of m.from m.key (with_mark m d) ≡ Some m
mark_own m d = find_placed (λ (x : Mark). is_same m.from m.key x.from x.key) m (unmarked m.from m.key d.marks) (is_same_refl m.from m.key) (none_found (λ (x : Mark). is_same m.from m.key x.from x.key) d.marks)

pub mark_other : (from : Address) (key : Key) (m : Mark) (d : Durable) → is_same from key m.from m.key ≡ false → mark_of from key (with_mark m d) ≡ mark_of from key d
mark_other from key m d apart =
    find_past (λ (x : Mark). is_same from key x.from x.key) m (unmarked m.from m.key d.marks) apart
    ∙ find_without (λ (x : Mark). is_same m.from m.key x.from x.key) (λ (x : Mark). is_same from key x.from x.key) d.marks
    (λ x q. is_false _ (λ p. let a = is_same_true from key x.from x.key q in let b = is_same_true m.from m.key x.from x.key p in off (sym (is_same_at from key m.from m.key (a.0 ∙ sym b.0) (a.1 ∙ sym b.1)) ∙ apart)))

-- no two marks are the same
pub distinct_placed : (same : Mark → Mark → Bool) (m : Mark) (xs : List Mark) → Distinct same xs → Each (λ (x : Mark). same x m ≡ false) xs → some_passes (same m) xs ≡ false → Distinct same (in_place m xs)
distinct_placed same m [] d e none = (refl, tt)
distinct_placed same m (x ∷ xs) d e none = let h = or_false (same m x) (some_passes (same m) xs) none in go (nat_lt m.number x.number) (distinct_placed same m xs d.1 e.1 h.1)
  where
    go : (b : Bool) → Distinct same (in_place m xs) → Distinct same (if b then m ∷ x ∷ xs else x ∷ in_place m xs)
    go true rest = (none, d)
    go false rest = (none_placed (same x) m xs e.0 d.0, rest)

-- a mark that fits, of a sender and key that aren't settled
pub inbox_mark : (m : Mark) (d : Durable) → is_known m.from m.key d ≡ false → length m.bytes ≤ m.key.size → SoundInbox d → SoundInbox (with_mark m d)
inbox_mark m d new fits s =
    let p : Mark → Bool = λ x. is_same m.from m.key x.from x.key in
    let rest = unmarked m.from m.key d.marks in
    let apart : Each (λ (x : Mark). p x ≡ false) rest = without_none p d.marks in
    record {
      once = s.once;
      not_refused = s.not_refused;
      refused_once = s.refused_once;
      marks_once = distinct_placed same_mark m rest (distinct_without same_mark p d.marks s.marks_once) (Each-weaker (λ (x : Mark). p x ≡ false) (λ (x : Mark). same_mark x m ≡ false) (λ x e. is_same_flip m.from m.key x.from x.key e) rest apart) (none_each p rest apart);
      marks_new = Each-placed (λ (x : Mark). is_known x.from x.key d ≡ false) m rest new (Each-without (λ (x : Mark). is_known x.from x.key d ≡ false) p d.marks s.marks_new);
      mark_sizes = Each-placed (λ (x : Mark). length x.bytes ≤ x.key.size) m rest fits (Each-without (λ (x : Mark). length x.bytes ≤ x.key.size) p d.marks s.mark_sizes);
      sizes = s.sizes;
    }
