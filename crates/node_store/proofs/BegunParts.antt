-- The number with which a part begins is nobody else's.
use Rattle.std.proofs.Common.{◌≡◌, ◌≢◌, ◌⊎◌, inl, inr, ⊎_elim, ℕ, ◌+◌, ◌≤◌, ◌==◌, List, [], ◌∷◌, Option, Some, None, Bool, true, false, ◌&&◌, ◌||◌, refl, sym, ◌∙◌, ap, subst, arith}
use Rattle.std.specs.Prelude.{find, option_map, if◌then◌else◌}
use Rattle.std.specs.List.{AllByRecursion, list_any}
use Rattle.std.proofs.lemmas.Bool.Decides.{Decides-eqb}
use Rattle.ftn_addr.specs.Address.{Address}
use Rattle.ftn_addr.specs.Files.{is_same}
use Rattle.ftn_addr.specs.Key.{Key}
use Rattle.ftn_addr.specs.declared.limits.TheConstants.{MAX_NUMBER}
use Rattle.ledger_rec.specs.Fold.{State, is_among, is_part_of, is_marked}
use Rattle.ledger_rec.specs.Items.{Receipt, PartMark}
use Rattle.ledger_rec.specs.Order.{IsApartFrom, AreApart, IsOrderly}
use Rattle.node_model.specs.declared.store.PartAt.{PartAt}
use Rattle.node_model.specs.Lists.{Each}
use Rattle.node_model.proofs.Lists.{some_inj, none_some, and_true, and_both, or_true, or_true_right, or_cases, both_false, off, is_same_true, is_same_at}
use Rattle.node_store.specs.Beginnings.{next_number, len_of, begun, has_file}
use Rattle.node_store.specs.Stored.{Part, Memory, IsMarked, IsUnmarked, IsPart, IsMemory}
use Rattle.node_store.specs.Tied.{Apart, AllApart, IsDrawn, orderly_true}
use Rattle.node_store.proofs.Alike.{all_by}
use Rattle.node_store.proofs.FirstParts.{first_is}
use Rattle.node_store.proofs.FoldMarks.{IsMarkKept, marks_kept}
use Rattle.node_store.proofs.Mirrors.{eqb_apart}
use Rattle.node_store.proofs.Numbered.{orderly_fold}

abbrev pub is_mark_of : Address → Key → PartMark → Bool
is_mark_of from key m = is_same from key m.from m.key

abbrev pub at_mark : PartMark → PartAt
at_mark m = record { part = m.number; len = m.len }

-- marks

module _ (t : PartMark → Bool) where
  pub mark_is : (P : PartMark → Type 0) (ms : List PartMark) (k : PartMark) → AllByRecursion P ms → find t ms ≡ Some k → P k × (t k ≡ true)
  mark_is P [] k all is = none_some is
  mark_is P (m ∷ ms) k all is = go (t m) refl is (mark_is P ms k all.1)
    where
      go : (b : Bool) → t m ≡ b → (if b then Some m else find t ms) ≡ Some k → (find t ms ≡ Some k → P k × (t k ≡ true)) → P k × (t k ≡ true)
      go true passes e rest = (subst P (some_inj e) all.0, subst (λ (x : PartMark). t x ≡ true) (some_inj e) passes)
      go false fails e rest = rest e

  -- no other mark has its number
  only_mark : (ms : List PartMark) (k : PartMark) → AreApart ms → find t ms ≡ Some k → AllByRecursion (λ (m : PartMark). m.number ≡ k.number → m ≡ k) ms
  only_mark [] k apart is = tt
  only_mark (m ∷ ms) k apart is = go (t m) is (only_mark ms k apart.1)
    where
      others : (xs : List PartMark) → IsApartFrom m.number xs → m ≡ k → AllByRecursion (λ (x : PartMark). x.number ≡ k.number → x ≡ k) xs
      others [] all same = tt
      others (x ∷ xs) all same = ((λ e. absurd (all.0 (e ∙ ap (λ (y : PartMark). y.number) (sym same)))), others xs all.1 same)

      go : (b : Bool) → (if b then Some m else find t ms) ≡ Some k → (find t ms ≡ Some k → AllByRecursion (λ (x : PartMark). x.number ≡ k.number → x ≡ k) ms) → AllByRecursion (λ (x : PartMark). x.number ≡ k.number → x ≡ k) (m ∷ ms)
      go true e rest = ((λ _. some_inj e), others ms apart.0 (some_inj e))
      go false e rest = ((λ same. absurd ((mark_is (λ (x : PartMark). x.number ≢ m.number) ms k apart.0 e).0 (sym same))), rest e)

  none_any : (ms : List PartMark) → find t ms ≡ None → list_any t ms ≡ false
  none_any [] is = refl
  none_any (m ∷ ms) is = go (t m) is (none_any ms)
    where
      go : (b : Bool) → (if b then Some m else find t ms) ≡ None → (find t ms ≡ None → list_any t ms ≡ false) → (b || list_any t ms) ≡ false
      go true e rest = none_some (sym e)
      go false e rest = rest e

-- the mark of a file is a part of it
marked_there : (from : Address) (key : Key) (ms : List PartMark) (k : PartMark) → find (is_mark_of from key) ms ≡ Some k → is_part_of k.number from key ms ≡ true
marked_there from key [] k is = none_some is
marked_there from key (m ∷ ms) k is = go (is_same from key m.from m.key) refl is (marked_there from key ms k)
  where
    go : (b : Bool) → is_same from key m.from m.key ≡ b → (if b then Some m else find (is_mark_of from key) ms) ≡ Some k → (find (is_mark_of from key) ms ≡ Some k → is_part_of k.number from key ms ≡ true) → is_part_of k.number from key (m ∷ ms) ≡ true
    go true same e rest =
        or_true (m.number == k.number && is_same from key m.from m.key) (is_part_of k.number from key ms)
        (and_both (m.number == k.number) (is_same from key m.from m.key) ((Decides-eqb m.number k.number).1 (ap (λ (x : PartMark). x.number) (some_inj e))) same)
    go false same e rest = or_true_right (m.number == k.number && is_same from key m.from m.key) (is_part_of k.number from key ms) (rest e)

-- where all marks of a number are one, a part of that number is of that file
part_of_is : (number : ℕ) (from : Address) (key : Key) (k : PartMark) (ms : List PartMark) → is_part_of number from key ms ≡ true → AllByRecursion (λ (m : PartMark). m.number ≡ number → m ≡ k) ms → is_same from key k.from k.key ≡ true
part_of_is number from key k [] is all = off (sym is)
part_of_is number from key k (m ∷ ms) is all = ⊎_elim
    (λ here.
    let h = and_true (m.number == number) (is_same from key m.from m.key) here in
    subst (λ (x : PartMark). is_same from key x.from x.key ≡ true) (all.0 ((Decides-eqb m.number number).0 h.0)) h.1)
    (λ there. part_of_is number from key k ms there all.1)
    (or_cases (m.number == number && is_same from key m.from m.key) (is_part_of number from key ms) is)

part_is_marked : (number : ℕ) (from : Address) (key : Key) (ms : List PartMark) → is_part_of number from key ms ≡ true → is_marked from key ms ≡ true
part_is_marked number from key [] is = is
part_is_marked number from key (m ∷ ms) is = ⊎_elim
    (λ here. or_true (is_same from key m.from m.key) (is_marked from key ms) (and_true (m.number == number) (is_same from key m.from m.key) here).1)
    (λ there. or_true_right (is_same from key m.from m.key) (is_marked from key ms) (part_is_marked number from key ms there))
    (or_cases (m.number == number && is_same from key m.from m.key) (is_part_of number from key ms) is)

-- numbers

among_not : (n : ℕ) (numbers : List ℕ) → AllByRecursion (λ k. k ≢ n) numbers → is_among n numbers ≡ false
among_not n [] all = refl
among_not n (k ∷ ks) all = both_false (k == n) (is_among n ks) (eqb_apart k n all.0) (among_not n ks all.1)

-- What holds of the number of a part that begins.
pub record IsBeginning (m : Memory) (from : Address) (key : Key) (mark : Option PartAt) (n : ℕ) : Type 0 where
  pub some : 1 ≤ n
  pub within : len_of mark ≤ key.size
  pub marks : AllByRecursion (λ (k : PartMark). k.number ≡ n → k.len ≡ len_of mark) m.books.folding.state.marks
  pub received : AllByRecursion (λ (r : Receipt). r.number ≢ n) m.books.folding.state.inbox
  pub others : AllByRecursion (λ (p : Part). is_same from key p.from p.key ≡ false → p.number ≢ n) m.parts
  pub number : IsMarked m.books.folding.state (begun n from key mark) ⊎ IsUnmarked m.books.folding.state (begun n from key mark)

module _ (m : Memory) (is : IsMemory m) (from : Address) (key : Key) where
  abbrev state : State
  state = m.books.folding.state

  orderly : IsOrderly state
  orderly = orderly_fold m.books.payloads state is.books.folds

  -- it has a mark
  marked : (k : PartMark) → find (is_mark_of from key) state.marks ≡ Some k → IsBeginning m from key (Some (at_mark k)) k.number
  marked k found =
      let kept = mark_is (is_mark_of from key) IsMarkKept state.marks k (marks_kept m.books.payloads state is.books.folds) found in
      let file = is_same_true from key k.from k.key kept.1 in
      let only = only_mark (is_mark_of from key) state.marks k orderly.apart found in
      record {
        some = kept.0.some;
        within = subst (λ (l : Key). k.len ≤ l.size) (sym file.1) kept.0.within;
        marks = all_by (λ (x : PartMark). x.number ≡ k.number → x ≡ k) (λ (x : PartMark). x.number ≡ k.number → x.len ≡ k.len) (λ x one same. ap (λ (y : PartMark). y.len) (one same)) state.marks only;
        received = all_by (λ (r : Receipt). IsApartFrom r.number state.marks) (λ (r : Receipt). r.number ≢ k.number) (λ r apart same. (mark_is (is_mark_of from key) (λ (x : PartMark). x.number ≢ r.number) state.marks k apart found).0 (sym same)) state.inbox orderly.free;
        others = all_by (IsPart m.books.folding) (λ (p : Part). is_same from key p.from p.key ≡ false → p.number ≢ k.number)
            (λ p part differs same. ⊎_elim
            (λ mine.
            let h = is_same_true p.from p.key k.from k.key (part_of_is p.number p.from p.key k state.marks mine.marked (subst (λ (n : ℕ). AllByRecursion (λ (x : PartMark). x.number ≡ n → x ≡ k) state.marks) (sym same) only)) in
            off (sym (is_same_at from key p.from p.key (file.0 ∙ sym h.0) (file.1 ∙ sym h.1)) ∙ differs))
            (λ u. off (sym (mark_is (is_mark_of from key) (λ (x : PartMark). is_among x.number state.parts ≡ true) state.marks k orderly.marks found).0 ∙ ap (λ (n : ℕ). is_among n state.parts) (sym same) ∙ u.unused))
            part.number) m.parts is.parts;
        number = inl (record { marked = marked_there from key state.marks k found; given_away = refl });
      }

  -- it has none, and the number isn't used
  fresh : (n : ℕ) → find (is_mark_of from key) state.marks ≡ None → 1 ≤ n → is_among n state.parts ≡ false → AllByRecursion (λ (r : Receipt). r.number ≢ n) state.inbox → AllByRecursion (λ (p : Part). is_same from key p.from p.key ≡ false → p.number ≢ n) m.parts
      → IsBeginning m from key None n
  fresh n none some unused received others = record {
    some = some;
    within = omega arith;
    marks = all_by (λ (x : PartMark). is_among x.number state.parts ≡ true) (λ (x : PartMark). x.number ≡ n → x.len ≡ 0) (λ x used same. off (sym used ∙ ap (λ (k : ℕ). is_among k state.parts) same ∙ unused)) state.marks orderly.marks;
    received = received;
    others = others;
    number = inr (record { unused = unused; unmarked = none_any (is_mark_of from key) state.marks none; first = (0, refl) });
  }

  others_apart : (ps : List Part) (o : Part) → AllApart ps → find (has_file from key) ps ≡ Some o → AllByRecursion (λ (p : Part). is_same from key p.from p.key ≡ false → p.number ≢ o.number) ps
  others_apart [] o apart found = tt
  others_apart (p ∷ ps) o apart found = go (is_same from key p.from p.key) refl found (others_apart ps o apart.1)
    where
      behind : (xs : List Part) → Each (Apart p) xs → p ≡ o → AllByRecursion (λ (x : Part). is_same from key x.from x.key ≡ false → x.number ≢ o.number) xs
      behind [] all same = tt
      behind (x ∷ xs) all same = ((λ differs e. all.0.0 (ap (λ (y : Part). y.number) same ∙ sym e)), behind xs all.1 same)

      go : (b : Bool) → is_same from key p.from p.key ≡ b → (if b then Some p else find (has_file from key) ps) ≡ Some o → (find (has_file from key) ps ≡ Some o → AllByRecursion (λ (x : Part). is_same from key x.from x.key ≡ false → x.number ≢ o.number) ps)
          → AllByRecursion (λ (x : Part). is_same from key x.from x.key ≡ false → x.number ≢ o.number) (p ∷ ps)
      go true same e rest = ((λ differs. off (sym same ∙ differs)), behind ps apart.0 (some_inj e))
      go false differs e rest = ((λ _ same. (first_is (has_file from key) (Apart p) ps o apart.0 e).0.0 same), rest e)

  -- it has none, and is open
  open_again : (o : Part) → find (is_mark_of from key) state.marks ≡ None → find (has_file from key) m.parts ≡ Some o → IsBeginning m from key None o.number
  open_again o none found =
      let t = orderly_true m.drawn m.parts is.orderly in
      let part = first_is (has_file from key) (IsPart m.books.folding) m.parts o is.parts found in
      let drawn = (first_is (has_file from key) (IsDrawn m.drawn) m.parts o t.1 found).0 in
      let file = is_same_true from key o.from o.key part.1 in
      fresh o.number none drawn.0
      (⊎_elim
      (λ mine. off (sym (part_is_marked o.number o.from o.key state.marks mine.marked) ∙ ap (λ (a : Address). is_marked a o.key state.marks) (sym file.0) ∙ ap (λ (l : Key). is_marked from l state.marks) (sym file.1) ∙ none_any (is_mark_of from key) state.marks none))
      (λ u. u.unused) part.0.number)
      part.0.received (others_apart m.parts o t.0 found)

  -- a number is drawn
  drawn_next : find (is_mark_of from key) state.marks ≡ None → IsBeginning m from key None (m.drawn + 1)
  drawn_next none =
      fresh (m.drawn + 1) none (omega arith)
      (among_not (m.drawn + 1) state.parts (all_by (λ n. n ≤ m.drawn) (λ n. n ≢ m.drawn + 1) (λ n le same. omega (arith, le, same)) state.parts is.numbers))
      (all_by (λ (r : Receipt). r.number ≤ m.drawn) (λ (r : Receipt). r.number ≢ m.drawn + 1) (λ r le same. omega (arith, le, same)) state.inbox is.received)
      (all_by (IsDrawn m.drawn) (λ (p : Part). is_same from key p.from p.key ≡ false → p.number ≢ m.drawn + 1) (λ p d differs same. omega (arith, d.1, same)) m.parts (orderly_true m.drawn m.parts is.orderly).1)

  pub beginning : (mark : Option PartAt) (n : ℕ) → mark ≡ option_map at_mark (find (is_mark_of from key) state.marks) → Some n ≡ next_number mark (find (has_file from key) m.parts) m.drawn → IsBeginning m from key mark n
  beginning mark n is_mark next = go (find (is_mark_of from key) state.marks) refl (find (has_file from key) m.parts) refl
    where
      last : (b : Bool) → Some n ≡ (if b then None else Some (m.drawn + 1)) → n ≡ m.drawn + 1
      last true e = none_some (sym e)
      last false e = some_inj e

      go : (f : Option PartMark) → find (is_mark_of from key) state.marks ≡ f → (o : Option Part) → find (has_file from key) m.parts ≡ o → IsBeginning m from key mark n
      go (Some k) found o open_part =
          let at : mark ≡ Some (at_mark k) = is_mark ∙ ap (option_map at_mark) found in
          let number : n ≡ k.number = some_inj (next ∙ ap (λ (x : Option PartAt). next_number x (find (has_file from key) m.parts) m.drawn) at) in
          subst (λ (x : Option PartAt × ℕ). IsBeginning m from key x.0 x.1) (λ i. (sym at i, sym number i)) (marked k found)
      go None none (Some o) open_part =
          let at : mark ≡ None = is_mark ∙ ap (option_map at_mark) none in
          let number : n ≡ o.number = some_inj (next ∙ ap (λ (x : Option PartAt). next_number x (find (has_file from key) m.parts) m.drawn) at ∙ ap (λ (x : Option Part). next_number None x m.drawn) open_part) in
          subst (λ (x : Option PartAt × ℕ). IsBeginning m from key x.0 x.1) (λ i. (sym at i, sym number i)) (open_again o none open_part)
      go None none None open_part =
          let at : mark ≡ None = is_mark ∙ ap (option_map at_mark) none in
          let number : n ≡ m.drawn + 1 = last (m.drawn == MAX_NUMBER) (next ∙ ap (λ (x : Option PartAt). next_number x (find (has_file from key) m.parts) m.drawn) at ∙ ap (λ (x : Option Part). next_number None x m.drawn) open_part) in
          subst (λ (x : Option PartAt × ℕ). IsBeginning m from key x.0 x.1) (λ i. (sym at i, sym number i)) (drawn_next none)
