-- The least receipt that is looked for, as an inbox is walked, and the next in a round.
use Rattle.std.proofs.Common.{◌≡◌, ℕ, ◌+◌, ◌<◌, ◌≤◌, Bool, true, false, not, ◌&&◌, ◌||◌, nat_lt, List, [], ◌∷◌, ◌++◌, length, map, take, get_or, Option, Some, None, refl, sym, ◌∙◌, ap, subst, inl, inr, ⊎_elim, arith}
use Rattle.std.specs.Prelude.{if◌then◌else◌}
use Rattle.std.proofs.lemmas.List.{take_more}
use Rattle.std.proofs.lemmas.Bool.Decides.{Decides-ltb}
use Rattle.file_index.specs.Sets.{IsAbove}
use Rattle.ledger_rec.specs.Fold.{is_among}
use Rattle.ledger_rec.specs.Items.{Receipt}
use Rattle.node_model.specs.Items.{ReceiptOf}
use Rattle.node_model.specs.Lists.{Member}
use Rattle.node_model.specs.SendRows.{InRound, may_go}
use Rattle.node_model.proofs.Lists.{off, and_true, and_both, Member-append, Member-append_right, Member-append_cases}
use Rattle.node_store.specs.Contents.{Contents, receipt_by}
use Rattle.node_store.specs.Giving.{is_above, is_below, is_ready, is_due, is_left, NextLeft, NextToGive}
use Rattle.node_store.proofs.Found.{seen_from, seen_there}
use Rattle.node_store.proofs.Requests.{request_same}

-- The tests say what they test.

above_is : (after : Option ℕ) (n : ℕ) → is_above after n ≡ true → IsAbove after n
above_is None n is = tt
above_is (Some at) n is = (Decides-ltb at n).0 is

is_above_true : (after : Option ℕ) (n : ℕ) → IsAbove after n → is_above after n ≡ true
is_above_true None n above = refl
is_above_true (Some at) n above = (Decides-ltb at n).1 above

at_most : (a b : ℕ) → nat_lt a b ≡ false → b ≤ a
at_most a b is = go a b (λ lt. off (sym ((Decides-ltb a b).1 lt) ∙ is))
  where
    go : (a b : ℕ) → (a < b → ⊥) → b ≤ a
    go a b h = omega (arith, h)

-- One receipt more.

last_one : (r x : Receipt) → Member r (x ∷ []) → r ≡ x
last_one r x (inl same) = same
last_one r x (inr later) = absurd later

module _ (test : Receipt → Bool) (given : List ℕ) (rs : List Receipt) (x : Receipt) (after : Option ℕ) where
  -- it is no less, or isn't due
  due_same : (least : Option ℕ) → NextLeft test given rs after least → (is_left test given x ≡ true → IsAbove after x.number → is_below least x.number ≡ true → ⊥) → NextLeft test given (rs ++ x ∷ []) after least
  due_same None none unless = λ r there due above.
      ⊎_elim (λ old. none r old due above) (λ new. let same = last_one r x new in unless (subst (λ (y : Receipt). is_left test given y ≡ true) same due) (subst (λ (y : Receipt). IsAbove after y.number) same above) refl) (Member-append_cases r rs (x ∷ []) there)
  due_same (Some n) h unless = record {
    receipt = h.receipt;
    there = Member-append h.receipt rs (x ∷ []) h.there;
    is = h.is;
    due = h.due;
    above = h.above;
    least = λ r there due above.
        ⊎_elim (λ old. h.least r old due above)
        (λ new. let same = last_one r x new in subst (λ (y : Receipt). n ≤ y.number) (sym same) (not_below (subst (λ (y : Receipt). is_left test given y ≡ true) same due) (subst (λ (y : Receipt). IsAbove after y.number) same above))) (Member-append_cases r rs (x ∷ []) there);
  }
    where
      not_below : is_left test given x ≡ true → IsAbove after x.number → n ≤ x.number
      not_below due above = go (nat_lt x.number n) refl
        where
          go : (b : Bool) → nat_lt x.number n ≡ b → n ≤ x.number
          go true is = absurd (unless due above is)
          go false is = at_most x.number n is

  -- it is due, and less
  due_less : (least : Option ℕ) → NextLeft test given rs after least → is_left test given x ≡ true → IsAbove after x.number → is_below least x.number ≡ true → NextLeft test given (rs ++ x ∷ []) after (Some x.number)
  due_less None none due above below = record {
    receipt = x;
    there = Member-append_right x rs (x ∷ []) (inl refl);
    is = refl;
    due = due;
    above = above;
    least = λ r there is past. ⊎_elim (λ old. absurd (none r old is past)) (λ new. subst (λ (y : Receipt). x.number ≤ y.number) (sym (last_one r x new)) (omega arith)) (Member-append_cases r rs (x ∷ []) there);
  }
  due_less (Some n) h due above below =
      let lt : x.number < n = (Decides-ltb x.number n).0 below in
      record {
        receipt = x;
        there = Member-append_right x rs (x ∷ []) (inl refl);
        is = refl;
        due = due;
        above = above;
        least = λ r there is past.
            ⊎_elim (λ old. let le = h.least r old is past in omega (arith, lt, le)) (λ new. subst (λ (y : Receipt). x.number ≤ y.number) (sym (last_one r x new)) (omega arith)) (Member-append_cases r rs (x ∷ []) there);
      }

  due_one : (least : Option ℕ) → NextLeft test given rs after least → NextLeft test given (rs ++ x ∷ []) after (if is_above after x.number && (is_below least x.number && is_left test given x) then Some x.number else least)
  due_one least h = go (is_above after x.number && (is_below least x.number && is_left test given x)) refl
    where
      go : (b : Bool) → (is_above after x.number && (is_below least x.number && is_left test given x)) ≡ b → NextLeft test given (rs ++ x ∷ []) after (if b then Some x.number else least)
      go true is =
          let t = and_true (is_above after x.number) _ is in
          let u = and_true (is_below least x.number) _ t.1 in
          due_less least h u.1 (above_is after x.number t.0) u.0
      go false is =
          due_same least h (λ due above below. off (sym (and_both (is_above after x.number) _ (is_above_true after x.number above) (and_both (is_below least x.number) _ below due)) ∙ is))

map_append_one : {A B : Type 0} (f : A → B) (xs : List A) (x : A) → map f (xs ++ x ∷ []) ≡ map f xs ++ f x ∷ []
map_append_one f [] x = refl
map_append_one f (y ∷ ys) x = ap (λ (l : List _). f y ∷ l) (map_append_one f ys x)

pub due_more : {A : Type 0} (test : Receipt → Bool) (view : A → Receipt) (xs : List A) (i : ℕ) (x : A) (given : List ℕ) (after least new : Option ℕ) → i < length xs → x ≡ get_or xs i x → NextLeft test given (map view (take i xs)) after least
    → new ≡ (if is_above after (view x).number && (is_below least (view x).number && is_left test given (view x)) then Some (view x).number else least) → NextLeft test given (map view (take (i + 1) xs)) after new
due_more {A} test view xs i x given after least new lt is h now =
    let rest : map view (take (i + 1) xs) ≡ map view (take i xs) ++ view x ∷ [] =
    ap (map view) (take_more xs i x lt ∙ ap (λ (y : A). take i xs ++ y ∷ []) (sym is)) ∙ map_append_one view (take i xs) x in
    subst (λ (l : List Receipt). NextLeft test given l after new) (sym rest)
    (subst (NextLeft test given (map view (take i xs) ++ view x ∷ []) after) (sym now) (due_one test given (map view (take i xs)) (view x) after least h))

-- The round.

module _ (c : Contents ℕ) (given : List ℕ) (same : c.given ≡ (λ n. is_among n given)) where
  pub may_is : (r : Receipt) → may_go (receipt_by c r) ≡ is_due given r
  may_is r =
      ap (λ (b : Bool). not (c.given r.number) && (not b || r.answered)) (request_same r.key.name)
      ∙ ap (λ (f : ℕ → Bool). not (f r.number) && is_ready r) same
      ∙ turned (not (is_among r.number given)) (is_ready r)
    where
      turned : (a b : Bool) → (a && b) ≡ (b && a)
      turned true true = refl
      turned true false = refl
      turned false true = refl
      turned false false = refl

module _ (c : Contents ℕ) (given : List ℕ) (same : c.given ≡ (λ n. is_among n given)) (inbox : List Receipt) (last : ℕ) where
  -- the first behind the last one, else the first of all
  pub round_above : (number : ℕ) → NextLeft is_ready given inbox (Some last) (Some number) → NextToGive last (map (receipt_by c) inbox) (Some number)
  round_above number h = record {
    receipt = receipt_by c h.receipt;
    there = seen_there (receipt_by c) h.receipt inbox h.there;
    is = h.is;
    may = may_is c given same h.receipt ∙ h.due;
    least = λ r there may. let s = seen_from (receipt_by c) r inbox there in subst (λ (x : ReceiptOf ℕ). InRound last number x.number) (sym s.2) (go s.0 s.1 (due s.0 r s.2 may) (nat_lt last s.0.number) refl);
  }
    where
      due : (r : Receipt) (x : ReceiptOf ℕ) → x ≡ receipt_by c r → may_go x ≡ true → is_due given r ≡ true
      due r x is may = sym (may_is c given same r) ∙ (ap (λ (y : ReceiptOf ℕ). may_go y) (sym is) ∙ may)

      go : (r : Receipt) → Member r inbox → is_due given r ≡ true → (b : Bool) → nat_lt last r.number ≡ b → InRound last number r.number
      go r there due true is = let lt = (Decides-ltb last r.number).0 is in inl (h.above, inl (lt, h.least r there due lt))
      go r there due false is = inl (h.above, inr (at_most last r.number is))

  pub round_least : (next : Option ℕ) → NextLeft is_ready given inbox (Some last) None → NextLeft is_ready given inbox None next → NextToGive last (map (receipt_by c) inbox) next
  round_least None none h = λ r there may. let s = seen_from (receipt_by c) r inbox there in h s.0 s.1 (sym (may_is c given same s.0) ∙ (ap (λ (y : ReceiptOf ℕ). may_go y) (sym s.2) ∙ may)) tt
  round_least (Some number) none h = record {
    receipt = receipt_by c h.receipt;
    there = seen_there (receipt_by c) h.receipt inbox h.there;
    is = h.is;
    may = may_is c given same h.receipt ∙ h.due;
    least = λ r there may. let s = seen_from (receipt_by c) r inbox there in subst (λ (x : ReceiptOf ℕ). InRound last number x.number) (sym s.2) (go s.0 s.1 (sym (may_is c given same s.0) ∙ (ap (λ (y : ReceiptOf ℕ). may_go y) (sym s.2) ∙ may)));
  }
    where
      below : (r : Receipt) → Member r inbox → is_due given r ≡ true → r.number ≤ last
      below r there due = go (nat_lt last r.number) refl
        where
          go : (b : Bool) → nat_lt last r.number ≡ b → r.number ≤ last
          go true is = absurd (none r there due ((Decides-ltb last r.number).0 is))
          go false is = at_most last r.number is

      go : (r : Receipt) → Member r inbox → is_due given r ≡ true → InRound last number r.number
      go r there due = inr (subst (λ (n : ℕ). n ≤ last) h.is (below h.receipt h.there h.due), h.least r there due tt, below r there due)
