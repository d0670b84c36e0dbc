-- The least receipt that is looked for, as the receipts whose files are kept are walked in order.
use Rattle.std.proofs.Common.{◌≡◌, ℕ, ◌+◌, ◌-◌, ◌^◌, ◌<◌, ◌≤◌, ◌==◌, Bool, true, false, not, List, [], ◌∷◌, map, Option, Some, None, refl, sym, ◌∙◌, ap, subst, inl, inr, ⊎_elim, arith}
use Rattle.std.specs.Prelude.{IsSome, find}
use Rattle.std.proofs.lemmas.Bool.Decides.{Decides-eqb}
use Rattle.file_index.specs.Sets.{IsAbove, LeastAbove, NextNumber}
use Rattle.ledger_rec.specs.Fold.{is_among}
use Rattle.ledger_rec.specs.Items.{Receipt, receipt}
use Rattle.ledger_rec.specs.declared.items.InboxItem.{InboxItem}
use Rattle.node_model.specs.Lists.{Member}
use Rattle.node_model.proofs.Lists.{off, and_true, and_both, or_cases}
use Rattle.node_store.specs.Giving.{is_kept, is_left, NextLeft}
use Rattle.node_store.specs.Numbers.{AreDifferent}
use Rattle.node_store.specs.Stored.{has_receipt}
use Rattle.node_store.proofs.Found.{seen_from, seen_there, only_one, is_found, found_is}
use Rattle.node_store.proofs.Kept.{receipt_there}

-- The receipt with a number.

has_member : (n : ℕ) (rs : List Receipt) → has_receipt n rs ≡ true → (r : Receipt) × Member r rs × (r.number ≡ n)
has_member n [] is = off (sym is)
has_member n (x ∷ rs) is =
    ⊎_elim (λ this. (x, inl refl, (Decides-eqb x.number n).0 this)) (λ later. let h = has_member n rs later in (h.0, inr h.1, h.2)) (or_cases (x.number == n) (has_receipt n rs) is)

module _ (n : ℕ) (items : List InboxItem) (inbox : List Receipt) (same : map receipt items ≡ inbox) where
  pub item_found : has_receipt n inbox ≡ true → IsSome (find (λ (r : InboxItem). r.receipt == n) items)
  item_found is =
      let h = has_member n inbox is in
      let x = seen_from receipt h.0 items (subst (Member h.0) (sym same) h.1) in
      let f = is_found (λ (r : InboxItem). r.receipt) n x.0 items x.1 (sym (ap (λ (r : Receipt). r.number) x.2) ∙ h.2) in
      subst IsSome (sym f.1) refl

  pub item_is : (x : InboxItem) → AreDifferent (map (λ (r : Receipt). r.number) inbox) → find (λ (r : InboxItem). r.receipt == n) items ≡ Some x → (r : Receipt) → Member r inbox → r.number ≡ n → receipt x ≡ r
  item_is x numbered found r there is =
      let f = found_is (λ (r : InboxItem). r.receipt) n x items found in
      only_one (λ (r : Receipt). r.number) (receipt x) r inbox numbered (subst (Member (receipt x)) same (seen_there receipt x items f.0)) there (f.1 ∙ sym is)

-- How far a walk has come.

abbrev pub reached : Option ℕ → ℕ
reached None = 0
reached (Some n) = n + 1

pub walk_smaller : (passed : Option ℕ) (n : ℕ) → n < 2 ^ 32 → IsAbove passed n → 2 ^ 32 - reached (Some n) < 2 ^ 32 - reached passed
walk_smaller None n fits above = omega (arith, fits)
walk_smaller (Some at) n fits above = omega (arith, fits, above)

-- Those that are left above the first number are above the one that was passed, which isn't below it.
pub record HasPassed (test : Receipt → Bool) (given : List ℕ) (inbox : List Receipt) (after passed : Option ℕ) : Type 0 where
  pub left : (r : Receipt) → Member r inbox → is_left test given r ≡ true → IsAbove after r.number → IsAbove passed r.number
  pub above : (n : ℕ) → IsAbove passed n → IsAbove after n

above_more : (passed : Option ℕ) (n k : ℕ) → IsAbove passed n → n < k → IsAbove passed k
above_more None n k above lt = tt
above_more (Some at) n k above lt = omega (arith, above, lt)

module _ (test : Receipt → Bool) (given : List ℕ) (inbox : List Receipt) where
  kept_due : (r : Receipt) → Member r inbox → is_left test given r ≡ true → is_kept given inbox r.number ≡ true
  kept_due r there due = and_both (has_receipt r.number inbox) _ (receipt_there r inbox there) (and_true (test r) _ due).1

  pub kept_number : (n : ℕ) → is_kept given inbox n ≡ true → has_receipt n inbox ≡ true
  kept_number n kept = (and_true (has_receipt n inbox) _ kept).0

  module _ (after passed : Option ℕ) (h : HasPassed test given inbox after passed) where
    -- the next one isn't looked for
    pub passed_more : (n : ℕ) → LeastAbove (is_kept given inbox) passed n → ((r : Receipt) → Member r inbox → r.number ≡ n → test r ≡ false) → HasPassed test given inbox after (Some n)
    passed_more n l waits = record {
      left = λ r there due above.
          let le : n ≤ r.number = l.least r.number (kept_due r there due) (h.left r there due above) in
          below n r.number le (λ same. off (sym (and_true (test r) _ due).0 ∙ waits r there same));
      above = λ k lt. h.above k (above_more passed n k l.above lt);
    }
      where
        below : (n k : ℕ) → n ≤ k → (k ≡ n → ⊥) → n < k
        below n k le apart = omega (arith, le, apart)

    -- the next one is
    pub passed_found : (n : ℕ) → LeastAbove (is_kept given inbox) passed n → ((r : Receipt) → Member r inbox → r.number ≡ n → test r ≡ true) → NextLeft test given inbox after (Some n)
    passed_found n l ready =
        let k = and_true (has_receipt n inbox) _ l.is in
        let m = has_member n inbox k.0 in
        record {
          receipt = m.0;
          there = m.1;
          is = m.2;
          due = and_both (test m.0) _ (ready m.0 m.1 m.2) (ap (λ (i : ℕ). not (is_among i given)) m.2 ∙ k.1);
          above = h.above n l.above;
          least = λ r there due above. l.least r.number (kept_due r there due) (h.left r there due above);
        }

    -- none is left
    pub passed_end : NextNumber (is_kept given inbox) passed None → NextLeft test given inbox after None
    passed_end none r there due above = none r.number (kept_due r there due) (h.left r there due above)

    pub passed_rest : (next : Option ℕ) → NextLeft test given inbox passed next → NextLeft test given inbox after next
    passed_rest None none = λ r there due above. none r there due (h.left r there due above)
    passed_rest (Some n) f = record {
      receipt = f.receipt;
      there = f.there;
      is = f.is;
      due = f.due;
      above = h.above n f.above;
      least = λ r there due above. f.least r there due (h.left r there due above);
    }
