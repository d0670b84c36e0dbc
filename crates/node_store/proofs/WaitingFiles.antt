-- Which received files wait to be given.
use Rattle.std.proofs.Common.{◌≡◌, ℕ, ◌+◌, ◌-◌, ◌<◌, ◌≤◌, ◌==◌, not, ◌&&◌, List, [], ◌∷◌, map, count_by, cond, fold, Some, None, Bool, true, false, refl, sym, ◌∙◌, ap, arith}
use Rattle.std.specs.Prelude.{if◌then◌else◌}
use Rattle.std.proofs.lemmas.Bool.Decides.{Decides-eqb}
use Rattle.file_index.specs.Sets.{IsAbove, NextNumber}
use Rattle.ledger_rec.specs.Fold.{is_among}
use Rattle.ledger_rec.specs.Items.{Receipt}
use Rattle.node_model.specs.Items.{ReceiptOf}
use Rattle.node_model.specs.SendRows.{may_go}
use Rattle.node_model.proofs.Lists.{off}
use Rattle.node_store.specs.Contents.{Contents, receipt_by}
use Rattle.node_store.specs.Giving.{is_due, is_kept, number_before}
use Rattle.node_store.specs.Stored.{has_receipt}
use Rattle.node_store.proofs.Due.{may_is}

module _ (p : ℕ → Bool) (n : ℕ) where
  above_before : IsAbove (number_before n) n
  above_before = go (n == 0) refl
    where
      go : (b : Bool) → (n == 0) ≡ b → IsAbove (if b then None else Some (n - 1)) n
      go true is = tt
      go false is = less n (λ same. off (sym ((Decides-eqb n 0).1 same) ∙ is))
        where
          less : (n : ℕ) → (n ≡ 0 → ⊥) → n - 1 < n
          less n other = omega (arith, other)

  not_below : (k : ℕ) → IsAbove (number_before n) k → n ≤ k
  not_below k = go (n == 0) refl
    where
      go : (b : Bool) → (n == 0) ≡ b → IsAbove (if b then None else Some (n - 1)) k → n ≤ k
      go true is above = let zero = (Decides-eqb n 0).0 is in omega (arith, zero)
      go false is above = omega (arith, above)

  -- it is the next one behind the number before it, exactly where it is there
  pub found_next : (next : ℕ) → NextNumber p (number_before n) (Some next) → (next == n) ≡ p n
  found_next next h = go (p n) refl
    where
      go : (b : Bool) → p n ≡ b → (next == n) ≡ b
      go true is =
          let low = h.least n is above_before in
          let high = not_below next h.above in
          (Decides-eqb next n).1 (omega (arith, low, high))
      go false is = other (next == n) refl
        where
          other : (b : Bool) → (next == n) ≡ b → (next == n) ≡ false
          other true e = off (sym h.is ∙ ap p ((Decides-eqb next n).0 e) ∙ is)
          other false e = e

  pub found_none : NextNumber p (number_before n) None → false ≡ p n
  found_none h = go (p n) refl
    where
      go : (b : Bool) → p n ≡ b → false ≡ b
      go true is = absurd (h n is above_before)
      go false is = refl

-- where there is a receipt with that number
pub kept_there : (given : List ℕ) (inbox : List Receipt) (n : ℕ) → has_receipt n inbox ≡ true → is_kept given inbox n ≡ not (is_among n given)
kept_there given inbox n there = ap (λ (b : Bool). b && not (is_among n given)) there

-- as many are seen in the stock
pub same_count : (c : Contents ℕ) (given : List ℕ) → c.given ≡ (λ n. is_among n given) → (rs : List Receipt) → count_by (is_due given) rs ≡ count_by may_go (map (receipt_by c) rs)
same_count c given same rs = go 0 rs
  where
    go : (n : ℕ) (rs : List Receipt) → fold (λ (k : ℕ) (r : Receipt). k + cond (is_due given r) 1 0) n rs ≡ fold (λ (k : ℕ) (r : ReceiptOf ℕ). k + cond (may_go r) 1 0) n (map (receipt_by c) rs)
    go n [] = refl
    go n (r ∷ rs) =
        ap (λ (b : Bool). fold (λ (k : ℕ) (x : Receipt). k + cond (is_due given x) 1 0) (n + cond b 1 0) rs) (sym (may_is c given same r))
        ∙ go (n + cond (may_go (receipt_by c r)) 1 0) rs
