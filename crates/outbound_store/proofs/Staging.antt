-- What is staged under a number, and which numbers are behind a queue.
use Rattle.std.proofs.Common.{◌≡◌, ◌≢◌, ℕ, ◌<◌, ◌≤◌, ◌==◌, Bool, true, false, nat_lt, List, [], ◌∷◌, ◌++◌, map, length, Option, Some, None, option_map, refl, sym, ◌∙◌, ap, arith}
use Rattle.std.specs.Prelude.{if◌then◌else◌}
use Rattle.std.proofs.lemmas.Bool.Decides.{nat_tests}
use Rattle.node_model.specs.Items.{EntryOf}
use Rattle.node_model.specs.Lists.{Each}
use Rattle.node_model.specs.Stocks.{Sizes, StagedOf, file_staged, staged_in, staged_map}
use Rattle.node_model.specs.StoreStates.{StoreState}
use Rattle.node_model.proofs.Distinct.{apart_numbers}
use Rattle.node_model.proofs.Lists.{and_both, and_true, eqb_refl}
use Rattle.outbound_store.specs.Seen.{is_behind, size_at, staged_at}

-- no number of a queued or a staged file is above the last that was drawn
pub record AreDrawn (s : StoreState) : Type 0 where
  pub queued : Each (λ (e : EntryOf ℕ). e.number ≤ s.staged) s.stock.state.queue
  pub staged : Each (λ (f : StagedOf ℕ). f.number ≤ s.staged) s.stock.staged

module _ {B : Type 0} where
  file : ℕ → B → StagedOf B
  file number content = record { number = number; content = content }

  passed : (n : ℕ) (x : StagedOf B) (rest : List (StagedOf B)) → (x.number == n) ≡ false → staged_in n (x ∷ rest) ≡ staged_in n rest
  passed n x rest other = ap (λ (b : Bool). if b then Some x else staged_in n rest) other

  -- behind files with other numbers stands the last
  pub found_last : (n : ℕ) (content : B) (xs : List (StagedOf B)) → Each (λ (f : StagedOf B). f.number ≢ n) xs → staged_at (xs ++ record { number = n; content = content } ∷ []) n ≡ Some content
  found_last n content [] apart = ap (λ (b : Bool). option_map (λ (x : StagedOf B). x.content) (if b then Some (record { number = n; content = content }) else None)) (eqb_refl n)
  found_last n content (x ∷ xs) apart =
      ap (option_map (λ (y : StagedOf B). y.content)) (passed n x (xs ++ record { number = n; content = content } ∷ []) (apart_numbers x.number n apart.0)) ∙ found_last n content xs apart.1

  -- and every other number has what it had
  pub found_others : (n : ℕ) (content : B) (xs : List (StagedOf B)) (m : ℕ) → m ≢ n → staged_at (xs ++ record { number = n; content = content } ∷ []) m ≡ staged_at xs m
  found_others n content [] m apart = ap (λ (b : Bool). option_map (λ (x : StagedOf B). x.content) (if b then Some (record { number = n; content = content }) else None)) (apart_numbers n m (λ same. apart (sym same)))
  found_others n content (x ∷ xs) m apart = go (x.number == m) (found_others n content xs m apart)
    where
      go : (b : Bool) → staged_at (xs ++ record { number = n; content = content } ∷ []) m ≡ staged_at xs m
          → option_map (λ (y : StagedOf B). y.content) (if b then Some x else staged_in m (xs ++ record { number = n; content = content } ∷ [])) ≡ option_map (λ (y : StagedOf B). y.content) (if b then Some x else staged_in m xs)
      go true rest = refl
      go false rest = rest

  -- a number above all of a queue
  pub behind : (n last : ℕ) (queue : List (EntryOf B)) → last < n → Each (λ (e : EntryOf B). e.number ≤ last) queue → is_behind queue n ≡ true
  behind n last [] above low = refl
  behind n last (e ∷ queue) above low =
      let le = low.0 in and_both (nat_lt e.number n) (is_behind queue n) (let lt : e.number < n = omega (arith, above, le) in grind (arith, nat_tests)) (behind n last queue above low.1)

  pub above_all : (n : ℕ) (queue : List (EntryOf B)) → is_behind queue n ≡ true → Each (λ (e : EntryOf B). e.number < n) queue
  above_all n [] is = tt
  above_all n (e ∷ queue) is =
      let h = and_true (nat_lt e.number n) (is_behind queue n) is in
      let t = h.0 in
      (grind (arith, nat_tests), above_all n queue h.1)

  pub none_is : (n last : ℕ) (xs : List (StagedOf B)) → last < n → Each (λ (f : StagedOf B). f.number ≤ last) xs → Each (λ (f : StagedOf B). f.number ≢ n) xs
  none_is n last [] above low = tt
  none_is n last (x ∷ xs) above low = (λ same. let le = low.0 in omega (arith, above, le, same), none_is n last xs above low.1)

-- a size that may be queued
pub size_some : (stock : Sizes) (n size : ℕ) → size_at stock n ≡ Some size → (is_behind stock.state.queue n ≡ true) × (staged_at stock.staged n ≡ Some size)
size_some stock n size is = go (is_behind stock.state.queue n) refl is
  where
    go : (b : Bool) → is_behind stock.state.queue n ≡ b → (if b then staged_at stock.staged n else None) ≡ Some size → (is_behind stock.state.queue n ≡ true) × (staged_at stock.staged n ≡ Some size)
    go true e h = (e, h)
    go false e h = absurd (cc)

-- one file more
pub size_here : (stock : Sizes) (last n size : ℕ) → last < n → Each (λ (e : EntryOf ℕ). e.number ≤ last) stock.state.queue → Each (λ (f : StagedOf ℕ). f.number ≤ last) stock.staged → size_at (file_staged n size stock) n ≡ Some size
size_here stock last n size above queued staged =
    ap (λ (b : Bool). if b then staged_at (file_staged n size stock).staged n else None) (behind n last stock.state.queue above queued)
    ∙ found_last n size stock.staged (none_is n last stock.staged above staged)

pub size_others : (stock : Sizes) (n size m : ℕ) → m ≢ n → size_at (file_staged n size stock) m ≡ size_at stock m
size_others stock n size m apart =
    ap (λ (o : Option ℕ). if is_behind stock.state.queue m then o else None) (found_others n size stock.staged m apart)

-- files seen with their bytes have the numbers that they have without
pub with_bytes : (P : ℕ → Type 0) (xs : List (StagedOf (List ℕ))) → Each (λ (f : StagedOf ℕ). P f.number) (map (staged_map length) xs) → Each (λ (f : StagedOf (List ℕ)). P f.number) xs
with_bytes P [] all = tt
with_bytes P (x ∷ xs) all = (all.0, with_bytes P xs all.1)
