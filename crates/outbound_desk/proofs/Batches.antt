-- The files of an answer, as they are staged one behind another, and what queueing them needs.
use Rattle.std.proofs.Common.{lit≤, ◌≡◌, ◌≢◌, ℕ, ◌+◌, ◌≤◌, ◌<◌, ◌==◌, Bool, true, false, List, [], ◌∷◌, ◌++◌, length, Option, Some, None, refl, sym, ◌∙◌, ap, subst, arith}
use Rattle.std.specs.Prelude.{if◌then◌else◌}
use Rattle.std.proofs.lemmas.List.{append-nil}
use Rattle.ftn_addr.specs.Address.{Address}
use Rattle.ftn_addr.specs.Limits.{IsAddress, IsKey}
use Rattle.node_model.specs.Items.{EntryOf, ReceiptOf}
use Rattle.node_model.specs.Lists.{Each}
use Rattle.node_model.specs.Stocks.{NewEntry, StagedOf, staged_in}
use Rattle.node_model.specs.StoreWords.{FitsQueue, IsNewBatch, IsOpenRequest, NumbersRise, WasStaged}
use Rattle.node_model.specs.Stores.{StoreState}
use Rattle.node_model.proofs.Distinct.{apart_numbers}
use Rattle.node_model.proofs.Lists.{Each-append, Each-weaker, eqb_refl}
use Rattle.outbound_desk.specs.Answering.{IsAnswerFile, IsBatch, StagesFile, StagesOne, listed}

-- behind files with other numbers stands the last
found_last : (x : StagedOf ℕ) (xs : List (StagedOf ℕ)) → Each (λ (f : StagedOf ℕ). f.number ≢ x.number) xs → staged_in x.number (xs ++ x ∷ []) ≡ Some x
found_last x [] apart = ap (λ (b : Bool). if b then Some x else None) (eqb_refl x.number)
found_last x (y ∷ xs) apart = ap (λ (b : Bool). if b then Some y else staged_in x.number (xs ++ x ∷ [])) (apart_numbers y.number x.number apart.0) ∙ found_last x xs apart.1

-- and every other number has what it had
found_still : (x : StagedOf ℕ) (xs : List (StagedOf ℕ)) (n : ℕ) (y : StagedOf ℕ) → staged_in n xs ≡ Some y → staged_in n (xs ++ x ∷ []) ≡ Some y
found_still x [] n y found = absurd (cc)
found_still x (z ∷ xs) n y found = go (z.number == n) (found_still x xs n y) found
  where
    go : (b : Bool) → (staged_in n xs ≡ Some y → staged_in n (xs ++ x ∷ []) ≡ Some y) → (if b then Some z else staged_in n xs) ≡ Some y → (if b then Some z else staged_in n (xs ++ x ∷ [])) ≡ Some y
    go true rest is = is
    go false rest is = rest is

-- no file stands under a number above the last that was drawn
none_is : (n last : ℕ) (xs : List (StagedOf ℕ)) → last < n → Each (λ (f : StagedOf ℕ). f.number ≤ last) xs → Each (λ (f : StagedOf ℕ). f.number ≢ n) xs
none_is n last [] above low = tt
none_is n last (x ∷ xs) above low = (λ same. let le = low.0 in omega (arith, above, le, same), none_is n last xs above low.1)

-- numbers that rise to a last one
rise_more : (files : List NewEntry) (f : NewEntry) (last : ℕ) → NumbersRise files → Each (λ (g : NewEntry). g.number ≤ last) files → last < f.number → NumbersRise (files ++ f ∷ [])
rise_more [] f last rise low above = (tt, tt)
rise_more (g ∷ files) f last rise low above =
    let le = low.0 in
    (Each-append (λ (x : NewEntry). g.number < x.number) files (f ∷ []) rise.0 (omega (arith, le, above), tt), rise_more files f last rise.1 low.1 above)

pub batch_none : (dest : Address) (s : StoreState) → IsBatch dest [] s s
batch_none dest s = record { state = refl; for_dest = tt; keys = tt; staged = tt; low = tt; rise = tt; above = tt }

module _ (dest : Address) (files : List NewEntry) (old mid new : StoreState) (b : IsBatch dest files old mid) where
  pub batch_more : (f : NewEntry) → Each (λ (e : EntryOf ℕ). e.number ≤ mid.staged) mid.stock.state.queue → Each (λ (x : StagedOf ℕ). x.number ≤ mid.staged) mid.stock.staged → StagesFile dest f mid new → IsBatch dest (files ++ f ∷ []) old new
  batch_more f queued staged x =
      let is = x.staged in
      let number = x.number in
      let file : StagedOf ℕ = record { number = mid.staged + 1; content = length x.bytes } in
      let list : new.stock.staged ≡ mid.stock.staged ++ file ∷ [] = ap (λ (s : StoreState). s.stock.staged) is in
      let state : new.stock.state ≡ mid.stock.state = ap (λ (s : StoreState). s.stock.state) is in
      let last : new.staged ≡ mid.staged + 1 = ap (λ (s : StoreState). s.staged) is in
      let here : staged_in f.number (mid.stock.staged ++ file ∷ []) ≡ Some file = ap (λ (n : ℕ). staged_in n (mid.stock.staged ++ file ∷ [])) number ∙ found_last file mid.stock.staged (none_is (mid.staged + 1) mid.staged mid.stock.staged (omega arith) staged) in
      record {
        state = state ∙ b.state;
        for_dest = Each-append (IsAnswerFile dest) files (f ∷ []) b.for_dest (x.is, tt);
        keys = Each-append (λ (g : NewEntry). IsKey g.key) files (f ∷ []) b.keys (x.key, tt);
        staged = subst (λ (l : List (StagedOf ℕ)). Each (WasStaged l) (files ++ f ∷ [])) (sym list)
            (Each-append (WasStaged (mid.stock.staged ++ file ∷ [])) files (f ∷ []) (Each-weaker (WasStaged mid.stock.staged) (WasStaged (mid.stock.staged ++ file ∷ [])) (λ g w. (w.0, found_still file mid.stock.staged g.number w.0 w.1, w.2)) files b.staged) ((file, here, sym x.size), tt));
        low = Each-append (λ (g : NewEntry). g.number ≤ new.staged) files (f ∷ []) (Each-weaker (λ (g : NewEntry). g.number ≤ mid.staged) (λ (g : NewEntry). g.number ≤ new.staged) (λ g low. omega (arith, low, last)) files b.low) (omega (arith, number, last), tt);
        rise = rise_more files f mid.staged b.rise b.low (omega (arith, number));
        above = Each-append (λ (g : NewEntry). Each (λ (e : EntryOf ℕ). e.number < g.number) new.stock.state.queue) files (f ∷ [])
            (Each-weaker (λ (g : NewEntry). Each (λ (e : EntryOf ℕ). e.number < g.number) mid.stock.state.queue) (λ (g : NewEntry). Each (λ (e : EntryOf ℕ). e.number < g.number) new.stock.state.queue) (λ g low. subst (λ (q : List (EntryOf ℕ)). Each (λ (e : EntryOf ℕ). e.number < g.number) q) (sym (ap (λ s. s.queue) state)) low) files b.above)
            (subst (λ (q : List (EntryOf ℕ)). Each (λ (e : EntryOf ℕ). e.number < f.number) q) (sym (ap (λ s. s.queue) state)) (Each-weaker (λ (e : EntryOf ℕ). e.number ≤ mid.staged) (λ (e : EntryOf ℕ). e.number < f.number) (λ e low. omega (arith, low, number)) mid.stock.state.queue queued), tt);
      }

  pub batch_step : (f : Option NewEntry) → Each (λ (e : EntryOf ℕ). e.number ≤ mid.staged) mid.stock.state.queue → Each (λ (x : StagedOf ℕ). x.number ≤ mid.staged) mid.stock.staged → StagesOne dest f mid new → IsBatch dest (files ++ listed f) old new
  batch_step None queued staged same =
      subst (λ (l : List NewEntry). IsBatch dest l old new) (sym (append-nil files)) (subst (λ (s : StoreState). IsBatch dest files old s) (sym same) b)
  batch_step (Some f) queued staged x = batch_more f queued staged x

-- what queueing them needs
pub batch_new : (dest : Address) (files : List NewEntry) (old new : StoreState) (receipt : ℕ) → IsAddress dest → IsOpenRequest (Some receipt) old.stock.state.inbox → IsBatch dest files old new → IsNewBatch None (Some receipt) files new
batch_new dest files old new receipt within waits b = record {
  limits = fits files b.for_dest b.keys;
  staged = b.staged;
  rise = b.rise;
  above = b.above;
  take = tt;
  request = subst (λ (i : List (ReceiptOf ℕ)). IsOpenRequest (Some receipt) i) (sym (ap (λ s. s.inbox) b.state)) waits;
}
  where
    fits : (files : List NewEntry) → Each (IsAnswerFile dest) files → Each (λ (f : NewEntry). IsKey f.key) files → Each FitsQueue files
    fits [] for keys = tt
    fits (f ∷ files) for keys = (record { dest = subst IsAddress (sym for.0.dest_is) within; key = keys.0; source = subst (λ (s : List ℕ). length s ≤ 1024) (sym for.0.unnamed) (lit≤ tt) }, fits files for.1 keys.1)
