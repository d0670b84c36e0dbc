-- A file that was just staged may be queued alone: its number is above all that were drawn before.
use Rattle.std.proofs.Common.{◌≡◌, ℕ, ◌+◌, ◌<◌, ◌≤◌, arith, Bool, true, false, List, [], ◌∷◌, ◌++◌, length, Some, None, Result, Ok, refl, sym, ap, subst, ◌∙◌}
use Rattle.std.specs.Prelude.{◌==◌, cond, Option}
use Rattle.std.proofs.lemmas.Bool.Decides.{Decides-eqb}
use Rattle.node_model.specs.Items.{EntryOf}
use Rattle.node_model.specs.Lists.{Each}
use Rattle.node_model.specs.Stocks.{NewEntry, StagedOf, staged_in}
use Rattle.node_model.specs.StoreStates.{StoreState}
use Rattle.node_model.specs.Stores.{with_staged, Stage, StoreMade, StoreDoes, Staged_as, staged_answer}
use Rattle.node_model.specs.StoreWords.{FitsQueue, IsNewBatch}
use Rattle.node_model.specs.declared.store.StoreFault.{StoreFault}
use Rattle.node_model.proofs.Distinct.{apart_numbers}

all_below : (n : ℕ) (es : List (EntryOf ℕ)) → Each (λ (e : EntryOf ℕ). e.number ≤ n) es → Each (λ (e : EntryOf ℕ). e.number < n + 1) es
all_below n [] all = tt
all_below n (e ∷ es) all = (omega (arith, all.0), all_below n es all.1)

abbrev one_staged : ℕ → ℕ → StagedOf ℕ
one_staged n k = record { number = n; content = k }

picks : (b : Bool) (x : StagedOf ℕ) (o : Option (StagedOf ℕ)) → b ≡ true → cond b (Some x) o ≡ Some x
picks b x o e = ap (λ (c : Bool). cond c (Some x) o) e

passes : (b : Bool) (x : StagedOf ℕ) (o : Option (StagedOf ℕ)) → b ≡ false → cond b (Some x) o ≡ o
passes b x o e = ap (λ (c : Bool). cond c (Some x) o) e

-- behind files of lesser numbers it is found
found_last : (n k : ℕ) (staged : List (StagedOf ℕ)) → Each (λ (s : StagedOf ℕ). s.number ≤ n) staged → staged_in (n + 1) (staged ++ one_staged (n + 1) k ∷ []) ≡ Some (one_staged (n + 1) k)
found_last n k [] less = picks (n + 1 == n + 1) (one_staged (n + 1) k) None ((Decides-eqb (n + 1) (n + 1)).1 refl)
found_last n k (s ∷ staged) less =
    passes (s.number == n + 1) s _ (apart_numbers s.number (n + 1) (λ same. omega (arith, less.0, same))) ∙ found_last n k staged less.1

pub drawn_batch : (s t : StoreState) (bytes : List ℕ) (result : Result ℕ StoreFault) (number : ℕ) (f : NewEntry) → Each (λ (e : EntryOf ℕ). e.number ≤ s.staged) s.stock.state.queue → Each (λ (x : StagedOf ℕ). x.number ≤ s.staged) s.stock.staged
    → StoreMade s (Stage bytes) (staged_answer result) t → result ≡ Ok number → f.number ≡ number → f.key.size ≡ length bytes → FitsQueue f → IsNewBatch None None (f ∷ []) t
drawn_batch s t bytes result number f queued staged made is at size fits =
    let does : StoreDoes s (Stage bytes) (Staged_as number) t = subst (λ (r : Result ℕ StoreFault). StoreMade s (Stage bytes) (staged_answer r) t) is made in
    let drawn : f.number ≡ s.staged + 1 = at ∙ does.0 in
    subst (IsNewBatch None None (f ∷ [])) (sym does.2) (record {
      limits = (fits, tt);
      staged = (subst (λ (n : ℕ). (x : StagedOf ℕ) × (staged_in n (with_staged bytes s).stock.staged ≡ Some x) × (x.content ≡ f.key.size)) (sym drawn) (one_staged (s.staged + 1) (length bytes), found_last s.staged (length bytes) s.stock.staged staged, sym size), tt);
      rise = (tt, tt);
      above = (subst (λ (n : ℕ). Each (λ (e : EntryOf ℕ). e.number < n) s.stock.state.queue) (sym drawn) (all_below s.staged s.stock.state.queue queued), tt);
      take = tt;
      request = tt;
    })
